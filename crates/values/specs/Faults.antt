-- The numbers of the refusals of bytes that are no value. Assumes nothing.
use Rattle.std.specs.Prelude.{ℕ}
use Rattle.values.specs.declared.fault.ValueFault.{ValueFault}
use Rattle.values.specs.declared.fault.ValueFault.TheVariants.{Malformed, TooLong}

abbrev pub value_fault_number : ValueFault → ℕ
value_fault_number Malformed = 1
value_fault_number TooLong = 2
