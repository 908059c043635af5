-- The numbers of the refusals of an index, and their places. Assumes nothing.
use Rattle.std.specs.Prelude.{ℕ, Ok, Err, Result}
use Rattle.faults.specs.Faults.{fault_at}
use Rattle.faults.specs.declared.located.Located.{Located}
use Rattle.values.specs.declared.fault.ValueFault.TheVariants.{Malformed, TooLong}
use Rattle.records.specs.declared.fault.Ground.{Ground}
use Rattle.records.specs.declared.fault.Ground.TheVariants.{IndexTooLong, PastEnd, UnknownKind, NoPackage, ShortBody, Value, Reserved, TooMany, Repeated}

abbrev pub ground_number : Ground → ℕ
ground_number IndexTooLong = 3
ground_number PastEnd = 4
ground_number UnknownKind = 5
ground_number NoPackage = 6
ground_number ShortBody = 7
ground_number (Value Malformed) = 7
ground_number Reserved = 7
ground_number (Value TooLong) = 8
ground_number TooMany = 9
ground_number Repeated = 10

-- a ground, at the place of the record that is refused
abbrev pub IndexFault : Type 0
IndexFault = Located Ground ℕ

-- that of its ground
abbrev pub fault_number : IndexFault → ℕ
fault_number f = ground_number f.ground

-- an answer whose refusal has the place p
abbrev pub located : {X : Type 0} → ℕ → Result X Ground → Result X IndexFault
located p (Ok x) = Ok x
located p (Err g) = Err (fault_at p g)
