-- The number of an error of reading, and refusals at their places. Assumes nothing.
use Rattle.std.specs.Prelude.{ℕ, Some, None, Option}
use Rattle.faults.specs.declared.error.ReadError.{ReadError}
use Rattle.faults.specs.declared.error.ReadError.TheVariants.{Fault, Memory}
use Rattle.faults.specs.declared.located.Located.{Located}

-- that of the fault; want of memory has none
abbrev pub error_number : {F : Type 0} → (F → ℕ) → ReadError F → Option ℕ
error_number number_of (Fault f) = Some (number_of f)
error_number number_of Memory = None

-- a refusal of what is at a place
abbrev pub fault_at : {G P : Type 0} → P → (ground : G) → Located G P
fault_at p g = record { ground = g; at = p }
