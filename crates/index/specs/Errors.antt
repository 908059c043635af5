-- The numbers of an index's errors, and what a call that adds something answers. Assumes nothing.
use Rattle.std.specs.Prelude.{◌≡◌, ℕ, true, is_ok, Ok, Err, Option, Result}
use Rattle.faults.specs.Faults.{error_number, fault_at}
use Rattle.faults.specs.declared.error.ReadError.{ReadError}
use Rattle.faults.specs.declared.error.ReadError.TheVariants.{Fault, Memory}
use Rattle.records.specs.Faults.{fault_number, IndexFault}
use Rattle.records.specs.declared.fault.Ground.{Ground}

-- that of the fault; want of memory has no number
abbrev pub index_error_number : ReadError IndexFault → Option ℕ
index_error_number e = error_number fault_number e

-- the error of the record at the place p
abbrev pub error_at : ℕ → ReadError Ground → ReadError IndexFault
error_at p (Fault g) = Fault (fault_at p g)
error_at p Memory = Memory

-- x became y by an addition that answers a; a refusal leaves x, and memory can only be wanting where there is none
abbrev pub Added : {X : Type 0} → X → Result X Ground → Result Unit (ReadError Ground) → X → Type 0
Added x a (Ok u) y = a ≡ Ok y
Added x a (Err (Fault g)) y = (a ≡ Err g) × (y ≡ x)
Added x a (Err Memory) y = (is_ok a ≡ true) × (y ≡ x)
