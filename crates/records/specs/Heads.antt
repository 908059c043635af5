-- What is read of a row at a place. Assumes nothing.
use Rattle.std.specs.Prelude.{◌≡◌, ℕ, ◌<◌, ◌≤◌, List, length, Some, None, Ok, Err, Option, Result}
use Rattle.records.specs.declared.fault.Ground.TheVariants.{PastEnd}
use Rattle.records.specs.declared.row.Record.{Record}
use Rattle.faults.specs.Faults.{fault_at}
use Rattle.records.specs.Faults.{IndexFault}
use Rattle.records.specs.Rows.{ended, broken, next, row_from}

-- the row at p begins with this record, which lies within the bytes, and goes on past it
pub record Head (bytes : List ℕ) (p : ℕ) (r : Record) : Type 0 where
  pub place : r.place ≡ p
  pub row : row_from bytes p ≡ next p r.kind r.body.now (row_from bytes r.next)
  pub forward : p < r.next
  pub within : r.next ≤ length bytes

abbrev pub Reads : List ℕ → ℕ → Result (Option Record) IndexFault → Type 0
Reads bytes p (Ok None) = row_from bytes p ≡ ended
Reads bytes p (Ok (Some r)) = Head bytes p r
Reads bytes p (Err f) = (row_from bytes p ≡ broken p) × (f ≡ fault_at p PastEnd)
