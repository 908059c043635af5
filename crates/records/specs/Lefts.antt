-- The row of records that a reader has before it, and what it gives of that. Assumes nothing.
use Rattle.std.specs.Prelude.{◌≡◌, Some, None, Ok, Err, Option, Result}
use Rattle.records.specs.declared.fault.Ground.TheVariants.{PastEnd}
use Rattle.records.specs.declared.iter.Records.{Records}
use Rattle.records.specs.declared.row.Record.{Record}
use Rattle.faults.specs.Faults.{fault_at}
use Rattle.records.specs.Faults.{IndexFault}
use Rattle.records.specs.Rows.{Row, ended, broken, next, row_from}

abbrev pub row_left : Records → Row
row_left s = row_from s.bytes.now s.place

-- the first record of the row, past which reading goes on in the same bytes, where the others are left; or the refusal of one that passes the end, and none is left
abbrev pub Gives : Records → Option (Result Record IndexFault) → Records → Type 0
Gives s None t = (row_left s ≡ ended) × (row_left t ≡ ended)
Gives s (Some (Ok r)) t = (row_left s ≡ next r.place r.kind r.body.now (row_left t)) × (t.bytes.now ≡ s.bytes.now) × (t.place ≡ r.next)
Gives s (Some (Err f)) t = (row_left s ≡ broken f.at) × (f ≡ fault_at f.at PastEnd) × (row_left t ≡ ended)
