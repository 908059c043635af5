-- What the reading of an index answers. Assumes nothing.
use Rattle.std.specs.Prelude.{◌≡◌, ℕ, ◌≤◌, Bool, true, false, List, [], length, is_ok, Ok, Err, Result}
use Rattle.records.specs.Rows.{Row, ended, broken, next, row_from}
use Rattle.faults.specs.declared.error.ReadError.{ReadError}
use Rattle.faults.specs.declared.error.ReadError.TheVariants.{Fault, Memory}
use Rattle.records.specs.Faults.{IndexFault}
use Rattle.index.specs.declared.index.Index.{Index}
use Rattle.index.specs.Indexes.{index_of}
use Rattle.index.specs.Reading.{taken_in, read_bytes}

-- is the first record of a row taken, so that there is something to hold
abbrev pub begins_well : Row → Bool
begins_well ended = false
begins_well (broken p) = false
begins_well (next p kind body rest) = is_ok (taken_in [] kind body)

-- the packages, or the first fault; memory can only be wanting where the bytes are not too many and the first record is taken
abbrev pub Answers : List ℕ → Result Index (ReadError IndexFault) → Type 0
Answers bytes (Ok i) = read_bytes bytes ≡ Ok (index_of i)
Answers bytes (Err (Fault f)) = read_bytes bytes ≡ Err f
Answers bytes (Err Memory) = (length bytes ≤ 16384) × (begins_well (row_from bytes 0) ≡ true)
