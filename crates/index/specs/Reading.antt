-- What bytes are read as: the packages of an index, or the first fault. Assumes nothing.
use Rattle.std.specs.Prelude.{ℕ, Bool, cond, not, List, [], ◌∷◌, ◌++◌, length, Ok, Err, Result, ◌==◌, nat_le, nat_lt}
use Rattle.fs.specs.Tree.{has}
use Rattle.fs.specs.Manifest.{Entry}
use Rattle.fs.specs.Package.{entry_paths}
use Rattle.records.specs.Entries.{entry_path}
use Rattle.faults.specs.Faults.{fault_at}
use Rattle.records.specs.Faults.{located, IndexFault}
use Rattle.records.specs.Items.{after, Meaning, new_package, new_entry, meaning}
use Rattle.records.specs.Rows.{Row, ended, broken, next, row_from}
use Rattle.records.specs.declared.fault.Ground.{Ground}
use Rattle.records.specs.declared.fault.Ground.TheVariants.{IndexTooLong, PastEnd, TooMany, Repeated}
use Rattle.index.specs.Packs.{Pack, names}

-- may there be one more behind `len` others, of which there are `most` at most
abbrev pub admission : (most len : ℕ) (repeated : Bool) → Result Unit Ground
admission most len repeated = cond (nat_le most len) (Err TooMany) (cond repeated (Err Repeated) (Ok tt))

-- may x come behind those that came before
abbrev pub admit : ℕ → List ℕ → List (List ℕ) → Result Unit Ground
admit most x before = admission most (length before) (has x before)

-- a package with one more entry
abbrev pub with_entry : Pack → Entry → Pack
with_entry p e = (p.0, p.1 ++ e ∷ [])

abbrev pub extended : Pack → Entry → Result Pack Ground
extended p e = after (admit 16 (entry_path e) (entry_paths p.1)) (λ _. Ok (with_entry p e))

abbrev pub last_pack : List Pack → Pack
last_pack [] = ([], [])
last_pack (p ∷ []) = p
last_pack (p ∷ q ∷ ps) = last_pack (q ∷ ps)

-- the packages with another in place of the last
abbrev pub with_last : List Pack → Pack → List Pack
with_last [] x = []
with_last (p ∷ []) x = x ∷ []
with_last (p ∷ q ∷ ps) x = p ∷ with_last (q ∷ ps) x

-- one more package behind the others, or one more entry of the last
abbrev pub grown : List Pack → Meaning → Result (List Pack) Ground
grown ps (new_package n) = after (admit 8 n (names ps)) (λ _. Ok (ps ++ (n, []) ∷ []))
grown ps (new_entry e) = after (extended (last_pack ps) e) (λ q. Ok (with_last ps q))

-- the packages behind a record of this kind and body
abbrev pub taken_in : List Pack → ℕ → List ℕ → Result (List Pack) Ground
taken_in ps kind body = after (meaning (not (length ps == 0)) kind body) (λ m. grown ps m)

-- the packages behind a row of records
abbrev pub read_row : List Pack → Row → Result (List Pack) IndexFault
read_row ps ended = Ok ps
read_row ps (broken p) = Err (fault_at p PastEnd)
read_row ps (next p kind body rest) = after (located p (taken_in ps kind body)) (λ qs. read_row qs rest)

abbrev pub read_bytes : List ℕ → Result (List Pack) IndexFault
read_bytes bytes = cond (nat_lt 16384 (length bytes)) (Err (fault_at 0 IndexTooLong)) (read_row [] (row_from bytes 0))
