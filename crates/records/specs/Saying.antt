-- What a record may say, and how it is written. Assumes nothing.
use Rattle.std.specs.Prelude.{◌≡◌, ℕ, Bool, true, false, ◌↔◌, List, ◌∷◌, ◌++◌, length, Ok}
use Rattle.values.specs.Rules.{is_name, is_path, is_content}
use Rattle.fs.specs.Manifest.{Entry, dir_entry, file_entry}
use Rattle.fs.specs.Package.{under_pkg}
use Rattle.records.specs.Items.{Meaning, new_package, new_entry, meaning}

-- the kind and the body of an entry's record
abbrev pub entry_record : Entry → ℕ × List ℕ
entry_record (dir_entry p) = (2, p)
entry_record (file_entry p c) = (3, length p ∷ (p ++ c))

abbrev pub record_of : Meaning → ℕ × List ℕ
record_of (new_package n) = (1, n)
record_of (new_entry e) = entry_record e

-- an entry by the rules: a path that is neither `/pkg` nor below it, and a content
abbrev pub Ruled : Entry → Type 0
Ruled (dir_entry p) = (is_path p ≡ true) × (under_pkg p ≡ false)
Ruled (file_entry p c) = (is_path p ≡ true) × (under_pkg p ≡ false) × (is_content c ≡ true)

-- a package has a name by the rule, and an entry has a package before it
abbrev pub Allowed : Bool → Meaning → Type 0
Allowed begun (new_package n) = is_name n ≡ true
Allowed begun (new_entry e) = (begun ≡ true) × Ruled e

-- a record says just what it is written for, and only what is allowed
abbrev pub SaidExactly : Type 0
SaidExactly = (begun : Bool) (kind : ℕ) (body : List ℕ) (m : Meaning) → (meaning begun kind body ≡ Ok m) ↔ (((kind, body) ≡ record_of m) × Allowed begun m)
