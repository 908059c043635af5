-- Packages whose steps are at distinct paths, and what entries make one. Assumes nothing.
use Rattle.std.specs.Prelude.{◌≡◌, ℕ, Bool, true, false, not, ◌&&◌, ◌||◌, List, [], ◌∷◌, ◌++◌, ◌==◌}
use Rattle.fs.specs.Tree.{Path, same, has}
use Rattle.fs.specs.Manifest.{Entry, dir_entry, file_entry, Resource, Put, Directory, Absent, Package, Service, pkg, marker}

abbrev pub entry_paths : List Entry → List Path
entry_paths [] = []
entry_paths (dir_entry p ∷ l) = p ∷ entry_paths l
entry_paths (file_entry p c ∷ l) = p ∷ entry_paths l

abbrev pub distinct : List Path → Bool
distinct [] = true
distinct (p ∷ l) = not (has p l) && distinct l

-- no two steps of a package have the same path, those of `/pkg` and of its marker included
abbrev pub proper : Resource → Bool
proper (Put p c) = true
proper (Directory p) = true
proper (Absent p) = true
proper (Package name l) = distinct (entry_paths l ++ (pkg ∷ (marker name ∷ [])))
proper (Service name) = true

-- does p begin with q
abbrev pub starts : Path → Path → Bool
starts [] p = true
starts (a ∷ q) [] = false
starts (a ∷ q) (b ∷ p) = a == b && starts q p

-- is a path `/pkg`, or below it
abbrev pub under_pkg : Path → Bool
under_pkg p = same p pkg || starts (marker []) p

abbrev pub any_under_pkg : List Path → Bool
any_under_pkg [] = false
any_under_pkg (p ∷ l) = under_pkg p || any_under_pkg l

-- a package is proper if its entries' paths are distinct, and none is `/pkg` or below it
abbrev pub ProperlyPacked : Type 0
ProperlyPacked = (name : List ℕ) (l : List Entry) → distinct (entry_paths l) ≡ true → any_under_pkg (entry_paths l) ≡ false → proper (Package name l) ≡ true
