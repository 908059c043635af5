-- The definition of reading, run on small indexes. Assumes nothing.
use Rattle.std.proofs.Common.{◌≡◌, ℕ, List, [], ◌∷◌, ◌++◌, Ok, Err, codes, refl}
use Rattle.fs.specs.Manifest.{dir_entry, file_entry}
use Rattle.faults.specs.Faults.{fault_at}
use Rattle.records.specs.Rows.{row}
use Rattle.records.specs.declared.fault.Ground.TheVariants.{PastEnd, NoPackage, Reserved, Repeated}
use Rattle.index.specs.Reading.{read_bytes}

abbrev fx : List ℕ
fx = (2 ∷ 0 ∷ 1 ∷ 0 ∷ []) ++ codes "fx"

abbrev opt : List ℕ
opt = (4 ∷ 0 ∷ 2 ∷ 0 ∷ []) ++ codes "/opt"

abbrev file : List ℕ
file = (10 ∷ 0 ∷ 3 ∷ 0 ∷ 7 ∷ []) ++ codes "/opt/fxhi"

taken : read_bytes (fx ++ (opt ++ file)) ≡ Ok ((codes "fx", dir_entry (codes "/opt") ∷ file_entry (codes "/opt/fx") (codes "hi") ∷ []) ∷ [])
unfolding row
taken = refl

nothing : read_bytes [] ≡ Ok []
unfolding row
nothing = refl

cut : read_bytes (fx ++ (2 ∷ 0 ∷ 1 ∷ [])) ≡ Err (fault_at 6 PastEnd)
unfolding row
cut = refl

orphan : read_bytes (opt ++ fx) ≡ Err (fault_at 0 NoPackage)
unfolding row
orphan = refl

reserved : read_bytes (fx ++ ((4 ∷ 0 ∷ 2 ∷ 0 ∷ []) ++ codes "/pkg")) ≡ Err (fault_at 6 Reserved)
unfolding row
reserved = refl

repeated : read_bytes (fx ++ (opt ++ (file ++ opt))) ≡ Err (fault_at 28 Repeated)
unfolding row
repeated = refl
