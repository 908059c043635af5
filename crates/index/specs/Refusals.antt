-- Why bytes are refused: the grounds of a record by rising number, and that reading stops at the first record with a ground that stands. Assumes nothing.
use Rattle.std.specs.Prelude.{◌≡◌, ℕ, ◌<◌, ◌≤◌, Bool, true, false, cond, not, ◌||◌, ◌⊎◌, List, [], ◌∷◌, ◌++◌, length, take, drop, Ok, Err, Result, ◌==◌, nat_le, nat_lt}
use Rattle.std.proofs.Math.Option.{Option, none, some}
use Rattle.values.specs.Rules.{is_name, is_path, is_content}
use Rattle.fs.specs.Change.{first_ground}
use Rattle.fs.specs.Package.{entry_paths, under_pkg}
use Rattle.fs.specs.Tree.{Path, has}
use Rattle.faults.specs.Faults.{fault_at}
use Rattle.records.specs.Faults.{ground_number, IndexFault}
use Rattle.records.specs.Spelling.{Begins, Cut}
use Rattle.records.specs.declared.fault.Ground.{Ground}
use Rattle.records.specs.declared.fault.Ground.TheVariants.{IndexTooLong}
use Rattle.index.specs.Law.{Written}
use Rattle.index.specs.Packs.{Pack, names}
use Rattle.index.specs.Reading.{last_pack, taken_in, read_bytes}

-- a file's body: does it end before its path does, and else its path and its content
abbrev pub too_short : List ℕ → Bool
too_short [] = true
too_short (n ∷ b) = nat_lt (length b) n

abbrev pub file_path : List ℕ → Path
file_path [] = []
file_path (n ∷ b) = take n b

abbrev pub file_content : List ℕ → List ℕ
file_content [] = []
file_content (n ∷ b) = drop n b

abbrev pub bad_path : Path → Bool
bad_path p = not (is_path p) || under_pkg p

-- the paths of the last package
abbrev pub last_paths : List Pack → List Path
last_paths ps = entry_paths (last_pack ps).1

-- of a package, of a directory, of a file, of any other kind
abbrev pub by_kind : ℕ → Bool → Bool → Bool → Bool → Bool
by_kind kind pack dir file other = cond (kind == 1) pack (cond (kind == 2) dir (cond (kind == 3) file other))

-- the grounds on which a whole record behind these packages is refused, by rising number, and whether each stands
abbrev pub grounds : List Pack → ℕ → List ℕ → List (ℕ × Bool)
grounds ps kind b =
    (5, by_kind kind false false false true)
    ∷ (6, by_kind kind false (length ps == 0) (length ps == 0) false)
    ∷ (7, by_kind kind (not (is_name b)) (bad_path b) (too_short b || bad_path (file_path b)) false)
    ∷ (8, by_kind kind false false (not (is_content (file_content b))) false)
    ∷ (9, by_kind kind (nat_le 8 (length (names ps))) (nat_le 16 (length (last_paths ps))) (nat_le 16 (length (last_paths ps))) false)
    ∷ (10, by_kind kind (has b (names ps)) (has b (last_paths ps)) (has (file_path b) (last_paths ps)) false)
    ∷ []

-- the number of an answer's refusal
abbrev pub refusal : {X : Type 0} → Result X Ground → Option ℕ
refusal (Ok x) = none
refusal (Err g) = some (ground_number g)

-- a whole record is refused by the first ground that stands, and taken where none does
abbrev pub RefusedByFirstGround : Type 0
RefusedByFirstGround = (ps : List Pack) (kind : ℕ) (body : List ℕ) → refusal (taken_in ps kind body) ≡ first_ground (grounds ps kind body)

-- the first record of these bytes, behind these packages, is refused by this number: it passes the end, or it is whole, and that is its first ground
abbrev pub Faulty : List Pack → List ℕ → ℕ → Type 0
Faulty ps bytes n = (Cut bytes × (n ≡ 4)) ⊎ ((kind : ℕ) × (body : List ℕ) × (rest : List ℕ) × Begins kind body bytes rest × (first_ground (grounds ps kind body) ≡ some n))

-- bytes, not too many, are refused at a record: those before its place are an index of their own, and the record is refused behind the packages of that
pub record Stopped (bytes : List ℕ) (f : IndexFault) : Type 0 where
  pub short : length bytes ≤ 16384
  pub front : List ℕ
  pub rest : List ℕ
  pub packs : List Pack
  pub parts : bytes ≡ front ++ rest
  pub place : f.at ≡ length front
  pub before : Written front packs
  pub faulty : Faulty packs rest (ground_number f.ground)

-- bytes are refused as too many, or at the first record that is at fault
abbrev pub RefusedAtFirstFault : Type 0
RefusedAtFirstFault = (bytes : List ℕ) (f : IndexFault) → read_bytes bytes ≡ Err f → ((16384 < length bytes) × (f ≡ fault_at 0 IndexTooLong)) ⊎ Stopped bytes f
