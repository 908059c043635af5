-- What an index has to be, and that just the bytes that spell one are read. Assumes nothing.
use Rattle.std.specs.Prelude.{◌≡◌, ℕ, ◌≤◌, true, ◌↔◌, List, [], ◌∷◌, ◌++◌, map, length, Ok}
use Rattle.std.specs.List.{AllByRecursion}
use Rattle.values.specs.Rules.{is_name}
use Rattle.fs.specs.Manifest as model
use Rattle.fs.specs.Package.{entry_paths, distinct, proper}
use Rattle.records.specs.Saying.{entry_record, Ruled}
use Rattle.records.specs.Spelling.{Spells}
use Rattle.index.specs.declared.index.Index.{Index}
use Rattle.index.specs.declared.packages.Package.{Package}
use Rattle.index.specs.Indexes.{index_of}
use Rattle.index.specs.Packages.{pack_of}
use Rattle.index.specs.Packs.{Pack, names}
use Rattle.index.specs.Reading.{read_bytes}

-- a package's record, and those of its entries behind it
abbrev pub pack_records : Pack → List (ℕ × List ℕ)
pack_records p = (1, p.0) ∷ map entry_record p.1

abbrev pub index_records : List Pack → List (ℕ × List ℕ)
index_records [] = []
index_records (p ∷ ps) = pack_records p ++ index_records ps

pub record LegalPack (p : Pack) : Type 0 where
  pub named : is_name p.0 ≡ true
  pub few : length p.1 ≤ 16
  pub apart : distinct (entry_paths p.1) ≡ true
  pub ruled : AllByRecursion Ruled p.1

-- what every index keeps
pub record Legal (ps : List Pack) : Type 0 where
  pub few : length ps ≤ 8
  pub apart : distinct (names ps) ≡ true
  pub each : AllByRecursion LegalPack ps

-- these bytes are an index of these packages: a row of records that spells them, not too long, and all that an index has to be
pub record Written (bytes : List ℕ) (ps : List Pack) : Type 0 where
  pub short : length bytes ≤ 16384
  pub spells : Spells (index_records ps) bytes
  pub legal : Legal ps

-- bytes are read as these packages exactly where they are an index of them
abbrev pub ReadExactly : Type 0
ReadExactly = (bytes : List ℕ) (ps : List Pack) → (read_bytes bytes ≡ Ok ps) ↔ Written bytes ps

-- no index can be held that is not all that it has to be
abbrev pub HeldLegally : Type 0
HeldLegally = (i : Index) → Legal (index_of i)

-- no package can be held two of whose steps have the same path
abbrev pub ProperlyHeld : Type 0
ProperlyHeld = (p : Package) → proper (model.Package (pack_of p).0 (pack_of p).1) ≡ true
