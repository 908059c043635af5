-- The words of the kinds. Assumes nothing.
use Rattle.std.specs.Prelude.{ℕ, cond, List, Some, None, codes, Option}
use Rattle.fs.specs.Tree.{same}
use Rattle.syntax.specs.declared.kind.Kind.{Kind}
use Rattle.syntax.specs.declared.kind.Kind.TheVariants.{File, Package, Service}

-- the word of a declaration
abbrev pub kind_word : Kind → List ℕ
kind_word File = codes "file"
kind_word Package = codes "package"
kind_word Service = codes "service"

-- the word of a reference
abbrev pub ref_word : Kind → List ℕ
ref_word File = codes "File"
ref_word Package = codes "Package"
ref_word Service = codes "Service"

-- the word of a kind, of those of the three
abbrev pub spelling : List ℕ → List ℕ → List ℕ → Kind → List ℕ
spelling f p s File = f
spelling f p s Package = p
spelling f p s Service = s

-- the kind of a word, where `spelled` spells kinds
unfoldable pub kind_by : (Kind → List ℕ) → List ℕ → Option Kind
kind_by spelled w =
    cond (same w (spelled File)) (Some File)
    (cond (same w (spelled Package)) (Some Package)
    (cond (same w (spelled Service)) (Some Service) None))

abbrev pub declared_kind : List ℕ → Option Kind
declared_kind w = kind_by kind_word w

abbrev pub referred_kind : List ℕ → Option Kind
referred_kind w = kind_by ref_word w
