-- What an index means: packages in order, each a name with its entries. Assumes nothing.
use Rattle.std.specs.Prelude.{ℕ, List, map}
use Rattle.fs.specs.Manifest.{Entry}

abbrev pub Pack : Type 0
Pack = List ℕ × List Entry

abbrev pub names : List Pack → List (List ℕ)
names ps = map (λ p. p.0) ps
