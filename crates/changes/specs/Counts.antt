-- Nodes counted by a test of their paths, and how many of them changes make and remove. Assumes nothing.
use Rattle.std.specs.Prelude.{ℕ, suc, Bool, cond, not, ◌&&◌, List, [], ◌∷◌}
use Rattle.fs.specs.Change.{Change, altered, makes}
use Rattle.fs.specs.Tree.{Path, Tree}

abbrev pub counted : (Path → Bool) → Tree → ℕ
counted f [] = 0
counted f (e ∷ t) = cond (f e.0) (suc (counted f t)) (counted f t)

abbrev pub births : (Path → Bool) → List Change → ℕ
births f [] = 0
births f (c ∷ l) = cond (makes c && f (altered c)) (suc (births f l)) (births f l)

abbrev pub deaths : (Path → Bool) → List Change → ℕ
deaths f [] = 0
deaths f (c ∷ l) = cond (not (makes c) && f (altered c)) (suc (deaths f l)) (deaths f l)
