-- Where a package stands, and what it is, by its name. Assumes nothing.
use Rattle.std.specs.Prelude.{ℕ, ◌+◌, cond, List, [], ◌∷◌, Some, None, Option}
use Rattle.fs.specs.Tree.{same}
use Rattle.index.specs.Packs.{Pack}

-- counted from i
abbrev pub position_from : ℕ → List ℕ → List Pack → Option ℕ
position_from i n [] = None
position_from i n (p ∷ ps) = cond (same n p.0) (Some i) (position_from (i + 1) n ps)

abbrev pub position_of : List ℕ → List Pack → Option ℕ
position_of n ps = position_from 0 n ps

abbrev pub found : List ℕ → List Pack → Option Pack
found n [] = None
found n (p ∷ ps) = cond (same n p.0) (Some p) (found n ps)
