-- That a tree is sorted, and that it is rooted, has one proof at most, so that a type may keep it. Assumes nothing.
use Rattle.std.proofs.Common.{true, false, [], ◌∷◌, refl}
use Rattle.std.proofs.Math.Bool.{Bool-set}
use Rattle.fs.specs.Tree.{Path, Tree, before, is_nothing, is_dir, parent, Behind, Sorted, Rooted}

behind_prop : (p : Path) (t : Tree) → IsProp (Behind p t)
behind_prop p [] a b = refl
behind_prop p (e ∷ t) a b = λ i. (Bool-set (before p e.0) true a.0 b.0 i, behind_prop p t a.1 b.1 i)

pub sorted_prop : (t : Tree) → IsProp (Sorted t)
sorted_prop [] a b = refl
sorted_prop (e ∷ t) a b = λ i. (behind_prop e.0 t a.0 b.0 i, Bool-set (is_nothing e.1) false a.1 b.1 i, sorted_prop t a.2 b.2 i)

pub rooted_prop : (t : Tree) → IsProp (Rooted t)
rooted_prop t a b = λ i p h. Bool-set (is_dir t (parent p)) true (a p h) (b p h) i
