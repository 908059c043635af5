-- Where a path stands in a tree, or would stand. Assumes nothing.
use Rattle.std.specs.Prelude.{◌≡◌, ℕ, ◌+◌, ◌<◌, ◌≤◌, false, ◌∷◌, ◌++◌, length, take, drop, slice_index_or}
use Rattle.fs.specs.Tree.{Path, Node, nothing, Tree, at, with_node, without, is_nothing}

-- the path stands at place i
pub record Found (t : Tree) (p : Path) (i : ℕ) : Type 0 where
  pub within : i < length t
  pub node : at t p ≡ (slice_index_or t i (p, nothing)).1
  pub some : is_nothing (at t p) ≡ false
  pub gone : without p t ≡ take i t ++ drop (i + 1) t

-- the path is nothing, and would stand at place i
pub record Vacant (t : Tree) (p : Path) (i : ℕ) : Type 0 where
  pub within : i ≤ length t
  pub none : at t p ≡ nothing
  pub put : (n : Node) → with_node p n t ≡ take i t ++ (p, n) ∷ drop i t
