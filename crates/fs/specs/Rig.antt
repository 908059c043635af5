-- A rig: a tree with limits, and what it answers where a node is made or removed. Assumes nothing.
use Rattle.std.specs.Prelude.{ℕ, ◌-◌, cond, length, ◌==◌, nat_le}
use Rattle.fs.specs.Tree.{Path, Node, nothing, directory, file, is_nothing, Tree, at, with_node, without, children, parent, is_dir}

-- a tree, the most nodes that it may have, and how many changes may still be made
pub record Rig : Type 0 where
  pub tree : Tree
  pub capacity : ℕ
  pub allowance : ℕ

-- a taken call's new rig, or the number of the refusal
pub data Answer : Type 0 where
  taken : Rig → Answer
  refused : ℕ → Answer

-- the rig with the tree u, after one change
abbrev pub after : Rig → Tree → Rig
after g u = record { tree = u; capacity = g.capacity; allowance = g.allowance - 1 }

-- the last check of each change
abbrev pub if_allowed : Rig → Tree → Answer
if_allowed g u = cond (g.allowance == 0) (refused 40) (taken (after g u))

-- a node made: below a directory, at a path that is nothing, where there is room
abbrev pub make : Path → Node → Rig → Answer
make p n g =
    cond (is_dir g.tree (parent p)) (cond (is_nothing (at g.tree p)) (cond (nat_le g.capacity (length g.tree)) (refused 39) (if_allowed g (with_node p n g.tree))) (refused 36)) (refused 35)

-- a node removed: a file, or a directory without children
abbrev pub remove_node : Node → Path → Rig → Answer
remove_node nothing p g = refused 37
remove_node directory p g = cond (children g.tree p == 0) (if_allowed g (without p g.tree)) (refused 38)
remove_node (file c) p g = if_allowed g (without p g.tree)

abbrev pub remove : Path → Rig → Answer
remove p g = remove_node (at g.tree p) p g

abbrev pub on_taken : Answer → (Rig → Answer) → Answer
on_taken (taken g) f = f g
on_taken (refused n) f = refused n
