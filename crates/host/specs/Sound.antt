-- What every host keeps: a sorted tree of paths and contents by their rules, every node below a directory, within the limits. Assumes nothing.
use Rattle.std.specs.Prelude.{◌≡◌, ◌≤◌, Bool, true, false, ◌&&◌, length}
use Rattle.fs.specs.Rig.{Rig}
use Rattle.fs.specs.Tree.{Path, Node, nothing, directory, file, Sorted, Rooted}
use Rattle.values.specs.Rules.{all, is_path, is_content}

abbrev pub fits_node : Node → Bool
fits_node nothing = false
fits_node directory = true
fits_node (file c) = is_content c

-- a path by the rule, and what can stand there
abbrev pub ruled : Path × Node → Bool
ruled e = is_path e.0 && fits_node e.1

pub record Sound (g : Rig) : Type 0 where
  pub sorted : Sorted g.tree
  pub rooted : Rooted g.tree
  pub proper : all ruled g.tree ≡ true
  pub fits : length g.tree ≤ g.capacity
  pub low : 1 ≤ g.capacity
  pub high : g.capacity ≤ 256
  pub few : g.allowance ≤ 65535
