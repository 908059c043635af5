-- What a linked host means. Assumes nothing.
use Rattle.std.specs.Prelude.{◌≡◌, ℕ, true, vec_len}
use Rattle.fs.specs.Rig.{Rig, remove, if_allowed}
use Rattle.fs.specs.Tree.{Path, Tree, parent, at, children, removable, without}
use Rattle.linked_host.specs.Slots.{tree_from, Stands}
use Rattle.linked_host.specs.Places.{Heads}
use Rattle.linked_host.specs.Arenas.{entries, Held}
use Rattle.linked_host.specs.declared.record.Place.{Place}
use Rattle.linked_host.specs.declared.linked.LinkedHost.{LinkedHost}

abbrev pub tree_of : LinkedHost → Tree
tree_of h = tree_from (entries h.arena)

-- as many nodes may stand as there are slots
abbrev pub rig_of : LinkedHost → Rig
rig_of h = record { tree = tree_of h; capacity = vec_len h.arena.slots; allowance = h.allowance }

-- the path stands in slot i, below a directory whose children the place `head` leads to, and only the allowance can refuse its removal
pub record Removable (h : LinkedHost) (p : Path) (head : Place) (i : ℕ) : Type 0 where
  pub held : Held h.arena head
  pub heads : Heads (entries h.arena) (parent p) head
  pub here : Stands (entries h.arena) p i
  pub clear : removable (at (tree_of h) p) (children (tree_of h) p) ≡ true
  pub allowed : remove p (rig_of h) ≡ if_allowed (rig_of h) (without p (tree_of h))

-- the host h' is h with the tree t
pub record Becomes (h h' : LinkedHost) (t : Tree) : Type 0 where
  pub tree : tree_of h' ≡ t
  pub capacity : vec_len h'.arena.slots ≡ vec_len h.arena.slots
  pub allowance : h'.allowance ≡ h.allowance
