-- What a node that may be made finds. Assumes nothing.
use Rattle.std.proofs.Common.{◌≡◌, true, sym, ap, ◌∙◌, true≢false}
use Rattle.std.proofs.lemmas.Bool.{and_parts, both_ways}
use Rattle.fs.specs.Change.{made_dir, removed}
use Rattle.fs.specs.Rig.{Rig, taken, after, make, remove}
use Rattle.fs.specs.Tree.{Path, Node, directory, Tree, at, with_node, without, children, removable, is_dir, is_nothing, parent, vacant}
use Rattle.fs.proofs.Calls.{Fits, taken_fits}
use Rattle.table_host.specs.Places.{Found, Vacant}

module _ (g : Rig) (p : Path) where
  pub made_fits : ((n : Node) → make p n g ≡ taken (after g (with_node p n g.tree))) → Fits (made_dir p) g
  made_fits k = (taken_fits (made_dir p) g (after g (with_node p directory g.tree)) (k directory)).0

  pub removed_fits : remove p g ≡ taken (after g (without p g.tree)) → Fits (removed p) g
  removed_fits k = (taken_fits (removed p) g (after g (without p g.tree)) k).0

module _ (t : Tree) (p : Path) (i : _) where
  -- a path that is nothing is not found, and one that is a node is
  pub not_found : {A : Type 0} → vacant t p ≡ true → Found t p i → A
  not_found v f = absurd (both_ways (is_nothing (at t p)) f.some (and_parts (is_dir t (parent p)) (is_nothing (at t p)) v).1)

  pub not_vacant : {A : Type 0} → removable (at t p) (children t p) ≡ true → Vacant t p i → A
  not_vacant r v = absurd (true≢false (sym r ∙ ap (λ n. removable n (children t p)) v.none))
