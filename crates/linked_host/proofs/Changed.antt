-- What a change of the slots keeps, and the tree that it leaves. Assumes nothing.
use Rattle.std.proofs.Common.{◌≡◌, ℕ, ◌<◌, true, false, cond, eqb, List, [], length, get_or, set, Some, None, vec_len, Option, sym, refl, ap, ◌∙◌, subst, arith}
use mathlib.Core.Bool.{false≢true}
use Rattle.std.proofs.lemmas.List.{length-map}
use Rattle.std.proofs.lemmas.Bool.{and_from, not-true}
use Rattle.fs.specs.Rig.{Rig, refused, if_allowed, make, remove, remove_node}
use Rattle.fs.specs.Tree.{Path, Node, Tree, nothing, directory, file, parent, at, with_node, without, children, is_dir, is_nothing, removable, blocked, Rooted}
use Rattle.fs.proofs.Rooting.{rooted_with, rooted_remove}
use Rattle.values.specs.Texts.{path_text}
use Rattle.host.specs.Stores.{node_of}
use Rattle.host.proofs.Storing.{some_stored, ruled_stored}
use Rattle.linked_host.specs.Slots.{tree_from, apart, child_from}
use Rattle.linked_host.specs.Links.{entry_of, view, views, same_link, linked}
use Rattle.linked_host.specs.Places.{link_at, HeldIn, Before}
use Rattle.linked_host.specs.Arenas.{slots_of, entries, slots_linked, root_linked, Written}
use Rattle.linked_host.specs.declared.arena.Arena.{Arena}
use Rattle.linked_host.specs.declared.linked.LinkedHost.{LinkedHost}
use Rattle.linked_host.specs.declared.record.Record.{Record}
use Rattle.linked_host.specs.declared.record.Place.{Place}
use Rattle.linked_host.specs.Rows.{apart_set, some_same, none_some}
use Rattle.linked_host.specs.Written.{tree_added, tree_gone}
use Rattle.linked_host.specs.Scans.{child, path_some, view_at, fit_views, live_within}
use Rattle.linked_host.specs.Lookups.{bare}
use Rattle.linked_host.proofs.Linking.{AllLinked, all_links}
use Rattle.linked_host.proofs.Relinking.{headed_from, linked_from}
use Rattle.linked_host.proofs.Splicing.{all_added, views_added, all_gone, views_gone}

-- what the host keeps of its slots
pub record Kept (root : Option ℕ) (rs : List (Option Record)) : Type 0 where
  pub distinct : apart (views rs) ≡ true
  pub grounded : Rooted (tree_from (views rs))
  pub headed : same_link root (child_from (views rs) [] 0) ≡ true
  pub chained : linked rs ≡ true

module _ (root : Option ℕ) (rs : List (Option Record)) (k : Kept root rs) (i : ℕ) (r : Record) (at' : Place) (there : HeldIn rs at') (before : Before (views rs) (parent (path_text r.path)) i at') where
  links : AllLinked root rs
  links = all_links root rs k.headed k.chained

  module _ (within : i < length rs) (free : get_or rs i None ≡ None) (first : r.first ≡ None) (next : r.next ≡ link_at root rs at') (up : is_dir (tree_from (views rs)) (parent (path_text r.path)) ≡ true) (none : at (tree_from (views rs)) (path_text r.path) ≡ nothing) where
    within' : i < length (views rs)
    within' = omega (arith, length-map rs view)

    grown_tree : tree_from (set (views rs) i (Some (entry_of r))) ≡ with_node (path_text r.path) (node_of r.node) (tree_from (views rs))
    grown_tree = tree_added (views rs) i (entry_of r) (fit_views rs) k.distinct within' (ruled_stored r.path r.node) (view_at rs i ∙ ap view free) none

    childless : (x : ℕ) → child (views rs) (path_text r.path) x ≡ false
    childless = bare (views rs) (fit_views rs) k.distinct k.grounded (path_text r.path) (path_some r.path) none

    now_views : views (slots_linked at' (Some i) (set rs i (Some r))) ≡ set (views rs) i (Some (entry_of r))
    now_views = views_added root rs links k.distinct i within r at' there before free first next childless

    pub add_tree : tree_from (views (slots_linked at' (Some i) (set rs i (Some r)))) ≡ with_node (path_text r.path) (node_of r.node) (tree_from (views rs))
    add_tree = ap tree_from now_views ∙ grown_tree

    pub add_kept : Kept (root_linked at' (Some i) root) (slots_linked at' (Some i) (set rs i (Some r)))
    add_kept =
        let p = path_text r.path in
        let t = tree_from (views rs) in
        let all = all_added root rs links k.distinct i within r at' there before free first next childless in
        record {
          distinct = ap apart now_views ∙ apart_set (views rs) i (Some (entry_of r)) (fit_views rs) k.distinct (λ q e. ap (at t) (sym (some_same e)) ∙ none);
          grounded = subst Rooted (sym add_tree) (rooted_with p (node_of r.node) t (some_stored r.node) (and_from (is_dir t (parent p)) (is_nothing (at t p)) up (ap is_nothing none)) k.grounded);
          headed = headed_from (root_linked at' (Some i) root) (slots_linked at' (Some i) (set rs i (Some r))) all;
          chained = linked_from (root_linked at' (Some i) root) (slots_linked at' (Some i) (set rs i (Some r))) all;
        }

  module _ (stood : get_or rs i None ≡ Some r) (clear : removable (at (tree_from (views rs)) (path_text r.path)) (children (tree_from (views rs)) (path_text r.path)) ≡ true) where
    in_slots : i < length rs
    in_slots = live_within rs i r stood

    left_views : views (set (slots_linked at' r.next rs) i None) ≡ set (views rs) i None
    left_views = views_gone root rs links k.distinct i in_slots r at' there before stood

    pub rm_tree : tree_from (views (set (slots_linked at' r.next rs) i None)) ≡ without (path_text r.path) (tree_from (views rs))
    rm_tree = ap tree_from left_views ∙ tree_gone (views rs) i (entry_of r) (fit_views rs) k.distinct (omega (arith, in_slots, length-map rs view)) (view_at rs i ∙ ap view stood)

    pub rm_kept : Kept (root_linked at' r.next root) (set (slots_linked at' r.next rs) i None)
    rm_kept =
        let all = all_gone root rs links k.distinct i in_slots r at' there before stood in
        record {
          distinct = ap apart left_views ∙ apart_set (views rs) i None (fit_views rs) k.distinct (λ q e. absurd (none_some e));
          grounded = subst Rooted (sym rm_tree) (rooted_remove (path_text r.path) (tree_from (views rs)) clear k.grounded);
          headed = headed_from (root_linked at' r.next root) (set (slots_linked at' r.next rs) i None) all;
          chained = linked_from (root_linked at' r.next root) (set (slots_linked at' r.next rs) i None) all;
        }

-- ---- a host and what a change leaves of it

pub kept_of : (h : LinkedHost) → Kept h.arena.first (slots_of h.arena)
kept_of h = record { distinct = h.distinct; grounded = h.grounded; headed = h.headed; chained = h.chained }

-- as many slots, linked, that hold the tree
pub record Left (h : LinkedHost) (a : Arena) (t : Tree) : Type 0 where
  pub len : vec_len a.slots ≡ vec_len h.arena.slots
  pub kept : Kept a.first (slots_of a)
  pub tree : tree_from (entries a) ≡ t

pub left_as : (h : LinkedHost) (a : Arena) (t : Tree) (rs : List (Option Record)) (root : Option ℕ) → Written h.arena a rs root → Kept root rs → tree_from (views rs) ≡ t → Left h a t
left_as h a t rs root w k same = record { len = w.len; kept = subst (λ x. Kept x (slots_of a)) (sym w.first) (subst (Kept root) (sym w.slots) k); tree = ap (λ x. tree_from (views x)) w.slots ∙ same }

-- ---- the answers of a call, by the tests before it

module _ (g : Rig) (p : Path) where
  pub make_36 : (n : Node) → is_dir g.tree (parent p) ≡ true → is_nothing (at g.tree p) ≡ false → make p n g ≡ refused 36
  make_36 n d b = rw (d, b)

  pub remove_37 : at g.tree p ≡ nothing → remove p g ≡ refused 37
  remove_37 e = ap (λ n. remove_node n p g) e

  pub remove_38 : blocked (at g.tree p) (children g.tree p) ≡ true → remove p g ≡ refused 38
  remove_38 h = by (at g.tree p) h
    where
      by : (n : Node) → blocked n (children g.tree p) ≡ true → remove_node n p g ≡ refused 38
      by nothing k = absurd (false≢true k)
      by directory k = ap (λ b. cond b (if_allowed g (without p g.tree)) (refused 38)) (not-true (eqb (children g.tree p) 0) k)
      by (file c) k = absurd (false≢true k)

  pub remove_clear : removable (at g.tree p) (children g.tree p) ≡ true → remove p g ≡ if_allowed g (without p g.tree)
  remove_clear h = by (at g.tree p) h
    where
      by : (n : Node) → removable n (children g.tree p) ≡ true → remove_node n p g ≡ if_allowed g (without p g.tree)
      by nothing k = absurd (false≢true k)
      by directory k = ap (λ b. cond b (if_allowed g (without p g.tree)) (refused 38)) k
      by (file c) k = refl
