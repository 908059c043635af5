-- What the tree says of a path by its slot, its parent and its children, and how many slots are free. Assumes nothing.
use Rattle.std.specs.Prelude.{◌≡◌, ℕ, zero, suc, ◌+◌, ◌<◌, ◌≤◌, Bool, true, false, cond, not, count_by, List, [], ◌∷◌, length, get_or, is_some, Some, None, Option, MatchOption, ◌==◌, ◌≢◌, slice_index_or, refl}
use Rattle.std.proofs.Common.{sym, ap, ◌∙◌, ⊎_elim, arith}
use Rattle.std.specs.List.{AllWithin, HoldsAt}
use Rattle.std.proofs.lemmas.List.{length-map}
use Rattle.std.proofs.lemmas.List.Sums.{sum_by-cons}
use Rattle.std.proofs.lemmas.Bool.{and_from, and_right, both_ways, cases_Bool, true≢false, not_from_true, not_from_false, eq-eqb, ne_eqb}
use Rattle.fs.specs.Tree.{Path, Node, nothing, Tree, slashed, parent, at, children, is_dir, is_directory, is_nothing, blocked, Rooted}
use Rattle.fs.proofs.Trees.{same_eq}
use Rattle.host.specs.Stores.{node_of}
use Rattle.values.specs.Rules.{all}
use Rattle.linked_host.specs.Slots.{Entry, Slots, entry_at, path_of, Stands, tree_from, apart, is_child, child_from}
use Rattle.linked_host.specs.Links.{entry_of, view, views}
use Rattle.linked_host.specs.declared.record.Record.{Record}
use Rattle.linked_host.specs.Rows.{none_some, is_none, at_live, at_seen, fit}
use Rattle.linked_host.specs.Written.{live, children_from}
use Rattle.linked_host.specs.Scans.{First, child, to_first, view_at, fit_views, stands_path, Ahead, ahead_is}

-- ---- a path and its parent

pub shorter : (p : Path) → (parent p ≢ []) → length (parent p) < length p
shorter [] some = absurd (some refl)
shorter (b ∷ bs) some = strict b bs
  where
    strict : (b : ℕ) (bs : Path) → length (parent (b ∷ bs)) < length (b ∷ bs)
    strict b [] = omega arith
    strict b (c ∷ cs) =
        let rest = strict c cs in
        ⊎_elim
        (λ e. let k = ap (λ q. length (cond q (b ∷ parent (c ∷ cs)) [])) e in omega arith)
        (λ e. let k = ap (λ q. length (cond q (b ∷ parent (c ∷ cs)) [])) e in omega arith)
        (cases_Bool (slashed (c ∷ cs)))

pub dir_at : (t : Tree) (d : Path) (n : Node) → (d ≢ []) → at t d ≡ n → is_dir t d ≡ is_directory n
dir_at t [] n some e = absurd (some refl)
dir_at t (b ∷ bs) n some e = ap is_directory e

-- below what is no directory is nothing
pub fatherless : (t : Tree) (p : Path) → Rooted t → is_dir t (parent p) ≡ false → at t p ≡ nothing
fatherless t p r n = ⊎_elim (λ k. is_none (at t p) k) (λ k. absurd (both_ways (is_dir t (parent p)) n (r p k))) (cases_Bool (is_nothing (at t p)))

-- ---- what a record says of its path

module _ (rs : List (Option Record)) (distinct : apart (views rs) ≡ true) (p : Path) (x : ℕ) (r : Record) (here : get_or rs x None ≡ Some r) (s : Stands (views rs) p x) where
  pub stands_node : at (tree_from (views rs)) p ≡ node_of r.node
  stands_node = ap (at (tree_from (views rs))) (sym (stands_path rs p x r here s)) ∙ at_live (views rs) x (entry_of r) (fit_views rs) distinct (view_at rs x ∙ ap view here)

-- whether a search found the path
pub seen : (rs : List (Option Record)) (p : Path) (o : Option ℕ) → MatchOption o (at (tree_from (views rs)) p ≡ nothing) (Stands (views rs) p) → is_nothing (at (tree_from (views rs)) p) ≡ not (is_some o)
seen rs p None none = ap is_nothing none
seen rs p (Some i) s = at_seen (views rs) i p (fit_views rs) s

-- ---- slots that are free

pub live_few : (es : Slots) → live es ≤ length es
live_few [] = omega arith
live_few (None ∷ es) = omega (arith, live_few es)
live_few (Some e ∷ es) = omega (arith, live_few es)

abbrev pub is_free : Option Record → Bool
is_free o = not (is_some o)

pub free_or_live : (rs : List (Option Record)) → count_by is_free rs + live (views rs) ≡ length rs
free_or_live [] = omega arith
free_or_live (None ∷ rs) = omega (arith, free_or_live rs, sum_by-cons (λ o. cond (is_free o) 1 0) None rs)
free_or_live (Some r ∷ rs) = omega (arith, free_or_live rs, sum_by-cons (λ o. cond (is_free o) 1 0) (Some r) rs)

all_live : (rs : List (Option Record)) → AllWithin (λ o. is_some o ≡ true) rs 0 (length rs) → live (views rs) ≡ length rs
all_live [] a = omega arith
all_live (None ∷ rs) a = absurd (true≢false (sym (a 0 None (omega arith) (omega arith))))
all_live (Some r ∷ rs) a = let rest = all_live rs (λ k d l m. a (suc k) d (omega arith) (omega arith)) in omega arith

pub none_from : (o : Option Record) → is_some o ≡ false → o ≡ None
none_from None e = refl
none_from (Some r) e = absurd (true≢false e)

one_free : (rs : List (Option Record)) (i : ℕ) → i < length rs → get_or rs i None ≡ None → live (views rs) < length rs
one_free [] i l e = absurd (omega arith)
one_free (None ∷ rs) zero l e = omega (arith, live_few (views rs), length-map rs view)
one_free (Some r ∷ rs) zero l e = absurd (none_some (sym e))
one_free (None ∷ rs) (suc i) l e = let rest = one_free rs i (omega arith) e in omega arith
one_free (Some r ∷ rs) (suc i) l e = let rest = one_free rs i (omega arith) e in omega arith

-- what a search of the first free slot says of the number of nodes
pub first_free : (rs : List (Option Record)) (o : Option ℕ) (count len : ℕ) → count ≡ live (views rs) → len ≡ length rs
    → MatchOption o (AllWithin (λ r. is_some r ≡ true) rs 0 (length rs)) (λ i. (i < length rs) × HoldsAt (λ r. is_some r ≡ false) rs i × AllWithin (λ r. is_some r ≡ true) rs 0 i)
    → MatchOption o (count ≡ len) (λ i. (i < len) × (slice_index_or rs i None ≡ None) × (count < len))
first_free rs None count len c l a = omega (arith, all_live rs a)
first_free rs (Some i) count len c l f =
    let none : get_or rs i None ≡ None = none_from (get_or rs i None) (f.1 None) in
    (omega (arith, f.0), none, omega (arith, one_free rs i f.0 none))

-- ---- children of a path

child_up : (d : Path) (o : Option Entry) → is_child d o ≡ true → (e : Entry) × (o ≡ Some e) × (parent e.0 ≡ d)
child_up d None b = absurd (both_ways false refl b)
child_up d (Some e) b = (e, refl, same_eq (parent e.0) d b)

module _ (es : Slots) (ok : all fit es ≡ true) (distinct : apart es ≡ true) (root : Rooted (tree_from es)) (p : Path) where
  -- a child's parent is a directory
  child_dir : (x : ℕ) → child es p x ≡ true → is_dir (tree_from es) p ≡ true
  child_dir x b =
      let k = child_up p (entry_at es x) b in
      ap (is_dir (tree_from es)) (sym k.2) ∙ root k.0.0 (at_seen es x k.0.0 ok (ap path_of k.1))

  -- a path without a node has no children in the slots
  module _ (some : p ≡ [] → ⊥) where
    pub bare : at (tree_from es) p ≡ nothing → (x : ℕ) → child es p x ≡ false
    bare none x = ⊎_elim (λ b. absurd (both_ways (is_dir (tree_from es) p) (dir_at (tree_from es) p nothing some none) (child_dir x b))) (λ b. b) (cases_Bool (child es p x))

    -- whether the path is a directory with children, by its record's link
    pub blocked_by : (o : Option ℕ) → o ≡ child_from es p 0 → blocked (at (tree_from es) p) (children (tree_from es) p) ≡ is_some o
    blocked_by o e = by o (to_first es p 0 o e) (ahead_is es p 0 o e)
      where
        by : (o : Option ℕ) → First es p 0 o → Ahead es p 0 o → blocked (at (tree_from es) p) (children (tree_from es) p) ≡ is_some o
        by None f a =
            let none : children (tree_from es) p ≡ 0 = children_from p es ok distinct ∙ a in
            and_right (is_directory (at (tree_from es) p)) (not (children (tree_from es) p == 0)) (not_from_true (children (tree_from es) p == 0) (eq-eqb (children (tree_from es) p) 0 none))
        by (Some j) f a =
            and_from (is_directory (at (tree_from es) p)) (not (children (tree_from es) p == 0))
            (sym (dir_at (tree_from es) p (at (tree_from es) p) some refl) ∙ child_dir j f.1)
            (not_from_false (children (tree_from es) p == 0) (ne_eqb (children (tree_from es) p) 0 (λ z. omega (arith, children_from p es ok distinct))))
