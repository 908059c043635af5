-- What a write to one slot makes of the tree, and how many nodes and children the slots hold. Assumes nothing.
use Rattle.std.specs.Prelude.{◌≡◌, ℕ, suc, ◌+◌, ◌<◌, Bool, true, false, cond, [], ◌∷◌, length, Some, None, Option, slice_set, refl}
use Rattle.std.proofs.Common.{sym, ap, ◌∙◌, ⊎_elim, arith}
use Rattle.std.proofs.lemmas.List.{get_or-set_same, get_or-set_other}
use Rattle.std.proofs.lemmas.Bool.{and_parts, both_ways, cases_eq}
use Rattle.values.specs.Rules.{all}
use Rattle.fs.specs.Tree.{Path, Node, nothing, Tree, same, before, parent, at, with_node, without, children, is_nothing, Sorted}
use Rattle.fs.proofs.Trees.{tree_ext, sorted_put, sorted_with, at_put_here, at_put_other}
use Rattle.host.specs.Sound.{ruled}
use Rattle.linked_host.specs.Slots.{Entry, Slots, entry_at, path_of, Stands, tree_from, apart, is_child}
use Rattle.linked_host.specs.Rows.{some_same, none_some, same_or_apart, is_none, at_here, at_other, fit, ruled_some, sorted_from, fit_set, at_none, at_live, at_set, unique, apart_set}

-- ---- a node put into a free slot, and one taken out

module _ (es : Slots) (i : ℕ) (e : Entry) (ok : all fit es ≡ true) (distinct : apart es ≡ true) (within : i < length es) where
  pub tree_added : ruled e ≡ true → entry_at es i ≡ None → at (tree_from es) e.0 ≡ nothing → tree_from (slice_set es i (Some e)) ≡ with_node e.0 e.1 (tree_from es)
  tree_added right free none =
      let t = tree_from es in
      let es' = slice_set es i (Some e) in
      let ok' = fit_set es i (Some e) ok right in
      let distinct' = apart_set es i (Some e) ok distinct (λ q k. ap (at t) (sym (some_same k)) ∙ none) in
      tree_ext (tree_from es') (with_node e.0 e.1 t) (sorted_from es' ok') (sorted_with e.0 e.1 t (ruled_some e right) (sorted_from es ok))
      (λ q.
      ⊎_elim
      (λ k. ap (at (tree_from es')) (sym k) ∙ at_live es' i e ok' distinct' (get_or-set_same es i (Some e) None within) ∙ sym (ap (at (with_node e.0 e.1 t)) (sym k) ∙ at_here e.0 e.1 t))
      (λ d. at_set es i (Some e) q (λ k. d (some_same k)) (λ k. none_some (sym (ap path_of free) ∙ k)) ∙ sym (at_other e.0 q e.1 t d))
      (same_or_apart e.0 q))

  module _ (held : entry_at es i ≡ Some e) where
    none_left : (x : ℕ) → Stands (slice_set es i None) e.0 x → ⊥
    none_left x s =
        ⊎_elim
        (λ k. none_some (sym (ap path_of (get_or-set_same es i None None within)) ∙ ap (λ y. path_of (entry_at (slice_set es i None) y)) (sym k) ∙ s))
        (λ k.
        let s' : Stands es e.0 x = sym (ap path_of (get_or-set_other es i x None None k)) ∙ s in
        k (unique es ok distinct e.0 x i s' (ap path_of held)))
        (cases_eq x i)

    pub tree_gone : tree_from (slice_set es i None) ≡ without e.0 (tree_from es)
    tree_gone =
        let t = tree_from es in
        let es' = slice_set es i None in
        tree_ext (tree_from es') (without e.0 t) (sorted_from es' (fit_set es i None ok refl)) (sorted_put e.0 nothing t (sorted_from es ok))
        (λ q.
        ⊎_elim
        (λ k. ap (at (tree_from es')) (sym k) ∙ at_none es' e.0 none_left ∙ sym (ap (at (without e.0 t)) (sym k) ∙ at_put_here e.0 nothing t))
        (λ d. at_set es i None q none_some (λ k. d (some_same (sym (ap path_of held) ∙ k))) ∙ sym (at_put_other e.0 nothing t q (λ k. d (sym k))))
        (same_or_apart e.0 q))

-- ---- how many nodes, and how many children

abbrev pub tally : Bool → ℕ
tally q = cond q 1 0

-- what is counted path by path grows by a new path's own
module _ (count : Tree → ℕ) (weight : Path → ℕ) (more : (p : Path) (n : Node) (t : Tree) → count ((p, n) ∷ t) ≡ weight p + count t) where
  count_with : (p : Path) (n : Node) (t : Tree) → Sorted t → at t p ≡ nothing → count (with_node p n t) ≡ weight p + count t
  count_with p n [] s none = more p n []
  count_with p n (e ∷ t) s none = by (same p e.0) (before p e.0) none (count_with p n t s.2)
    where
      by : (a b : Bool) → cond a e.1 (at t p) ≡ nothing → (at t p ≡ nothing → count (with_node p n t) ≡ weight p + count t)
          → count (cond a ((p, n) ∷ t) (cond b ((p, n) ∷ (e ∷ t)) (e ∷ with_node p n t))) ≡ weight p + count (e ∷ t)
      by true b h rest = absurd (both_ways (is_nothing e.1) s.1 (ap is_nothing h))
      by false true h rest = more p n (e ∷ t)
      by false false h rest = let k = rest h in omega (arith, more e.0 e.1 (with_node p n t), more e.0 e.1 t)

length_new : (p : Path) (n : Node) (t : Tree) → Sorted t → at t p ≡ nothing → length (with_node p n t) ≡ 1 + length t
length_new = count_with length (λ _. 1) (λ _ _ s. omega arith)

child_first : (q p : Path) (n : Node) (t : Tree) → children ((p, n) ∷ t) q ≡ tally (same (parent p) q) + children t q
child_first q p n t = by (same (parent p) q)
  where
    by : (b : Bool) → cond b (suc (children t q)) (children t q) ≡ tally b + children t q
    by true = omega arith
    by false = omega arith

children_new : (q p : Path) (n : Node) (t : Tree) → Sorted t → at t p ≡ nothing → children (with_node p n t) q ≡ tally (same (parent p) q) + children t q
children_new q = count_with (λ s. children s q) (λ r. tally (same (parent r) q)) (child_first q)

abbrev pub weight : Option Entry → ℕ
weight None = 0
weight (Some e) = 1

abbrev pub live : Slots → ℕ
live [] = 0
live (o ∷ es) = weight o + live es

abbrev pub kids : Path → Slots → ℕ
kids d [] = 0
kids d (o ∷ es) = tally (is_child d o) + kids d es

head_none : (f : Entry) (es : Slots) → apart (Some f ∷ es) ≡ true → (at (tree_from es) f.0 ≡ nothing) × (apart es ≡ true)
head_none f es d =
    let d' = and_parts (is_nothing (at (tree_from es) f.0)) (apart es) d in
    (is_none (at (tree_from es) f.0) d'.0, d'.1)

pub length_from : (es : Slots) → all fit es ≡ true → apart es ≡ true → length (tree_from es) ≡ live es
length_from [] a d = refl
length_from (None ∷ es) a d = let rest = length_from es a d in omega arith
length_from (Some f ∷ es) a d =
    let d' = head_none f es d in
    let ok = (and_parts (ruled f) (all fit es) a).1 in
    let rest = length_from es ok d'.1 in
    let one = length_new f.0 f.1 (tree_from es) (sorted_from es ok) d'.0 in
    omega arith

pub children_from : (d : Path) (es : Slots) → all fit es ≡ true → apart es ≡ true → children (tree_from es) d ≡ kids d es
children_from q [] a d = refl
children_from q (None ∷ es) a d = let rest = children_from q es a d in omega arith
children_from q (Some f ∷ es) a d =
    let d' = head_none f es d in
    let ok = (and_parts (ruled f) (all fit es) a).1 in
    let rest = children_from q es ok d'.1 in
    let one = children_new q f.0 f.1 (tree_from es) (sorted_from es ok) d'.0 in
    omega arith
