-- A change leaves every node's parent a directory. Assumes nothing.
use Rattle.std.proofs.Common.{◌≡◌, suc, ◌<◌, Bool, true, false, cond, ◌≢◌, ◌⊎◌, [], ◌∷◌, sym, refl, ap, ◌∙◌, inl, inr, true≢false, arith}
use mathlib.Core.Bool.{false≢true}
use Rattle.std.proofs.lemmas.Bool.{eqb-true, and_parts}
use Rattle.fs.specs.Tree.{Path, same, Node, nothing, directory, file, is_nothing, is_directory, Tree, at, with_node, without, children, parent, is_dir, vacant, removable, Rooted}
use Rattle.fs.proofs.Trees.{same_refl, same_eq, cases_same, put_node, at_put_here, at_put_other, is_dir_put, is_dir_root, is_dir_parent}

-- a node counts among its parent's children
child_counts : (t : Tree) (q p : Path) → is_nothing (at t q) ≡ false → parent q ≡ p → 0 < children t p
child_counts [] q p h e = absurd (true≢false h)
child_counts (x ∷ t) q p h e = by (same q x.0) refl (same (parent x.0) p) refl h (λ k. child_counts t q p k e)
  where
    by : (b : Bool) → same q x.0 ≡ b → (c : Bool) → same (parent x.0) p ≡ c → is_nothing (cond b x.1 (at t q)) ≡ false → (is_nothing (at t q) ≡ false → 0 < children t p) → 0 < cond c (suc (children t p)) (children t p)
    by b f true g k ih = omega arith
    by true f false g k ih = absurd (true≢false (sym (same_refl p) ∙ ap (λ z. same z p) (sym e ∙ ap parent (same_eq q x.0 f)) ∙ g))
    by false f false g k ih = ih k

dir_or_root : (t : Tree) (p : Path) → is_dir t p ≡ true → (p ≡ []) ⊎ (is_directory (at t p) ≡ true)
dir_or_root t [] h = inl refl
dir_or_root t (a ∷ p) h = inr h

-- a new node below a directory
pub rooted_make : (p : Path) (n : Node) (t : Tree) → vacant t p ≡ true → Rooted t → Rooted (put_node p n t)
rooted_make p n t v root q h = by (cases_same q p)
  where
    parts : (is_dir t (parent p) ≡ true) × (is_nothing (at t p) ≡ true)
    parts = and_parts (is_dir t (parent p)) (is_nothing (at t p)) v

    clear : (m : Node) → is_directory m ≡ true → is_nothing m ≡ true → ⊥
    clear nothing i j = false≢true i
    clear directory i j = false≢true j
    clear (file c) i j = false≢true i

    above : is_dir t (parent q) ≡ true → ((same (parent q) p ≡ true) × (parent q ≡ p)) ⊎ ((same (parent q) p ≡ false) × (parent q ≢ p)) → is_dir (put_node p n t) (parent q) ≡ true
    above i (inr c) = is_dir_put p n t (parent q) c.1 ∙ i
    above i (inl c) = root_or (dir_or_root t p (ap (is_dir t) (sym c.1) ∙ i))
      where
        root_or : (p ≡ []) ⊎ (is_directory (at t p) ≡ true) → is_dir (put_node p n t) (parent q) ≡ true
        root_or (inl e) = is_dir_root (parent q) (put_node p n t) (c.1 ∙ e)
        root_or (inr e) = absurd (clear (at t p) e parts.1)

    by : ((same q p ≡ true) × (q ≡ p)) ⊎ ((same q p ≡ false) × (q ≢ p)) → is_dir (put_node p n t) (parent q) ≡ true
    by (inl c) = ap (λ z. is_dir (put_node p n t) (parent z)) c.1 ∙ is_dir_parent p n t ∙ parts.0
    by (inr c) = above (root q (sym (ap is_nothing (at_put_other p n t q c.1)) ∙ h)) (cases_same (parent q) p)

pub rooted_with : (p : Path) (n : Node) (t : Tree) → is_nothing n ≡ false → vacant t p ≡ true → Rooted t → Rooted (with_node p n t)
rooted_with p nothing t h v r = absurd (true≢false h)
rooted_with p directory t h v r = rooted_make p directory t v r
rooted_with p (file c) t h v r = rooted_make p (file c) t v r

-- a node without children gone
pub rooted_remove : (p : Path) (t : Tree) → removable (at t p) (children t p) ≡ true → Rooted t → Rooted (without p t)
rooted_remove p t v root q h = by (cases_same q p)
  where
    Goal : Type 0
    Goal = is_dir (without p t) (parent q) ≡ true

    childless : (m : Node) → is_directory m ≡ true → removable m (children t p) ≡ true → children t p ≡ 0
    childless nothing i j = absurd (false≢true i)
    childless directory i j = eqb-true (children t p) 0 j
    childless (file c) i j = absurd (false≢true i)

    above : is_nothing (at t q) ≡ false → ((same (parent q) p ≡ true) × (parent q ≡ p)) ⊎ ((same (parent q) p ≡ false) × (parent q ≢ p)) → Goal
    above i (inr c) = is_dir_put p nothing t (parent q) c.1 ∙ root q i
    above i (inl c) = root_or (dir_or_root t p (ap (is_dir t) (sym c.1) ∙ root q i))
      where
        root_or : (p ≡ []) ⊎ (is_directory (at t p) ≡ true) → Goal
        root_or (inl e) = is_dir_root (parent q) (without p t) (c.1 ∙ e)
        root_or (inr e) = let some-child = child_counts t q p i c.1 in let no-child = childless (at t p) e v in absurd (omega arith)

    by : ((same q p ≡ true) × (q ≡ p)) ⊎ ((same q p ≡ false) × (q ≢ p)) → Goal
    by (inl c) = absurd (true≢false (sym (ap is_nothing (at_put_here p nothing t)) ∙ ap (λ z. is_nothing (at (without p t) z)) (sym c.1) ∙ h))
    by (inr c) = above (sym (ap is_nothing (at_put_other p nothing t q c.1)) ∙ h) (cases_same (parent q) p)
