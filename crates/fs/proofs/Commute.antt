-- Lists of steps that are apart commute: first two steps, then a step and a list, then two lists. Assumes nothing.
use Rattle.std.proofs.Common.{◌≡◌, ℕ, Bool, true, false, cond, ◌||◌, ◌≢◌, ◌⊎◌, List, [], ◌∷◌, ◌++◌, sym, refl, ap, ◌∙◌, subst, inl, inr}
use mathlib.Core.Bool.{false≢true}
use mathlib.Core.Option.{some}
use Rattle.fs.specs.Tree.{Path, Content, same, has, parent, Node, nothing, directory, file, Tree, at, children, is_dir, Sorted}
use Rattle.fs.specs.Fs.{and_then}
use Rattle.fs.specs.Manifest.{Step, ensure_dir, ensure_file, ensure_absent}
use Rattle.fs.specs.Footprint.{step_makes_dirs, step_reads_below, unless_made, writes, reads_below, reads}
use Rattle.fs.proofs.Trees.{same_eq, cases_same, put_node, at_put_here, at_put_other, sorted_put, is_dir_put, is_dir_root, is_dir_at, children_put}
use Rattle.fs.proofs.Steps.{plus_zero, and_then_assoc, and_then_skip, and_then_cong, path, act, act_at, exec, run, exec_leaves, Leaves, exec_swap}
use Rattle.fs.proofs.Apart.{In, in_here, in_cons, in_append, Context, Apart, apart_sym, apart_head, apart_tail}
use Rattle.fs.proofs.Options.{some_eq, none_some}

-- a step that succeeds at a directory leaves it, unless it removes it; and a directory step always leaves one
leaves_dir : (y : Step) (d : Bool) (k : ℕ) (a : Node × ℕ) → (In (path y) (step_reads_below y) → ⊥) → act y directory d k ≡ some a → a.0 ≡ directory
leaves_dir (ensure_dir q) d k a h e = ap (λ z. z.0) (sym (some_eq e))
leaves_dir (ensure_file q c) d k a h e = none_some e
leaves_dir (ensure_absent q) d k a h e = absurd (h (in_here q []))

makes_dir : (y : Step) (p : Path) (n : Node) (d : Bool) (k : ℕ) (a : Node × ℕ) → In p (step_makes_dirs y) → act y n d k ≡ some a → (p ≡ path y) × (a.0 ≡ directory)
makes_dir (ensure_dir q) p n d k a h e = (only (in_cons p q [] h), by n d e)
  where
    only : (p ≡ q) ⊎ In p [] → p ≡ q
    only (inl i) = i
    only (inr i) = absurd (false≢true i)

    by : (m : Node) (b : Bool) → act (ensure_dir q) m b k ≡ some a → a.0 ≡ directory
    by nothing true i = ap (λ z. z.0) (sym (some_eq i))
    by nothing false i = none_some i
    by directory b i = ap (λ z. z.0) (sym (some_eq i))
    by (file c) b i = none_some i
makes_dir (ensure_file q c) p n d k a h e = absurd (false≢true h)
makes_dir (ensure_absent q) p n d k a h e = absurd (false≢true h)

pub below_one : (z : Step) → In (path z) (step_reads_below z) → In (path z) (reads_below (z ∷ []))
below_one (ensure_dir q) j = j
below_one (ensure_file q c) j = j
below_one (ensure_absent q) j = j

-- what a step leaves, once more, with the context grown by what it makes
pub context_grows : (C : List Path) (y : Step) (t : Tree) (r : Tree × ℕ) → Sorted t → Context C t → ((p : Path) → In p (reads_below (y ∷ [])) → In p C → ⊥) → exec y t ≡ some r
    → Sorted r.0 × Context (step_makes_dirs y ++ C) r.0
context_grows C y t r s ctx ok h = from (exec_leaves y t r s h)
  where
    from : (a : Node × ℕ) × (act_at y t ≡ some a) × (r.0 ≡ put_node (path y) a.0 t) × (r.1 ≡ a.1) → Sorted r.0 × Context (step_makes_dirs y ++ C) r.0
    from f = (subst Sorted (sym f.2) (sorted_put (path y) f.0.0 t s), λ p i. ap (λ u. at u p) f.2 ∙ at_p p (in_append p (step_makes_dirs y) C i))
      where
        at_p : (p : Path) → In p (step_makes_dirs y) ⊎ In p C → at (put_node (path y) f.0.0 t) p ≡ directory
        at_p p (inl i) =
            let g = makes_dir y p (at t (path y)) (is_dir t (parent (path y))) (children t (path y)) f.0 i f.1 in
            ap (at (put_node (path y) f.0.0 t)) g.0 ∙ at_put_here (path y) f.0.0 t ∙ g.1
        at_p p (inr i) = by (cases_same p (path y))
          where
            by : ((same p (path y) ≡ true) × (p ≡ path y)) ⊎ ((same p (path y) ≡ false) × (p ≢ path y)) → at (put_node (path y) f.0.0 t) p ≡ directory
            by (inl c) =
                let dir : at t (path y) ≡ directory = ap (at t) (sym c.1) ∙ ctx p i in
                let acts : act y directory (is_dir t (parent (path y))) (children t (path y)) ≡ some f.0 = ap (λ n. act y n (is_dir t (parent (path y))) (children t (path y))) (sym dir) ∙ f.1 in
                ap (at (put_node (path y) f.0.0 t)) c.1 ∙ at_put_here (path y) f.0.0 t
                ∙ leaves_dir y (is_dir t (parent (path y))) (children t (path y)) f.0 (λ j. ok p (subst (λ q. In q (reads_below (y ∷ []))) (sym c.1) (below_one y j)) i) acts
            by (inr c) = at_put_other (path y) f.0.0 t p c.1 ∙ ctx p i

-- a step's act does not turn on what it does not look at
act_dir : (p : Path) (n : Node) (d : Bool) (j k : ℕ) → act (ensure_dir p) n d j ≡ act (ensure_dir p) n d k
act_dir p nothing d j k = refl
act_dir p directory d j k = refl
act_dir p (file e) d j k = refl

act_file : (p : Path) (c : Content) (n : Node) (d : Bool) (j k : ℕ) → act (ensure_file p c) n d j ≡ act (ensure_file p c) n d k
act_file p c nothing d j k = refl
act_file p c directory d j k = refl
act_file p c (file e) d j k = refl

act_absent : (p : Path) (n : Node) (b d : Bool) (k : ℕ) → act (ensure_absent p) n b k ≡ act (ensure_absent p) n d k
act_absent p nothing b d k = refl
act_absent p directory b d k = refl
act_absent p (file e) b d k = refl

-- what a step looks at is as it was
pub record Unseen (x : Step) (t u : Tree) : Type 0 where
  pub node : at u (path x) ≡ at t (path x)
  pub above : In (path x) (step_reads_below x) ⊎ (is_dir u (parent (path x)) ≡ is_dir t (parent (path x)))
  pub below : In (path x) (step_reads_below x) → children u (path x) ≡ children t (path x)

pub unseen : (x : Step) (t u : Tree) → Unseen x t u → act_at x u ≡ act_at x t
unseen (ensure_dir p) t u h = by h.above
  where
    by : In p [] ⊎ (is_dir u (parent p) ≡ is_dir t (parent p)) → act_at (ensure_dir p) u ≡ act_at (ensure_dir p) t
    by (inl e) = absurd (false≢true e)
    by (inr e) = rw (h.node, e) (act_dir p (at t p) (is_dir t (parent p)) (children u p) (children t p))
unseen (ensure_file p c) t u h = by h.above
  where
    by : In p [] ⊎ (is_dir u (parent p) ≡ is_dir t (parent p)) → act_at (ensure_file p c) u ≡ act_at (ensure_file p c) t
    by (inl e) = absurd (false≢true e)
    by (inr e) = rw (h.node, e) (act_file p c (at t p) (is_dir t (parent p)) (children u p) (children t p))
unseen (ensure_absent p) t u h = rw (h.node, h.below (in_here p [])) (act_absent p (at t p) (is_dir u (parent p)) (is_dir t (parent p)) (children t p))

parent_read : (C : List Path) (q : Path) → (q ≡ []) ⊎ (In q C ⊎ In q (unless_made C q ++ []))
parent_read C q = by (same q []) (has q C) refl refl
  where
    by : (r c : Bool) → same q [] ≡ r → has q C ≡ c → (q ≡ []) ⊎ (In q C ⊎ In q (cond (r || c) [] (q ∷ []) ++ []))
    by true c e f = inl (same_eq q [] e)
    by false true e f = inr (inl f)
    by false false e f = inr (inr (in_here q []))

-- the parent that a step reads, in the context
pub reads_parent : (C : List Path) (x : Step) → In (path x) (step_reads_below x) ⊎ ((parent (path x) ≡ []) ⊎ (In (parent (path x)) C ⊎ In (parent (path x)) (reads C (x ∷ []))))
reads_parent C (ensure_absent p) = inl (in_here p [])
reads_parent C (ensure_dir p) = inr (parent_read C (parent p))
reads_parent C (ensure_file p c) = inr (parent_read C (parent p))

pub unseen_apart : (C : List Path) (x y : Step) (t : Tree) → Context C t → Apart C (x ∷ []) (y ∷ []) → path x ≢ path y → Leaves y x t
unseen_apart C x y t ctx a ne e h = unseen x t u (record { node = at_put_other (path y) e.0 t (path x) ne; above = up (reads_parent C x); below = λ k. children_put (path y) e.0 t (path x) (λ g. a.beneath (path y) (in_here (path y) []) (subst (λ q. In q (reads_below (x ∷ []))) (sym g) (below_one x k))) })
  where
    u : Tree
    u = put_node (path y) e.0 t

    q : Path
    q = parent (path x)

    up : In (path x) (step_reads_below x) ⊎ ((q ≡ []) ⊎ (In q C ⊎ In q (reads C (x ∷ [])))) → In (path x) (step_reads_below x) ⊎ (is_dir u q ≡ is_dir t q)
    up (inl k) = inl k
    up (inr (inl k)) = inr (is_dir_root q u k ∙ sym (is_dir_root q t k))
    up (inr (inr k)) = inr (by (cases_same q (path y)) k)
      where
        by : ((same q (path y) ≡ true) × (q ≡ path y)) ⊎ ((same q (path y) ≡ false) × (q ≢ path y)) → In q C ⊎ In q (reads C (x ∷ [])) → is_dir u q ≡ is_dir t q
        by (inr c) i = is_dir_put (path y) e.0 t q c.1
        by (inl c) (inr i) = absurd (a.read q (subst (λ z. In z (path y ∷ [])) (sym c.1) (in_here (path y) [])) i)
        by (inl c) (inl i) =
            let dir : at t (path y) ≡ directory = ap (at t) (sym c.1) ∙ ctx q i in
            let acts : act y directory (is_dir t (parent (path y))) (children t (path y)) ≡ some e = ap (λ n. act y n (is_dir t (parent (path y))) (children t (path y))) (sym dir) ∙ h in
            let made : e.0 ≡ directory = leaves_dir y (is_dir t (parent (path y))) (children t (path y)) e (λ j. a.keeps' (path y) (below_one y j) (subst (λ z. In z C) c.1 i)) acts in
            is_dir_at q u (ap (at u) c.1 ∙ at_put_here (path y) e.0 t ∙ made) ∙ sym (is_dir_at q t (ctx q i))

-- two steps
steps_commute : (C : List Path) (x y : Step) (t : Tree) → Sorted t → Context C t → Apart C (x ∷ []) (y ∷ []) → and_then (exec x t) (λ u. exec y u) ≡ and_then (exec y t) (λ u. exec x u)
steps_commute C x y t s ctx a = by (cases_same (path x) (path y))
  where
    write : (z : Step) → In (path z) (writes (z ∷ [])) ⊎ ((p : Path) × (z ≡ ensure_dir p) × (path z ≡ p))
    write (ensure_dir p) = inr (p, refl, refl)
    write (ensure_file p c) = inl (in_here p [])
    write (ensure_absent p) = inl (in_here p [])

    both : path x ≡ path y → In (path x) (writes (x ∷ [])) ⊎ ((p : Path) × (x ≡ ensure_dir p) × (path x ≡ p)) → In (path y) (writes (y ∷ [])) ⊎ ((p : Path) × (y ≡ ensure_dir p) × (path y ≡ p)) → x ≡ y
    both e (inl i) k = absurd (a.written (path x) i (subst (λ z. In (path x) (z ∷ [])) e (in_here (path x) [])))
    both e (inr i) (inl j) = absurd (a.written' (path y) j (subst (λ z. In (path y) (z ∷ [])) (sym e) (in_here (path y) [])))
    both e (inr i) (inr j) = i.1 ∙ ap ensure_dir (sym i.2 ∙ e ∙ j.2) ∙ sym j.1

    by : ((same (path x) (path y) ≡ true) × (path x ≡ path y)) ⊎ ((same (path x) (path y) ≡ false) × (path x ≢ path y)) → and_then (exec x t) (λ u. exec y u) ≡ and_then (exec y t) (λ u. exec x u)
    by (inl c) = let e : x ≡ y = both c.1 (write x) (write y) in λ i. and_then (exec (e i) t) (λ u. exec (sym e i) u)
    by (inr c) = exec_swap x y t s c.1 (unseen_apart C x y t ctx a c.1) (unseen_apart C y x t ctx (apart_sym a) (λ h. c.1 (sym h)))

-- a step and a list
step_commutes : (C : List Path) (x : Step) (ys : List Step) (t : Tree) → Sorted t → Context C t → Apart C (x ∷ []) ys → and_then (exec x t) (λ u. run ys u) ≡ and_then (run ys t) (λ u. exec x u)
step_commutes C x [] t s ctx a = and_then_skip (exec x t) ∙ sym (plus_zero (exec x t))
step_commutes C x (y ∷ ys) t s ctx a =
    sym (and_then_assoc (exec x t) (λ u. exec y u) (λ u. run ys u))
    ∙ ap (λ o. and_then o (λ u. run ys u)) (steps_commute C x y t s ctx (apart_sym (apart_head C y ys (x ∷ []) (apart_sym a))))
    ∙ and_then_assoc (exec y t) (λ u. exec x u) (λ u. run ys u)
    ∙ and_then_cong (exec y t) (λ u. and_then (exec x u) (λ v. run ys v)) (λ u. and_then (run ys u) (λ v. exec x v))
    (λ r h. let g = context_grows C y t r s ctx (apart_head C y ys (x ∷ []) (apart_sym a)).keeps h in
    step_commutes (step_makes_dirs y ++ C) x ys r.0 g.0 g.1 (apart_sym (apart_tail C y ys (x ∷ []) (apart_sym a))))
    ∙ sym (and_then_assoc (exec y t) (λ u. run ys u) (λ u. exec x u))

-- two lists
pub lists_commute : (C : List Path) (xs ys : List Step) (t : Tree) → Sorted t → Context C t → Apart C xs ys → and_then (run xs t) (λ u. run ys u) ≡ and_then (run ys t) (λ u. run xs u)
lists_commute C [] ys t s ctx a = plus_zero (run ys t) ∙ sym (and_then_skip (run ys t))
lists_commute C (x ∷ xs) ys t s ctx a =
    and_then_assoc (exec x t) (λ u. run xs u) (λ u. run ys u)
    ∙ and_then_cong (exec x t) (λ u. and_then (run xs u) (λ v. run ys v)) (λ u. and_then (run ys u) (λ v. run xs v))
    (λ r h. let g = context_grows C x t r s ctx (apart_head C x xs ys a).keeps h in
    lists_commute (step_makes_dirs x ++ C) xs ys r.0 g.0 g.1 (apart_tail C x xs ys a))
    ∙ sym (and_then_assoc (exec x t) (λ u. run ys u) (λ u. run xs u))
    ∙ ap (λ o. and_then o (λ u. run xs u)) (step_commutes C x ys t s ctx (apart_head C x xs ys a))
    ∙ and_then_assoc (run ys t) (λ u. exec x u) (λ u. run xs u)
