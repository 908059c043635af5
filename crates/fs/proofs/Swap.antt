-- Two resources that do not clash can change places. A view of an evaluation has the tree, the count, and a test for which resources that notify were changed. Assumes nothing.
use Rattle.std.proofs.Common.{◌≡◌, ℕ, ◌+◌, Bool, true, false, cond, ◌&&◌, ◌||◌, eqb, List, [], sym, refl, ap, ◌∙◌, subst, ap₂, add_assoc}
use mathlib.Core.Bool.{false≢true}
use mathlib.Core.Option.{Option, none, some}
use Rattle.fs.specs.Tree.{Path, Tree, Sorted}
use Rattle.fs.specs.Fs.{Outcome, plus, and_then}
use Rattle.fs.specs.Manifest.{Step, steps, changed, Manifest, resource, notifies}
use Rattle.fs.specs.Footprint.{footprint_of, clash}
use Rattle.fs.proofs.Steps.{run}
use Rattle.fs.proofs.Apart.{In, paths, Apart}
use Rattle.fs.proofs.Resources.{and_then_parts, framed, planned, skipped, planned_is, skipped_stays, steps_apart, clash_parts, Undisturbed, run_commutes, mark_stays, fp_paths}
use Rattle.fs.proofs.Options.{some_eq, none_some}

abbrev pub View : Type 0
View = Tree × ℕ × (ℕ → Bool)

abbrev pub join : View → Option View → Option View
join x none = none
join x (some y) = some (y.0, x.1 + y.1, λ j. x.2 j || y.2 j)

abbrev pub next : Option View → (Tree → Option View) → Option View
next none f = none
next (some x) f = join x (f x.0)

or_assoc : (a b c : Bool) → ((a || b) || c) ≡ (a || (b || c))
or_assoc true b c = refl
or_assoc false b c = refl

pub or_comm : (a b : Bool) → (a || b) ≡ (b || a)
or_comm true true = refl
or_comm true false = refl
or_comm false true = refl
or_comm false false = refl

join_join : (x y : View) (o : Option View) → join (y.0, x.1 + y.1, λ j. x.2 j || y.2 j) o ≡ join x (join y o)
join_join x y none = refl
join_join x y (some z) = λ i. some (z.0, add_assoc x.1 y.1 z.1 i, λ j. or_assoc (x.2 j) (y.2 j) (z.2 j) i)

join_next : (x : View) (o : Option View) (g : Tree → Option View) → next (join x o) g ≡ join x (next o g)
join_next x none g = refl
join_next x (some y) g = join_join x y (g y.0)

pub next_assoc : (o : Option View) (f g : Tree → Option View) → next (next o f) g ≡ next o (λ u. next (f u) g)
next_assoc none f g = refl
next_assoc (some x) f g = join_next x (f x.0) g

pub next_cong : (o : Option View) (f g : Tree → Option View) → ((x : View) → o ≡ some x → f x.0 ≡ g x.0) → next o f ≡ next o g
next_cong none f g h = refl
next_cong (some x) f g h = ap (join x) (h x refl)

-- i was changed, and notifies
abbrev pub marked : Manifest → ℕ → Tree → ℕ → Bool
marked m i t k = notifies m.edges i && changed (resource m i) t k

abbrev pub viewed : Manifest → ℕ → Tree → Outcome → Option View
viewed m i t none = none
viewed m i t (some x) = some (x.0, x.1, λ j. eqb j i && marked m i t x.1)

abbrev pub move : Manifest → ℕ → Tree → Option View
move m i t = viewed m i t (run (planned (resource m i) t) t)

pub move_sorted : (m : Manifest) (i : ℕ) (t : Tree) (x : View) → Sorted t → move m i t ≡ some x → Sorted x.0
move_sorted m i t x s h = by (run (planned (resource m i) t) t) refl h
  where
    by : (o : Outcome) → run (planned (resource m i) t) t ≡ o → viewed m i t o ≡ some x → Sorted x.0
    by none e k = none_some k
    by (some y) e k = subst Sorted (ap (λ v. v.0) (some_eq k)) (framed (planned (resource m i) t) t y s e).sorted

-- with fewer steps on the right
apart_fewer : (C : List Path) (xs ys : List Step) (b : Bool) → Apart C xs ys → Apart C xs (cond b [] ys)
apart_fewer C xs ys false a = a
apart_fewer C xs ys true a = record {
  written = λ p h k. false≢true k;
  written' = λ p h k. false≢true h;
  read = λ p h k. false≢true h;
  read' = λ p h k. false≢true k;
  beneath = λ p h k. false≢true h;
  beneath' = λ p h k. false≢true k;
  keeps = a.keeps;
  keeps' = λ p h k. false≢true h;
  own = a.own;
  own' = λ p h k. false≢true h;
}

pub paths_fewer : (ys : List Step) (b : Bool) (p : Path) → In p (paths (cond b [] ys)) → In p (paths ys)
paths_fewer ys false p h = h
paths_fewer ys true p h = absurd (false≢true h)

pub resources_swap : (m : Manifest) (i j : ℕ) (t : Tree) → Sorted t → clash (footprint_of m i) (footprint_of m j) ≡ false → next (move m i t) (λ u. move m j u) ≡ next (move m j t) (λ u. move m i u)
resources_swap m i j t s h = settled i j free_j ∙ by (and_then (X i) (λ u. run (P j) u)) refl ∙ sym (settled j i free_i)
  where
    P : ℕ → List Step
    P k = planned (resource m k) t

    X : ℕ → Outcome
    X k = run (P k) t

    Free : ℕ → ℕ → Type 0
    Free k l = (Apart [] (steps (resource m k)) (P l)) × ((p : Path) → In p (footprint_of m k).W → In p (paths (P l)) → ⊥)

    free : (k l : ℕ) → Undisturbed (footprint_of m k) (footprint_of m l) → Undisturbed (footprint_of m l) (footprint_of m k) → Free k l
    free k l u v = rw (planned_is (resource m l) t) (
      apart_fewer [] (steps (resource m k)) (steps (resource m l)) (skipped (resource m l) t) (steps_apart (resource m k) (resource m l) (notifies m.edges k) (notifies m.edges l) u v),
      λ p a b. u.not_written p a (fp_paths p (resource m l) (notifies m.edges l) (paths_fewer (steps (resource m l)) (skipped (resource m l) t) p b)),
    )

    parts : Undisturbed (footprint_of m i) (footprint_of m j) × Undisturbed (footprint_of m j) (footprint_of m i)
    parts = clash_parts (footprint_of m i) (footprint_of m j) h

    free_j : Free j i
    free_j = free j i parts.1 parts.0

    free_i : Free i j
    free_i = free i j parts.0 parts.1

    plan : (k l : ℕ) → Free l k → (x : Tree × ℕ) → X k ≡ some x → planned (resource m l) x.0 ≡ P l
    plan k l f x e =
        planned_is (resource m l) x.0 ∙ ap (λ b. cond b [] (steps (resource m l))) (skipped_stays (resource m l) (P k) t x.0 f.0 (framed (P k) t x s e)) ∙ sym (planned_is (resource m l) t)

    -- the second resource plans on t already
    settled : (k l : ℕ) → Free l k → next (move m k t) (λ u. move m l u) ≡ next (viewed m k t (X k)) (λ u. viewed m l u (run (P l) u))
    settled k l f = go (X k) refl
      where
        go : (o : Outcome) → X k ≡ o → next (viewed m k t o) (λ u. move m l u) ≡ next (viewed m k t o) (λ u. viewed m l u (run (P l) u))
        go none e = refl
        go (some x) e = ap (λ q. join (x.0, x.1, λ n. eqb n k && marked m k t x.1) (viewed m l x.0 (run q x.0))) (plan k l f x e)

    comm : and_then (X i) (λ u. run (P j) u) ≡ and_then (X j) (λ u. run (P i) u)
    comm = rw (planned_is (resource m i) t, planned_is (resource m j) t)
        (run_commutes (steps (resource m i)) (steps (resource m j)) (skipped (resource m i) t) (skipped (resource m j) t) t s
        (steps_apart (resource m i) (resource m j) (notifies m.edges i) (notifies m.edges j) parts.0 parts.1))

    fails : (k l : ℕ) (o : Outcome) (f : Tree → Outcome) → and_then o f ≡ none → next (viewed m k t o) (λ u. viewed m l u (f u)) ≡ none
    fails k l none f e = refl
    fails k l (some x) f e = go (f x.0) e
      where
        go : (q : Outcome) → plus x.1 q ≡ none → join (x.0, x.1, λ n. eqb n k && marked m k t x.1) (viewed m l x.0 q) ≡ none
        go none g = refl
        go (some y) g = none_some (sym g)

    gives : (k l : ℕ) (o : Outcome) (f : Tree → Outcome) (x y : Tree × ℕ) → o ≡ some x → f x.0 ≡ some y
        → next (viewed m k t o) (λ u. viewed m l u (f u)) ≡ some (y.0, x.1 + y.1, λ n. (eqb n k && marked m k t x.1) || (eqb n l && marked m l x.0 y.1))
    gives k l o f x y e g = rw (e, g)

    by : (o : Outcome) → and_then (X i) (λ u. run (P j) u) ≡ o → next (viewed m i t (X i)) (λ u. viewed m j u (run (P j) u)) ≡ next (viewed m j t (X j)) (λ u. viewed m i u (run (P i) u))
    by none e = fails i j (X i) (λ u. run (P j) u) e ∙ sym (fails j i (X j) (λ u. run (P i) u) (sym comm ∙ e))
    by (some r) e = on (and_then_parts (X i) (λ u. run (P j) u) r e) (and_then_parts (X j) (λ u. run (P i) u) r (sym comm ∙ e))
      where
        Parts : ℕ → ℕ → Type 0
        Parts k l = (v : Tree × ℕ) × (w : Tree × ℕ) × (X k ≡ some v) × (run (P l) v.0 ≡ some w) × (r ≡ (w.0, v.1 + w.1))

        stays : (k l : ℕ) → Free k l → (v w y : Tree × ℕ) → X k ≡ some v → X l ≡ some y → run (P k) y.0 ≡ some w → marked m k t v.1 ≡ marked m k y.0 w.1
        stays k l f v w y a b c =
            mark_stays (resource m k) (notifies m.edges k) (P l) t y.0 v w s f.0 f.1 (framed (P l) t y s b) a (ap (λ q. run q y.0) (plan l k f y b) ∙ c)

        on : Parts i j → Parts j i → next (viewed m i t (X i)) (λ u. viewed m j u (run (P j) u)) ≡ next (viewed m j t (X j)) (λ u. viewed m i u (run (P i) u))
        on a b =
            gives i j (X i) (λ u. run (P j) u) a.0 a.1 a.2 a.3
            ∙ (λ d. some (
              ((sym a.4 ∙ b.4) d).0,
              ((sym a.4 ∙ b.4) d).1,
              λ n. (or_comm (eqb n i && marked m i t a.0.1) (eqb n j && marked m j a.0.0 a.1.1)
                  ∙ ap₂ (λ p q. (eqb n j && p) || (eqb n i && q)) (sym (stays j i free_j b.0 a.1 a.0 b.2 a.2 a.3)) (stays i j free_i a.0 b.1 b.0 a.2 b.2 b.3)) d,
            ))
            ∙ sym (gives j i (X j) (λ u. run (P i) u) b.0 b.1 b.2 b.3)
