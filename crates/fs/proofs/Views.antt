-- An evaluation and its view have the same tree, count and due services. Assumes nothing.
use Rattle.std.proofs.Common.{◌≡◌, ℕ, zero, suc, ◌+◌, Bool, true, false, cond, ◌&&◌, ◌||◌, eqb, List, [], ◌∷◌, ◌++◌, length, sym, refl, ap, ◌∙◌, subst, ap₂}
use mathlib.Core.Option.{Option, none, some}
use Rattle.std.proofs.lemmas.Bool.{or_left, or_right, eq-eqb, eqb-true}
use Rattle.fs.specs.Tree.{Tree}
use Rattle.fs.specs.Fs.{Outcome, eval}
use Rattle.fs.specs.Manifest.{expr, changed, flagged, Manifest, Edge, resource, member, notifies, notified, is_service, due_to, Result, then_more, and_on, evaluate, with_due}
use Rattle.fs.proofs.Steps.{run}
use Rattle.fs.proofs.Resources.{planned, expr_is}
use Rattle.fs.proofs.Swap.{View, join, next, marked, viewed, move}
use Rattle.fs.proofs.Options.{some_eq, none_some}

abbrev pub view : Manifest → List ℕ → Tree → Option View
view m [] t = some (t, 0, λ j. false)
view m (i ∷ o) t = next (move m i t) (λ u. view m o u)

abbrev Seen : Manifest → Option Result → Option View → Type 0
Seen m none none = Unit {0}
Seen m none (some v) = ⊥
Seen m (some r) none = ⊥
Seen m (some r) (some v) = (r.0 ≡ v.0) × (r.1 ≡ v.1) × ((j : ℕ) → notifies m.edges j ≡ true → member j r.2 ≡ v.2 j)

member_more : (i j : ℕ) (l : List ℕ) (b n f : Bool) → (j ≡ i → n ≡ true) → member j l ≡ f → member j (cond b (i ∷ l) l) ≡ ((eqb j i && (n && b)) || f)
member_more i j l true n f h e = by (eqb j i) refl
  where
    by : (c : Bool) → eqb j i ≡ c → (c || member j l) ≡ ((c && (n && true)) || f)
    by true g = rw (h (eqb-true j i g))
    by false g = e
member_more i j l false n f h e = by (eqb j i) n
  where
    by : (c d : Bool) → member j l ≡ ((c && (d && false)) || f)
    by true true = e
    by true false = e
    by false d = e

seen : (m : Manifest) (o : List ℕ) (t : Tree) → Seen m (evaluate m o t) (view m o t)
seen m [] t = (refl, refl, λ j h. refl)
seen m (i ∷ o) t = subst (λ O. Seen m (and_on i (flagged (resource m i) t O) (λ u. evaluate m o u)) (view m (i ∷ o) t)) (sym (expr_is (resource m i) t)) (by (run (planned (resource m i) t) t) (λ u. seen m o u))
  where
    go : (x : Tree × ℕ) (a : Option Result) (b : Option View) → Seen m a b
        → Seen m (then_more i x.1 (changed (resource m i) t x.1) a) (join (x.0, x.1, λ j. eqb j i && marked m i t x.1) b)
    go x none none s = tt
    go x none (some v) s = s
    go x (some r) none s = s
    go x (some r) (some v) s =
        (s.0, ap (λ n. x.1 + n) s.1, λ j h. member_more i j r.2 (changed (resource m i) t x.1) (notifies m.edges i) (v.2 j) (λ e. ap (notifies m.edges) (sym e) ∙ h) (s.2 j h))

    by : (O : Outcome) → ((u : Tree) → Seen m (evaluate m o u) (view m o u)) → Seen m (and_on i (flagged (resource m i) t O) (λ u. evaluate m o u)) (next (viewed m i t O) (λ u. view m o u))
    by none ih = tt
    by (some x) ih = go x (evaluate m o x.0) (view m o x.0) (ih x.0)

-- the due services, from a view
abbrev notified_by : List Edge → (ℕ → Bool) → ℕ → Bool
notified_by [] f j = false
notified_by (e ∷ es) f j = (e.notify && (eqb e.to j && f e.from)) || notified_by es f j

notified_is : (es : List Edge) (l : List ℕ) (f : ℕ → Bool) (j : ℕ) → ((i : ℕ) → notifies es i ≡ true → member i l ≡ f i) → notified es l j ≡ notified_by es f j
notified_is [] l f j h = refl
notified_is (e ∷ es) l f j h = ap₂ ◌||◌ (by e.notify refl) (notified_is es l f j (λ i k. h i (or_right (e.notify && eqb e.from i) (notifies es i) k)))
  where
    by : (b : Bool) → e.notify ≡ b → (b && (eqb e.to j && member e.from l)) ≡ (b && (eqb e.to j && f e.from))
    by true g = ap (λ c. eqb e.to j && c) (h e.from (or_left (e.notify && eqb e.from e.from) (notifies es e.from) (rw (g, eq-eqb e.from e.from refl))))
    by false g = refl

abbrev due_by : Manifest → (ℕ → Bool) → ℕ → List ℕ
due_by m f zero = []
due_by m f (suc n) = due_by m f n ++ cond (is_service (resource m (suc n)) && notified_by m.edges f (suc n)) (suc n ∷ []) []

due_is : (m : Manifest) (l : List ℕ) (f : ℕ → Bool) (n : ℕ) → ((i : ℕ) → notifies m.edges i ≡ true → member i l ≡ f i) → due_to m l n ≡ due_by m f n
due_is m l f zero h = refl
due_is m l f (suc n) h = ap₂ (λ a b. a ++ cond (is_service (resource m (suc n)) && b) (suc n ∷ []) []) (due_is m l f n h) (notified_is m.edges l f (suc n) h)

abbrev view_due : Manifest → Option View → Option Result
view_due m none = none
view_due m (some v) = some (v.0, v.1, due_by m v.2 (length m.resources))

same_due : (m : Manifest) (a : Option Result) (b : Option View) → Seen m a b → with_due m a ≡ view_due m b
same_due m none none s = refl
same_due m none (some v) s = absurd s
same_due m (some r) none s = absurd s
same_due m (some r) (some v) s = λ i. some (s.0 i, s.1 i, due_is m r.2 v.2 (length m.resources) s.2 i)

-- equal views have the same tree, count and due services
pub due_alike : (m : Manifest) (o x : List ℕ) (t : Tree) → view m o t ≡ view m x t → with_due m (evaluate m o t) ≡ with_due m (evaluate m x t)
due_alike m o x t h = same_due m (evaluate m o t) (view m o t) (seen m o t) ∙ ap (view_due m) h ∙ sym (same_due m (evaluate m x t) (view m x t) (seen m x t))

-- an evaluation that came of its first resource and the rest
pub evaluate_first : (m : Manifest) (i : ℕ) (o : List ℕ) (t : Tree) (r : Result) → evaluate m (i ∷ o) t ≡ some r
    → (x : Tree × ℕ) × (q : Result) × (eval (expr (resource m i)) t ≡ some x) × (evaluate m o x.0 ≡ some q) × (r.0 ≡ q.0) × (r.1 ≡ x.1 + q.1)
evaluate_first m i o t r h = by (eval (expr (resource m i)) t) refl h
  where
    Parts : Type 0
    Parts = (x : Tree × ℕ) × (q : Result) × (eval (expr (resource m i)) t ≡ some x) × (evaluate m o x.0 ≡ some q) × (r.0 ≡ q.0) × (r.1 ≡ x.1 + q.1)

    by : (O : Outcome) → eval (expr (resource m i)) t ≡ O → and_on i (flagged (resource m i) t O) (λ u. evaluate m o u) ≡ some r → Parts
    by none e g = none_some g
    by (some x) e g = on (evaluate m o x.0) refl g
      where
        on : (Q : Option Result) → evaluate m o x.0 ≡ Q → then_more i x.1 (changed (resource m i) t x.1) Q ≡ some r → Parts
        on none f k = none_some k
        on (some q) f k = (x, q, e, f, ap (λ z. z.0) (sym (some_eq k)), ap (λ z. z.1) (sym (some_eq k)))
