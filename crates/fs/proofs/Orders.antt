-- Any two permitted orders give one view: what comes first in the one moves to the front of the other, past resources with which it does not clash. Assumes nothing.
use Rattle.std.proofs.Common.{◌≡◌, ℕ, suc, ◌<◌, ◌≤◌, Bool, true, false, cond, eqb, ◌≢◌, List, [], ◌∷◌, sym, refl, ap, ◌∙◌, subst, arith}
use Rattle.std.proofs.lemmas.Bool.{eqb-true, eqb-false, eq-eqb, ne_eqb}
use Rattle.std.proofs.lemmas.Bool.Decides.{nat_tests}
use Rattle.fs.specs.Tree.{Tree, Sorted}
use Rattle.fs.specs.Manifest.{Manifest}
use Rattle.fs.specs.Footprint.{footprint_of, clash}
use Rattle.fs.specs.Order.{occurs, place, numbered, Permitted, Walk, one, more, Accepted, OrderIsFree}
use Rattle.fs.proofs.Swap.{next, next_assoc, next_cong, move, move_sorted, resources_swap}
use Rattle.fs.proofs.Views.{view, due_alike}

-- the list without the first x
abbrev pub drop : ℕ → List ℕ → List ℕ
drop x [] = []
drop x (y ∷ o) = cond (eqb x y) o (y ∷ drop x o)

pub occurs_here : (i : ℕ) (o : List ℕ) → 0 < occurs i (i ∷ o)
occurs_here i o = rw (eq-eqb i i refl) (omega arith)

pub occurs_there : (i j : ℕ) (o : List ℕ) → 0 < occurs i o → 0 < occurs i (j ∷ o)
occurs_there i j o h = grind (arith, nat_tests)

pub occurs_few : (i j : ℕ) (o : List ℕ) → occurs i (j ∷ o) ≤ 1 → occurs i o ≤ 1
occurs_few i j o h = grind (arith, nat_tests)

pub occurs_gone : (i : ℕ) (o : List ℕ) → occurs i (i ∷ o) ≤ 1 → occurs i o ≡ 0
occurs_gone i o h = let k : suc (occurs i o) ≤ 1 = subst (λ b. cond b (suc (occurs i o)) (occurs i o) ≤ 1) (eq-eqb i i refl) h in omega arith

module _ (x : ℕ) where
  pub occurs_drop : (o : List ℕ) (i : ℕ) → 0 < occurs x o → occurs i o ≡ cond (eqb i x) (suc (occurs i (drop x o))) (occurs i (drop x o))
  occurs_drop [] i h = absurd (omega arith)
  occurs_drop (y ∷ o) i h = by (occurs_drop o i)
    where
      by : (0 < occurs x o → occurs i o ≡ cond (eqb i x) (suc (occurs i (drop x o))) (occurs i (drop x o)))
          → occurs i (y ∷ o) ≡ cond (eqb i x) (suc (occurs i (drop x (y ∷ o)))) (occurs i (drop x (y ∷ o)))
      by ih = grind (arith, nat_tests)

  place_drop : (o : List ℕ) (i j : ℕ) → i ≢ x → j ≢ x → place (drop x o) i < place (drop x o) j → place o i < place o j
  place_drop [] i j a b h = h
  place_drop (y ∷ o) i j a b h = by (place_drop o i j a b)
    where
      by : (place (drop x o) i < place (drop x o) j → place o i < place o j) → place (y ∷ o) i < place (y ∷ o) j
      by ih = grind (arith, nat_tests)

-- x moves to the front
to_front : (m : Manifest) (x : ℕ) (o : List ℕ) (t : Tree) → Sorted t → 0 < occurs x o
    → ((y : ℕ) → 0 < occurs y o → place o y < place o x → clash (footprint_of m y) (footprint_of m x) ≡ false) → view m o t ≡ view m (x ∷ drop x o) t
to_front m x [] t s h free = absurd (omega arith)
to_front m x (y ∷ o) t s h free = by (eqb x y) refl (λ u k. to_front m x o u k)
  where
    by : (b : Bool) → eqb x y ≡ b
        → ((u : Tree) → Sorted u → 0 < occurs x o → ((z : ℕ) → 0 < occurs z o → place o z < place o x → clash (footprint_of m z) (footprint_of m x) ≡ false) → view m o u ≡ view m (x ∷ drop x o) u)
        → view m (y ∷ o) t ≡ view m (x ∷ cond b o (y ∷ drop x o)) t
    by true e ih = ap (λ z. view m (z ∷ o) t) (sym (eqb-true x y e))
    by false e ih =
        next_cong (move m y t) (λ u. view m o u) (λ u. view m (x ∷ drop x o) u) (λ v k. ih v.0 (move_sorted m y t v s k) there free_below)
        ∙ sym (next_assoc (move m y t) (λ u. move m x u) (λ u. view m (drop x o) u))
        ∙ ap (λ w. next w (λ u. view m (drop x o) u)) (resources_swap m y x t s free_y)
        ∙ next_assoc (move m x t) (λ u. move m y u) (λ u. view m (drop x o) u)
      where
        ne : x ≢ y
        ne = eqb-false x y e

        there : 0 < occurs x o
        there = grind (arith, nat_tests)

        free_y : clash (footprint_of m y) (footprint_of m x) ≡ false
        free_y = free y (occurs_here y o) before_x
          where
            before_x : place (y ∷ o) y < place (y ∷ o) x
            before_x = rw (eq-eqb y y refl, e) (omega arith)

        free_below : (z : ℕ) → 0 < occurs z o → place o z < place o x → clash (footprint_of m z) (footprint_of m x) ≡ false
        free_below z a b = go (eqb z y) refl
          where
            go : (c : Bool) → eqb z y ≡ c → clash (footprint_of m z) (footprint_of m x) ≡ false
            go true f = ap (λ w. clash (footprint_of m w) (footprint_of m x)) (eqb-true z y f) ∙ free_y
            go false f = free z (rw f a) (rw (f, e) (omega arith))

-- two lists of the same numbers, each once, in which what changes places does not clash
alike : (m : Manifest) (p o : List ℕ) (t : Tree) → Sorted t → ((i : ℕ) → occurs i o ≡ occurs i p) → ((i : ℕ) → occurs i p ≤ 1)
    → ((i j : ℕ) → 0 < occurs i o → 0 < occurs j o → place o i < place o j → place p j < place p i → clash (footprint_of m i) (footprint_of m j) ≡ false) → view m o t ≡ view m p t
alike m [] [] t s same few free = refl
alike m [] (y ∷ o) t s same few free = absurd (omega (arith, occurs_here y o, same y))
alike m (x ∷ p) o t s same few free =
    to_front m x o t s here (λ y a b. free y x a here b (rw (eq-eqb x x refl, ne_eqb y x (apart y b)) (omega arith)))
    ∙ next_cong (move m x t) (λ u. view m (drop x o) u) (λ u. view m p u) (λ v k. alike m p (drop x o) v.0 (move_sorted m x t v s k) same' few' free')
  where
    here : 0 < occurs x o
    here = rw (same x, eq-eqb x x refl) (omega arith)

    apart : (y : ℕ) → place o y < place o x → y ≢ x
    apart y b e = let k : place o y ≡ place o x = ap (place o) e in omega arith

    none_left : occurs x p ≡ 0
    none_left = occurs_gone x p (few x)

    same' : (i : ℕ) → occurs i (drop x o) ≡ occurs i p
    same' i = let k = occurs_drop x o i here in let l = same i in grind (arith, nat_tests)

    few' : (i : ℕ) → occurs i p ≤ 1
    few' i = occurs_few i x p (few i)

    not_x : (i : ℕ) → 0 < occurs i (drop x o) → i ≢ x
    not_x i h e = let k : occurs i (drop x o) ≡ 0 = same' i ∙ ap (λ n. occurs n p) e ∙ none_left in omega arith

    in_o : (i : ℕ) → 0 < occurs i (drop x o) → 0 < occurs i o
    in_o i h = let k = occurs_drop x o i here in grind (arith, nat_tests)

    free' : (i j : ℕ) → 0 < occurs i (drop x o) → 0 < occurs j (drop x o) → place (drop x o) i < place (drop x o) j → place p j < place p i → clash (footprint_of m i) (footprint_of m j) ≡ false
    free' i j a b c d = free i j (in_o i a) (in_o j b) (place_drop x o i j (not_x i a) (not_x j b) c) (rw (ne_eqb i x (not_x i a), ne_eqb j x (not_x j b)) (omega arith))

pub walk_forward : (m : Manifest) (o : List ℕ) → Permitted m o → {i j : ℕ} → Walk m i j → place o i < place o j
walk_forward m o p (one h) = p.forward _ _ h
walk_forward m o p (more {i = i} {j = j} {k = k} h r) = let a : place o i < place o j = p.forward i j h in let b : place o j < place o k = walk_forward m o p r in omega arith

pub few_once : (m : Manifest) (o : List ℕ) → Permitted m o → (i : ℕ) → occurs i o ≤ 1
few_once m o p i = by (numbered m i) (p.once i)
  where
    by : (b : Bool) → occurs i o ≡ cond b 1 0 → occurs i o ≤ 1
    by true e = omega arith
    by false e = omega arith

pub numbered_once : (m : Manifest) (o : List ℕ) → Permitted m o → (i : ℕ) → 0 < occurs i o → numbered m i ≡ true
numbered_once m o p i h = by (numbered m i) refl
  where
    by : (b : Bool) → numbered m i ≡ b → b ≡ true
    by true e = refl
    by false e = let k : occurs i o ≡ 0 = p.once i ∙ ap (λ b. cond b 1 0) e in absurd (omega arith)

pub orders_alike : (m : Manifest) → Accepted m → (t : Tree) → Sorted t → (o p : List ℕ) → Permitted m o → Permitted m p → view m o t ≡ view m p t
orders_alike m acc t s o p a b = alike m p o t s (λ i. a.once i ∙ sym (b.once i)) (few_once m p b) free
  where
    free : (i j : ℕ) → 0 < occurs i o → 0 < occurs j o → place o i < place o j → place p j < place p i → clash (footprint_of m i) (footprint_of m j) ≡ false
    free i j h k c d =
        acc.no_clash i j (numbered_once m o a i h) (numbered_once m o a j k) (λ e. let z : place o i ≡ place o j = ap (place o) e in omega arith)
        (λ r. let z = walk_forward m p b r in omega arith) (λ r. let z = walk_forward m o a r in omega arith)

pub order_is_free : OrderIsFree
order_is_free m acc t s o p a b = due_alike m o p t (orders_alike m acc t s o p a b)
