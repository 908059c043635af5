-- The judgement finds what it looks for, and the least of it. Assumes nothing.
use Rattle.std.proofs.Common.{◌≡◌, ℕ, zero, suc, ◌<◌, ◌≤◌, Bool, true, false, cond, not, ◌&&◌, ◌||◌, eqb, ltb, leb, ◌≢◌, ◌⊎◌, ◌++◌, sym, refl, ap, ◌∙◌, subst, inl, inr, true≢false, arith}
use mathlib.Core.Option.{Option, none, some}
use Rattle.std.proofs.lemmas.Bool.{and_parts, and_from, or_parts, or_from, or_left, or_right, not-true, not_from_false, eq-eqb, ne_eqb, ltb-true, lt-ltb, le-leb, cases_eq, cases_order}
use Rattle.fs.specs.Manifest.{Manifest, size}
use Rattle.fs.specs.Footprint.{Footprint, footprint_of, disturbs, clash, meets}
use Rattle.fs.specs.Order.{numbered, Walk, Accepted, Steady}
use Rattle.fs.specs.Beginning.{Joined}
use Rattle.fs.specs.Judgement.{reaches, or_else, seek, every, least_circle, unordered_clash, least_clash, steady, accepted, clash_or, circle_or, UnorderedClash, LeastClash, Accepts, CircleIsLeast, ClashIsLeast, SteadyIsTested, Says, Judged}
use Rattle.fs.proofs.Swap.{or_comm}
use Rattle.fs.proofs.Reach.{numbered_parts, reaches_walk, walk_reaches, walk_ends}
use Rattle.fs.proofs.Options.{some_eq, none_some}

module _ {A : Type 0} (f : ℕ → Option A) where
  seek_none : (n : ℕ) → seek f n ≡ none → (i : ℕ) → 1 ≤ i → i ≤ n → f i ≡ none
  seek_none zero h i a b = absurd (omega arith)
  seek_none (suc n) h i a b = by (seek f n) refl h (λ e c. seek_none n e i a c) (cases_eq i (suc n))
    where
      by : (o : Option A) → seek f n ≡ o → or_else o (f (suc n)) ≡ none → (seek f n ≡ none → i ≤ n → f i ≡ none) → (i ≡ suc n) ⊎ (i ≡ suc n → ⊥) → f i ≡ none
      by none e k ih (inl c) = ap f c ∙ k
      by none e k ih (inr c) = ih e (omega arith)
      by (some y) e k ih c = none_some (sym k)

  none_seek : (n : ℕ) → ((i : ℕ) → 1 ≤ i → i ≤ n → f i ≡ none) → seek f n ≡ none
  none_seek zero h = refl
  none_seek (suc n) h = rw (none_seek n (λ i a b. h i a (omega arith))) (h (suc n) (omega arith) (omega arith))

  -- an answer comes from some number, and from none below it
  Found : ℕ → A → Type 0
  Found n x = (k : ℕ) × (1 ≤ k) × (k ≤ n) × (f k ≡ some x) × ((i : ℕ) → 1 ≤ i → i < k → f i ≡ none)

  seek_some : (n : ℕ) (x : A) → seek f n ≡ some x → Found n x
  unfolding Found
  seek_some zero x h = none_some h
  seek_some (suc n) x h = by (seek f n) refl h (seek_some n x)
    where
      by : (o : Option A) → seek f n ≡ o → or_else o (f (suc n)) ≡ some x → (seek f n ≡ some x → Found n x) → Found (suc n) x
      by none e k ih = (suc n, omega arith, omega arith, k, λ i a b. seek_none n e i a (omega arith))
      by (some y) e k ih = let z = ih (e ∙ k) in (z.0, z.1, let w = z.2 in omega arith, z.3, z.4)

-- an answer by a test
tested : {A : Type 0} (b : Bool) (x y : A) → cond b (some x) none ≡ some y → (b ≡ true) × (x ≡ y)
tested true x y h = (refl, some_eq h)
tested false x y h = none_some h

tested_no : {A : Type 0} (b : Bool) (x : A) → cond b (some x) none ≡ none → b ≡ false
tested_no true x h = none_some (sym h)
tested_no false x h = refl

every_true : (f : ℕ → Bool) (n : ℕ) → every f n ≡ true → (i : ℕ) → 1 ≤ i → i ≤ n → f i ≡ true
every_true f zero h i a b = absurd (omega arith)
every_true f (suc n) h i a b = by (and_parts (every f n) (f (suc n)) h) (λ e c. every_true f n e i a c) (cases_eq i (suc n))
  where
    by : (every f n ≡ true) × (f (suc n) ≡ true) → (every f n ≡ true → i ≤ n → f i ≡ true) → (i ≡ suc n) ⊎ (i ≡ suc n → ⊥) → f i ≡ true
    by p ih (inl c) = ap f c ∙ p.1
    by p ih (inr c) = ih p.0 (omega arith)

true_every : (f : ℕ → Bool) (n : ℕ) → ((i : ℕ) → 1 ≤ i → i ≤ n → f i ≡ true) → every f n ≡ true
true_every f zero h = refl
true_every f (suc n) h = and_from (every f n) (f (suc n)) (true_every f n (λ i a b. h i a (omega arith))) (h (suc n) (omega arith) (omega arith))

clash_sym : (f g : Footprint) → clash f g ≡ clash g f
clash_sym f g = or_comm (disturbs f g) (disturbs g f)

module _ (m : Manifest) where
  numbered_from : (i : ℕ) → 1 ≤ i → i ≤ size m → numbered m i ≡ true
  numbered_from i a b = and_from (leb 1 i) (leb i (size m)) (le-leb 1 i a) (le-leb i (size m) b)

  no_walk : (i j : ℕ) → reaches m i j ≡ false → Joined m → Walk m i j → ⊥
  no_walk i j h jn r = true≢false (sym (walk_reaches m jn r) ∙ h)

  no_reach : (i j : ℕ) → (Walk m i j → ⊥) → reaches m i j ≡ false
  no_reach i j h = by (reaches m i j) refl
    where
      by : (b : Bool) → reaches m i j ≡ b → b ≡ false
      by true e = absurd (h (reaches_walk m i j e))
      by false e = refl

  clash_from : Joined m → (i j : ℕ) → numbered m i ≡ true → numbered m j ≡ true → unordered_clash m i j ≡ true → UnorderedClash m i j
  clash_from jn i j a b h =
      let p = and_parts (ltb i j) (clash (footprint_of m i) (footprint_of m j) && not (reaches m i j || reaches m j i)) h in
      let q = and_parts (clash (footprint_of m i) (footprint_of m j)) (not (reaches m i j || reaches m j i)) p.1 in
      let r = or_parts (reaches m i j) (reaches m j i) (not-true (reaches m i j || reaches m j i) q.1) in
      record { left = a; right = b; rising = ltb-true i j p.0; clash_is = q.0; no_walk = no_walk i j r.0 jn; no_walk_back = no_walk j i r.1 jn }

  clash_test : (i j : ℕ) → UnorderedClash m i j → unordered_clash m i j ≡ true
  clash_test i j h =
      and_from (ltb i j) (clash (footprint_of m i) (footprint_of m j) && not (reaches m i j || reaches m j i)) (lt-ltb i j h.rising)
      (and_from (clash (footprint_of m i) (footprint_of m j)) (not (reaches m i j || reaches m j i)) h.clash_is
      (not_from_false (reaches m i j || reaches m j i) (or_from (reaches m i j) (reaches m j i) (no_reach i j h.no_walk) (no_reach j i h.no_walk_back))))

pub circle_is_least : CircleIsLeast
unfolding Found
circle_is_least m jn k h =
    let z = seek_some (λ i. cond (reaches m i i) (some i) none) (size m) k h in
    let p = tested (reaches m z.0 z.0) z.0 k z.3 in
    (subst (λ x. Walk m x x) p.1 (reaches_walk m z.0 z.0 p.0), λ i r. least i r (z.4 i) p.1)
  where
    least : (i : ℕ) → Walk m i i → {l : ℕ} → (1 ≤ i → i < l → cond (reaches m i i) (some i) none ≡ none) → l ≡ k → k ≤ i
    least i r {l} below e = by (cases_order i k)
      where
        at : 1 ≤ i
        at = (numbered_parts m i (walk_ends m jn r).0).0

        by : (i ≡ k) ⊎ ((i < k) ⊎ (k < i)) → k ≤ i
        by (inl c) = omega arith
        by (inr (inl c)) = absurd (true≢false (sym (walk_reaches m jn r) ∙ tested_no (reaches m i i) i (below at (omega arith))))
        by (inr (inr c)) = omega arith

-- the pair, where it clashes and is not ordered; and the first such pair of i
abbrev pair_at : Manifest → ℕ → ℕ → Option (ℕ × ℕ)
pair_at m i j = cond (unordered_clash m i j) (some (i, j)) none

abbrev partner : Manifest → ℕ → Option (ℕ × ℕ)
partner m i = seek (pair_at m i) (size m)

-- where there is no partner, there is no such pair
alone : (m : Manifest) (i j : ℕ) → UnorderedClash m i j → partner m i ≡ none → ⊥
alone m i j h e =
    let n = numbered_parts m j h.right in
    true≢false (sym (clash_test m i j h) ∙ tested_no (unordered_clash m i j) (i, j) (seek_none (pair_at m i) (size m) e j n.0 n.1))

pub clash_is_least : ClashIsLeast
unfolding Found
clash_is_least m jn p h = on (seek_some (partner m) (size m) p h)
  where
    on : (k : ℕ) × (1 ≤ k) × (k ≤ size m) × (partner m k ≡ some p) × ((i : ℕ) → 1 ≤ i → i < k → partner m i ≡ none)
        → LeastClash m p.0 p.1
    on z = with_second (seek_some (pair_at m k) (size m) p z.3)
      where
        k : ℕ
        k = z.0

        with_second : (l : ℕ) × (1 ≤ l) × (l ≤ size m) × (pair_at m k l ≡ some p) × ((j : ℕ) → 1 ≤ j → j < l → pair_at m k j ≡ none)
            → LeastClash m p.0 p.1
        with_second y = (subst (λ w. UnorderedClash m w.0 w.1) q.1 (clash_from m jn k l (numbered_from m k z.1 z.2) (numbered_from m l y.1 y.2) q.0), λ i j g. by i j g (cases_order i k) (cases_order j l))
          where
            l : ℕ
            l = y.0

            q : (unordered_clash m k l ≡ true) × ((k, l) ≡ p)
            q = tested (unordered_clash m k l) (k, l) p y.3

            first : k ≡ p.0
            first = ap (λ w. w.0) q.1

            second : l ≡ p.1
            second = ap (λ w. w.1) q.1

            by : (i j : ℕ) → UnorderedClash m i j → (i ≡ k) ⊎ ((i < k) ⊎ (k < i)) → (j ≡ l) ⊎ ((j < l) ⊎ (l < j)) → (p.0 < i) ⊎ ((p.0 ≡ i) × (p.1 ≤ j))
            by i j g (inr (inl c)) d = absurd (alone m i j g (z.4 i (numbered_parts m i g.left).0 c))
            by i j g (inr (inr c)) d = inl (omega (arith, first))
            by i j g (inl c) (inl d) = inr (sym first ∙ sym c, omega (arith, second))
            by i j g (inl c) (inr (inr d)) = inr (sym first ∙ sym c, omega (arith, second))
            by i j g (inl c) (inr (inl d)) =
                absurd (true≢false (sym (clash_test m i j g) ∙ ap (λ x. unordered_clash m x j) c ∙ tested_no (unordered_clash m k j) (k, j) (y.4 j (numbered_parts m j g.right).0 d)))

no_circle : (m : Manifest) → Joined m → least_circle m ≡ none → (i : ℕ) → Walk m i i → ⊥
no_circle m jn h i r =
    let n = numbered_parts m i (walk_ends m jn r).0 in
    true≢false (sym (walk_reaches m jn r) ∙ tested_no (reaches m i i) i (seek_none (λ i. cond (reaches m i i) (some i) none) (size m) h i n.0 n.1))

pub accepts_is : Accepts
accepts_is m jn = (λ h. record { no_circle = no_circle m jn h.0; no_clash = λ i j a b ne r s. no_clash h.1 i j a b r s (cases_order i j) ne }, λ acc. (open_circle acc, open_clash acc))
  where
    clear : least_clash m ≡ none → (i j : ℕ) → numbered m i ≡ true → numbered m j ≡ true → (Walk m i j → ⊥) → (Walk m j i → ⊥) → i < j → (c : Bool) → clash (footprint_of m i) (footprint_of m j) ≡ c → c ≡ false
    clear h i j a b r s lt true e =
        let n = numbered_parts m i a in
        absurd (alone m i j (record { left = a; right = b; rising = lt; clash_is = e; no_walk = r; no_walk_back = s }) (seek_none (partner m) (size m) h i n.0 n.1))
    clear h i j a b r s lt false e = refl

    no_clash : least_clash m ≡ none → (i j : ℕ) → numbered m i ≡ true → numbered m j ≡ true → (Walk m i j → ⊥) → (Walk m j i → ⊥) → (i ≡ j) ⊎ ((i < j) ⊎ (j < i)) → i ≢ j → clash (footprint_of m i) (footprint_of m j) ≡ false
    no_clash h i j a b r s (inl c) ne = absurd (ne c)
    no_clash h i j a b r s (inr (inl c)) ne = clear h i j a b r s c (clash (footprint_of m i) (footprint_of m j)) refl
    no_clash h i j a b r s (inr (inr c)) ne = clash_sym (footprint_of m i) (footprint_of m j) ∙ clear h j i b a s r c (clash (footprint_of m j) (footprint_of m i)) refl

    open_circle : Accepted m → least_circle m ≡ none
    open_circle acc = none_seek (λ i. cond (reaches m i i) (some i) none) (size m) (λ i a b. ap (λ c. cond c (some i) none) (no_reach m i i (acc.no_circle i)))

    open_clash : Accepted m → least_clash m ≡ none
    open_clash acc = none_seek (partner m) (size m) (λ i a b. none_seek (pair_at m i) (size m) (λ j c d. ap (λ x. cond x (some (i, j)) none) (by i j a b c d (unordered_clash m i j) refl)))
      where
        by : (i j : ℕ) → 1 ≤ i → i ≤ size m → 1 ≤ j → j ≤ size m → (x : Bool) → unordered_clash m i j ≡ x → x ≡ false
        by i j a b c d true e =
            let g = clash_from m jn i j (numbered_from m i a b) (numbered_from m j c d) e in
            absurd (true≢false (sym g.clash_is ∙ acc.no_clash i j g.left g.right (λ z. let w = g.rising in omega arith) g.no_walk g.no_walk_back))
        by i j a b c d false e = refl

pub steady_is_tested : SteadyIsTested
steady_is_tested m = (λ h i j a b ne. apart i j ne (every_true (test i) (size m) (every_true (λ i. every (test i) (size m)) (size m) h i (numbered_parts m i a).0 (numbered_parts m i a).1) j (numbered_parts m j b).0 (numbered_parts m j b).1), λ st. true_every (λ i. every (test i) (size m)) (size m) (λ i a b. true_every (test i) (size m) (λ j c d. met st i j (numbered_from m i a b) (numbered_from m j c d) (cases_eq i j))))
  where
    M : ℕ → ℕ → Bool
    M i j = meets (footprint_of m i).W ((footprint_of m j).W ++ (footprint_of m j).D)

    test : ℕ → ℕ → Bool
    test i j = eqb i j || not (M i j)

    apart : (i j : ℕ) → i ≢ j → test i j ≡ true → M i j ≡ false
    apart i j ne h = not-true (M i j) (sym (ap (λ b. b || not (M i j)) (ne_eqb i j ne)) ∙ h)

    met : Steady m → (i j : ℕ) → numbered m i ≡ true → numbered m j ≡ true → (i ≡ j) ⊎ (i ≡ j → ⊥) → test i j ≡ true
    met st i j a b (inl c) = or_left (eqb i j) (not (M i j)) (eq-eqb i j c)
    met st i j a b (inr c) = or_right (eqb i j) (not (M i j)) (not_from_false (M i j) (st i j a b c))

pub judged : Judged
judged m jn = by (least_circle m) refl (least_clash m) refl
  where
    by : (c : Option ℕ) → least_circle m ≡ c → (d : Option (ℕ × ℕ)) → least_clash m ≡ d → Says m (circle_or c (clash_or d (accepted (size m) (steady m))))
    by (some k) e d f = circle_is_least m jn k e
    by none e (some p) f = (no_circle m jn e, clash_is_least m jn p f)
    by none e none f = ((accepts_is m jn).0 (e, f), refl, steady_is_tested m)
