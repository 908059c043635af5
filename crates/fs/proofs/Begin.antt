-- Resources in the order of how many lead to them make a permitted order; a beginning goes on with the rest of any permitted order. Assumes nothing.
use Rattle.std.proofs.Common.{◌≡◌, ℕ, zero, suc, ◌+◌, ◌<◌, ◌≤◌, Bool, true, false, cond, ◌&&◌, eqb, ltb, leb, ◌⊎◌, List, [], ◌∷◌, ◌++◌, length, sym, refl, ap, ◌∙◌, subst, inl, inr, true≢false, arith}
use mathlib.Core.Option.{Option, none, some}
use Rattle.std.proofs.lemmas.Bool.{cases_eq, cases_lt, eq-eqb, ne_eqb}
use Rattle.std.proofs.lemmas.Bool.Decides.{nat_tests}
use Rattle.fs.specs.Tree.{Tree}
use Rattle.fs.specs.Manifest.{Manifest, size, leads, does, resource, Result, then_more, and_on, evaluate, with_due}
use Rattle.fs.specs.Order.{occurs, place, numbered, Permitted, Walk}
use Rattle.fs.specs.Beginning.{Joined, Begins, Completes, HasAnOrder, FailsEarly}
use Rattle.fs.specs.Judgement.{reaches}
use Rattle.fs.proofs.Orders.{order_is_free}
use Rattle.fs.proofs.Reach.{numbered_parts, reaches_walk, leads_reaches, reaches_join}
use Rattle.fs.proofs.Options.{none_some}

-- how many of 1 up to n pass
abbrev tally : (ℕ → Bool) → ℕ → ℕ
tally f zero = 0
tally f (suc n) = cond (f (suc n)) 1 0 + tally f n

tally_le : (f g : ℕ → Bool) (n : ℕ) → ((i : ℕ) → f i ≡ true → g i ≡ true) → tally f n ≤ tally g n
tally_le f g zero h = omega arith
tally_le f g (suc n) h = let ih = tally_le f g n h in by (f (suc n)) (g (suc n)) (h (suc n)) ih
  where
    by : (a b : Bool) → (a ≡ true → b ≡ true) → tally f n ≤ tally g n → cond a 1 0 + tally f n ≤ cond b 1 0 + tally g n
    by true true e ih = omega arith
    by true false e ih = absurd (true≢false (sym (e refl)))
    by false true e ih = omega arith
    by false false e ih = omega arith

tally_lt : (f g : ℕ → Bool) (n : ℕ) → ((i : ℕ) → f i ≡ true → g i ≡ true) → (k : ℕ) → 1 ≤ k → k ≤ n → f k ≡ false → g k ≡ true → tally f n < tally g n
tally_lt f g zero h k a b c d = absurd (omega arith)
tally_lt f g (suc n) h k a b c d = by (λ e. tally_lt f g n h k a e c d) (cases_eq k (suc n)) (f (suc n)) (g (suc n)) (h (suc n)) refl refl
  where
    by : (k ≤ n → tally f n < tally g n) → (k ≡ suc n) ⊎ (k ≡ suc n → ⊥) → (x y : Bool) → (x ≡ true → y ≡ true) → f (suc n) ≡ x → g (suc n) ≡ y → cond x 1 0 + tally f n < cond y 1 0 + tally g n
    by ih (inl e) true y i p q = absurd (true≢false (sym p ∙ ap f (sym e) ∙ c))
    by ih (inl e) false true i p q = let w = tally_le f g n h in omega arith
    by ih (inl e) false false i p q = absurd (true≢false (sym d ∙ ap g e ∙ q))
    by ih (inr e) true true i p q = let w = ih (omega arith) in omega arith
    by ih (inr e) true false i p q = absurd (true≢false (sym (i refl)))
    by ih (inr e) false true i p q = let w = ih (omega arith) in omega arith
    by ih (inr e) false false i p q = let w = ih (omega arith) in omega arith

-- lists that rise by a rank
module _ (rank : ℕ → ℕ) where
  abbrev insert : ℕ → List ℕ → List ℕ
  insert i [] = i ∷ []
  insert i (j ∷ l) = cond (ltb (rank j) (rank i)) (j ∷ insert i l) (i ∷ (j ∷ l))

  occurs_insert : (i : ℕ) (l : List ℕ) (k : ℕ) → occurs k (insert i l) ≡ cond (eqb k i) (suc (occurs k l)) (occurs k l)
  occurs_insert i [] k = refl
  occurs_insert i (j ∷ l) k = by (ltb (rank j) (rank i)) (occurs_insert i l k)
    where
      by : (b : Bool) → occurs k (insert i l) ≡ cond (eqb k i) (suc (occurs k l)) (occurs k l) → occurs k (cond b (j ∷ insert i l) (i ∷ (j ∷ l))) ≡ cond (eqb k i) (suc (occurs k (j ∷ l))) (occurs k (j ∷ l))
      by true ih = rw ih (go (eqb k i) (eqb k j))
        where
          go : (c d : Bool) → cond d (suc (cond c (suc (occurs k l)) (occurs k l))) (cond c (suc (occurs k l)) (occurs k l)) ≡ cond c (suc (cond d (suc (occurs k l)) (occurs k l))) (cond d (suc (occurs k l)) (occurs k l))
          go true true = refl
          go true false = refl
          go false true = refl
          go false false = refl
      by false ih = refl

  abbrev Rises : List ℕ → Type 0
  Rises [] = Unit {0}
  Rises (j ∷ l) = ((k : ℕ) → 0 < occurs k l → rank j ≤ rank k) × Rises l

  insert_rises : (i : ℕ) (l : List ℕ) → Rises l → Rises (insert i l)
  insert_rises i [] r = (λ k h. absurd (omega arith), tt)
  insert_rises i (j ∷ l) r = by (ltb (rank j) (rank i)) refl (insert_rises i l r.1)
    where
      rank_eq : (x y : ℕ) → x ≡ y → rank x ≡ rank y
      rank_eq x y e = ap rank e

      by : (b : Bool) → ltb (rank j) (rank i) ≡ b → Rises (insert i l) → Rises (cond b (j ∷ insert i l) (i ∷ (j ∷ l)))
      by true e ih = (λ k h. up k (cases_eq k i) h, ih)
        where
          up : (k : ℕ) → (k ≡ i) ⊎ (k ≡ i → ⊥) → 0 < occurs k (insert i l) → rank j ≤ rank k
          up k (inl c) h = let z = rank_eq k i c in grind (arith, nat_tests)
          up k (inr c) h = r.0 k (subst (λ n. 0 < n) (occurs_insert i l k ∙ ap (λ b. cond b (suc (occurs k l)) (occurs k l)) (ne_eqb k i c)) h)
      by false e ih = (λ k h. up k (cases_eq k j) h, r)
        where
          up : (k : ℕ) → (k ≡ j) ⊎ (k ≡ j → ⊥) → 0 < occurs k (j ∷ l) → rank i ≤ rank k
          up k (inl c) h = let z = rank_eq k j c in grind (arith, nat_tests)
          up k (inr c) h = let z = r.0 k (subst (λ b. 0 < cond b (suc (occurs k l)) (occurs k l)) (ne_eqb k j c) h) in grind (arith, nat_tests)

  -- what has the lower rank stands first
  rises_place : (l : List ℕ) (a b : ℕ) → Rises l → 0 < occurs a l → rank a < rank b → place l a < place l b
  rises_place [] a b r h k = absurd (omega arith)
  rises_place (j ∷ l) a b r h k = by (cases_eq a j) (cases_eq b j) (rises_place l a b r.1)
    where
      by : (a ≡ j) ⊎ (a ≡ j → ⊥) → (b ≡ j) ⊎ (b ≡ j → ⊥) → (0 < occurs a l → rank a < rank b → place l a < place l b) → place (j ∷ l) a < place (j ∷ l) b
      by (inl x) (inl y) ih = let z : rank a ≡ rank b = ap rank (x ∙ sym y) in absurd (omega arith)
      by (inl x) (inr y) ih = rw (eq-eqb a j x, ne_eqb b j y) (omega arith)
      by (inr x) (inl y) ih =
          let z : rank b ≡ rank j = ap rank y in
          let w = r.0 a (subst (λ c. 0 < cond c (suc (occurs a l)) (occurs a l)) (ne_eqb a j x) h) in
          absurd (omega arith)
      by (inr x) (inr y) ih =
          let w = ih (subst (λ c. 0 < cond c (suc (occurs a l)) (occurs a l)) (ne_eqb a j x) h) k in
          rw (ne_eqb a j x, ne_eqb b j y) (omega arith)

  abbrev arranged : ℕ → List ℕ
  arranged zero = []
  arranged (suc n) = insert (suc n) (arranged n)

  arranged_rises : (n : ℕ) → Rises (arranged n)
  arranged_rises zero = tt
  arranged_rises (suc n) = insert_rises (suc n) (arranged n) (arranged_rises n)

  arranged_once : (n i : ℕ) → occurs i (arranged n) ≡ cond (leb 1 i && leb i n) 1 0
  arranged_once zero i = grind (arith, nat_tests)
  arranged_once (suc n) i = let k = occurs_insert (suc n) (arranged n) i in let ih = arranged_once n i in grind (arith, nat_tests)

module _ (m : Manifest) where
  -- how many lead to i
  abbrev rank : ℕ → ℕ
  rank i = tally (λ k. reaches m k i) (size m)

  rank_rises : Joined m → ((i : ℕ) → Walk m i i → ⊥) → (i j : ℕ) → leads m.edges i j ≡ true → rank i < rank j
  rank_rises jn nc i j h = let p = numbered_parts m i (jn i j h).0 in tally_lt (λ k. reaches m k i) (λ k. reaches m k j) (size m) (λ k e. reaches_join m k i j (jn i j h).0 e (leads_reaches m i j h)) i p.0 p.1 (not_itself (reaches m i i) refl) (leads_reaches m i j h)
    where
      not_itself : (b : Bool) → reaches m i i ≡ b → b ≡ false
      not_itself true e = absurd (nc i (reaches_walk m i i e))
      not_itself false e = refl

  an_order : Joined m → ((i : ℕ) → Walk m i i → ⊥) → Permitted m (arranged rank (size m))
  an_order jn nc = record { once = arranged_once rank (size m); forward = λ i j h. rises_place rank (arranged rank (size m)) i j (arranged_rises rank (size m)) (there i (jn i j h).0) (rank_rises jn nc i j h) }
    where
      there : (i : ℕ) → numbered m i ≡ true → 0 < occurs i (arranged rank (size m))
      there i n = let k : occurs i (arranged rank (size m)) ≡ 1 = arranged_once rank (size m) i ∙ ap (λ b. cond b 1 0) n in omega arith

pub has_an_order : HasAnOrder
has_an_order m jn acc = (arranged (rank m) (size m), an_order m jn acc.no_circle)

-- o without the numbers of b
abbrev rest : List ℕ → List ℕ → List ℕ
rest b [] = []
rest b (j ∷ o) = cond (eqb (occurs j b) 0) (j ∷ rest b o) (rest b o)

occurs_rest : (b o : List ℕ) (i : ℕ) → occurs i (rest b o) ≡ cond (eqb (occurs i b) 0) (occurs i o) 0
occurs_rest b [] i = grind (arith, nat_tests)
occurs_rest b (j ∷ o) i = by (cases_eq i j) (occurs_rest b o i)
  where
    by : (i ≡ j) ⊎ (i ≡ j → ⊥) → occurs i (rest b o) ≡ cond (eqb (occurs i b) 0) (occurs i o) 0 → occurs i (rest b (j ∷ o)) ≡ cond (eqb (occurs i b) 0) (occurs i (j ∷ o)) 0
    by (inl e) ih = let z : occurs i b ≡ occurs j b = ap (λ x. occurs x b) e in grind (arith, nat_tests)
    by (inr e) ih = grind (arith, nat_tests)

place_rest : (b o : List ℕ) (i j : ℕ) → occurs i b ≡ 0 → place o i < place o j → place (rest b o) i < place (rest b o) j
place_rest b [] i j a h = h
place_rest b (k ∷ o) i j a h = by (cases_eq i k) (cases_eq j k) (place_rest b o i j a)
  where
    by : (i ≡ k) ⊎ (i ≡ k → ⊥) → (j ≡ k) ⊎ (j ≡ k → ⊥) → (place o i < place o j → place (rest b o) i < place (rest b o) j) → place (rest b (k ∷ o)) i < place (rest b (k ∷ o)) j
    by (inl e) f ih = let z : occurs i b ≡ occurs k b = ap (λ x. occurs x b) e in grind (arith, nat_tests)
    by (inr e) f ih = grind (arith, nat_tests)

pub occurs_append : (b c : List ℕ) (i : ℕ) → occurs i (b ++ c) ≡ occurs i b + occurs i c
occurs_append [] c i = omega arith
occurs_append (j ∷ b) c i = let ih = occurs_append b c i in grind (arith, nat_tests)

pub place_append : (b c : List ℕ) (i : ℕ) → place (b ++ c) i ≡ cond (eqb (occurs i b) 0) (length b + place c i) (place b i)
place_append [] c i = omega arith
place_append (j ∷ b) c i = let ih = place_append b c i in grind (arith, nat_tests)

pub place_in : (b : List ℕ) (i : ℕ) → 0 < occurs i b → place b i < length b
place_in [] i h = absurd (omega arith)
place_in (j ∷ b) i h = by (place_in b i)
  where
    by : (0 < occurs i b → place b i < length b) → place (j ∷ b) i < suc (length b)
    by ih = grind (arith, nat_tests)

-- the beginning, and the rest of a permitted order
completed : (m : Manifest) (b o : List ℕ) → Begins m b → Permitted m o → Permitted m (b ++ rest b o)
completed m b o s p = record { once = λ i. once i (numbered m i) (s.once i) (p.once i); forward = forward }
  where
    once : (i : ℕ) (n : Bool) → occurs i b ≤ cond n 1 0 → occurs i o ≡ cond n 1 0 → occurs i (b ++ rest b o) ≡ cond n 1 0
    once i n f g = let x = occurs_append b (rest b o) i in let y = occurs_rest b o i in by n f g x y
      where
        by : (n : Bool) → occurs i b ≤ cond n 1 0 → occurs i o ≡ cond n 1 0 → occurs i (b ++ rest b o) ≡ occurs i b + occurs i (rest b o) → occurs i (rest b o) ≡ cond (eqb (occurs i b) 0) (occurs i o) 0 → occurs i (b ++ rest b o) ≡ cond n 1 0
        by true f g x y = grind (arith, nat_tests)
        by false f g x y = grind (arith, nat_tests)

    forward : (i j : ℕ) → leads m.edges i j ≡ true → place (b ++ rest b o) i < place (b ++ rest b o) j
    forward i j h = by (cases_lt 0 (occurs j b)) (cases_lt 0 (occurs i b)) (place_append b (rest b o) i) (place_append b (rest b o) j)
      where
        by : (0 < occurs j b) ⊎ (occurs j b ≤ 0) → (0 < occurs i b) ⊎ (occurs i b ≤ 0) → place (b ++ rest b o) i ≡ cond (eqb (occurs i b) 0) (length b + place (rest b o) i) (place b i) → place (b ++ rest b o) j ≡ cond (eqb (occurs j b) 0) (length b + place (rest b o) j) (place b j)
            → place (b ++ rest b o) i < place (b ++ rest b o) j
        by (inl c) d x y = let w = s.forward i j h c in grind (arith, nat_tests)
        by (inr c) (inl d) x y = let w = place_in b i d in grind (arith, nat_tests)
        by (inr c) (inr d) x y = let w = place_rest b o i j (omega arith) (p.forward i j h) in grind (arith, nat_tests)

pub completes : Completes
completes m jn nc b s = (rest b (arranged (rank m) (size m)), completed m b (arranged (rank m) (size m)) s (an_order m jn nc))

fails_on : (m : Manifest) (b c : List ℕ) (t : Tree) → evaluate m b t ≡ none → evaluate m (b ++ c) t ≡ none
fails_on m [] c t h = none_some (sym h)
fails_on m (i ∷ b) c t h = by (does (resource m i) t) h (λ u. fails_on m b c u)
  where
    by : (x : Option (Tree × ℕ × Bool)) → and_on i x (λ u. evaluate m b u) ≡ none → ((u : Tree) → evaluate m b u ≡ none → evaluate m (b ++ c) u ≡ none) → and_on i x (λ u. evaluate m (b ++ c) u) ≡ none
    by none h ih = refl
    by (some x) h ih = ap (then_more i x.1 x.2) (ih x.0 (failed (evaluate m b x.0) h))
      where
        failed : (q : Option Result) → then_more i x.1 x.2 q ≡ none → q ≡ none
        failed none h = refl
        failed (some r) h = none_some (sym h)

pub fails_early : FailsEarly
fails_early m acc t s b g h o p = no_result (evaluate m o t) (sym (order_is_free m acc t s (b ++ rest b o) o (completed m b o g p) p) ∙ ap (with_due m) (fails_on m b (rest b o) t h))
  where
    no_result : (q : Option Result) → with_due m q ≡ none → q ≡ none
    no_result none h = refl
    no_result (some r) h = none_some (sym h)
