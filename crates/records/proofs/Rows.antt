-- A row of records, one record on. Assumes nothing.
use Rattle.std.proofs.Common.{◌≡◌, ℕ, zero, suc, ◌+◌, ◌-◌, ◌<◌, ◌≤◌, List, [], ◌∷◌, length, get_or, take, drop, Bor, sym, refl, ap, ◌∙◌, ⊎_elim, add-zero, arith}
use Rattle.std.proofs.lemmas.List.{length-drop, drop_all, drop-drop, take_all}
use Rattle.std.proofs.lemmas.Bool.{cases_lt, cond-true, cond-false, lt-ltb, le-ltb}
use Rattle.records.specs.Heads.{Head}
use Rattle.records.specs.Rows.{ended, broken, next, word, row, row_from}

-- the bytes of a record that is done are passed over
pub row_skip : (n p : ℕ) (bs : List ℕ) → row n p bs ≡ row 0 (p + n) (drop n bs)
unfolding row
row_skip zero p bs = ap (λ k. row 0 k bs) (sym (add-zero p))
row_skip (suc n) p [] = refl
row_skip (suc n) p (b ∷ bs) = let e : p + 1 + n ≡ p + suc n = omega arith in row_skip n (p + 1) bs ∙ ap (λ k. row 0 k (drop n bs)) e

pub row_short : (p : ℕ) (bs : List ℕ) → 0 < length bs → length bs < 4 → row 0 p bs ≡ broken p
unfolding row
row_short p [] h l = absurd (omega arith)
row_short p (a ∷ []) h l = refl
row_short p (a ∷ b ∷ []) h l = refl
row_short p (a ∷ b ∷ c ∷ []) h l = refl
row_short p (a ∷ b ∷ c ∷ d ∷ bs) h l = absurd (omega arith)

module _ (a b c d : ℕ) (p : ℕ) (bs : List ℕ) where
  pub row_over : length bs < word a b → row 0 p (a ∷ b ∷ c ∷ d ∷ bs) ≡ broken p
  unfolding row
  row_over h = cond-true _ _ _ (lt-ltb (length bs) (word a b) h)

  pub row_more : word a b ≤ length bs → row 0 p (a ∷ b ∷ c ∷ d ∷ bs) ≡ next p (word c d) (take (word a b) bs) (row 0 (p + 4 + word a b) (drop (word a b) bs))
  unfolding row
  row_more h = cond-false _ _ _ (le-ltb (length bs) (word a b) h) ∙ ap (next p (word c d) (take (word a b) bs)) (row_skip (word a b) (p + 4) bs)

pub none_past_end : (bytes : List ℕ) (p : ℕ) → length bytes ≤ p → row_from bytes p ≡ ended
unfolding row
none_past_end bytes p h = ap (row 0 p) (drop_all p bytes h)

-- a record that passes the end begins before it
pub broken_within : (bytes : List ℕ) (p q : ℕ) → row_from bytes p ≡ broken q → p < length bytes
broken_within bytes p q h = ⊎_elim (λ l. l) (λ l. absurd (not_ended (sym (none_past_end bytes p l) ∙ h))) (cases_lt p (length bytes))
  where
    not_ended : ended ≡ broken q → ⊥
    not_ended e = cc

-- what stands there
module _ (p : ℕ) (ys : List ℕ) where
  pub row_end : length ys < 1 → row 0 p ys ≡ ended
  unfolding row
  row_end h = by ys h
    where
      by : (xs : List ℕ) → length xs < 1 → row 0 p xs ≡ ended
      by [] l = refl
      by (x ∷ xs) l = absurd (omega arith)

  module _ (lead : 4 ≤ length ys) where
    header : ys ≡ get_or ys 0 0 ∷ get_or ys 1 0 ∷ get_or ys 2 0 ∷ get_or ys 3 0 ∷ drop 4 ys
    header = by ys lead
      where
        by : (xs : List ℕ) → 4 ≤ length xs → xs ≡ get_or xs 0 0 ∷ get_or xs 1 0 ∷ get_or xs 2 0 ∷ get_or xs 3 0 ∷ drop 4 xs
        by [] l = absurd (omega arith)
        by (a ∷ []) l = absurd (omega arith)
        by (a ∷ b ∷ []) l = absurd (omega arith)
        by (a ∷ b ∷ c ∷ []) l = absurd (omega arith)
        by (a ∷ b ∷ c ∷ d ∷ xs) l = refl

    abbrev size : ℕ
    size = word (get_or ys 0 0) (get_or ys 1 0)

    abbrev kind : ℕ
    kind = word (get_or ys 2 0) (get_or ys 3 0)

    pub row_past : length ys < 4 + size → row 0 p ys ≡ broken p
    row_past h =
        let many = length-drop 4 ys in
        ap (row 0 p) header ∙ row_over _ _ _ _ p (drop 4 ys) (omega arith)

    pub row_next : 4 + size ≤ length ys → row 0 p ys ≡ next p kind (take size (drop 4 ys)) (row 0 (p + 4 + size) (drop (4 + size) ys))
    row_next h =
        let many = length-drop 4 ys in
        ap (row 0 p) header ∙ row_more _ _ _ _ p (drop 4 ys) (omega arith)
        ∙ ap (λ l. next p kind (take size (drop 4 ys)) (row 0 (p + 4 + size) l)) (drop-drop size 4 ys)

-- all that stands behind the four leading bytes
pub behind_lead : (ys : List ℕ) → take (length ys - 4) (drop 4 ys) ≡ drop 4 ys
behind_lead ys = let many = length-drop 4 ys in take_all (length ys - 4) (drop 4 ys) (omega arith)

-- a record that is read there, and lies within the bytes
pub head : (bytes : List ℕ) (p : ℕ) (ys : List ℕ) (m k n : ℕ) (body : Bor (List ℕ)) → ys ≡ drop p bytes → 4 ≤ length ys → m ≡ word (get_or ys 0 0) (get_or ys 1 0) → k ≡ word (get_or ys 2 0) (get_or ys 3 0) → m ≤ length (take (length ys - 4) (drop 4 ys)) → body.now ≡ take (m - 0) (take (length ys - 4) (drop 4 ys)) → n ≡ p + 4 + m → Head bytes p (record { place = p; kind = k; body = body; next = n })
head bytes p ys m k n body at lead s t fits b e =
    let total : length ys ≡ length (drop p bytes) = ap length at in
    let behind : length (take (length ys - 4) (drop 4 ys)) ≡ length (drop 4 ys) = ap length (behind_lead ys) in
    let some = length-drop 4 ys in
    let many = length-drop p bytes in
    let all : m - 0 ≡ m = omega arith in
    let whole : p + (4 + m) ≡ n = omega arith in
    let is : body.now ≡ take m (drop 4 ys) = b ∙ (λ i. take (all i) (behind_lead ys i)) in
    record {
      place = refl;
      row =
          ap (row 0 p) (sym at) ∙ row_next p ys lead (omega arith)
          ∙ (λ i. next p (sym t i) (take (sym s i) (drop 4 ys)) (row 0 (p + 4 + sym s i) (drop (4 + sym s i) ys)))
          ∙ (λ i. next p k (sym is i) (row 0 (sym e i) ((ap (drop (4 + m)) at ∙ drop-drop (4 + m) p bytes ∙ ap (λ j. drop j bytes) whole) i)));
      forward = omega arith;
      within = omega arith;
    }
