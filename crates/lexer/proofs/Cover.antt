-- The row of a text covers it.
use Rattle.std.proofs.Common.{◌≡◌, ℕ, zero, suc, ◌+◌, ◌-◌, ◌<◌, ◌≤◌, Bool, true, false, ◌&&◌, ◌||◌, eqb, ◌⊎◌, List, ◌∷◌, length, drop, sym, refl, ap, ◌∙◌, subst, inl, inr, ⊎_elim, arith, length-drop}
use Rattle.std.proofs.lemmas.List.{at_drop_more, at_drop_all, get_or_past}
use Rattle.std.proofs.lemmas.Bool.{cond_both, eqb-true, eqb-false, true≢false, cases_eq, cases_lt, ne_eqb}
use Rattle.std.specs.List.{between}
use Rattle.lexer.specs.Bytes.{blank, letter, plain, position}
use Rattle.lexer.specs.Lexing.{Lexeme, word, gives, before, notifies, seen, end, Lexed, lexed, fault, skipped, word_end, Quote, closed, wrong, unclosed, quote_end, quote_token, arrow, token, token_at, next_token, mark}
use Rattle.lexer.specs.Rows.{begun, row_from}
use Rattle.lexer.specs.Cover.{byte, All, Comment, Gap, One, Two, Spells, is_mark, is_arrow, begins_token, Breaks, none_begins, wrong_byte, no_closing, Covers, Covered}
use Rattle.lexer.proofs.Bounds.{Taken, next_taken, skip_bounds, word_bounds, word_past}
use Rattle.lexer.proofs.Rows.{row_is}

-- what holds at p and past it
from_here : (P : ℕ → Type 0) (p s : ℕ) → P p → ((k : ℕ) → p + 1 ≤ k → k < s → P k) → (k : ℕ) → p ≤ k → k < s → P k
from_here P p s here past k a b = ⊎_elim (λ (e : p ≡ k). subst P e here) (λ n. past k (omega arith) b) (cases_eq p k)

module _ (text : List ℕ) where
  module _ (q p : ℕ) where
    more_comment : Comment text q p → (byte text p ≡ 10 → ⊥) → Comment text q (p + 1)
    more_comment c n = record {
      hash = c.hash;
      since = c.since;
      till = omega arith;
      begins = c.begins;
      goes_on = λ i a b e. ⊎_elim (λ (s : i ≡ p). n (sym (ap (byte text) s) ∙ e)) (λ m. c.goes_on i a (omega arith) e) (cases_eq i p);
    }

    new_comment : q ≤ p → byte text p ≡ 35 → Comment text q (p + 1)
    new_comment h e = record {
      hash = p;
      since = h;
      till = omega arith;
      begins = e;
      goes_on = λ i a b f. let s : i ≡ p = omega arith in let z = ap (byte text) s in omega arith;
    }

    line_ends_it : byte text p ≡ 10 → Comment text q (p + 1) → ⊥
    line_ends_it e c = c.goes_on p (omega (arith, c.till)) (omega arith) e

    none_begins_here : (Comment text q p → ⊥) → (byte text p ≡ 35 → ⊥) → Comment text q (p + 1) → ⊥
    none_begins_here n m c =
        ⊎_elim
        (λ (s : c.hash ≡ p). m (sym (ap (byte text) s) ∙ c.begins))
        (λ k. n (record { hash = c.hash; since = c.since; till = omega (arith, c.till); begins = c.begins; goes_on = λ i a b. c.goes_on i a (omega arith) }))
        (cases_eq c.hash p)

  abbrev Inside : ℕ → Bool → ℕ → Type 0
  Inside q true p = Comment text q p
  Inside q false p = Comment text q p → ⊥

  abbrev Filled : ℕ → ℕ → ℕ → Type 0
  Filled q p s =
      ((k : ℕ) → p ≤ k → k < s → (blank (byte text k) ≡ true) ⊎ Comment text q (k + 1))
      × (s < length text → (blank (byte text s) ≡ false) × (Comment text q (s + 1) → ⊥))

  other : (q p : ℕ) (inside : Bool) → Inside q inside p → (byte text p ≡ 10 → ⊥) → (byte text p ≡ 35 → ⊥) → (inside || blank (byte text p)) ≡ true → Inside q inside (p + 1) × ((blank (byte text p) ≡ true) ⊎ Comment text q (p + 1))
  other q p true i n m e = (more_comment q p i n, inr (more_comment q p i n))
  other q p false i n m e = (none_begins_here q p i m, inl e)

  stop : (q p : ℕ) (inside : Bool) → Inside q inside p → (byte text p ≡ 35 → ⊥) → (inside || blank (byte text p)) ≡ false → (blank (byte text p) ≡ false) × (Comment text q (p + 1) → ⊥)
  stop q p true i m e = absurd (true≢false e)
  stop q p false i m e = (e, none_begins_here q p i m)

  skip_filled : (n q p : ℕ) (inside : Bool) → p + n ≡ length text → q ≤ p → Inside q inside p → Filled q p (skipped inside p (drop p text))
  unfolding skipped
  skip_filled zero q p inside e h i = subst (Filled q p) (sym (at_drop_all (skipped inside p) text p (omega arith))) ((λ k a b. absurd (omega arith)), (λ b. absurd (omega arith)))
  skip_filled (suc n) q p inside e h i =
      let on : (next : Bool) → Inside q next (p + 1) → (blank (byte text p) ≡ true) ⊎ Comment text q (p + 1) → Filled q p (skipped next (p + 1) (drop (p + 1) text)) =
      λ next j here. let r = skip_filled n q (p + 1) next (omega arith) (omega arith) j in (from_here (λ k. (blank (byte text k) ≡ true) ⊎ Comment text q (k + 1)) p _ here r.0, r.1) in
      subst (Filled q p) (sym (at_drop_more (skipped inside p) text p 0 (omega arith)))
      (cond_both (eqb (byte text p) 10) _ _ (Filled q p) (λ t. let b = eqb-true _ 10 t in on false (line_ends_it q p b) (inl (ap blank b)))
      (λ f. cond_both (eqb (byte text p) 35) _ _ (Filled q p) (λ t. let c = new_comment q p h (eqb-true _ 35 t) in on true c (inr c))
      (λ g. cond_both (inside || blank (byte text p)) _ _ (Filled q p)
      (λ t. let o = other q p inside i (eqb-false _ 10 f) (eqb-false _ 35 g) t in on inside o.0 o.1)
      (λ t. ((λ k a b. absurd (omega arith)), (λ _. stop q p inside i (eqb-false _ 35 g) t))))))

  pub gap_is : (p : ℕ) → p ≤ length text → Gap text p (skipped false p (drop p text))
  gap_is p h =
      let b = skip_bounds false p (drop p text) in
      let f = skip_filled (length text - p) p p false (omega arith) (omega arith) (λ c. omega (arith, c.since, c.till)) in
      record { along = b.0; within = omega (arith, length-drop p text); only = f.0; full = f.1 }

  pub word_letters : (n p : ℕ) → p + n ≡ length text → All text letter p (word_end p (drop p text)) × (letter (byte text (word_end p (drop p text))) ≡ false)
  unfolding word_end
  word_letters zero p e =
      subst (λ s. All text letter p s × (letter (byte text s) ≡ false)) (sym (at_drop_all (word_end p) text p (omega arith))) ((λ k a b. absurd (omega arith)), ap letter (get_or_past text p 0 (omega arith)))
  word_letters (suc n) p e =
      let P : ℕ → Type 0 = λ s. All text letter p s × (letter (byte text s) ≡ false) in
      subst P (sym (at_drop_more (word_end p) text p 0 (omega arith)))
      (cond_both (letter (byte text p)) _ _ P
      (λ t. let r = word_letters n (p + 1) (omega arith) in (from_here (λ k. letter (byte text k) ≡ true) p _ t r.0, r.1))
      (λ f. ((λ k a b. absurd (omega arith)), f)))

  abbrev pub Quotes : ℕ → Quote → Type 0
  Quotes p (closed c) = (p ≤ c) × (c < length text) × All text plain p c × (byte text c ≡ 39)
  Quotes p (wrong c) = (p ≤ c) × (c < length text) × All text plain p c × (plain (byte text c) ≡ false) × (byte text c ≡ 39 → ⊥)
  Quotes p unclosed = All text plain p (length text)

  quotes_more : (p : ℕ) → plain (byte text p) ≡ true → (q : Quote) → Quotes (p + 1) q → Quotes p q
  quotes_more p t (closed c) h = (omega arith, h.1, from_here (λ k. plain (byte text k) ≡ true) p c t h.2, h.3)
  quotes_more p t (wrong c) h = (omega arith, h.1, from_here (λ k. plain (byte text k) ≡ true) p c t h.2, h.3, h.4)
  quotes_more p t unclosed h = from_here (λ k. plain (byte text k) ≡ true) p (length text) t h

  pub quote_is : (n p : ℕ) → p + n ≡ length text → Quotes p (quote_end p (drop p text))
  unfolding quote_end
  quote_is zero p e = subst (Quotes p) (sym (at_drop_all (quote_end p) text p (omega arith))) (λ k a b. absurd (omega arith))
  quote_is (suc n) p e =
      subst (Quotes p) (sym (at_drop_more (quote_end p) text p 0 (omega arith)))
      (cond_both (eqb (byte text p) 39) _ _ (Quotes p) (λ t. (omega arith, omega arith, (λ k a b. absurd (omega arith)), eqb-true _ 39 t))
      (λ f. cond_both (plain (byte text p)) _ _ (Quotes p) (λ t. quotes_more p t (quote_end (p + 1) (drop (p + 1) text)) (quote_is n (p + 1) (omega arith)))
      (λ g. (omega arith, omega arith, (λ k a b. absurd (omega arith)), g, eqb-false _ 39 f))))

  -- what was read at s is what stands there
  abbrev pub Good : ℕ → Lexed → Type 0
  Good s (lexed (seen l at) e) = (at ≡ position text s) × Spells text s e l
  Good s (lexed (end at) e) = (s ≡ length text) × (at ≡ position text s)
  Good s (fault f) = Breaks text s f.at

  module _ (s : ℕ) (h : s < length text) where
    quote_good : byte text s ≡ 39 → (q : Quote) → Quotes (s + 1) q → Good s (quote_token text s q)
    quote_good b (closed c) t = (refl, (c, refl, record { along = omega arith; within = t.1; opening = b; inner = t.2; closing = t.3 }, refl))
    quote_good b (wrong c) t = wrong_byte c (omega arith) t.1 b t.2 t.3 t.4 refl
    quote_good b unclosed t = no_closing h b t refl

    arrow_good : (l : Lexeme) → (byte text (s + 1) ≡ 62 → s + 2 ≤ length text → Spells text s (s + 2) l) → ((byte text (s + 1) ≡ 62 → ⊥) → begins_token text s ≡ false) → Good s (arrow text s (seen l (position text s)) (drop (s + 1) text))
    arrow_good l whole half =
        ⊎_elim
        (λ (m : s + 1 < length text).
        subst (Good s) (sym (at_drop_more (arrow text s (seen l (position text s))) text (s + 1) 0 m))
        (cond_both (eqb (byte text (s + 1)) 62) _ _ (Good s) (λ t. (refl, whole (eqb-true _ 62 t) (omega arith))) (λ f. none_begins h (half (eqb-false _ 62 f)) refl)))
        (λ m.
        let z = get_or_past text (s + 1) 0 m in
        subst (Good s) (sym (at_drop_all (arrow text s (seen l (position text s))) text (s + 1) m)) (none_begins h (half (λ e. omega arith)) refl))
        (cases_lt (s + 1) (length text))

    begun_by : (c : ℕ) → eqb (byte text s) c ≡ true → (letter c || is_mark c || eqb c 39 || (is_arrow c && eqb (byte text (s + 1)) 62)) ≡ false → begins_token text s ≡ false
    begun_by c t e = ap (λ b. letter b || is_mark b || eqb b 39 || (is_arrow b && eqb (byte text (s + 1)) 62)) (eqb-true _ c t) ∙ e

    word_good : letter (byte text s) ≡ true → Good s (mark text s (word (between s (word_end s (byte text s ∷ drop (s + 1) text)) text)) (word_end s (byte text s ∷ drop (s + 1) text)))
    word_good t =
        let P : ℕ → Type 0 = λ e. All text letter s e × (letter (byte text e) ≡ false) in
        let w = subst P (at_drop_more (word_end s) text s 0 h) (word_letters (length text - s) s (omega arith)) in
        let b = word_bounds s (byte text s ∷ drop (s + 1) text) in
        (refl, (record { some = word_past s _ _ t; within = omega (arith, length-drop (s + 1) text); letters = w.0; full = w.1 }, refl))

    first_good : Good s (token text s (byte text s ∷ drop (s + 1) text))
    first_good =
        let P : Lexed → Type 0 = Good s in
        let one : (c : ℕ) → eqb (byte text s) c ≡ true → One text s (s + 1) c = λ c t. (refl, omega arith, eqb-true _ c t) in
        let two : (c : ℕ) → eqb (byte text s) c ≡ true → byte text (s + 1) ≡ 62 → s + 2 ≤ length text → Two text s (s + 2) c = λ c t b m. (refl, m, eqb-true _ c t, b) in
        cond_both (letter (byte text s)) _ _ P word_good
        (λ l. cond_both (eqb (byte text s) 123) _ _ P (λ t. (refl, one 123 t))
        (λ m1. cond_both (eqb (byte text s) 125) _ _ P (λ t. (refl, one 125 t))
        (λ m2. cond_both (eqb (byte text s) 91) _ _ P (λ t. (refl, one 91 t))
        (λ m3. cond_both (eqb (byte text s) 93) _ _ P (λ t. (refl, one 93 t))
        (λ m4. cond_both (eqb (byte text s) 58) _ _ P (λ t. (refl, one 58 t))
        (λ m5. cond_both (eqb (byte text s) 44) _ _ P (λ t. (refl, one 44 t))
        (λ m6. cond_both (eqb (byte text s) 61) _ _ P (λ t. arrow_good gives (two 61 t) (λ n. begun_by 61 t (ne_eqb _ 62 n)))
        (λ a1. cond_both (eqb (byte text s) 45) _ _ P (λ t. arrow_good before (two 45 t) (λ n. begun_by 45 t (ne_eqb _ 62 n)))
        (λ a2. cond_both (eqb (byte text s) 126) _ _ P (λ t. arrow_good notifies (two 126 t) (λ n. begun_by 126 t (ne_eqb _ 62 n)))
        (λ a3. cond_both (eqb (byte text s) 39) _ _ P (λ t. quote_good (eqb-true _ 39 t) _ (quote_is (length text - (s + 1)) (s + 1) (omega arith)))
        (λ q. none_begins h (simp (l, m1, m2, m3, m4, m5, m6, a1, a2, a3, q)) refl)))))))))))

  pub token_good : (s : ℕ) → s ≤ length text → Good s (token_at text s)
  token_good s h =
      ⊎_elim
      (λ (m : s < length text). subst (Good s) (sym (at_drop_more (token text s) text s 0 m)) (first_good s m))
      (λ m. subst (Good s) (sym (at_drop_all (token text s) text s m)) (omega arith, refl))
      (cases_lt s (length text))

  -- the row that begins with what was read, where the rows past it cover the text
  begun_covers : (p s : ℕ) → Gap text p s → (x : Lexed) → Taken text p x → Good s x → ((e : ℕ) → p < e → e ≤ length text → Covers text e (row_from text e)) → Covers text p (begun x (row_from text))
  begun_covers p s g (lexed (seen l at) e) t x past = record { s = s; e = e; gap = g; place = x.0; spells = x.1; rest = past e t.0 t.1 }
  begun_covers p s g (lexed (end at) e) t x past = (subst (Gap text p) x.0 g, x.1 ∙ ap (position text) x.0)
  begun_covers p s g (fault f) t x past = (s, g, x)

  turn : (p : ℕ) → p ≤ length text → ((e : ℕ) → p < e → e ≤ length text → Covers text e (row_from text e)) → Covers text p (row_from text p)
  turn p h past =
      let g = gap_is p h in
      subst (Covers text p) (sym (row_is text p)) (begun_covers p (skipped false p (drop p text)) g (next_token text p) (next_taken text p h) (token_good (skipped false p (drop p text)) g.within) past)

  row_covers : (n p : ℕ) → p ≤ length text → length text - p ≤ n → Covers text p (row_from text p)
  row_covers zero p h m = turn p h (λ e a b. absurd (omega arith))
  row_covers (suc n) p h m = turn p h (λ e a b. row_covers n e b (omega arith))

pub covered : Covered
covered text = row_covers text (length text) 0 (omega arith) (omega arith)
