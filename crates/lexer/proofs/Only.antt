-- No other row covers a text.
use Rattle.std.proofs.Common.{◌≡◌, ℕ, ◌+◌, ◌-◌, ◌<◌, ◌≤◌, Bool, true, false, ◌&&◌, ◌||◌, eqb, List, ◌∷◌, length, drop, sym, refl, ap, ◌∙◌, subst, ⊎_elim, arith}
use Rattle.std.proofs.lemmas.List.{at_drop_more, at_drop_all}
use Rattle.std.proofs.lemmas.Bool.{cond-true, eq-eqb, both_ways, cases_order}
use Rattle.std.specs.List.{between}
use Rattle.lexer.specs.declared.position.Position.{Position}
use Rattle.lexer.specs.Bytes.{blank, letter, plain, position}
use Rattle.lexer.specs.Lexing.{Lexeme, word, quoted, open_brace, close_brace, open_bracket, close_bracket, colon, comma, gives, before, notifies, seen, end, Lexed, lexed, fault, fault_at, word_end, Quote, closed, wrong, unclosed, quote_token, arrow, token, token_at, next_token, mark}
use Rattle.lexer.specs.Rows.{Row, token as token_row, ended, broken, begun, row_from}
use Rattle.lexer.specs.Cover.{byte, All, Gap, Letters, One, Two, Spells, is_mark, is_arrow, begins_token, Breaks, none_begins, wrong_byte, no_closing, Covers, OnlyCover}
use Rattle.lexer.proofs.Bounds.{Taken, next_taken, word_bounds}
use Rattle.lexer.proofs.Cover.{gap_is, word_letters, Quotes, quote_is, Good, token_good}
use Rattle.lexer.proofs.Rows.{row_is}
use Rattle.lexer.proofs.Steps.{by_byte}

module _ (text : List ℕ) where
  -- the first byte that breaks a rule
  first_is : (rule : ℕ → Bool) (a c d : ℕ) → a ≤ c → a ≤ d → All text rule a c → All text rule a d → rule (byte text c) ≡ false → rule (byte text d) ≡ false → c ≡ d
  first_is rule a c d h k x y f g =
      ⊎_elim (λ (e : c ≡ d). e) (λ o. ⊎_elim (λ (m : c < d). absurd (both_ways _ f (y c h m))) (λ (m : d < c). absurd (both_ways _ g (x d k m))) o) (cases_order c d)

  gap_before : (p s e : ℕ) → Gap text p s → Gap text p e → s < e → ⊥
  gap_before p s e g k m =
      let f = g.full (omega (arith, k.within)) in
      ⊎_elim (λ (b : blank (byte text s) ≡ true). both_ways _ f.0 b) (λ c. f.1 c) (k.only s g.along m)

  gap_same : (p s e : ℕ) → Gap text p s → Gap text p e → s ≡ e
  gap_same p s e g k =
      ⊎_elim (λ (q : s ≡ e). q) (λ o. ⊎_elim (λ (m : s < e). absurd (gap_before p s e g k m)) (λ (m : e < s). absurd (gap_before p e s k g m)) o) (cases_order s e)

  quotes_same : (p : ℕ) (q r : Quote) → Quotes text p q → Quotes text p r → q ≡ r
  quotes_same p (closed c) (closed d) x y = ap closed (first_is plain p c d x.0 y.0 x.2 y.2 (ap plain x.3) (ap plain y.3))
  quotes_same p (closed c) (wrong d) x y =
      let e = first_is plain p c d x.0 y.0 x.2 y.2 (ap plain x.3) y.3 in absurd (y.4 (sym (ap (byte text) e) ∙ x.3))
  quotes_same p (closed c) unclosed x y = absurd (both_ways _ (ap plain x.3) (y c x.0 x.1))
  quotes_same p (wrong c) (closed d) x y =
      let e = first_is plain p c d x.0 y.0 x.2 y.2 x.3 (ap plain y.3) in absurd (x.4 (ap (byte text) e ∙ y.3))
  quotes_same p (wrong c) (wrong d) x y = ap wrong (first_is plain p c d x.0 y.0 x.2 y.2 x.3 y.3)
  quotes_same p (wrong c) unclosed x y = absurd (both_ways _ x.3 (y c x.0 x.1))
  quotes_same p unclosed (closed d) x y = absurd (both_ways _ (ap plain y.3) (x d y.0 y.1))
  quotes_same p unclosed (wrong d) x y = absurd (both_ways _ y.3 (x d y.0 y.1))
  quotes_same p unclosed unclosed x y = refl

  module _ (s : ℕ) where
    one_is : (c e : ℕ) (l : Lexeme) → token text s (c ∷ drop (s + 1) text) ≡ mark text s l (s + 1) → One text s e c → token_at text s ≡ lexed (seen l (position text s)) e
    one_is c e l t o = by_byte text s (omega arith) c o.2 t ∙ ap (lexed (seen l (position text s))) (sym o.0)

    two_is : (c e : ℕ) (l : Lexeme) → token text s (c ∷ drop (s + 1) text) ≡ arrow text s (seen l (position text s)) (drop (s + 1) text) → Two text s e c → token_at text s ≡ lexed (seen l (position text s)) e
    two_is c e l t o =
        by_byte text s (omega arith) c o.2 t
        ∙ at_drop_more (arrow text s (seen l (position text s))) text (s + 1) 0 (omega arith)
        ∙ cond-true _ _ _ (eq-eqb _ 62 o.3)
        ∙ ap (lexed (seen l (position text s))) (sym o.0)

    word_is : (e : ℕ) (w : List ℕ) → Letters text s e → w ≡ between s e text → token_at text s ≡ lexed (seen (word w) (position text s)) e
    word_is e w x q =
        let h : s < length text = omega (arith, x.some, x.within) in
        let r = word_letters text (length text - s) s (omega arith) in
        let b = word_bounds s (drop s text) in
        let to : word_end s (byte text s ∷ drop (s + 1) text) ≡ e =
        sym (at_drop_more (word_end s) text s 0 h) ∙ first_is letter s _ e b.0 (omega (arith, x.some)) r.0 x.letters r.1 x.full in
        at_drop_more (token text s) text s 0 h
        ∙ cond-true _ _ _ (x.letters s (omega arith) x.some)
        ∙ ap (λ k. mark text s (word (between s k text)) k) to
        ∙ ap (λ v. mark text s (word v) e) (sym q)

    -- a quote at s
    quote_to : (q : Quote) → s < length text → byte text s ≡ 39 → Quotes text (s + 1) q → token_at text s ≡ quote_token text s q
    quote_to q h b x =
        by_byte text s h 39 b refl
        ∙ ap (quote_token text s) (quotes_same (s + 1) _ q (quote_is text (length text - (s + 1)) (s + 1) (omega arith)) x)

    spelt_is : (e : ℕ) (l : Lexeme) → Spells text s e l → token_at text s ≡ lexed (seen l (position text s)) e
    spelt_is e (word w) x = word_is e w x.0 x.1
    spelt_is e (quoted q) x =
        let k = x.2 in
        quote_to (closed x.0) (omega (arith, k.along, k.within)) k.opening (omega (arith, k.along), k.within, k.inner, k.closing)
        ∙ ap (λ v. lexed (seen (quoted v) (position text s)) (x.0 + 1)) (sym x.3)
        ∙ ap (lexed (seen (quoted q) (position text s))) (sym x.1)
    spelt_is e open_brace x = one_is 123 e open_brace refl x
    spelt_is e close_brace x = one_is 125 e close_brace refl x
    spelt_is e open_bracket x = one_is 91 e open_bracket refl x
    spelt_is e close_bracket x = one_is 93 e close_bracket refl x
    spelt_is e colon x = one_is 58 e colon refl x
    spelt_is e comma x = one_is 44 e comma refl x
    spelt_is e gives x = two_is 61 e gives refl x
    spelt_is e before x = two_is 45 e before refl x
    spelt_is e notifies x = two_is 126 e notifies refl x

    begins : (c : ℕ) → byte text s ≡ c → (letter c || is_mark c || eqb c 39 || (is_arrow c && eqb (byte text (s + 1)) 62)) ≡ true → begins_token text s ≡ true
    begins c b e = ap (λ k. letter k || is_mark k || eqb k 39 || (is_arrow k && eqb (byte text (s + 1)) 62)) b ∙ e

    spelt_begins : (e : ℕ) (l : Lexeme) → Spells text s e l → begins_token text s ≡ true
    spelt_begins e (word w) x = let k = x.0 in let t : letter (byte text s) ≡ true = k.letters s (omega arith) k.some in simp t
    spelt_begins e (quoted q) x = let k = x.2 in begins 39 k.opening refl
    spelt_begins e open_brace x = begins 123 x.2 refl
    spelt_begins e close_brace x = begins 125 x.2 refl
    spelt_begins e open_bracket x = begins 91 x.2 refl
    spelt_begins e close_bracket x = begins 93 x.2 refl
    spelt_begins e colon x = begins 58 x.2 refl
    spelt_begins e comma x = begins 44 x.2 refl
    spelt_begins e gives x = begins 61 x.2 (eq-eqb _ 62 x.3)
    spelt_begins e before x = begins 45 x.2 (eq-eqb _ 62 x.3)
    spelt_begins e notifies x = begins 126 x.2 (eq-eqb _ 62 x.3)

    none_is : (x : Lexed) → Good text s x → s < length text → begins_token text s ≡ false → x ≡ fault (fault_at (position text s))
    none_is (lexed (seen l at) e) g h n = absurd (both_ways _ n (spelt_begins e l g.1))
    none_is (lexed (end at) e) g h n = absurd (omega (arith, g.0))
    none_is (fault f) (none_begins _ _ q) h n = ap (λ a. fault (fault_at a)) q
    none_is (fault f) (wrong_byte _ _ _ b _ _ _ _) h n = absurd (both_ways _ n (begins 39 b refl))
    none_is (fault f) (no_closing _ b _ _) h n = absurd (both_ways _ n (begins 39 b refl))

    broken_is : (at : Position) → s ≤ length text → Breaks text s at → token_at text s ≡ fault (fault_at at)
    broken_is at h (none_begins m n q) = none_is (token_at text s) (token_good text s h) m n ∙ ap (λ a. fault (fault_at a)) (sym q)
    broken_is at h (wrong_byte c a m b x f n q) =
        quote_to (wrong c) (omega arith) b (omega arith, m, x, f, n) ∙ ap (λ k. fault (fault_at k)) (sym q)
    broken_is at h (no_closing m b x q) = quote_to unclosed m b x ∙ ap (λ k. fault (fault_at k)) (sym q)

  -- what a gap leads to is read next
  next_is : (p s : ℕ) (x : Lexed) → p ≤ length text → Gap text p s → token_at text s ≡ x → next_token text p ≡ x
  next_is p s x h g e = ap (token_at text) (gap_same p _ s (gap_is text p h) g) ∙ e

  only : (r : Row) (p : ℕ) → p ≤ length text → Covers text p r → r ≡ row_from text p
  only (token_row l at r) p h c =
      let n : next_token text p ≡ lexed (seen l at) c.e =
      next_is p c.s _ h c.gap (spelt_is c.s c.e l c.spells) ∙ ap (λ a. lexed (seen l a) c.e) (sym c.place) in
      let t = subst (Taken text p) n (next_taken text p h) in
      ap (token_row l at) (only r c.e t.1 c.rest) ∙ sym (row_is text p ∙ ap (λ x. begun x (row_from text)) n)
  only (ended at) p h c =
      let n = next_is p (length text) _ h c.0 (at_drop_all (token text (length text)) text (length text) (omega arith)) in
      ap ended c.1 ∙ sym (row_is text p ∙ ap (λ x. begun x (row_from text)) n)
  only (broken f) p h c =
      let g = c.1 in
      let n = next_is p c.0 _ h g (broken_is c.0 f.at g.within c.2) in
      sym (row_is text p ∙ ap (λ x. begun x (row_from text)) n)

pub only_cover : OnlyCover
only_cover text r c = only text r 0 (omega arith) c
