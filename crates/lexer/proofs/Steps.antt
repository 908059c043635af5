-- The tokens' definitions, one byte on, and by counts of bytes.
use Rattle.std.proofs.Common.{◌≡◌, ℕ, ◌+◌, ◌-◌, ◌<◌, ◌≤◌, true, false, eqb, List, [], ◌∷◌, length, get_or, take, drop, sym, refl, ap, ◌∙◌, add-zero, one-add, arith}
use Rattle.std.proofs.lemmas.List.{at_drop_more, at_drop_all}
use Rattle.std.proofs.lemmas.Bool.{cond_both, cond-true, cond-false, eq-eqb, ne_eqb}
use Rattle.std.proofs.lemmas.Bool.Decides.{nat_tests}
use Rattle.std.proofs.lemmas.List.Sums.{prefix_len_stops}
use Rattle.std.specs.List.{between, prefix_len}
use Rattle.lexer.specs.declared.position.Position.{Position}
use Rattle.lexer.specs.Bytes.{letter, plain, position}
use Rattle.lexer.specs.Lexing.{word, quoted, seen, Lexed, lexed, fault, fault_at, word_end, Quote, closed, wrong, unclosed, quote_end, quote_token, token, token_at, mark}

pub word_counted : (p : ℕ) (bs : List ℕ) → word_end p bs ≡ p + prefix_len letter bs
unfolding word_end
word_counted p [] = omega arith
word_counted p (b ∷ bs) = let e = word_counted (p + 1) bs in grind arith

not_quote : (b : ℕ) → plain b ≡ true → eqb b 39 ≡ false
not_quote b t = grind (arith, nat_tests)

-- past the plain bytes
pub quote_counted : (p : ℕ) (bs : List ℕ) → quote_end p bs ≡ quote_end (p + prefix_len plain bs) (drop (prefix_len plain bs) bs)
unfolding quote_end
quote_counted p [] = refl
quote_counted p (b ∷ bs) =
    cond_both (plain b) _ _ (λ n. quote_end p (b ∷ bs) ≡ quote_end (p + n) (drop n (b ∷ bs)))
    (λ t. cond-false _ _ _ (not_quote b t) ∙ cond-true _ _ _ t ∙ quote_counted (p + 1) bs ∙ (let e : p + 1 + prefix_len plain bs ≡ p + (1 + prefix_len plain bs) = omega arith in ap (λ k. quote_end k (drop (prefix_len plain bs) bs)) e) ∙ rw one-add)
    (λ f. rw add-zero)

-- how a quoted text ends whose bytes at p are bs, the first n of them plain
module _ (p : ℕ) (bs : List ℕ) (n : ℕ) (c : n ≡ prefix_len plain bs) where
  goes : {q : Quote} → quote_end (p + n) (drop n bs) ≡ q → quote_end p bs ≡ q
  goes e = quote_counted p bs ∙ ap (λ k. quote_end (p + k) (drop k bs)) (sym c) ∙ e

  pub end_unclosed : length bs ≤ n → quote_end p bs ≡ unclosed
  unfolding quote_end
  end_unclosed h = goes (at_drop_all (quote_end (p + n)) bs n h)

  pub end_closed : n < length bs → get_or bs n 0 ≡ 39 → quote_end p bs ≡ closed (p + n)
  unfolding quote_end
  end_closed h e = goes (at_drop_more (quote_end (p + n)) bs n 0 h ∙ cond-true _ _ _ (eq-eqb _ 39 e))

  pub end_wrong : n < length bs → (get_or bs n 0 ≡ 39 → ⊥) → quote_end p bs ≡ wrong (p + n)
  unfolding quote_end
  end_wrong h e =
      let stops = prefix_len_stops plain bs 0 (omega arith) in
      goes
      (at_drop_more (quote_end (p + n)) bs n 0 h
      ∙ cond-false _ _ _ (ne_eqb _ 39 e) ∙ cond-false _ _ _ (ap (λ k. plain (get_or bs k 0)) c ∙ stops))

-- what stands at a position
module _ (text : List ℕ) (at : Position) (s : at ≡ position text at.place) where
  -- a quote, and past it the bytes bs, the first n of them plain
  module _ (bs : List ℕ) (n : ℕ) (c : n ≡ prefix_len plain bs) where
    pub unclosed_answer : length bs ≤ n → fault (fault_at at) ≡ quote_token text at.place (quote_end (at.place + 1) bs)
    unclosed_answer h = ap (λ a. fault (fault_at a)) s ∙ ap (quote_token text at.place) (sym (end_unclosed (at.place + 1) bs n c h))

    pub closed_answer : n < length bs → get_or bs n 0 ≡ 39 → bs ≡ drop (at.place + 1) text → lexed (seen (quoted (take n bs)) at) (at.place + (n + 2)) ≡ quote_token text at.place (quote_end (at.place + 1) bs)
    closed_answer h e b =
        let past : at.place + (n + 2) ≡ at.place + 1 + n + 1 = omega arith in
        let m : n ≡ at.place + 1 + n - (at.place + 1) = omega arith in
        (λ j. lexed (seen (quoted (take (m j) (b j))) (s j)) (past j))
        ∙ ap (quote_token text at.place) (sym (end_closed (at.place + 1) bs n c h e))

    pub wrong_answer : n < length bs → (get_or bs n 0 ≡ 39 → ⊥) → (here : Position) → here.place ≡ at.place + (n + 1) → here ≡ position text here.place → fault (fault_at here) ≡ quote_token text at.place (quote_end (at.place + 1) bs)
    wrong_answer h e here m r =
        let there : here.place ≡ at.place + 1 + n = omega arith in
        ap (λ a. fault (fault_at a)) (r ∙ ap (position text) there)
        ∙ ap (quote_token text at.place) (sym (end_wrong (at.place + 1) bs n c h e))

  -- the bytes bs, the first n of them letters
  pub word_answer : (bs : List ℕ) (n : ℕ) → bs ≡ drop at.place text → n ≡ prefix_len letter bs → 0 < length bs → letter (get_or bs 0 0) ≡ true → lexed (seen (word (take n bs)) at) (at.place + n) ≡ token_at text at.place
  word_answer [] n b c h e = absurd (omega arith)
  word_answer (x ∷ bs) n b c h e =
      let m : n ≡ at.place + n - at.place = omega arith in
      let to : at.place + n ≡ word_end at.place (x ∷ bs) = omega (arith, word_counted at.place (x ∷ bs)) in
      (λ j. lexed (seen (word (take (m j) (b j))) (s j)) (at.place + n))
      ∙ (λ j. mark text at.place (word (between at.place (to j) text)) (to j))
      ∙ sym (ap (token text at.place) (sym b) ∙ cond-true _ _ _ e)

-- the token by its first byte
pub by_byte : (text : List ℕ) (p : ℕ) → p < length text → (b : ℕ) {x : Lexed} → get_or text p 0 ≡ b → token text p (b ∷ drop (p + 1) text) ≡ x → token_at text p ≡ x
by_byte text p h b e t = at_drop_more (token text p) text p 0 h ∙ ap (λ k. token text p (k ∷ drop (p + 1) text)) e ∙ t
