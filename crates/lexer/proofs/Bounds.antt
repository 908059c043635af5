-- Where a token ends.
use Rattle.std.proofs.Common.{◌≡◌, ℕ, ◌+◌, ◌<◌, ◌≤◌, Bool, true, false, ◌||◌, eqb, List, [], ◌∷◌, length, drop, refl, arith, length-drop}
use Rattle.std.proofs.lemmas.Bool.{cond_both, cond-true}
use Rattle.std.proofs.lemmas.List.Sums.{prefix_len-le-length}
use Rattle.lexer.proofs.Steps.{word_counted}
use Rattle.lexer.specs.declared.position.Position.{Position}
use Rattle.lexer.specs.Bytes.{blank, letter, plain, position}
use Rattle.lexer.specs.Lexing.{Lexeme, open_brace, close_brace, open_bracket, close_bracket, colon, comma, gives, before, notifies, seen, end, Lexed, lexed, fault, skipped, word_end, Quote, closed, wrong, unclosed, quote_end, quote_token, arrow, token, next_token, mark}

pub skip_bounds : (inside : Bool) (p : ℕ) (bs : List ℕ) → (p ≤ skipped inside p bs) × (skipped inside p bs ≤ p + length bs)
unfolding skipped
skip_bounds inside p [] = (omega arith, omega arith)
skip_bounds inside p (b ∷ bs) =
    let P : ℕ → Type 0 = λ n. (p ≤ n) × (n ≤ p + length (b ∷ bs)) in
    let step : (i : Bool) → P (skipped i (p + 1) bs) = λ i. let h = skip_bounds i (p + 1) bs in (omega arith, omega arith) in
    cond_both (eqb b 10) _ _ P (λ _. step false)
    (λ _. cond_both (eqb b 35) _ _ P (λ _. step true)
    (λ _. cond_both (inside || blank b) _ _ P (λ _. step inside) (λ _. (omega arith, omega arith))))

pub word_bounds : (p : ℕ) (bs : List ℕ) → (p ≤ word_end p bs) × (word_end p bs ≤ p + length bs)
word_bounds p bs = let c = word_counted p bs in let h = prefix_len-le-length letter bs in (omega arith, omega arith)

pub word_past : (p b : ℕ) (bs : List ℕ) → letter b ≡ true → p < word_end p (b ∷ bs)
unfolding word_end
word_past p b bs e = let h = word_bounds (p + 1) bs in rw (cond-true (letter b) (word_end (p + 1) bs) p e) (omega arith)

-- a closing quote lies at p or past it, and before n
abbrev pub Closes : ℕ → ℕ → Quote → Type 0
Closes p n (closed e) = (p ≤ e) × (e < n)
Closes p n (wrong e) = Unit {0}
Closes p n unclosed = Unit {0}

closes_weaker : (p n : ℕ) (q : Quote) → Closes (p + 1) n q → Closes p n q
closes_weaker p n (closed e) h = (omega arith, h.1)
closes_weaker p n (wrong e) h = tt
closes_weaker p n unclosed h = tt

pub quote_bounds : (p n : ℕ) (bs : List ℕ) → n ≡ p + length bs → Closes p n (quote_end p bs)
unfolding quote_end
quote_bounds p n [] h = tt
quote_bounds p n (b ∷ bs) h =
    cond_both (eqb b 39) _ _ (Closes p n) (λ _. (omega arith, omega arith))
    (λ _. cond_both (plain b) _ _ (Closes p n) (λ _. closes_weaker p n _ (quote_bounds (p + 1) n bs (omega arith))) (λ _. tt))

-- a token that is read from p on ends past p, within the text; the end stands at its end
abbrev pub Taken : List ℕ → ℕ → Lexed → Type 0
Taken text p (lexed (seen l at) e) = (p < e) × (e ≤ length text)
Taken text p (lexed (end at) e) = (at ≡ position text e) × (length text ≤ e) × (e ≤ length text)
Taken text p (fault f) = Unit {0}

module _ (text : List ℕ) (p : ℕ) where
  quote_taken : (q : Quote) → Closes (p + 1) (length text) q → Taken text p (quote_token text p q)
  quote_taken (closed e) h = (omega arith, omega arith)
  quote_taken (wrong e) h = tt
  quote_taken unclosed h = tt

  arrow_taken : (l : Lexeme) (at : Position) (bs : List ℕ) → length text ≡ p + 1 + length bs → Taken text p (arrow text p (seen l at) bs)
  arrow_taken l at [] h = tt
  arrow_taken l at (b ∷ bs) h = cond_both (eqb b 62) _ _ (Taken text p) (λ _. (omega arith, omega arith)) (λ _. tt)

  pub token_taken : (bs : List ℕ) → length text ≡ p + length bs → Taken text p (token text p bs)
  token_taken [] h = (refl, omega arith, omega arith)
  token_taken (b ∷ bs) h =
      let P : Lexed → Type 0 = Taken text p in
      let one : (l : Lexeme) → P (mark text p l (p + 1)) = λ l. (omega arith, omega arith) in
      let two : (l : Lexeme) → P (arrow text p (seen l (position text p)) bs) = λ l. arrow_taken l _ bs (omega arith) in
      cond_both (letter b) _ _ P (λ e. let w = word_bounds p (b ∷ bs) in (word_past p b bs e, omega arith))
      (λ _. cond_both (eqb b 123) _ _ P (λ _. one open_brace)
      (λ _. cond_both (eqb b 125) _ _ P (λ _. one close_brace)
      (λ _. cond_both (eqb b 91) _ _ P (λ _. one open_bracket)
      (λ _. cond_both (eqb b 93) _ _ P (λ _. one close_bracket)
      (λ _. cond_both (eqb b 58) _ _ P (λ _. one colon)
      (λ _. cond_both (eqb b 44) _ _ P (λ _. one comma)
      (λ _. cond_both (eqb b 61) _ _ P (λ _. two gives)
      (λ _. cond_both (eqb b 45) _ _ P (λ _. two before)
      (λ _. cond_both (eqb b 126) _ _ P (λ _. two notifies)
      (λ _. cond_both (eqb b 39) _ _ P (λ _. quote_taken _ (quote_bounds (p + 1) (length text) bs (omega arith))) (λ _. tt)))))))))))

taken_weaker : (text : List ℕ) (p s : ℕ) (x : Lexed) → p ≤ s → Taken text s x → Taken text p x
taken_weaker text p s (lexed (seen l at) e) h t = (omega arith, t.1)
taken_weaker text p s (lexed (end at) e) h t = t
taken_weaker text p s (fault f) h t = tt

pub next_taken : (text : List ℕ) (p : ℕ) → p ≤ length text → Taken text p (next_token text p)
next_taken text p h =
    let s = skipped false p (drop p text) in
    let b = skip_bounds false p (drop p text) in
    let d = length-drop p text in
    taken_weaker text p s (token text s (drop s text)) b.0 (token_taken text s (drop s text) (omega (arith, length-drop s text)))
