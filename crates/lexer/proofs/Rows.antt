-- The row from a place, one token on.
use Rattle.std.proofs.Common.{◌≡◌, ℕ, zero, suc, ◌+◌, ◌-◌, ◌<◌, ◌≤◌, false, List, length, drop, Ok, Err, Result, sym, refl, ap, ◌∙◌, subst, ⊎_elim, arith}
use Rattle.std.proofs.lemmas.List.{at_drop_more, at_drop_all}
use Rattle.std.proofs.lemmas.Bool.{cond-true, cond-false, lt-ltb, le-ltb, cases_lt}
use Rattle.lexer.specs.declared.fault.LexFault.{LexFault}
use Rattle.lexer.specs.declared.position.Position.{Position}
use Rattle.lexer.specs.declared.placed.Placed.{Placed}
use Rattle.lexer.specs.declared.token.Token.{Token}
use Rattle.lexer.specs.Bytes.{position}
use Rattle.lexer.specs.Lexing.{Seen, seen, end, Lexed, lexed, fault, skipped, token, next_token, scanned}
use Rattle.lexer.specs.Rows.{token as token_row, ended, begun, tokens, row_from, parsed, next, placed_sight, answer}
use Rattle.lexer.proofs.Bounds.{Taken, next_taken}

-- bytes before q are passed over
pub tokens_skip : (text : List ℕ) (n p q : ℕ) → p + n ≡ q → q ≤ length text → tokens text q p (drop p text) ≡ row_from text q
unfolding tokens row_from
tokens_skip text zero p q e h = let s : p ≡ q = omega arith in ap (λ k. tokens text q k (drop k text)) s
tokens_skip text (suc n) p q e h =
    at_drop_more (tokens text q p) text p 0 (omega arith) ∙ cond-true _ _ _ (lt-ltb p q (omega arith)) ∙ tokens_skip text n (p + 1) q (omega arith) h

pub end_row : (text : List ℕ) (p : ℕ) → length text ≤ p → row_from text p ≡ ended (position text p)
unfolding tokens row_from
end_row text p h = at_drop_all (tokens text p p) text p h

-- the head of the row is the next token, and the tail is the row from the place past it
begun_same : (text : List ℕ) (p : ℕ) (x : Lexed) → Taken text p x → begun x (λ e. tokens text e (p + 1) (drop (p + 1) text)) ≡ begun x (row_from text)
begun_same text p (lexed (seen l at) e) t = ap (token_row l at) (tokens_skip text (e - (p + 1)) (p + 1) e (omega arith) t.1)
begun_same text p (lexed (end at) e) t = refl
begun_same text p (fault f) t = refl

pub row_turn : (text : List ℕ) (p : ℕ) → p < length text → row_from text p ≡ begun (next_token text p) (row_from text)
unfolding tokens row_from
row_turn text p h =
    at_drop_more (tokens text p p) text p 0 h
    ∙ cond-false _ _ _ (le-ltb p p (omega arith))
    ∙ begun_same text p (next_token text p) (next_taken text p (omega arith))

last_token : (text : List ℕ) (p : ℕ) → length text ≤ p → next_token text p ≡ lexed (end (position text p)) p
unfolding skipped
last_token text p h =
    let s = at_drop_all (skipped false p) text p h in
    ap (λ k. token text k (drop k text)) s ∙ at_drop_all (token text p) text p h

pub row_is : (text : List ℕ) (p : ℕ) → row_from text p ≡ begun (next_token text p) (row_from text)
row_is text p =
    ⊎_elim
    (row_turn text p)
    (λ h. end_row text p h ∙ sym (ap (λ x. begun x (row_from text)) (last_token text p h)))
    (cases_lt p (length text))

-- what a token that was read is of the row
head_is : (text : List ℕ) (p : ℕ) (s : Seen) (q : ℕ) → Taken text p (lexed s q) → parsed s (row_from text q) ≡ next (begun (lexed s q) (row_from text))
unfolding next
head_is text p (seen l at) q t = refl
head_is text p (end at) q t = ap (parsed (end at)) (end_row text q t.1 ∙ ap ended (sym t.0))

pub row_step : (text : List ℕ) (p : ℕ) (r : Result (Placed Token) LexFault) (to : Position) → p ≤ length text → scanned r to ≡ next_token text p → answer placed_sight r (row_from text to.place) ≡ next (row_from text p)
unfolding next
row_step text p (Ok t) to h e =
    head_is text p _ _ (subst (Taken text p) (sym e) (next_taken text p h)) ∙ ap (λ x. next (begun x (row_from text))) e ∙ sym (ap next (row_is text p))
row_step text p (Err f) to h e = ap (λ x. next (begun x (row_from text))) e ∙ sym (ap next (row_is text p))
