-- The next token, by what the lexer answers. Assumes nothing.
use Rattle.std.proofs.Common.{◌≡◌, ℕ, Some, None, Ok, Err, Option, Result, sym, refl, ap, ◌∙◌, arith}
use Rattle.std.specs.Option.{option_map}
use Rattle.lexer.specs.Lexing.{Lexeme, Seen, seen, end, sight}
use Rattle.lexer.specs.Rows.{Row, token, ended, broken, parsed, failed, next, placed_sight, answer as lexer_answer}
use Rattle.lexer.specs.Spots.{Spot, ahead}
use Rattle.lexer.specs.declared.fault.LexFault.{LexFault}
use Rattle.lexer.specs.declared.placed.Placed.{Placed}
use Rattle.lexer.specs.declared.position.Position.{Position}
use Rattle.lexer.specs.declared.token.Token.{Token}
use Rattle.lexer.specs.declared.token.Token.TheVariants.{Word, Quoted, OpenBrace, CloseBrace, OpenBracket, CloseBracket, Colon, Comma, Gives, Before, Notifies, End}
use Rattle.syntax.specs.declared.fault.Ground.TheVariants.{Unexpected}
use Rattle.syntax.specs.Faults.{TextFault, fault_at, no_token}
use Rattle.syntax.specs.Parts.{placed_as}
use Rattle.syntax.specs.Picking.{or_unexpected, Picked, Picks}
use Rattle.syntax.specs.Reading.{Read, read, refused, refuse, or_refuse, Located, taken, answer, Reads}
use Rattle.syntax.specs.Tokens.{of_seen, seen_at}

pub sight_at : (t : Token) (p : Position) → seen_at (sight t p) ≡ p
sight_at (Word s) p = refl
sight_at (Quoted s) p = refl
sight_at OpenBrace p = refl
sight_at CloseBrace p = refl
sight_at OpenBracket p = refl
sight_at CloseBracket p = refl
sight_at Colon p = refl
sight_at Comma p = refl
sight_at Gives p = refl
sight_at Before p = refl
sight_at Notifies p = refl
sight_at End p = refl

module _ {A : Type 0} (f : Lexeme → Option A) where
  abbrev by_seen : Seen → Row → Read (Located A)
  by_seen s q = or_refuse (of_seen f s) Unexpected (seen_at s) (λ x. read (record { value = x; at = seen_at s }) q)

  taken_seen : (s : Seen) (q row : Row) → parsed s q ≡ next row → taken f row ≡ by_seen s q
  unfolding next taken or_refuse
  taken_seen (seen l at) q (token m p r) e =
      let a : l ≡ m = cc in
      let b : at ≡ p = cc in
      let c : q ≡ r = cc in
      λ i. or_refuse (f (sym a i)) Unexpected (sym b i) (λ x. read (record { value = x; at = sym b i }) (sym c i))
  taken_seen (end at) q (token m p r) e = let z : ◌≡◌ {A = ℕ} 0 1 = cc in absurd (omega arith)
  taken_seen (seen l at) q (ended p) e = let z : ◌≡◌ {A = ℕ} 0 1 = cc in absurd (omega arith)
  taken_seen (end at) q (ended p) e = let b : at ≡ p = cc in ap (λ p. refuse Unexpected p) (sym b)
  taken_seen s q (broken b) e = let z : ◌≡◌ {A = ℕ} 0 1 = cc in absurd (omega arith)

  -- a token of the code, at its position
  module _ (t : Token) (at : Position) (q row : Row) (e : parsed (sight t at) q ≡ next row) where
    pub takes : {x : A} → Some x ≡ of_seen f (sight t at) → read (record { value = x; at = at }) q ≡ taken f row
    unfolding or_refuse
    takes {x} o =
        ap (λ p. read (record { value = x; at = p }) q) (sym (sight_at t at))
        ∙ ap (λ o. or_refuse o Unexpected (seen_at (sight t at)) (λ y. read (record { value = y; at = seen_at (sight t at) }) q)) o
        ∙ sym (taken_seen (sight t at) q row e)

    pub turns_down : None ≡ of_seen f (sight t at) → refused (fault_at at Unexpected) ≡ taken f row
    unfolding or_refuse
    turns_down o =
        ap (λ p. refuse Unexpected p) (sym (sight_at t at))
        ∙ ap (λ o. or_refuse o Unexpected (seen_at (sight t at)) (λ y. read (record { value = y; at = seen_at (sight t at) }) q)) o
        ∙ sym (taken_seen (sight t at) q row e)

  pub breaks_off : (b : LexFault) (row : Row) → failed b ≡ next row → refused (no_token b) ≡ taken f row
  unfolding next taken
  breaks_off b (token m p r) e = let z : ◌≡◌ {A = ℕ} 0 1 = cc in absurd (omega arith)
  breaks_off b (ended p) e = let z : ◌≡◌ {A = ℕ} 0 1 = cc in absurd (omega arith)
  breaks_off b (broken c) e = let z : b ≡ c = cc in ap (λ b. refused (no_token b)) z

-- the grammar makes of a token what is picked of it, as f means that
abbrev pub Agrees : {T A : Type 0} → (T → A) → (Lexeme → Option A) → (Token → Option T → Type 0) → Type 0
Agrees {T} means f picks = (t : Token) (o : Option T) → picks t o → (p : Position) → option_map means o ≡ of_seen f (sight t p)

module _ {T A : Type 0} (means : T → A) (f : Lexeme → Option A) {picks : Token → Option T → Type 0} where
  token_read : Agrees means f picks → (t : Placed Token) (o : Option T) (r : Result (Placed T) TextFault) (q row : Row) → parsed (placed_sight t) q ≡ next row → picks t.part o → r ≡ or_unexpected o t.at → answer (placed_as means) r q ≡ taken f row
  token_read h t (Some x) r q row e o a = ap (λ r. answer (placed_as means) r q) a ∙ takes f t.part t.at q row e (h t.part (Some x) o t.at)
  token_read h t None r q row e o a = ap (λ r. answer (placed_as means) r q) a ∙ turns_down f t.part t.at q row e (h t.part None o t.at)

  answer_read : Agrees means f picks → (l : Result (Placed Token) LexFault) (r : Result (Placed T) TextFault) (q row : Row) → lexer_answer placed_sight l q ≡ next row → Picked picks l r → answer (placed_as means) r q ≡ taken f row
  answer_read h (Ok t) r q row e a = token_read h t a.0 r q row e a.1 a.2
  answer_read h (Err b) r q row e a = ap (λ r. answer (placed_as means) r q) a ∙ breaks_off f b row e

  pub picked : {from to : Spot} {r : Result (Placed T) TextFault} → Picks picks from r to → Agrees means f picks → Reads (placed_as means) (taken f) from r to
  picked {from} {to} {r} p h = record { text = p.text; stands = p.stands; answers = λ s. answer_read h p.lexed r (ahead to) (ahead from) (p.stood s) p.answers }

-- the same where a part is what the grammar takes
pub picked_itself : {A : Type 0} (f : Lexeme → Option A) {picks : Token → Option A → Type 0} {from to : Spot} {r : Result (Placed A) TextFault} → Picks picks from r to → ((t : Token) (o : Option A) → picks t o → (p : Position) → o ≡ of_seen f (sight t p)) → Reads (placed_as (λ x. x)) (taken f) from r to
picked_itself f p h = picked (λ x. x) f p (λ t o k at. itself o ∙ h t o k at)
  where
    itself : {A : Type 0} (o : Option A) → option_map (λ x. x) o ≡ o
    itself (Some x) = refl
    itself None = refl
