-- Which token it was that the grammar took. Assumes nothing.
use Rattle.std.proofs.Common.{◌≡◌, ℕ, Bool, true, false, cond, eqb, List, Some, None, Option, sym, refl, ap, ◌∙◌, inl, inr}
use Rattle.std.proofs.lemmas.Bool.{eqb-true, false≢true}
use Rattle.lexer.specs.Lexing.{Lexeme, word, quoted, open_brace, close_brace, open_bracket, close_bracket, colon, comma, gives, before, notifies}
use Rattle.lexer.specs.Rows.{Row, token}
use Rattle.syntax.specs.declared.arrow.Arrow.{Arrow}
use Rattle.syntax.specs.declared.arrow.Arrow.TheVariants.{Before, Notifies}
use Rattle.syntax.specs.declared.mark.Mark.{Mark}
use Rattle.syntax.specs.declared.mark.Mark.TheVariants.{OpenBrace, Colon, Gives, OpenBracket, CloseBracket}
use Rattle.syntax.specs.Reading.{read, Located, taken}
use Rattle.syntax.specs.Tokens.{word_of, quoted_of, value_of, mark_of, mark_number, is_marked, the_mark}
use Rattle.grammar.specs.Declarations.{closer_of}
use Rattle.grammar.specs.Chains.{arrow_of}
use Rattle.grammar.specs.Grammar.{arrow_lexeme}
use Rattle.grammar.proofs.Inversions.{pick, no_some, spelled_token}

pub word_inv : (l : Lexeme) (a : List ℕ) → Some a ≡ word_of l → l ≡ word a
word_inv (word v) a e = cc
word_inv (quoted v) a e = absurd (no_some e)
word_inv open_brace a e = absurd (no_some e)
word_inv close_brace a e = absurd (no_some e)
word_inv open_bracket a e = absurd (no_some e)
word_inv close_bracket a e = absurd (no_some e)
word_inv colon a e = absurd (no_some e)
word_inv comma a e = absurd (no_some e)
word_inv gives a e = absurd (no_some e)
word_inv before a e = absurd (no_some e)
word_inv notifies a e = absurd (no_some e)

pub quoted_inv : (l : Lexeme) (a : List ℕ) → Some a ≡ quoted_of l → l ≡ quoted a
quoted_inv (word v) a e = absurd (no_some e)
quoted_inv (quoted v) a e = cc
quoted_inv open_brace a e = absurd (no_some e)
quoted_inv close_brace a e = absurd (no_some e)
quoted_inv open_bracket a e = absurd (no_some e)
quoted_inv close_bracket a e = absurd (no_some e)
quoted_inv colon a e = absurd (no_some e)
quoted_inv comma a e = absurd (no_some e)
quoted_inv gives a e = absurd (no_some e)
quoted_inv before a e = absurd (no_some e)
quoted_inv notifies a e = absurd (no_some e)

value_inv : (l a : Lexeme) → Some a ≡ value_of l → l ≡ a
value_inv (word v) a e = cc
value_inv (quoted v) a e = cc
value_inv open_brace a e = absurd (no_some e)
value_inv close_brace a e = absurd (no_some e)
value_inv open_bracket a e = absurd (no_some e)
value_inv close_bracket a e = absurd (no_some e)
value_inv colon a e = absurd (no_some e)
value_inv comma a e = absurd (no_some e)
value_inv gives a e = absurd (no_some e)
value_inv before a e = absurd (no_some e)
value_inv notifies a e = absurd (no_some e)

abbrev pub closer_lexeme : Bool → Lexeme
closer_lexeme true = close_brace
closer_lexeme false = comma

pub closer_inv : (l : Lexeme) (a : Bool) → Some a ≡ closer_of l → l ≡ closer_lexeme a
closer_inv (word v) a e = absurd (no_some e)
closer_inv (quoted v) a e = absurd (no_some e)
closer_inv open_brace a e = absurd (no_some e)
closer_inv close_brace a e = let b : true ≡ a = cc in ap closer_lexeme b
closer_inv open_bracket a e = absurd (no_some e)
closer_inv close_bracket a e = absurd (no_some e)
closer_inv colon a e = absurd (no_some e)
closer_inv comma a e = let b : false ≡ a = cc in ap closer_lexeme b
closer_inv gives a e = absurd (no_some e)
closer_inv before a e = absurd (no_some e)
closer_inv notifies a e = absurd (no_some e)

arrow_inv : (l : Lexeme) (a : Arrow) → Some a ≡ arrow_of l → l ≡ arrow_lexeme a
arrow_inv (word v) a e = absurd (no_some e)
arrow_inv (quoted v) a e = absurd (no_some e)
arrow_inv open_brace a e = absurd (no_some e)
arrow_inv close_brace a e = absurd (no_some e)
arrow_inv open_bracket a e = absurd (no_some e)
arrow_inv close_bracket a e = absurd (no_some e)
arrow_inv colon a e = absurd (no_some e)
arrow_inv comma a e = absurd (no_some e)
arrow_inv gives a e = absurd (no_some e)
arrow_inv before a e = let b : Before ≡ a = cc in ap arrow_lexeme b
arrow_inv notifies a e = let b : Notifies ≡ a = cc in ap arrow_lexeme b

abbrev pub mark_lexeme : Mark → Lexeme
mark_lexeme OpenBrace = open_brace
mark_lexeme Colon = colon
mark_lexeme Gives = gives
mark_lexeme OpenBracket = open_bracket
mark_lexeme CloseBracket = close_bracket

mark_inv : (l : Lexeme) (a : Mark) → Some a ≡ mark_of l → l ≡ mark_lexeme a
mark_inv (word v) a e = absurd (no_some e)
mark_inv (quoted v) a e = absurd (no_some e)
mark_inv open_brace a e = let b : OpenBrace ≡ a = cc in ap mark_lexeme b
mark_inv close_brace a e = absurd (no_some e)
mark_inv open_bracket a e = let b : OpenBracket ≡ a = cc in ap mark_lexeme b
mark_inv close_bracket a e = let b : CloseBracket ≡ a = cc in ap mark_lexeme b
mark_inv colon a e = let b : Colon ≡ a = cc in ap mark_lexeme b
mark_inv comma a e = absurd (no_some e)
mark_inv gives a e = let b : Gives ≡ a = cc in ap mark_lexeme b
mark_inv before a e = absurd (no_some e)
mark_inv notifies a e = absurd (no_some e)

-- the mark of a number
abbrev numbered : ℕ → Mark
numbered n = cond (eqb n 0) OpenBrace (cond (eqb n 1) Colon (cond (eqb n 2) Gives (cond (eqb n 3) OpenBracket CloseBracket)))

numbered_is : (m : Mark) → numbered (mark_number m) ≡ m
numbered_is OpenBrace = refl
numbered_is Colon = refl
numbered_is Gives = refl
numbered_is OpenBracket = refl
numbered_is CloseBracket = refl

marked_inv : (m : Mark) (o : Option Mark) → is_marked m o ≡ true → Some m ≡ o
marked_inv m None e = absurd (false≢true e)
marked_inv m (Some n) e = ap Some (sym (numbered_is m) ∙ ap numbered (sym (eqb-true (mark_number n) (mark_number m) e)) ∙ numbered_is n)

the_mark_inv : (m : Mark) (l : Lexeme) (a : Unit {0}) → Some a ≡ the_mark m l → l ≡ mark_lexeme m
the_mark_inv m l a e =
    elim (pick (is_marked m (mark_of l)) _ _ e) [ inl h ↦ mark_inv l m (marked_inv m (mark_of l) h.0) | inr h ↦ absurd (no_some h.1) ]

module _ (row : Row) {q : Row} where
  pub word_taken : {x : Located (List ℕ)} → read x q ≡ taken word_of row → row ≡ token (word x.value) x.at q
  word_taken e = spelled_token word_of word word_inv row e

  pub quoted_taken : {x : Located (List ℕ)} → read x q ≡ taken quoted_of row → row ≡ token (quoted x.value) x.at q
  quoted_taken e = spelled_token quoted_of quoted quoted_inv row e

  pub value_taken : {x : Located Lexeme} → read x q ≡ taken value_of row → row ≡ token x.value x.at q
  value_taken e = spelled_token value_of (λ l. l) value_inv row e

  pub closer_taken : {x : Located Bool} → read x q ≡ taken closer_of row → row ≡ token (closer_lexeme x.value) x.at q
  closer_taken e = spelled_token closer_of closer_lexeme closer_inv row e

  pub arrow_taken : {x : Located Arrow} → read x q ≡ taken arrow_of row → row ≡ token (arrow_lexeme x.value) x.at q
  arrow_taken e = spelled_token arrow_of arrow_lexeme arrow_inv row e

  pub mark_taken : (m : Mark) {x : Located (Unit {0})} → read x q ≡ taken (the_mark m) row → row ≡ token (mark_lexeme m) x.at q
  mark_taken m e = spelled_token (the_mark m) (λ _. mark_lexeme m) (the_mark_inv m) row e
