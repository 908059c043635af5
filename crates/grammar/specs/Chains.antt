-- KIND['TITLE'] -> KIND['TITLE'] ~> .., read off a row of tokens. Assumes nothing.
use Rattle.std.specs.Prelude.{ℕ, Bool, false, cond, not, List, [], ◌∷◌, ◌++◌, length, is_some, Some, None, Option, nat_lt}
use Rattle.lexer.specs.Lexing.{Lexeme, word, quoted, open_brace, close_brace, open_bracket, close_bracket, colon, comma, gives, before, notifies}
use Rattle.lexer.specs.Rows.{Row, token, ended, broken}
use Rattle.lexer.specs.declared.position.Position.{Position}
use Rattle.syntax.specs.declared.arrow.Arrow.{Arrow}
use Rattle.syntax.specs.declared.arrow.Arrow.TheVariants.{Before, Notifies}
use Rattle.syntax.specs.declared.fault.Ground.TheVariants.{Unexpected, TooMany}
use Rattle.syntax.specs.declared.kind.Kind.{Kind}
use Rattle.syntax.specs.declared.mark.Mark.TheVariants.{OpenBracket, CloseBracket}
use Rattle.syntax.specs.Faults.{no_token}
use Rattle.syntax.specs.Kinds.{referred_kind}
use Rattle.syntax.specs.Reading.{Read, read, refused, after, or_refuse, taken}
use Rattle.syntax.specs.Repeating.{Turn, repeated}
use Rattle.syntax.specs.Tokens.{word_of, quoted_of, the_mark}
use Rattle.grammar.specs.Documents.{Ref, Link}

abbrev pub arrow_of : Lexeme → Option Arrow
arrow_of (word w) = None
arrow_of (quoted q) = None
arrow_of open_brace = None
arrow_of close_brace = None
arrow_of open_bracket = None
arrow_of close_bracket = None
arrow_of colon = None
arrow_of comma = None
arrow_of gives = None
arrow_of before = Some Before
arrow_of notifies = Some Notifies

-- whether an arrow comes next, which stays
unfoldable pub arrow_follows : Row → Read Bool
arrow_follows (token l at r) = read (is_some (arrow_of l)) (token l at r)
arrow_follows (ended at) = read false (ended at)
arrow_follows (broken b) = refused (no_token b)

-- ['TITLE'], past the word of the kind, whose position is p
unfoldable pub bracketed : Kind → Position → Row → Read Ref
bracketed k p row =
    after (taken (the_mark OpenBracket) row) (λ _ r.
    after (taken quoted_of r) (λ t r.
    after (taken (the_mark CloseBracket) r) (λ _ r.
    read (record { kind = k; title = t.value; at = p }) r)))

unfoldable pub reference : Row → Read Ref
reference row =
    after (taken word_of row) (λ w r.
    or_refuse (referred_kind w.value) Unexpected w.at (λ k.
    bracketed k w.at r))

-- an arrow and a reference
unfoldable pub link : Ref → Row → Read Link
link left row =
    after (taken arrow_of row) (λ a r.
    after (reference r) (λ right r.
    read (record { left = left; arrow = a.value; at = a.at; right = right }) r))

-- a list with one more, of n at most
abbrev pub room : {A : Type 0} → ℕ → List A → A → Option (List A)
room n xs x = cond (nat_lt (length xs) n) (Some (xs ++ x ∷ [])) None

-- the last reference, and the links so far
pub record Chained : Type 0 where
  pub left : Ref
  pub links : List Link

-- one link more, and whether it is the last
unfoldable pub chain_turn : Chained → Row → Read (Turn Chained)
chain_turn s row =
    after (link s.left row) (λ l r.
    or_refuse (room 64 s.links l) TooMany l.at (λ ls.
    after (arrow_follows r) (λ more r.
    read (record { state = record { left = l.right; links = ls }; last = not more }) r)))

-- what stands past the word of the first reference's kind, whose position is p; the links come behind those in ls
unfoldable pub chain : Kind → Position → List Link → Row → Read (List Link)
chain k p ls row =
    after (bracketed k p row) (λ left r.
    after (repeated chain_turn (record { left = left; links = ls }) r) (λ s r.
    read s.links r))
