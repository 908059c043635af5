-- A text as the row of its tokens, and what is read off a row.
use Rattle.std.specs.Prelude.{ℕ, ◌+◌, cond, List, [], ◌∷◌, drop, Ok, Err, Result, nat_lt}
use Rattle.lexer.specs.declared.fault.LexFault.{LexFault}
use Rattle.lexer.specs.declared.position.Position.{Position}
use Rattle.lexer.specs.declared.placed.Placed.{Placed}
use Rattle.lexer.specs.declared.token.Token.{Token}
use Rattle.lexer.specs.Bytes.{position}
use Rattle.lexer.specs.Lexing.{Lexeme, Seen, seen, end, Lexed, lexed, fault, sight, next_token}

-- tokens with their positions, up to the end of the text or a fault
pub data Row : Type 0 where
  token : Lexeme → Position → Row → Row
  ended : Position → Row
  broken : LexFault → Row

-- the row that begins with what stands next, where `go` has the row from the place past it
abbrev pub begun : Lexed → (ℕ → Row) → Row
begun (lexed (seen l at) e) go = token l at (go e)
begun (lexed (end at) e) go = ended at
begun (fault f) go = broken f

-- the row from the place q on; p ≤ q is the place of the bytes bs
unfoldable pub tokens : List ℕ → ℕ → ℕ → List ℕ → Row
tokens text q p [] = ended (position text p)
tokens text q p (b ∷ bs) =
    cond (nat_lt p q) (tokens text q (p + 1) bs) (begun (next_token text p) (λ e. tokens text e (p + 1) bs))

unfoldable pub row_from : List ℕ → ℕ → Row
row_from text p = tokens text p p (drop p text)

abbrev pub row : List ℕ → Row
row text = row_from text 0

-- what was read and the row past it, or the first fault
pub data Parsed (A : Type 0) : Type 0 where
  parsed : A → Row → Parsed A
  failed : LexFault → Parsed A

-- one token; the end stays
unfoldable pub next : Row → Parsed Seen
next (token l at r) = parsed (seen l at) r
next (ended at) = parsed (end at) (ended at)
next (broken f) = failed f

abbrev pub placed_sight : Placed Token → Seen
placed_sight t = sight t.part t.at

-- what the code answers, with the row past it
abbrev pub answer : {A B : Type 0} → (A → B) → Result A LexFault → Row → Parsed B
answer f (Ok x) r = parsed (f x) r
answer f (Err e) r = failed e
