-- The tokens of a text. A place counts bytes from the start of the text.
use Rattle.std.specs.Prelude.{ℕ, ◌+◌, Bool, true, false, cond, ◌||◌, List, [], ◌∷◌, length, drop, Ok, Err, Result, ◌==◌}
use Rattle.std.specs.List.{between}
use Rattle.lexer.specs.declared.fault.LexFault.{LexFault}
use Rattle.lexer.specs.declared.position.Position.{Position}
use Rattle.lexer.specs.declared.placed.Placed.{Placed}
use Rattle.lexer.specs.declared.token.Token.{Token}
use Rattle.lexer.specs.declared.token.Token.TheVariants.{Word, Quoted, OpenBrace, CloseBrace, OpenBracket, CloseBracket, Colon, Comma, Gives, Before, Notifies, End}
use Rattle.lexer.specs.Bytes.{blank, letter, plain, position}

pub data Lexeme : Type 0 where
  word : List ℕ → Lexeme
  quoted : List ℕ → Lexeme
  open_brace : Lexeme
  close_brace : Lexeme
  open_bracket : Lexeme
  close_bracket : Lexeme
  colon : Lexeme
  comma : Lexeme
  gives : Lexeme
  before : Lexeme
  notifies : Lexeme

-- what stands next: a token, with the position of its first byte, or the end of the text
pub data Seen : Type 0 where
  seen : Lexeme → Position → Seen
  end : Position → Seen

-- what stands next, with the place past it; or a fault
pub data Lexed : Type 0 where
  lexed : Seen → ℕ → Lexed
  fault : LexFault → Lexed

-- the place past the blanks and comments at p, where the bytes bs stand; a comment has begun if `inside`
unfoldable pub skipped : Bool → ℕ → List ℕ → ℕ
skipped inside p [] = p
skipped inside p (b ∷ bs) =
    cond (b == 10) (skipped false (p + 1) bs) (cond (b == 35) (skipped true (p + 1) bs) (cond (inside || blank b) (skipped inside (p + 1) bs) p))

-- the place past the letters
unfoldable pub word_end : ℕ → List ℕ → ℕ
word_end p [] = p
word_end p (b ∷ bs) = cond (letter b) (word_end (p + 1) bs) p

-- how a quoted text goes on: to its closing quote, to a wrong byte, or to no end
pub data Quote : Type 0 where
  closed : ℕ → Quote
  wrong : ℕ → Quote
  unclosed : Quote

unfoldable pub quote_end : ℕ → List ℕ → Quote
quote_end p [] = unclosed
quote_end p (b ∷ bs) = cond (b == 39) (closed p) (cond (plain b) (quote_end (p + 1) bs) (wrong p))

abbrev pub fault_at : Position → LexFault
fault_at at = record { at = at }

module _ (text : List ℕ) (p : ℕ) where
  -- p is the place of the opening quote
  abbrev pub quote_token : Quote → Lexed
  quote_token (closed e) = lexed (seen (quoted (between (p + 1) e text)) (position text p)) (e + 1)
  quote_token (wrong e) = fault (fault_at (position text e))
  quote_token unclosed = fault (fault_at (position text p))

  abbrev pub mark : Lexeme → ℕ → Lexed
  mark l e = lexed (seen l (position text p)) e

  abbrev pub no_token : Lexed
  no_token = fault (fault_at (position text p))

  -- an arrow whose first byte is at p, by the bytes past that
  abbrev pub arrow : Seen → List ℕ → Lexed
  arrow s [] = no_token
  arrow s (b ∷ bs) = cond (b == 62) (lexed s (p + 2)) no_token

  -- the token whose first byte is at p, where the bytes bs stand
  abbrev pub token : List ℕ → Lexed
  token [] = lexed (end (position text p)) p
  token (b ∷ bs) =
      cond (letter b) (mark (word (between p (word_end p (b ∷ bs)) text)) (word_end p (b ∷ bs)))
      (cond (b == 123) (mark open_brace (p + 1))
      (cond (b == 125) (mark close_brace (p + 1))
      (cond (b == 91) (mark open_bracket (p + 1))
      (cond (b == 93) (mark close_bracket (p + 1))
      (cond (b == 58) (mark colon (p + 1))
      (cond (b == 44) (mark comma (p + 1))
      (cond (b == 61) (arrow (seen gives (position text p)) bs)
      (cond (b == 45) (arrow (seen before (position text p)) bs)
      (cond (b == 126) (arrow (seen notifies (position text p)) bs)
      (cond (b == 39) (quote_token (quote_end (p + 1) bs)) no_token))))))))))

  -- where reading stops in a quoted text: at its wrong byte, at the end of the text, or past its closing quote
  abbrev pub quote_stop : Quote → ℕ
  quote_stop (closed e) = e + 1
  quote_stop (wrong e) = e
  quote_stop unclosed = length text

  -- where reading stops if no token is at p, where the bytes bs stand: past the first byte of half an arrow, within a quoted text, else at p
  abbrev pub stop : List ℕ → ℕ
  stop [] = p
  stop (b ∷ bs) = cond (b == 61 || b == 45 || b == 126) (p + 1) (cond (b == 39) (quote_stop (quote_end (p + 1) bs)) p)

abbrev pub token_at : List ℕ → ℕ → Lexed
token_at text p = token text p (drop p text)

-- the first token at or after p
abbrev pub next_token : List ℕ → ℕ → Lexed
next_token text p = token_at text (skipped false p (drop p text))

-- where reading stops if it is refused, with the first byte at p
abbrev pub stop_at : List ℕ → ℕ → ℕ
stop_at text p = stop text p (drop p text)

-- and with blanks and comments at p
abbrev pub next_stop : List ℕ → ℕ → ℕ
next_stop text p = stop_at text (skipped false p (drop p text))

-- what a token of the code says, at its position
abbrev pub sight : Token → Position → Seen
sight (Word s) at = seen (word s.now) at
sight (Quoted s) at = seen (quoted s.now) at
sight OpenBrace at = seen open_brace at
sight CloseBrace at = seen close_brace at
sight OpenBracket at = seen open_bracket at
sight CloseBracket at = seen close_bracket at
sight Colon at = seen colon at
sight Comma at = seen comma at
sight Gives at = seen gives at
sight Before at = seen before at
sight Notifies at = seen notifies at
sight End at = end at

-- what the code answers of a token at a position, past which reading went on by n bytes
abbrev pub token_answer : Position → Result Token LexFault → ℕ → Lexed
token_answer at (Ok t) n = lexed (sight t at) (at.place + n)
token_answer at (Err f) n = fault f

abbrev pub scanned : Result (Placed Token) LexFault → Position → Lexed
scanned (Ok t) after = lexed (sight t.part t.at) after.place
scanned (Err f) after = fault f
