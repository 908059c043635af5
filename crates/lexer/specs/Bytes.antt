-- The kinds of bytes, and the lines of a text.
use Rattle.std.specs.Prelude.{◌≡◌, ℕ, ◌+◌, ◌^◌, ◌<◌, ◌≤◌, Bool, cond, not, ◌&&◌, ◌||◌, List, [], ◌∷◌, length, take, ◌==◌, nat_le}
use Rattle.lexer.specs.declared.position.Position.{Position}

abbrev pub blank : ℕ → Bool
blank b = b == 32 || b == 9 || b == 10 || b == 13

abbrev pub letter : ℕ → Bool
letter b = (nat_le 97 b && nat_le b 122) || (nat_le 65 b && nat_le b 90)

-- may stand in a quoted text: printable, no quote, no backslash
abbrev pub plain : ℕ → Bool
plain b = nat_le 32 b && nat_le b 126 && not (b == 39) && not (b == 92)

-- does not end a line
abbrev pub in_line : ℕ → Bool
in_line b = not (b == 10)

-- how many lines end in these bytes
unfoldable pub line_ends : List ℕ → ℕ
line_ends [] = 0
line_ends (b ∷ bs) = cond (b == 10) 1 0 + line_ends bs

-- a place of a text with its line, from 1
abbrev pub position : List ℕ → ℕ → Position
position text p = record { place = p; line = 1 + line_ends (take p text) }

-- the first byte of any text
abbrev pub start : Position
start = record { place = 0; line = 1 }

-- a text so short that the numbers of its lines fit
abbrev pub Short : List ℕ → Type 0
Short text = length text < 2 ^ 32

-- a reader's position: a place of the text, or its end, with the right line
pub record Stands (text : List ℕ) (at : Position) : Type 0 where
  pub right : at ≡ position text at.place
  pub within : at.place ≤ length text
  pub short : Short text
