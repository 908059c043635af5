-- What it is that a row of tokens is the row of a text, by the bytes alone: each token's bytes stand in the text, in order, and between
-- two tokens there are only blanks and comments, up to the end of the text or to what is no token.
use Rattle.std.specs.Prelude.{◌≡◌, ℕ, ◌+◌, ◌<◌, ◌≤◌, Bool, true, false, ◌&&◌, ◌||◌, ◌⊎◌, List, length, ◌==◌, ◌≢◌, slice_index}
use Rattle.std.specs.List.{between}
use Rattle.lexer.specs.declared.position.Position.{Position}
use Rattle.lexer.specs.Bytes.{blank, letter, plain, position}
use Rattle.lexer.specs.Lexing.{Lexeme, word, quoted, open_brace, close_brace, open_bracket, close_bracket, colon, comma, gives, before, notifies}
use Rattle.lexer.specs.Rows.{Row, token, ended, broken, row}

abbrev pub is_mark : ℕ → Bool
is_mark b = b == 123 || b == 125 || b == 91 || b == 93 || b == 58 || b == 44

-- the first byte of an arrow
abbrev pub is_arrow : ℕ → Bool
is_arrow b = b == 61 || b == 45 || b == 126

module _ (text : List ℕ) where
  abbrev pub byte : ℕ → ℕ
  byte k = slice_index text k

  -- every byte from a up to b keeps the rule
  abbrev pub All : (ℕ → Bool) → ℕ → ℕ → Type 0
  All rule a b = (k : ℕ) → a ≤ k → k < b → rule (byte k) ≡ true

  -- a comment that begins at p or later has not ended before e: no LF has come since its `#`
  pub record Comment (p e : ℕ) : Type 0 where
    pub hash : ℕ
    pub since : p ≤ hash
    pub till : hash < e
    pub begins : byte hash ≡ 35
    pub goes_on : (i : ℕ) → hash ≤ i → i < e → byte i ≢ 10

  -- blanks and comments fill the bytes from p up to s, and no further one
  pub record Gap (p s : ℕ) : Type 0 where
    pub along : p ≤ s
    pub within : s ≤ length text
    pub only : (k : ℕ) → p ≤ k → k < s → (blank (byte k) ≡ true) ⊎ Comment p (k + 1)
    pub full : s < length text → (blank (byte s) ≡ false) × (Comment p (s + 1) → ⊥)

  -- letters from s up to e, and no further one
  pub record Letters (s e : ℕ) : Type 0 where
    pub some : s < e
    pub within : e ≤ length text
    pub letters : All letter s e
    pub full : letter (byte e) ≡ false

  -- a quote at s and one at c, and plain bytes between them
  pub record Quotation (s c : ℕ) : Type 0 where
    pub along : s < c
    pub within : c < length text
    pub opening : byte s ≡ 39
    pub inner : All plain (s + 1) c
    pub closing : byte c ≡ 39

  abbrev pub One : ℕ → ℕ → ℕ → Type 0
  One s e b = (e ≡ s + 1) × (e ≤ length text) × (byte s ≡ b)

  abbrev pub Two : ℕ → ℕ → ℕ → Type 0
  Two s e b = (e ≡ s + 2) × (e ≤ length text) × (byte s ≡ b) × (byte (s + 1) ≡ 62)

  -- the bytes from s up to e spell the token
  abbrev pub Spells : ℕ → ℕ → Lexeme → Type 0
  Spells s e (word w) = Letters s e × (w ≡ between s e text)
  Spells s e (quoted q) = (c : ℕ) × (e ≡ c + 1) × Quotation s c × (q ≡ between (s + 1) c text)
  Spells s e open_brace = One s e 123
  Spells s e close_brace = One s e 125
  Spells s e open_bracket = One s e 91
  Spells s e close_bracket = One s e 93
  Spells s e colon = One s e 58
  Spells s e comma = One s e 44
  Spells s e gives = Two s e 61
  Spells s e before = Two s e 45
  Spells s e notifies = Two s e 126

  -- a word, a mark, a quoted text or a whole arrow begins at s
  abbrev pub begins_token : ℕ → Bool
  begins_token s = letter (byte s) || is_mark (byte s) || byte s == 39 || (is_arrow (byte s) && byte (s + 1) == 62)

  -- what stands at s is no token, for a fault at the position
  pub data Breaks (s : ℕ) (at : Position) : Type 0 where
    none_begins : s < length text → begins_token s ≡ false → at ≡ position text s → Breaks s at
    wrong_byte : (q : ℕ) → s < q → q < length text → byte s ≡ 39 → All plain (s + 1) q → plain (byte q) ≡ false → (byte q ≢ 39) → at ≡ position text q → Breaks s at
    no_closing : s < length text → byte s ≡ 39 → All plain (s + 1) (length text) → at ≡ position text s → Breaks s at

  -- from p on: a gap, the token at its position, and what holds of the place past it
  pub record Item (p : ℕ) (l : Lexeme) (at : Position) (Rest : ℕ → Type 0) : Type 0 where
    pub s : ℕ
    pub e : ℕ
    pub gap : Gap p s
    pub place : at ≡ position text s
    pub spells : Spells s e l
    pub rest : Rest e

  abbrev pub Covers : ℕ → Row → Type 0
  Covers p (token l at r) = Item p l at (λ e. Covers e r)
  Covers p (ended at) = Gap p (length text) × (at ≡ position text (length text))
  Covers p (broken f) = (s : ℕ) × Gap p s × Breaks s f.at

-- the row of every text covers it
abbrev pub Covered : Type 0
Covered = (text : List ℕ) → Covers text 0 (row text)

-- and no other row does
abbrev pub OnlyCover : Type 0
OnlyCover = (text : List ℕ) (r : Row) → Covers text 0 r → r ≡ row text
