-- What the grammar makes of single tokens. Assumes nothing.
use Rattle.std.specs.Prelude.{ℕ, Bool, false, cond, List, Some, None, Option, ◌==◌}
use Rattle.lexer.specs.Lexing.{Lexeme, word, quoted, open_brace, close_brace, open_bracket, close_bracket, colon, comma, gives, before, notifies, Seen, seen, end}
use Rattle.lexer.specs.declared.position.Position.{Position}
use Rattle.syntax.specs.declared.mark.Mark.{Mark}
use Rattle.syntax.specs.declared.mark.Mark.TheVariants.{OpenBrace, Colon, Gives, OpenBracket, CloseBracket}

-- the letters of a word
abbrev pub word_of : Lexeme → Option (List ℕ)
word_of (word w) = Some w
word_of (quoted q) = None
word_of open_brace = None
word_of close_brace = None
word_of open_bracket = None
word_of close_bracket = None
word_of colon = None
word_of comma = None
word_of gives = None
word_of before = None
word_of notifies = None

-- the bytes of a quoted text
abbrev pub quoted_of : Lexeme → Option (List ℕ)
quoted_of (word w) = None
quoted_of (quoted q) = Some q
quoted_of open_brace = None
quoted_of close_brace = None
quoted_of open_bracket = None
quoted_of close_bracket = None
quoted_of colon = None
quoted_of comma = None
quoted_of gives = None
quoted_of before = None
quoted_of notifies = None

-- a word or a quoted text
abbrev pub value_of : Lexeme → Option Lexeme
value_of (word w) = Some (word w)
value_of (quoted q) = Some (quoted q)
value_of open_brace = None
value_of close_brace = None
value_of open_bracket = None
value_of close_bracket = None
value_of colon = None
value_of comma = None
value_of gives = None
value_of before = None
value_of notifies = None

abbrev pub mark_of : Lexeme → Option Mark
mark_of (word w) = None
mark_of (quoted q) = None
mark_of open_brace = Some OpenBrace
mark_of close_brace = None
mark_of open_bracket = Some OpenBracket
mark_of close_bracket = Some CloseBracket
mark_of colon = Some Colon
mark_of comma = None
mark_of gives = Some Gives
mark_of before = None
mark_of notifies = None

abbrev pub mark_number : Mark → ℕ
mark_number OpenBrace = 0
mark_number Colon = 1
mark_number Gives = 2
mark_number OpenBracket = 3
mark_number CloseBracket = 4

abbrev pub same_mark : Mark → Mark → Bool
same_mark m n = mark_number m == mark_number n

abbrev pub is_marked : Mark → Option Mark → Bool
is_marked m None = false
is_marked m (Some n) = same_mark n m

-- this mark
abbrev pub the_mark : Mark → Lexeme → Option (Unit {0})
the_mark m l = cond (is_marked m (mark_of l)) (Some tt) None

-- what stands next, as f makes of it; the end is nothing
abbrev pub of_seen : {A : Type 0} → (Lexeme → Option A) → Seen → Option A
of_seen f (seen l at) = f l
of_seen f (end at) = None

abbrev pub seen_at : Seen → Position
seen_at (seen l at) = at
seen_at (end at) = at
