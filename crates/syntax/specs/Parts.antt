-- What the code's parts of a text mean. Assumes nothing.
use Rattle.std.specs.Borrow.{Bor}
use Rattle.std.specs.Prelude.{ℕ, List}
use Rattle.lexer.specs.Lexing.{Lexeme, word, quoted}
use Rattle.lexer.specs.declared.placed.Placed.{Placed}
use Rattle.lexer.specs.declared.position.Position.{Position}
use Rattle.syntax.specs.declared.part.Value.{Value}
use Rattle.syntax.specs.declared.part.Value.TheVariants.{Word, Quoted}
use Rattle.syntax.specs.Reading.{Located}

-- a part with its position, as f means it
abbrev pub placed_as : {A B : Type 0} → (A → B) → Placed A → Located B
placed_as f p = record { value = f p.part; at = p.at }

abbrev pub bytes : Bor (List ℕ) → List ℕ
bytes s = s.now

-- a word or a quoted text, as the token that it is
abbrev pub value_means : Value → Lexeme
value_means (Word s) = word s.now
value_means (Quoted s) = quoted s.now

abbrev pub placed_mark : Position → Located (Unit {0})
placed_mark p = record { value = tt; at = p }
