-- A text with the position that reading has come to, whatever holds the two.
use Rattle.std.specs.Prelude.{ℕ, List}
use Rattle.lexer.specs.declared.position.Position.{Position}
use Rattle.lexer.specs.Bytes.{Stands}
use Rattle.lexer.specs.Rows.{Row, row_from}

pub record Spot : Type 0 where
  pub text : List ℕ
  pub at : Position

-- the position is a place of the text, or its end, with the right line
abbrev pub Standing : Spot → Type 0
Standing s = Stands s.text s.at

-- the row of tokens from there on
abbrev pub ahead : Spot → Row
ahead s = row_from s.text s.at.place
