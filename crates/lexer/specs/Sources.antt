-- What the code reads tokens from, as a text with a position.
use Rattle.lexer.specs.declared.cursor.Cursor.{Cursor}
use Rattle.lexer.specs.declared.reader.Reader.{Reader}
use Rattle.lexer.specs.Spots.{Spot}

abbrev pub cursor_spot : Cursor → Spot
cursor_spot c = record { text = c.text.now; at = c.at }

abbrev pub reader_spot : Reader → Spot
reader_spot r = record { text = r.text.now; at = r.at }
