-- A reader stands in its text, if that is short, so of a reader a reading says what it answers with no other premise. Assumes nothing.
use Rattle.std.proofs.Common.{◌≡◌, Option, Result}
use Rattle.lexer.specs.Bytes.{Short}
use Rattle.lexer.specs.Rows.{Row, placed_sight, next, answer as lexer_answer}
use Rattle.lexer.specs.Sources.{reader_spot}
use Rattle.lexer.specs.Spots.{Standing, ahead}
use Rattle.lexer.specs.declared.placed.Placed.{Placed}
use Rattle.lexer.specs.declared.reader.Reader.{Reader}
use Rattle.lexer.specs.declared.token.Token.{Token}
use Rattle.syntax.specs.Errors.{TextError, Told, Tries}
use Rattle.syntax.specs.Faults.{TextFault}
use Rattle.syntax.specs.Picking.{Picks}
use Rattle.syntax.specs.Reading.{Read, answer, Reads}

pub short_stands : (r : Reader) → Short r.text.now → Standing (reader_spot r)
short_stands r s = r.stands s

module _ {A B : Type 0} {f : A → B} {g : Row → Read B} (from to : Reader) where
  pub reader_reads : {r : Result A TextFault} → Reads f g (reader_spot from) r (reader_spot to) → Short from.text.now → answer f r (ahead (reader_spot to)) ≡ g (ahead (reader_spot from))
  reader_reads t s = t.answers (short_stands from s)

  pub reader_tries : {r : Result A TextError} → Tries f g (reader_spot from) r (reader_spot to) → Short from.text.now → Told r f (ahead (reader_spot to)) (g (ahead (reader_spot from)))
  reader_tries t s = t.told (short_stands from s)

pub reader_picks : {T : Type 0} {picks : Token → Option T → Type 0} (from to : Reader) {r : Result (Placed T) TextFault} (p : Picks picks (reader_spot from) r (reader_spot to)) → Short from.text.now → lexer_answer placed_sight p.lexed (ahead (reader_spot to)) ≡ next (ahead (reader_spot from))
reader_picks from to p s = p.stood (short_stands from s)
