use Rattle.syntax.specs.Parts.{bytes}
use Rattle.syntax.specs.Tokens.{word_of}
use Rattle.syntax.proofs.Tokens.{picked}
use Rattle.syntax.proofs.part.next_word.Goals as goal

pub returns : goal.returns
returns g c = picked bytes word_of c.next_as.ensures (λ t o h. h.1)
