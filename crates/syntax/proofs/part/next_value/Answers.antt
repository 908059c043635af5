use Rattle.syntax.specs.Parts.{value_means}
use Rattle.syntax.specs.Tokens.{value_of}
use Rattle.syntax.proofs.Tokens.{picked}
use Rattle.syntax.proofs.part.next_value.Goals as goal

pub returns : goal.returns
returns g c = picked value_means value_of c.next_as.ensures (λ t o h. h.1)
