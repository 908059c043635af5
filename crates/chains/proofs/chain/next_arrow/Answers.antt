use Rattle.syntax.proofs.Tokens.{picked_itself}
use Rattle.grammar.specs.Chains.{arrow_of}
use Rattle.chains.proofs.chain.next_arrow.Goals as goal

pub returns : goal.returns
returns g c = picked_itself arrow_of c.next_as.ensures (λ t o h. h.1)
