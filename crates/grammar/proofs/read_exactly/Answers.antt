use Rattle.grammar.proofs.Law as law
use Rattle.grammar.proofs.read_exactly.Goals as goal

pub returns : goal.returns
returns c = law.read_exactly
