use Rattle.index.proofs.Laws as laws
use Rattle.index.proofs.read_exactly.Goals as goal

pub returns : goal.returns
returns c = laws.read_exactly
