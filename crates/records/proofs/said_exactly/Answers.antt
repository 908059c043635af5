use Rattle.records.proofs.Says as says
use Rattle.records.proofs.said_exactly.Goals as goal

pub returns : goal.returns
returns c = says.said_exactly
