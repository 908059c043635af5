use Rattle.fs.proofs.Limits as rigs
use Rattle.fs.proofs.refuses.Goals as goal

pub returns : goal.returns
returns c = rigs.refuses
