use Rattle.index.proofs.Held as held
use Rattle.index.proofs.properly_held.Goals as goal

pub returns : goal.returns
returns c = held.properly_held
