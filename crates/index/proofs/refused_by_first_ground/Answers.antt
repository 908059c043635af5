use Rattle.index.proofs.Grounds as grounds
use Rattle.index.proofs.refused_by_first_ground.Goals as goal

pub returns : goal.returns
returns c = grounds.refused_by_first_ground
