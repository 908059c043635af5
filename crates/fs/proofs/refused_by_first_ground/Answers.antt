use Rattle.fs.proofs.Calls.{refused_by_first_ground}
use Rattle.fs.proofs.refused_by_first_ground.Goals as goal

pub returns : goal.returns
returns c = refused_by_first_ground
