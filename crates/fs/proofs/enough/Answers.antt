use Rattle.fs.proofs.Limits.{enough}
use Rattle.fs.proofs.enough.Goals as goal

pub returns : goal.returns
returns c = enough
