use Rattle.fs.proofs.Limits.{faithful}
use Rattle.fs.proofs.faithful.Goals as goal

pub returns : goal.returns
returns c = faithful
