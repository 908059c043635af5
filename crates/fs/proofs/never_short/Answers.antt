use Rattle.fs.proofs.Shortage.{never_short}
use Rattle.fs.proofs.never_short.Goals as goal

pub returns : goal.returns
returns c = never_short
