use Rattle.fs.proofs.Packages.{properly_packed}
use Rattle.fs.proofs.properly_packed.Goals as goal

pub returns : goal.returns
returns c = properly_packed
