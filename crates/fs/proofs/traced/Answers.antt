use Rattle.fs.proofs.Traces.{traced}
use Rattle.fs.proofs.traced.Goals as goal

pub returns : goal.returns
returns c = traced
