use Rattle.fs.proofs.Starts.{start_suffices}
use Rattle.fs.proofs.start_suffices.Goals as goal

pub returns : goal.returns
returns c = start_suffices
