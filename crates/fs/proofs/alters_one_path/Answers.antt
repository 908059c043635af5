use Rattle.fs.proofs.Calls.{alters_one_path}
use Rattle.fs.proofs.alters_one_path.Goals as goal

pub returns : goal.returns
returns c = alters_one_path
