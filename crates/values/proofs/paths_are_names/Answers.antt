use Rattle.values.proofs.Spelling.{paths_are_names}
use Rattle.values.proofs.paths_are_names.Goals as goal

pub returns : goal.returns
returns c = paths_are_names
