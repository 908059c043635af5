use Rattle.fs.proofs.Trees.{tree_ext}
use Rattle.fs.proofs.equal_trees.Goals as goal

pub returns : goal.returns
returns c = tree_ext
