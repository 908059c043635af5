-- The node that a record stores. Assumes nothing.
use Rattle.std.specs.Prelude.{Some, None, Option}
use Rattle.values.specs.Texts.{content_text}
use Rattle.fs.specs.Tree.{Node, nothing, directory, file}
use Rattle.host.specs.declared.stored.Stored.{Stored}
use Rattle.host.specs.declared.stored.Stored.TheVariants.{Directory, File}

abbrev pub node_of : Stored → Node
node_of Directory = directory
node_of (File c) = file (content_text c)

-- that of a record, if there is one
abbrev pub node_in : Option Stored → Node
node_in None = nothing
node_in (Some n) = node_of n
