-- The changes that a log holds. Assumes nothing.
use Rattle.std.specs.Prelude.{Bool, true, List, map, Some, None, vec_items, Option}
use Rattle.values.specs.Texts.{path_text}
use Rattle.values.specs.Texts as value
use Rattle.fs.specs.Change.{Change}
use Rattle.fs.specs.Tree.{Path, same, parent}
use Rattle.changes.specs.Changes.{change_of}
use Rattle.changes.specs.declared.log.Log.{Log}

abbrev pub changes : Log → List Change
changes l = map change_of (vec_items l.held)

-- right below a path, or anywhere where none is given
abbrev pub under : Option value.Path → Path → Bool
under None p = true
under (Some q) p = same (parent p) (path_text q)
