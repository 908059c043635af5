-- The change of the model that a change is. Assumes nothing.
use Rattle.values.specs.Texts.{path_text, content_text}
use Rattle.fs.specs.Change as model
use Rattle.changes.specs.declared.change.Change.{Change}
use Rattle.changes.specs.declared.change.Change.TheVariants.{Mkdir, Creat, Rm}

abbrev pub change_of : Change → model.Change
change_of (Mkdir p) = model.made_dir (path_text p)
change_of (Creat p c) = model.made_file (path_text p) (content_text c)
change_of (Rm p) = model.removed (path_text p)
