-- An entry, as the model has it. Assumes nothing.
use Rattle.values.specs.Texts.{path_text, content_text}
use Rattle.fs.specs.Tree.{Path}
use Rattle.fs.specs.Manifest as model
use Rattle.fs.specs.Manifest.{dir_entry, file_entry}
use Rattle.records.specs.declared.entry.Entry.{Entry}
use Rattle.records.specs.declared.entry.Entry.TheVariants.{Directory, File}

abbrev pub entry_of : Entry → model.Entry
entry_of (Directory p) = dir_entry (path_text p)
entry_of (File p c) = file_entry (path_text p) (content_text c)

abbrev pub entry_path : model.Entry → Path
entry_path (dir_entry p) = p
entry_path (file_entry p c) = p
