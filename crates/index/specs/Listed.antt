-- The entries that a package holds. Assumes nothing.
use Rattle.std.specs.Prelude.{List, map, vec_items, Vec}
use Rattle.std.specs.declared.alloc.Global.{Global}
use Rattle.fs.specs.Manifest as model
use Rattle.records.specs.Entries.{entry_of}
use Rattle.records.specs.declared.entry.Entry.{Entry}

abbrev pub entries_of : Vec Entry Global → List model.Entry
entries_of v = map entry_of (vec_items v)
