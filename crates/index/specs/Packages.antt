-- What a package means. Assumes nothing.
use Rattle.std.specs.Prelude.{List, map, vec_items, Vec}
use Rattle.std.specs.declared.alloc.Global.{Global}
use Rattle.values.specs.Texts.{name_text}
use Rattle.index.specs.declared.packages.Package.{Package}
use Rattle.index.specs.Listed.{entries_of}
use Rattle.index.specs.Packs.{Pack}

abbrev pub pack_of : Package → Pack
pack_of p = (name_text p.name, entries_of p.entries)

abbrev pub packs_of : Vec Package Global → List Pack
packs_of v = map pack_of (vec_items v)
