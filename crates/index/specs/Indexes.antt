-- What an index means. Assumes nothing.
use Rattle.std.specs.Prelude.{List}
use Rattle.index.specs.declared.index.Index.{Index}
use Rattle.index.specs.Packages.{packs_of}
use Rattle.index.specs.Packs.{Pack}

abbrev pub index_of : Index → List Pack
index_of i = packs_of i.packages
