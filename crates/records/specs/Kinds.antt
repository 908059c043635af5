-- The kinds of records by their numbers. Assumes nothing.
use Rattle.std.specs.Prelude.{ℕ, cond, Ok, Err, Result, ◌==◌}
use Rattle.records.specs.declared.fault.Ground.{Ground}
use Rattle.records.specs.declared.fault.Ground.TheVariants.{UnknownKind}
use Rattle.records.specs.declared.kind.RecordKind.{RecordKind}
use Rattle.records.specs.declared.kind.RecordKind.TheVariants.{Package, Directory, File}

abbrev pub kind_of : ℕ → Result RecordKind Ground
kind_of n = cond (n == 1) (Ok Package) (cond (n == 2) (Ok Directory) (cond (n == 3) (Ok File) (Err UnknownKind)))
