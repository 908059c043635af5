-- What a table host means. Assumes nothing.
use Rattle.fs.specs.Rig.{Rig}
use Rattle.table_host.specs.Records.{tree_of, nodes}
use Rattle.table_host.specs.declared.table_host.TableHost.{TableHost}

abbrev pub rig_of : TableHost → Rig
rig_of h = record { tree = tree_of (nodes h.table); capacity = h.capacity; allowance = h.allowance }
