-- The tree that a table's records are. Assumes nothing.
use Rattle.std.specs.Prelude.{◌≤◌, List, map, take, vec_items, vec_len}
use Rattle.values.specs.Texts.{path_text}
use Rattle.fs.specs.Tree.{Path, Node, Tree}
use Rattle.host.specs.Stores.{node_of}
use Rattle.table_host.specs.declared.record.Record.{Record}
use Rattle.table_host.specs.declared.table.Table.{Table}

-- no more nodes than records
abbrev pub Within : Table → Type 0
Within t = t.used ≤ vec_len t.records

-- the records that are nodes
abbrev pub nodes : Table → List Record
nodes t = take t.used (vec_items t.records)

abbrev pub entry_of : Record → Path × Node
entry_of r = (path_text r.path, node_of r.node)

abbrev pub tree_of : List Record → Tree
tree_of rs = map entry_of rs
