-- The links of the records: siblings are linked in the order of their slots. Assumes nothing.
use Rattle.std.specs.Prelude.{ℕ, zero, suc, ◌+◌, Bool, true, false, ◌&&◌, List, map, length, Some, None, Option, ◌==◌, slice_index_or}
use Rattle.values.specs.Texts.{path_text}
use Rattle.fs.specs.Tree.{parent}
use Rattle.host.specs.Stores.{node_of}
use Rattle.linked_host.specs.Slots.{Entry, Slots, child_from}
use Rattle.linked_host.specs.declared.record.Record.{Record}

abbrev pub entry_of : Record → Entry
entry_of r = (path_text r.path, node_of r.node)

abbrev pub view : Option Record → Option Entry
view None = None
view (Some r) = Some (entry_of r)

abbrev pub views : List (Option Record) → Slots
views rs = map view rs

abbrev pub same_link : Option ℕ → Option ℕ → Bool
same_link None None = true
same_link None (Some j) = false
same_link (Some i) None = false
same_link (Some i) (Some j) = i == j

-- a record leads to its first child, and to the next child of its parent
abbrev pub slot_linked : Slots → ℕ → Option Record → Bool
slot_linked es k None = true
slot_linked es k (Some r) = same_link r.first (child_from es (path_text r.path) 0) && same_link r.next (child_from es (parent (path_text r.path)) (k + 1))

abbrev pub linked_below : Slots → List (Option Record) → ℕ → Bool
linked_below es rs zero = true
linked_below es rs (suc n) = slot_linked es n (slice_index_or rs n None) && linked_below es rs n

abbrev pub linked : List (Option Record) → Bool
linked rs = linked_below (views rs) rs (length rs)
