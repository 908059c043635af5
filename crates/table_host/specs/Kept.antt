-- How many nodes a table has. Assumes nothing.
use Rattle.std.specs.Prelude.{◌≡◌, ◌≤◌, length, vec_items}
use Rattle.std.proofs.Common.{subst, ◌∙◌}
use Rattle.std.proofs.lemmas.List.{length-map, length-take-le}
use Rattle.table_host.specs.Tables.{rig_of}
use Rattle.table_host.specs.Records.{entry_of, nodes}
use Rattle.table_host.specs.declared.table_host.TableHost.{TableHost}

-- as many entries as nodes
pub count_of : (h : TableHost) → length (rig_of h).tree ≡ h.table.used
count_of h = length-map (nodes h.table) entry_of ∙ length-take-le h.table.used (vec_items h.table.records) (subst (λ n. h.table.used ≤ n) h.table.records.ok.0 h.within)
