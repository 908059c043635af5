-- Slots that are all free. Assumes nothing.
use Rattle.std.proofs.Common.{◌≡◌, ℕ, zero, suc, true, List, [], get_or, replicate, None, Option, refl, ap, ◌∙◌}
use Rattle.std.proofs.lemmas.Bool.{and_from}
use Rattle.fs.specs.Tree.{Path}
use Rattle.linked_host.specs.Slots.{Slots, tree_from, apart, is_child, child_from}
use Rattle.linked_host.specs.Links.{view, views, slot_linked, linked_below}
use Rattle.linked_host.specs.declared.record.Record.{Record}
use Rattle.linked_host.specs.Scans.{first_from, view_at}

abbrev pub free : ℕ → List (Option Record)
free n = replicate n None

pub free_tree : (n : ℕ) → tree_from (views (free n)) ≡ []
free_tree zero = refl
free_tree (suc n) = free_tree n

pub free_apart : (n : ℕ) → apart (views (free n)) ≡ true
free_apart zero = refl
free_apart (suc n) = free_apart n

free_slot : (n x : ℕ) → get_or (free n) x None ≡ None
free_slot zero x = refl
free_slot (suc n) zero = refl
free_slot (suc n) (suc x) = free_slot n x

pub free_linked : (es : Slots) (n m : ℕ) → linked_below es (free n) m ≡ true
free_linked es n zero = refl
free_linked es n (suc m) =
    and_from (slot_linked es m (get_or (free n) m None)) (linked_below es (free n) m) (ap (slot_linked es m) (free_slot n m)) (free_linked es n m)

pub free_head : (n : ℕ) (d : Path) → None ≡ child_from (views (free n)) d 0
free_head n d = first_from (views (free n)) d 0 None (λ x l. ap (is_child d) (view_at (free n) x ∙ ap view (free_slot n x)))
