-- The tree that the slots of a table hold, free ones among them. Assumes nothing.
use Rattle.std.specs.Prelude.{◌≡◌, ℕ, zero, suc, ◌+◌, ◌-◌, Bool, true, false, cond, ◌&&◌, List, [], ◌∷◌, length, Some, None, Option, slice_index_or}
use Rattle.std.specs.Option.{option_map}
use Rattle.fs.specs.Tree.{Path, Node, Tree, same, parent, at, with_node, is_nothing}

abbrev pub Entry : Type 0
Entry = Path × Node

abbrev pub Slots : Type 0
Slots = List (Option Entry)

abbrev pub entry_at : Slots → ℕ → Option Entry
entry_at es i = slice_index_or es i None

abbrev pub path_of : Option Entry → Option Path
path_of o = option_map (λ e. e.0) o

-- the path stands in slot i
abbrev pub Stands : Slots → Path → ℕ → Type 0
Stands es p i = path_of (entry_at es i) ≡ Some p

abbrev pub tree_from : Slots → Tree
tree_from [] = []
tree_from (None ∷ es) = tree_from es
tree_from (Some e ∷ es) = with_node e.0 e.1 (tree_from es)

-- no path stands in two slots
abbrev pub apart : Slots → Bool
apart [] = true
apart (None ∷ es) = apart es
apart (Some e ∷ es) = is_nothing (at (tree_from es) e.0) && apart es

abbrev pub is_child : Path → Option Entry → Bool
is_child d None = false
is_child d (Some e) = same (parent e.0) d

-- the first child of d among the n slots from number k on
abbrev pub scan : Slots → Path → ℕ → ℕ → Option ℕ
scan es d zero k = None
scan es d (suc n) k = cond (is_child d (entry_at es k)) (Some k) (scan es d n (k + 1))

abbrev pub child_from : Slots → Path → ℕ → Option ℕ
child_from es d k = scan es d (length es - k) k
