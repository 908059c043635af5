-- Where a link is held, and what it leads to. Assumes nothing.
use Rattle.std.specs.Prelude.{◌≡◌, ℕ, ◌+◌, ◌<◌, ◌≤◌, true, false, List, [], is_some, Some, None, Option, slice_index_or}
use Rattle.fs.specs.Tree.{Path, parent}
use Rattle.linked_host.specs.Slots.{Entry, Slots, entry_at, is_child}
use Rattle.linked_host.specs.declared.record.Record.{Record}
use Rattle.linked_host.specs.declared.record.Place.{Place}
use Rattle.linked_host.specs.declared.record.Place.TheVariants as place

abbrev pub first_of : Option Record → Option ℕ
first_of None = None
first_of (Some r) = r.first

abbrev pub next_of : Option Record → Option ℕ
next_of None = None
next_of (Some r) = r.next

abbrev pub link_at : Option ℕ → List (Option Record) → Place → Option ℕ
link_at root rs place.Root = root
link_at root rs (place.First i) = first_of (slice_index_or rs i None)
link_at root rs (place.Next i) = next_of (slice_index_or rs i None)

abbrev pub HeldIn : List (Option Record) → Place → Type 0
HeldIn rs place.Root = Unit {0}
HeldIn rs (place.First i) = is_some (slice_index_or rs i None) ≡ true
HeldIn rs (place.Next i) = is_some (slice_index_or rs i None) ≡ true

abbrev pub text_of : Option Entry → Path
text_of None = []
text_of (Some e) = e.0

-- the directory whose children the link leads along, and the slot from which on
abbrev pub dir_of : Slots → Place → Path
dir_of es place.Root = []
dir_of es (place.First i) = text_of (entry_at es i)
dir_of es (place.Next i) = parent (text_of (entry_at es i))

abbrev pub from_of : Place → ℕ
from_of place.Root = 0
from_of (place.First i) = 0
from_of (place.Next i) = i + 1

-- the link to the first child of d is held there
abbrev pub Heads : Slots → Path → Place → Type 0
Heads es d at = (dir_of es at ≡ d) × (from_of at ≡ 0)

-- no child of d stands between the place and slot i
pub record Before (es : Slots) (d : Path) (i : ℕ) (at : Place) : Type 0 where
  pub dir : dir_of es at ≡ d
  pub low : from_of at ≤ i
  pub clear : (x : ℕ) → from_of at ≤ x → x < i → is_child d (entry_at es x) ≡ false
