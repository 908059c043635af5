-- What a journal makes of the rig below and of the changes that it holds. Assumes nothing.
use Rattle.std.specs.Prelude.{Bool, true, false, min, List}
use Rattle.fs.specs.Change.{Change, calls, after_all}
use Rattle.fs.specs.Rig.{Rig, Answer, taken, refused}

-- a journal takes at most 384 changes
abbrev pub capped : Rig → Rig
capped g = record { tree = g.tree; capacity = g.capacity; allowance = min 384 g.allowance }

-- the rig below with the changes made
abbrev pub held_rig : List Change → Rig → Rig
held_rig l g = after_all l (capped g)

abbrev pub is_taken : Answer → Bool
is_taken (taken g) = true
is_taken (refused n) = false

-- does the rig below take the changes, one after the other
abbrev pub takes : List Change → Rig → Bool
takes l g = is_taken (calls l (capped g))
