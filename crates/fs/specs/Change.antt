-- Changes: what one does to a tree, what a rig answers to it, and the two laws of that answer. Assumes nothing.
use Rattle.std.specs.Prelude.{◌≡◌, ℕ, ◌+◌, ◌-◌, Bool, true, false, cond, not, ◌&&◌, ◌≢◌, List, [], ◌∷◌, length, ◌==◌, nat_le}
use Rattle.std.proofs.Math.Option.{Option, none, some}
use Rattle.fs.specs.Tree.{Path, Content, Node, nothing, directory, file, is_nothing, Tree, at, with_node, without, children, parent, is_dir, vacant, removable, blocked, Sorted, Rooted}
use Rattle.fs.specs.Rig.{Rig, Answer, taken, refused, after, make, remove, on_taken}

pub data Change : Type 0 where
  made_dir : Path → Change
  made_file : Path → Content → Change
  removed : Path → Change

-- the path that a change alters, what it leaves there, and whether it makes a node
abbrev pub altered : Change → Path
altered (made_dir p) = p
altered (made_file p c) = p
altered (removed p) = p

abbrev pub leaves : Change → Node
leaves (made_dir p) = directory
leaves (made_file p c) = file c
leaves (removed p) = nothing

abbrev pub makes : Change → Bool
makes (made_dir p) = true
makes (made_file p c) = true
makes (removed p) = false

-- the tree after a change, and after several in turn
abbrev pub change : Change → Tree → Tree
change (made_dir p) t = with_node p directory t
change (made_file p c) t = with_node p (file c) t
change (removed p) t = without p t

abbrev pub made : List Change → Tree → Tree
made [] t = t
made (c ∷ l) t = made l (change c t)

-- does a tree without limits allow a change, and several in turn
abbrev pub allows : Change → Tree → Bool
allows (made_dir p) t = vacant t p
allows (made_file p c) t = vacant t p
allows (removed p) t = removable (at t p) (children t p)

abbrev pub allows_all : List Change → Tree → Bool
allows_all [] t = true
allows_all (c ∷ l) t = allows c t && allows_all l (change c t)

-- a rig's answer to a change, and to several in turn up to the first refusal
abbrev pub call : Change → Rig → Answer
call (made_dir p) g = make p directory g
call (made_file p c) g = make p (file c) g
call (removed p) g = remove p g

abbrev pub calls : List Change → Rig → Answer
calls [] g = taken g
calls (c ∷ l) g = on_taken (call c g) (λ h. calls l h)

-- the rig once all of them are taken
abbrev pub after_all : List Change → Rig → Rig
after_all l g = record { tree = made l g.tree; capacity = g.capacity; allowance = g.allowance - length l }

-- the grounds on which a change is refused, by rising number, and whether each stands
abbrev pub grounds : Change → Rig → List (ℕ × Bool)
grounds c g =
    (35, makes c && not (is_dir g.tree (parent (altered c))))
    ∷ (36, makes c && not (is_nothing (at g.tree (altered c))))
    ∷ (37, not (makes c) && is_nothing (at g.tree (altered c)))
    ∷ (38, not (makes c) && blocked (at g.tree (altered c)) (children g.tree (altered c)))
    ∷ (39, makes c && nat_le g.capacity (length g.tree))
    ∷ (40, (g.allowance == 0))
    ∷ []

abbrev pub first_ground : List (ℕ × Bool) → Option ℕ
first_ground [] = none
first_ground (x ∷ l) = cond x.1 (some x.0) (first_ground l)

abbrev pub unless_refused : Option ℕ → Rig → Answer
unless_refused none g = taken g
unless_refused (some n) g = refused n

-- a change is refused by the first ground that stands, and taken where none does
abbrev pub RefusedByFirstGround : Type 0
RefusedByFirstGround = (c : Change) (g : Rig) → call c g ≡ unless_refused (first_ground (grounds c g)) (after g (change c g.tree))

-- a taken change alters its one path, costs one of the allowance, leaves the capacity, and leaves a tree
pub record Alters (c : Change) (g g' : Rig) : Type 0 where
  pub here : at g'.tree (altered c) ≡ leaves c
  pub elsewhere : (q : Path) → q ≢ altered c → at g'.tree q ≡ at g.tree q
  pub capacity : g'.capacity ≡ g.capacity
  pub allowance : g'.allowance + 1 ≡ g.allowance
  pub sorted : Sorted g'.tree
  pub rooted : Rooted g'.tree

abbrev pub AltersOnePath : Type 0
AltersOnePath = (c : Change) (g g' : Rig) → Sorted g.tree → Rooted g.tree → call c g ≡ taken g' → Alters c g g'
