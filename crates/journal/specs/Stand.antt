-- What holds of the rig that a journal means. Assumes nothing.
use Rattle.std.specs.Prelude.{◌≡◌, ◌+◌, ◌<◌, ◌≤◌, ◌≢◌, true, List, [], ◌∷◌, ◌++◌, map, length, vec_items, Ok, Err, Result}
use Rattle.std.proofs.Common.{sym, ap, ◌∙◌, true≢false, arith}
use Rattle.std.specs.List.{AllByRecursion}
use Rattle.fs.specs.Change.{Change, change, made, allows_all, call, calls, after_all}
use Rattle.fs.specs.Rig.{Rig, Answer, taken, refused, after, on_taken}
use Rattle.fs.specs.Tree.{Path, same, parent, children}
use Rattle.changes.specs.Changes.{change_of}
use Rattle.changes.specs.Counts.{births, deaths}
use Rattle.host.specs.Called.{Called}
use Rattle.host.specs.Faults.{host_fault_number}
use Rattle.host.specs.Sound.{Sound}
use Rattle.changes.specs.Logs.{changes}
use Rattle.changes.specs.declared.change.Change as value
use Rattle.changes.specs.declared.log.Log.{Log}
use Rattle.host.specs.declared.fault.HostFault.{HostFault}
use Rattle.fs.proofs.Calls.{taken_eq, never, taken_fits, calls_push, calls_made, calls_still}
use Rattle.changes.proofs.Counts.{children_counted, length_counted, counted_few, counted_made}
use Rattle.changes.proofs.Sounds.{Ruled, change_ruled, sound_calls}
use Rattle.journal.specs.Held.{capped, held_rig, is_taken, takes}
use Rattle.journal.specs.Journals.{changed_rig}

pub capped_sound : (g : Rig) → Sound g → Sound (capped g)
capped_sound g s = record { sorted = s.sorted; rooted = s.rooted; proper = s.proper; fits = s.fits; low = s.low; high = s.high; few = omega arith }

pub all_ruled : (held : List value.Change) → AllByRecursion Ruled (map change_of held)
all_ruled [] = tt
all_ruled (c ∷ held) = (change_ruled c, all_ruled held)

was_taken : (a : Answer) → is_taken a ≡ true → (h : Rig) × (a ≡ taken h)
was_taken (taken h) e = (h, λ i. taken h)
was_taken (refused n) e = absurd (true≢false (sym e))

-- the rig below is taken to the one that the journal means
pub taken_to : (l : List Change) (g : Rig) → takes l g ≡ true → calls l (capped g) ≡ taken (held_rig l g)
taken_to l g t = let k = was_taken (calls l (capped g)) t in k.1 ∙ ap taken (calls_made l (capped g) k.0 k.1).2

-- with the whole allowance below as well
pub taken_below : (l : List Change) (g : Rig) → takes l g ≡ true → calls l g ≡ taken (after_all l g)
taken_below l g t = calls_still l (capped g) (held_rig l g) g.allowance (omega arith) (taken_to l g t)

pub held_sound : (l : Log) (g : Rig) → Sound g → takes (changes l) g ≡ true → Sound (held_rig (changes l) g)
held_sound l g s t = sound_calls (changes l) (capped g) (held_rig (changes l) g) (all_ruled (vec_items l.held)) (capped_sound g s) (taken_to (changes l) g t)

-- a tree without limits allows them too
pub allowed : (l : List Change) (g : Rig) → takes l g ≡ true → allows_all l g.tree ≡ true
allowed l g t = (calls_made l (capped g) (held_rig l g) (taken_to l g t)).0

-- the children of a path, and all nodes, with the changes made
module _ (l : List Change) (g : Rig) (s : Sound g) (a : allows_all l g.tree ≡ true) where
  pub children_made : (q : Path) → children (made l g.tree) q + deaths (λ p. same (parent p) q) l ≡ children g.tree q + births (λ p. same (parent p) q) l
  children_made q = omega (arith, children_counted (made l g.tree) q, children_counted g.tree q, counted_made (λ p. same (parent p) q) l g.tree s.sorted a)

  pub nodes_made : length (made l g.tree) + deaths (λ _. true) l ≡ length g.tree + births (λ _. true) l
  nodes_made = omega (arith, length_counted (made l g.tree), length_counted g.tree, counted_made (λ _. true) l g.tree s.sorted a)

-- the same of changes that the rig below takes
module _ (l : List Change) (g : Rig) (s : Sound g) (t : takes l g ≡ true) where
  pub children_held : (q : Path) → children (made l g.tree) q + deaths (λ p. same (parent p) q) l ≡ children g.tree q + births (λ p. same (parent p) q) l
  children_held q = children_made l g s (allowed l g t) q

  pub nodes_held : length (made l g.tree) + deaths (λ _. true) l ≡ length g.tree + births (λ _. true) l
  nodes_held = nodes_made l g s (allowed l g t)

pub few_children : (g : Rig) → Sound g → (q : Path) → children g.tree q ≤ 256
few_children g s q = omega (arith, children_counted g.tree q, counted_few (λ p. same (parent p) q) g.tree, s.fits, s.high)

-- one change more
pub one_more : (l : List Change) (c : Change) (g : Rig) → calls l g ≡ taken (after_all l g) → call c (after_all l g) ≡ taken (changed_rig c (after_all l g)) → (calls (l ++ c ∷ []) g ≡ taken (after_all (l ++ c ∷ []) g)) × (call c (after_all l g) ≡ taken (after_all (l ++ c ∷ []) g))
one_more l c g e h =
    let all : calls (l ++ c ∷ []) g ≡ taken (changed_rig c (after_all l g)) = calls_push l c g ∙ ap (λ a. on_taken a (call c)) e ∙ h in
    let is = (calls_made (l ++ c ∷ []) g (changed_rig c (after_all l g)) all).2 in
    (all ∙ ap taken is, h ∙ ap taken is)

-- the same of changes that the rig below takes, where the log has room for it
module _ (l : List Change) (c : Change) (g : Rig) (t : takes l g ≡ true) (h : call c (held_rig l g) ≡ taken (after (held_rig l g) (change c (held_rig l g).tree))) where
  pub held_few : length l < 384
  held_few = let left : (held_rig l g).allowance ≢ 0 = (taken_fits c (held_rig l g) (after (held_rig l g) (change c (held_rig l g).tree)) h).0.left in omega arith

  pub takes_more : takes (l ++ c ∷ []) g ≡ true
  takes_more = ap is_taken (one_more l c (capped g) (taken_to l g t) h).0

  pub called_more : call c (held_rig l g) ≡ taken (held_rig (l ++ c ∷ []) g)
  called_more = (one_more l c (capped g) (taken_to l g t) h).1

-- a call that is taken leaves the rig that it is taken to
pub settled : (c : Change) (g h : Rig) (r : Result Unit HostFault) (g' : Rig) → Called c g r g' → call c g ≡ taken h → g' ≡ h
settled c g h (Ok u) g' k e = taken_eq (sym k ∙ e)
settled c g h (Err f) g' k e = never (host_fault_number f) h (sym k.0 ∙ e)
