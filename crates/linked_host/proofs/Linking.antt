-- The places of the links, and what they lead to. Assumes nothing.
use Rattle.std.proofs.Common.{◌≡◌, ℕ, ◌+◌, ◌<◌, ◌≤◌, true, false, List, [], get_or, is_some, Some, None, Option, sym, refl, ap, ◌∙◌, subst, arith}
use Rattle.std.proofs.lemmas.Bool.{true≢false}
use Rattle.fs.specs.Tree.{Path, parent}
use Rattle.linked_host.specs.Slots.{Slots, entry_at, is_child, child_from}
use Rattle.linked_host.specs.Links.{view, views, same_link, linked}
use Rattle.linked_host.specs.Places.{first_of, next_of, link_at, HeldIn, text_of, dir_of, from_of, Before}
use Rattle.linked_host.specs.declared.record.Record.{Record}
use Rattle.linked_host.specs.declared.record.Place.{Place}
use Rattle.linked_host.specs.declared.record.Place.TheVariants as place
use Rattle.linked_host.specs.Scans.{First, child, same_link_is, leads, view_at, to_first, child_some, child_parent}

pub held : (o : Option Record) → is_some o ≡ true → (r : Record) × (o ≡ Some r)
held None h = absurd (true≢false (sym h))
held (Some r) h = (r, refl)

-- each link leads to the first child from its place on
abbrev pub AllLinked : Option ℕ → List (Option Record) → Type 0
AllLinked root rs = (q : Place) → HeldIn rs q → link_at root rs q ≡ child_from (views rs) (dir_of (views rs) q) (from_of q)

pub all_links : (root : Option ℕ) (rs : List (Option Record)) → same_link root (child_from (views rs) [] 0) ≡ true → linked rs ≡ true → AllLinked root rs
all_links root rs headed chained place.Root h = same_link_is root (child_from (views rs) [] 0) headed
all_links root rs headed chained (place.First i) h =
    let k = held (get_or rs i None) h in
    ap first_of k.1 ∙ (leads rs chained i k.0 k.1).0 ∙ ap (λ d. child_from (views rs) d 0) (sym (ap text_of (view_at rs i ∙ ap view k.1)))
all_links root rs headed chained (place.Next i) h =
    let k = held (get_or rs i None) h in
    ap next_of k.1 ∙ (leads rs chained i k.0 k.1).1 ∙ ap (λ d. child_from (views rs) (parent d) (i + 1)) (sym (ap text_of (view_at rs i ∙ ap view k.1)))

-- no child before the first
pub clear_before : (es : Slots) (d : Path) (k i : ℕ) (o : Option ℕ) → First es d k o → ((j : ℕ) → o ≡ Some j → i ≤ j) → (x : ℕ) → k ≤ x → x < i → child es d x ≡ false
clear_before es d k i None f far x l m = f x l
clear_before es d k i (Some j) f far x l m = let n = far j refl in f.2 x l (omega arith)

-- a child stands at the link
pub step_to : (es : Slots) (d : Path) (k : ℕ) (o : Option ℕ) (j : ℕ) → First es d k o → o ≡ Some j → (k ≤ j) × (child es d j ≡ true)
step_to es d k o j f e = let g = subst (First es d k) e f in (g.0, g.1)

-- a link that leads to slot j, from a place for the children of d
module _ (root : Option ℕ) (rs : List (Option Record)) (links : AllLinked root rs) (at : Place) (there : HeldIn rs at) (d : Path) (dir : dir_of (views rs) at ≡ d) (o : Option ℕ) (read : o ≡ link_at root rs at) where
  pub link_first : First (views rs) d (from_of at) o
  link_first = to_first (views rs) d (from_of at) o (read ∙ links at there ∙ ap (λ e. child_from (views rs) e (from_of at)) dir)

  pub steps_on : (j : ℕ) → o ≡ Some j → (from_of at ≤ j) × (is_some (get_or rs j None) ≡ true) × (parent (text_of (entry_at (views rs) j)) ≡ d)
  steps_on j e =
      let g = step_to (views rs) d (from_of at) o j link_first e in
      let s = child_some d (get_or rs j None) (ap (is_child d) (sym (view_at rs j)) ∙ g.1) in
      (g.0, s, child_parent d (entry_at (views rs) j) g.1)

  pub stops : (i : ℕ) → from_of at ≤ i → ((j : ℕ) → o ≡ Some j → i ≤ j) → Before (views rs) d i at
  stops i low far = record { dir = dir; low = low; clear = clear_before (views rs) d (from_of at) i o link_first far }
