-- A record that is linked in, and one that is taken out. Assumes nothing.
use Rattle.std.proofs.Common.{◌≡◌, ℕ, ◌+◌, ◌<◌, ◌≤◌, true, false, List, length, get_or, set, is_some, Some, None, Option, sym, refl, ap, ◌∙◌, subst, ⊎_elim, arith}
use Rattle.std.proofs.lemmas.List.{get_or-set_same, get_or-set_other, length-map, length-set}
use Rattle.std.proofs.lemmas.Bool.{cases_eq, true≢false}
use Rattle.fs.specs.Tree.{Path, parent}
use Rattle.fs.proofs.Trees.{same_refl, same_no, parent_other}
use Rattle.values.specs.Texts.{path_text}
use Rattle.linked_host.specs.Slots.{Slots, entry_at, apart, is_child, child_from}
use Rattle.linked_host.specs.Links.{view, views}
use Rattle.linked_host.specs.Places.{first_of, next_of, link_at, HeldIn, text_of, dir_of, from_of, Before}
use Rattle.linked_host.specs.Arenas.{with_first, with_next, slots_linked, root_linked}
use Rattle.linked_host.specs.declared.record.Record.{Record}
use Rattle.linked_host.specs.declared.record.Place.{Place}
use Rattle.linked_host.specs.declared.record.Place.TheVariants as place
use Rattle.linked_host.specs.Scans.{First, path_some, child, first_from, to_first, view_at}
use Rattle.linked_host.proofs.Linking.{AllLinked}
use Rattle.linked_host.proofs.Relinking.{In, in_or_out, same_place, first_past, first_skip, first_back, others, views_set, views_linked, link_other, link_new, out_link, out_held, in_held, out_dir}

slot_free : (rs : List (Option Record)) (i : ℕ) (q : Place) → get_or rs i None ≡ None → HeldIn rs q → In i q → ⊥
slot_free rs i place.Root free h n = n
slot_free rs i (place.First j) free h n = true≢false (sym h ∙ ap (λ x. is_some (get_or rs x None)) n ∙ ap is_some free)
slot_free rs i (place.Next j) free h n = true≢false (sym h ∙ ap (λ x. is_some (get_or rs x None)) n ∙ ap is_some free)

some_view : (o : Option Record) → is_some (view o) ≡ is_some o
some_view None = refl
some_view (Some r) = refl

some_as : (o o' : Option Record) → view o' ≡ view o → is_some o' ≡ true → is_some o ≡ true
some_as o o' e h = sym (some_view o) ∙ ap is_some (sym e) ∙ some_view o' ∙ h

held_as : (rs rs' : List (Option Record)) → views rs' ≡ views rs → (q : Place) → HeldIn rs' q → HeldIn rs q
held_as rs rs' e place.Root h = tt
held_as rs rs' e (place.First j) h = some_as (get_or rs j None) (get_or rs' j None) (sym (view_at rs' j) ∙ ap (λ es. entry_at es j) e ∙ view_at rs j) h
held_as rs rs' e (place.Next j) h = some_as (get_or rs j None) (get_or rs' j None) (sym (view_at rs' j) ∙ ap (λ es. entry_at es j) e ∙ view_at rs j) h

held_linked : (at : Place) (to : Option ℕ) (rs : List (Option Record)) (q : Place) → HeldIn (slots_linked at to rs) q → HeldIn rs q
held_linked at to rs q h = held_as rs (slots_linked at to rs) (views_linked at to rs) q h

length_linked : (at : Place) (to : Option ℕ) (rs : List (Option Record)) → length (slots_linked at to rs) ≡ length rs
length_linked place.Root to rs = refl
length_linked (place.First j) to rs = length-set rs j (with_first (get_or rs j None) to)
length_linked (place.Next j) to rs = length-set rs j (with_next (get_or rs j None) to)

-- the slots after one was written
abbrev written : List (Option Record) → ℕ → Option Record → Slots
written rs i s = set (views rs) i (view s)

module _ (root : Option ℕ) (rs : List (Option Record)) (links : AllLinked root rs) (distinct : apart (views rs) ≡ true) (i : ℕ) (within : i < length rs) (r : Record) (at : Place) (there : HeldIn rs at) (before : Before (views rs) (parent (path_text r.path)) i at) where
  same : (s : Option Record) (e : Path) (x : ℕ) → (x ≡ i → ⊥) → child (written rs i s) e x ≡ child (views rs) e x
  same s e x n = ap (is_child e) (get_or-set_other (views rs) i x (view s) None n)

  here : (s : Option Record) (e : Path) → child (written rs i s) e i ≡ is_child e (view s)
  here s e = ap (is_child e) (get_or-set_same (views rs) i (view s) None (omega (arith, length-map rs view)))

  old : (o : Option Record) → get_or rs i None ≡ o → (e : Path) → child (views rs) e i ≡ is_child e (view o)
  old o k e = ap (is_child e) (view_at rs i ∙ ap view k)

  not_here : (e : Path) → (e ≡ parent (path_text r.path) → ⊥) → is_child e (view (Some r)) ≡ false
  not_here e n = same_no (parent (path_text r.path)) e (λ k. n (sym k))

  -- a link in another slot, but for the one that is written
  keeps : (s : Option Record) → ((e : Path) → (e ≡ parent (path_text r.path) → ⊥) → child (written rs i s) e i ≡ child (views rs) e i) → (q : Place) → (q ≡ at → ⊥) → HeldIn rs q → (In i q → ⊥) → link_at root rs q ≡ child_from (written rs i s) (dir_of (written rs i s) q) (from_of q)
  keeps s only q n h out =
      links q h
      ∙ others rs distinct (parent (path_text r.path)) i (written rs i s) (same s) only at q n there h before
      ∙ ap (λ e. child_from (written rs i s) e (from_of q)) (sym (out_dir (views rs) i (view s) q out))

  -- the link that is written
  leads_at : (s : Option Record) (to : Option ℕ) → (In i at → ⊥) → First (written rs i s) (parent (path_text r.path)) (from_of at) to → to ≡ child_from (written rs i s) (dir_of (written rs i s) at) (from_of at)
  leads_at s to out f =
      first_from (written rs i s) (parent (path_text r.path)) (from_of at) to f
      ∙ ap (λ e. child_from (written rs i s) e (from_of at)) (sym (out_dir (views rs) i (view s) at out ∙ before.dir))

  clear : (s : Option Record) (x : ℕ) → from_of at ≤ x → x < i → child (written rs i s) (parent (path_text r.path)) x ≡ false
  clear s x l m = same s (parent (path_text r.path)) x (λ e. omega arith) ∙ before.clear x l m

  -- ---- a record put into a free slot

  module _ (free : get_or rs i None ≡ None) (first : r.first ≡ None) (next : r.next ≡ link_at root rs at) (bare : (x : ℕ) → child (views rs) (path_text r.path) x ≡ false) where
    only_added : (e : Path) → (e ≡ parent (path_text r.path) → ⊥) → child (written rs i (Some r)) e i ≡ child (views rs) e i
    only_added e n = here (Some r) e ∙ not_here e n ∙ sym (old None free e)

    out_added : In i at → ⊥
    out_added = slot_free rs i at free there

    named : text_of (entry_at (written rs i (Some r)) i) ≡ path_text r.path
    named = ap text_of (get_or-set_same (views rs) i (view (Some r)) None (omega (arith, length-map rs view)))

    slot_now : get_or (set rs i (Some r)) i None ≡ Some r
    slot_now = get_or-set_same rs i (Some r) None within

    first_added : first_of (get_or (set rs i (Some r)) i None) ≡ child_from (written rs i (Some r)) (text_of (entry_at (written rs i (Some r)) i)) 0
    first_added =
        ap first_of slot_now ∙ first
        ∙ first_from (written rs i (Some r)) (path_text r.path) 0 None
        (λ x l. ⊎_elim
        (λ e. ap (child (written rs i (Some r)) (path_text r.path)) e ∙ here (Some r) (path_text r.path) ∙ not_here (path_text r.path) (λ k. path_some r.path (parent_other (path_text r.path) (sym k))))
        (λ n. same (Some r) (path_text r.path) x n ∙ bare x)
        (cases_eq x i))
        ∙ ap (λ e. child_from (written rs i (Some r)) e 0) (sym named)

    next_added : next_of (get_or (set rs i (Some r)) i None) ≡ child_from (written rs i (Some r)) (parent (text_of (entry_at (written rs i (Some r)) i))) (i + 1)
    next_added =
        let d = parent (path_text r.path) in
        let o = link_at root rs at in
        let f : First (views rs) d (from_of at) o = to_first (views rs) d (from_of at) o (links at there ∙ ap (λ e. child_from (views rs) e (from_of at)) before.dir) in
        ap next_of slot_now ∙ next
        ∙ first_from (written rs i (Some r)) d (i + 1) o (first_past (views rs) (written rs i (Some r)) d i (same (Some r)) d (i + 1) o (omega arith) (first_skip (views rs) d (from_of at) i o before.low before.clear (old None free d) f))
        ∙ ap (λ e. child_from (written rs i (Some r)) (parent e) (i + 1)) (sym named)

    added_at : Some i ≡ child_from (written rs i (Some r)) (dir_of (written rs i (Some r)) at) (from_of at)
    added_at =
        leads_at (Some r) (Some i) out_added
        (before.low, here (Some r) (parent (path_text r.path)) ∙ same_refl (parent (path_text r.path)), clear (Some r))

    -- the links after the record was put and the link to it written
    abbrev rs₂ : List (Option Record)
    rs₂ = slots_linked at (Some i) (set rs i (Some r))

    added_in : (q : Place) → HeldIn rs₂ q → In i q → link_at root (set rs i (Some r)) q ≡ child_from (written rs i (Some r)) (dir_of (written rs i (Some r)) q) (from_of q)
    added_in place.Root h n = absurd n
    added_in (place.First j) h n = subst (λ y. first_of (get_or (set rs i (Some r)) y None) ≡ child_from (written rs i (Some r)) (text_of (entry_at (written rs i (Some r)) y)) 0) (sym n) first_added
    added_in (place.Next j) h n = subst (λ y. next_of (get_or (set rs i (Some r)) y None) ≡ child_from (written rs i (Some r)) (parent (text_of (entry_at (written rs i (Some r)) y))) (y + 1)) (sym n) next_added

    pub views_added : views rs₂ ≡ written rs i (Some r)
    views_added = views_linked at (Some i) (set rs i (Some r)) ∙ views_set rs i (Some r)

    added_held : (q : Place) → (In i q → ⊥) → HeldIn rs₂ q → HeldIn rs q
    added_held q out h = out_held rs i (Some r) q out (held_linked at (Some i) (set rs i (Some r)) q h)

    added_link : (q : Place) → HeldIn rs₂ q → link_at (root_linked at (Some i) root) rs₂ q ≡ child_from (written rs i (Some r)) (dir_of (written rs i (Some r)) q) (from_of q)
    added_link q h =
        ⊎_elim
        (λ e.
        ap (link_at (root_linked at (Some i) root) rs₂) e
        ∙ link_new (Some i) root (set rs i (Some r)) at (in_held rs i (Some r) at out_added there)
        ∙ added_at
        ∙ ap (λ y. child_from (written rs i (Some r)) (dir_of (written rs i (Some r)) y) (from_of y)) (sym e))
        (λ n.
        link_other (Some i) root (set rs i (Some r)) at q n
        ∙ ⊎_elim
        (λ k. added_in q h k)
        (λ k. out_link rs i (Some r) root q k ∙ keeps (Some r) only_added q n (added_held q k h) k)
        (in_or_out i q))
        (same_place q at)

    pub all_added : AllLinked (root_linked at (Some i) root) rs₂
    all_added = subst (λ es. (q : Place) → HeldIn rs₂ q → link_at (root_linked at (Some i) root) rs₂ q ≡ child_from es (dir_of es q) (from_of q)) (sym views_added) added_link

  -- ---- a record taken out

  module _ (stood : get_or rs i None ≡ Some r) where
    only_gone : (e : Path) → (e ≡ parent (path_text r.path) → ⊥) → child (written rs i None) e i ≡ child (views rs) e i
    only_gone e n = here None e ∙ sym (old (Some r) stood e ∙ not_here e n)

    out_gone : (q : Place) → dir_of (views rs) q ≡ parent (path_text r.path) → from_of q ≤ i → In i q → ⊥
    out_gone place.Root e l n = n
    out_gone (place.First j) e l n = path_some r.path (parent_other (path_text r.path) (sym e ∙ ap (λ y. text_of (entry_at (views rs) y)) n ∙ ap text_of (view_at rs i ∙ ap view stood)))
    out_gone (place.Next j) e l n = omega arith

    abbrev rs₃ : List (Option Record)
    rs₃ = set (slots_linked at r.next rs) i None

    pub views_gone : views rs₃ ≡ written rs i None
    views_gone = views_set (slots_linked at r.next rs) i None ∙ ap (λ x. set x i None) (views_linked at r.next rs)

    gone_out : (q : Place) → HeldIn rs₃ q → In i q → ⊥
    gone_out q h n = slot_free rs₃ i q (get_or-set_same (slots_linked at r.next rs) i None None (omega (arith, within, length_linked at r.next rs))) h n

    gone_at : r.next ≡ child_from (written rs i None) (dir_of (written rs i None) at) (from_of at)
    gone_at =
        let d = parent (path_text r.path) in
        let named : parent (text_of (entry_at (views rs) i)) ≡ d = ap (λ o. parent (text_of o)) (view_at rs i ∙ ap view stood) in
        let f : First (views rs) d (i + 1) r.next = to_first (views rs) d (i + 1) r.next (sym (ap next_of stood) ∙ links (place.Next i) (ap is_some stood) ∙ ap (λ e. child_from (views rs) e (i + 1)) named) in
        leads_at None r.next (out_gone at before.dir before.low)
        (first_back (written rs i None) d (from_of at) i r.next before.low (clear None) (here None d) (first_past (views rs) (written rs i None) d i (same None) d (i + 1) r.next (omega arith) f))

    gone_link : (q : Place) → HeldIn rs₃ q → link_at (root_linked at r.next root) rs₃ q ≡ child_from (written rs i None) (dir_of (written rs i None) q) (from_of q)
    gone_link q h =
        let out = gone_out q h in
        let h₁ = out_held (slots_linked at r.next rs) i None q out h in
        out_link (slots_linked at r.next rs) i None (root_linked at r.next root) q out
        ∙ ⊎_elim
        (λ e.
        ap (link_at (root_linked at r.next root) (slots_linked at r.next rs)) e
        ∙ link_new r.next root rs at there
        ∙ gone_at
        ∙ ap (λ y. child_from (written rs i None) (dir_of (written rs i None) y) (from_of y)) (sym e))
        (λ n. link_other r.next root rs at q n ∙ keeps None only_gone q n (held_linked at r.next rs q h₁) out)
        (same_place q at)

    pub all_gone : AllLinked (root_linked at r.next root) rs₃
    all_gone = subst (λ es. (q : Place) → HeldIn rs₃ q → link_at (root_linked at r.next root) rs₃ q ≡ child_from es (dir_of es q) (from_of q)) (sym views_gone) gone_link
