-- What a write to one slot and one link leaves of the links. Assumes nothing.
use Rattle.std.proofs.Common.{◌≡◌, ℕ, zero, suc, ◌+◌, ◌<◌, ◌≤◌, true, false, ◌⊎◌, List, [], length, get_or, set, is_some, Some, None, Option, sym, refl, ap, ◌∙◌, subst, inl, inr, ⊎_elim, arith}
use Rattle.std.proofs.lemmas.List.{get_or-set_same, get_or-set_other, map-set, set-get_or, set_past}
use Rattle.std.proofs.lemmas.Bool.{and_from, both_ways, cases_eq, cases_lt, cases_order, true≢false}
use Rattle.fs.specs.Tree.{Path, parent}
use Rattle.values.specs.Texts.{path_text}
use Rattle.linked_host.specs.Slots.{Entry, Slots, entry_at, path_of, Stands, apart, is_child, child_from}
use Rattle.linked_host.specs.Links.{view, views, same_link, slot_linked, linked_below, linked}
use Rattle.linked_host.specs.Places.{first_of, next_of, link_at, HeldIn, text_of, dir_of, from_of, Before}
use Rattle.linked_host.specs.Arenas.{with_first, with_next, slots_linked, root_linked}
use Rattle.linked_host.specs.declared.record.Record.{Record}
use Rattle.linked_host.specs.declared.record.Place.{Place}
use Rattle.linked_host.specs.declared.record.Place.TheVariants as place
use Rattle.linked_host.specs.Rows.{same_or_apart, unique}
use Rattle.linked_host.specs.Scans.{First, same_from, path_some, child, first_is, first_from, view_at, fit_views, link_same, some_within}
use Rattle.linked_host.proofs.Linking.{AllLinked}

-- ---- the first child, where one slot differs

abbrev Upto : Option ℕ → ℕ → Type 0
Upto None x = Unit {0}
Upto (Some j) x = x ≤ j

module _ (es es' : Slots) where
  first_same : (e : Path) (k : ℕ) (o : Option ℕ) → First es e k o → ((x : ℕ) → k ≤ x → Upto o x → child es' e x ≡ child es e x) → First es' e k o
  first_same e k None f s = λ x l. s x l tt ∙ f x l
  first_same e k (Some j) f s = (f.0, s j f.0 (omega arith) ∙ f.1, λ x l m. s x l (omega arith) ∙ f.2 x l m)

  module _ (d : Path) (i : ℕ) (same : (e : Path) (x : ℕ) → (x ≡ i → ⊥) → child es' e x ≡ child es e x) where
    pub first_past : (e : Path) (k : ℕ) (o : Option ℕ) → i < k → First es e k o → First es' e k o
    first_past e k o l f = first_same e k o f (λ x m _. same e x (λ n. omega arith))

    first_other : (e : Path) (k : ℕ) (o : Option ℕ) → child es' e i ≡ child es e i → First es e k o → First es' e k o
    first_other e k o here f = first_same e k o f (λ x _ _. ⊎_elim (λ n. ap (child es' e) n ∙ here ∙ ap (child es e) (sym n)) (λ n. same e x n) (cases_eq x i))

    -- a child stands before the slot
    first_under : (k : ℕ) (o : Option ℕ) (c : ℕ) → k ≤ c → c < i → child es d c ≡ true → First es d k o → First es' d k o
    first_under k None c l m b f = absurd (both_ways (child es d c) (f c l) b)
    first_under k (Some j) c l m b f =
        ⊎_elim
        (λ n. absurd (both_ways (child es d c) (f.2 c l n) b))
        (λ n. first_same d k (Some j) f (λ x _ u. same d x (λ w. omega arith)))
        (cases_lt c j)

-- from further on, and from before
pub first_skip : (es : Slots) (d : Path) (k i : ℕ) (o : Option ℕ) → k ≤ i → ((x : ℕ) → k ≤ x → x < i → child es d x ≡ false) → child es d i ≡ false → First es d k o → First es d (i + 1) o
first_skip es d k i None low clear here f = λ x l. f x (omega arith)
first_skip es d k i (Some j) low clear here f =
    let far : i < j =
    ⊎_elim (λ l. l)
    (λ l.
    ⊎_elim
    (λ e. absurd (both_ways (child es d j) (ap (child es d) e ∙ here) f.1))
    (λ n. absurd (both_ways (child es d j) (clear j f.0 (omega arith)) f.1))
    (cases_eq j i))
    (cases_lt i j) in
    (omega arith, f.1, λ x l m. f.2 x (omega arith) m)

pub first_back : (es : Slots) (d : Path) (k i : ℕ) (o : Option ℕ) → k ≤ i → ((x : ℕ) → k ≤ x → x < i → child es d x ≡ false) → child es d i ≡ false → First es d (i + 1) o → First es d k o
first_back es d k i o low clear here f =
    let none : (x : ℕ) → k ≤ x → x < i + 1 → child es d x ≡ false = λ x l m. ⊎_elim (λ e. ap (child es d) e ∙ here) (λ n. clear x l (omega arith)) (cases_eq x i) in
    back o none f
  where
    back : (o : Option ℕ) → ((x : ℕ) → k ≤ x → x < i + 1 → child es d x ≡ false) → First es d (i + 1) o → First es d k o
    back None none f = λ x l. ⊎_elim (λ m. none x l m) (λ m. f x m) (cases_lt x (i + 1))
    back (Some j) none f = let g = f.0 in (omega arith, f.1, λ x l n. ⊎_elim (λ m. none x l m) (λ m. f.2 x m n) (cases_lt x (i + 1)))

-- ---- places

differ : {p q : Place} → ((p ≡ q) → ◌≡◌ {A = ℕ} 0 1) → p ≡ q → ⊥
differ f e = let z = f e in omega arith

pub same_place : (p q : Place) → (p ≡ q) ⊎ (p ≡ q → ⊥)
same_place place.Root place.Root = inl refl
same_place place.Root (place.First j) = inr (differ (λ e. cc))
same_place place.Root (place.Next j) = inr (differ (λ e. cc))
same_place (place.First i) place.Root = inr (differ (λ e. cc))
same_place (place.First i) (place.First j) = ⊎_elim (λ e. inl (ap place.First e)) (λ n. inr (λ e. n (cc))) (cases_eq i j)
same_place (place.First i) (place.Next j) = inr (differ (λ e. cc))
same_place (place.Next i) place.Root = inr (differ (λ e. cc))
same_place (place.Next i) (place.First j) = inr (differ (λ e. cc))
same_place (place.Next i) (place.Next j) = ⊎_elim (λ e. inl (ap place.Next e)) (λ n. inr (λ e. n (cc))) (cases_eq i j)

-- a place in the record of slot x
abbrev pub In : ℕ → Place → Type 0
In x place.Root = ⊥
In x (place.First j) = j ≡ x
In x (place.Next j) = j ≡ x

pub in_or_out : (x : ℕ) (q : Place) → (In x q) ⊎ (In x q → ⊥)
in_or_out x place.Root = inr (λ e. e)
in_or_out x (place.First j) = cases_eq j x
in_or_out x (place.Next j) = cases_eq j x

held_child : (d : Path) (o : Option Record) → is_some o ≡ true → parent (text_of (view o)) ≡ d → is_child d (view o) ≡ true
held_child d None h e = absurd (true≢false (sym h))
held_child d (Some r) h e = same_from (parent (path_text r.path)) d e

held_path : (d : Path) (o : Option Record) → is_some o ≡ true → text_of (view o) ≡ d → path_of (view o) ≡ Some d
held_path d None h e = absurd (true≢false (sym h))
held_path d (Some r) h e = ap Some e

held_some : (o : Option Record) → is_some o ≡ true → text_of (view o) ≡ [] → ⊥
held_some None h e = true≢false (sym h)
held_some (Some r) h e = path_some r.path e

module _ (rs : List (Option Record)) (distinct : apart (views rs) ≡ true) (d : Path) (i : ℕ) where
  child_there : (y : ℕ) → is_some (get_or rs y None) ≡ true → parent (text_of (entry_at (views rs) y)) ≡ d → child (views rs) d y ≡ true
  child_there y h e = ap (is_child d) (view_at rs y) ∙ held_child d (get_or rs y None) h (ap (λ o. parent (text_of o)) (sym (view_at rs y)) ∙ e)

  stands_there : (y : ℕ) → is_some (get_or rs y None) ≡ true → text_of (entry_at (views rs) y) ≡ d → Stands (views rs) d y
  stands_there y h e = ap path_of (view_at rs y) ∙ held_path d (get_or rs y None) h (ap text_of (sym (view_at rs y)) ∙ e)

  not_root : (y : ℕ) → is_some (get_or rs y None) ≡ true → text_of (entry_at (views rs) y) ≡ [] → ⊥
  not_root y h e = held_some (get_or rs y None) h (ap text_of (sym (view_at rs y)) ∙ e)

  -- another link of the same directory, from the slot or from before it: a child is in between
  between : (at q : Place) → (q ≡ at → ⊥) → HeldIn rs at → HeldIn rs q → Before (views rs) d i at → dir_of (views rs) q ≡ d → from_of q ≤ i → (c : ℕ) × (from_of q ≤ c) × (c < i) × (child (views rs) d c ≡ true)
  between (place.Next c) place.Root n h k b e l = let low = b.low in (c, omega arith, omega arith, child_there c h b.dir)
  between (place.Next c) (place.First y) n h k b e l = let low = b.low in (c, omega arith, omega arith, child_there c h b.dir)
  between (place.Next c) (place.Next y) n h k b e l =
      let low = b.low in
      ⊎_elim
      (λ w. absurd (n (ap place.Next w)))
      (λ w. ⊎_elim
      (λ v. (c, omega arith, omega arith, child_there c h b.dir))
      (λ v. absurd (both_ways (child (views rs) d y) (b.clear y (omega arith) (omega arith)) (child_there y k e)))
      w)
      (cases_order y c)
  between place.Root place.Root n h k b e l = absurd (n refl)
  between place.Root (place.First y) n h k b e l = absurd (not_root y k (e ∙ sym b.dir))
  between place.Root (place.Next y) n h k b e l = absurd (both_ways (child (views rs) d y) (b.clear y (omega arith) (omega arith)) (child_there y k e))
  between (place.First z) place.Root n h k b e l = absurd (not_root z h (b.dir ∙ sym e))
  between (place.First z) (place.First y) n h k b e l =
      absurd (n (ap place.First (unique (views rs) (fit_views rs) distinct d y z (stands_there y k e) (stands_there z h b.dir))))
  between (place.First z) (place.Next y) n h k b e l = absurd (both_ways (child (views rs) d y) (b.clear y (omega arith) (omega arith)) (child_there y k e))

  -- so the write leaves what it leads to
  pub others : (es' : Slots) → ((e : Path) (x : ℕ) → (x ≡ i → ⊥) → child es' e x ≡ child (views rs) e x) → ((e : Path) → (e ≡ d → ⊥) → child es' e i ≡ child (views rs) e i) → (at q : Place) → (q ≡ at → ⊥) → HeldIn rs at → HeldIn rs q → Before (views rs) d i at → child_from (views rs) (dir_of (views rs) q) (from_of q) ≡ child_from es' (dir_of (views rs) q) (from_of q)
  others es' same only at q n h k b =
      let es = views rs in
      let e = dir_of es q in
      let o = child_from es e (from_of q) in
      let f : First es e (from_of q) o = first_is es e (from_of q) in
      first_from es' e (from_of q) o
      (⊎_elim
      (λ w.
      ⊎_elim
      (λ l. first_past es es' d i same e (from_of q) o l f)
      (λ l.
      let m = between at q n h k b w l in
      subst (λ x. First es' x (from_of q) o) (sym w) (first_under es es' d i same (from_of q) o m.0 m.1 m.2 m.3 (subst (λ x. First es x (from_of q) o) w f)))
      (cases_lt i (from_of q)))
      (λ w. first_other es es' d i same e (from_of q) o (only e w) f)
      (same_or_apart e d))

-- ---- what a write of a link leaves

view_first : (o : Option Record) (to : Option ℕ) → view (with_first o to) ≡ view o
view_first None to = refl
view_first (Some r) to = refl

view_next : (o : Option Record) (to : Option ℕ) → view (with_next o to) ≡ view o
view_next None to = refl
view_next (Some r) to = refl

pub views_set : (rs : List (Option Record)) (i : ℕ) (s : Option Record) → views (set rs i s) ≡ set (views rs) i (view s)
views_set rs i s = map-set view rs i s

views_keep : (rs : List (Option Record)) (j : ℕ) (s : Option Record) → view s ≡ view (get_or rs j None) → views (set rs j s) ≡ views rs
views_keep rs j s e = views_set rs j s ∙ ap (set (views rs) j) (e ∙ sym (view_at rs j)) ∙ set-get_or (views rs) j None

pub views_linked : (at : Place) (to : Option ℕ) (rs : List (Option Record)) → views (slots_linked at to rs) ≡ views rs
views_linked place.Root to rs = refl
views_linked (place.First j) to rs = views_keep rs j (with_first (get_or rs j None) to) (view_first (get_or rs j None) to)
views_linked (place.Next j) to rs = views_keep rs j (with_next (get_or rs j None) to) (view_next (get_or rs j None) to)

first_kept : (o : Option Record) (to : Option ℕ) → first_of (with_next o to) ≡ first_of o
first_kept None to = refl
first_kept (Some r) to = refl

next_kept : (o : Option Record) (to : Option ℕ) → next_of (with_first o to) ≡ next_of o
next_kept None to = refl
next_kept (Some r) to = refl

first_new : (o : Option Record) (to : Option ℕ) → is_some o ≡ true → first_of (with_first o to) ≡ to
first_new None to h = absurd (true≢false (sym h))
first_new (Some r) to h = refl

next_new : (o : Option Record) (to : Option ℕ) → is_some o ≡ true → next_of (with_next o to) ≡ to
next_new None to h = absurd (true≢false (sym h))
next_new (Some r) to h = refl

-- a write to a slot, read at the same or another slot by a function that the write keeps
read_kept : {X : Type 0} (f : Option Record → X) (rs : List (Option Record)) (j y : ℕ) (s : Option Record) → f s ≡ f (get_or rs j None) → f (get_or (set rs j s) y None) ≡ f (get_or rs y None)
read_kept f rs j y s e =
    ⊎_elim
    (λ l.
    ⊎_elim
    (λ w. ap (λ x. f (get_or (set rs j s) x None)) w ∙ ap f (get_or-set_same rs j s None l) ∙ e ∙ ap (λ x. f (get_or rs x None)) (sym w))
    (λ w. ap f (get_or-set_other rs j y s None w))
    (cases_eq y j))
    (λ l. ap (λ x. f (get_or x y None)) (set_past rs j s l))
    (cases_lt j (length rs))

module _ (to root : Option ℕ) (rs : List (Option Record)) where
  pub link_other : (at q : Place) → (q ≡ at → ⊥) → link_at (root_linked at to root) (slots_linked at to rs) q ≡ link_at root rs q
  link_other place.Root place.Root n = absurd (n refl)
  link_other place.Root (place.First y) n = refl
  link_other place.Root (place.Next y) n = refl
  link_other (place.First z) place.Root n = refl
  link_other (place.First z) (place.First y) n = ap first_of (get_or-set_other rs z y (with_first (get_or rs z None) to) None (λ e. n (ap place.First e)))
  link_other (place.First z) (place.Next y) n = read_kept next_of rs z y (with_first (get_or rs z None) to) (next_kept (get_or rs z None) to)
  link_other (place.Next z) place.Root n = refl
  link_other (place.Next z) (place.First y) n = read_kept first_of rs z y (with_next (get_or rs z None) to) (first_kept (get_or rs z None) to)
  link_other (place.Next z) (place.Next y) n = ap next_of (get_or-set_other rs z y (with_next (get_or rs z None) to) None (λ e. n (ap place.Next e)))

  pub link_new : (at : Place) → HeldIn rs at → link_at (root_linked at to root) (slots_linked at to rs) at ≡ to
  link_new place.Root h = refl
  link_new (place.First z) h = ap first_of (get_or-set_same rs z (with_first (get_or rs z None) to) None (some_within rs z h)) ∙ first_new (get_or rs z None) to h
  link_new (place.Next z) h = ap next_of (get_or-set_same rs z (with_next (get_or rs z None) to) None (some_within rs z h)) ∙ next_new (get_or rs z None) to h

-- ---- what a write of a slot leaves

module _ (rs : List (Option Record)) (i : ℕ) (s : Option Record) where
  pub out_link : (root : Option ℕ) (q : Place) → (In i q → ⊥) → link_at root (set rs i s) q ≡ link_at root rs q
  out_link root place.Root n = refl
  out_link root (place.First y) n = ap first_of (get_or-set_other rs i y s None n)
  out_link root (place.Next y) n = ap next_of (get_or-set_other rs i y s None n)

  pub out_held : (q : Place) → (In i q → ⊥) → HeldIn (set rs i s) q → HeldIn rs q
  out_held place.Root n h = tt
  out_held (place.First y) n h = ap is_some (sym (get_or-set_other rs i y s None n)) ∙ h
  out_held (place.Next y) n h = ap is_some (sym (get_or-set_other rs i y s None n)) ∙ h

  pub in_held : (q : Place) → (In i q → ⊥) → HeldIn rs q → HeldIn (set rs i s) q
  in_held place.Root n h = tt
  in_held (place.First y) n h = ap is_some (get_or-set_other rs i y s None n) ∙ h
  in_held (place.Next y) n h = ap is_some (get_or-set_other rs i y s None n) ∙ h

pub out_dir : (es : Slots) (i : ℕ) (s : Option Entry) (q : Place) → (In i q → ⊥) → dir_of (set es i s) q ≡ dir_of es q
out_dir es i s place.Root n = refl
out_dir es i s (place.First y) n = ap text_of (get_or-set_other es i y s None n)
out_dir es i s (place.Next y) n = ap (λ o. parent (text_of o)) (get_or-set_other es i y s None n)

-- ---- links that lead right are linked

pub headed_from : (root : Option ℕ) (rs : List (Option Record)) → AllLinked root rs → same_link root (child_from (views rs) [] 0) ≡ true
headed_from root rs all = link_same root (child_from (views rs) [] 0) (all place.Root tt)

slot_from : (root : Option ℕ) (rs : List (Option Record)) → AllLinked root rs → (x : ℕ) (o : Option Record) → get_or rs x None ≡ o → slot_linked (views rs) x o ≡ true
slot_from root rs all x None e = refl
slot_from root rs all x (Some r) e =
    let es = views rs in
    let p = path_text r.path in
    let there : is_some (get_or rs x None) ≡ true = ap is_some e in
    let named : text_of (entry_at es x) ≡ p = ap text_of (view_at rs x ∙ ap view e) in
    and_from (same_link r.first (child_from es p 0)) (same_link r.next (child_from es (parent p) (x + 1)))
    (link_same r.first (child_from es p 0) (sym (ap first_of e) ∙ all (place.First x) there ∙ ap (λ d. child_from es d 0) named))
    (link_same r.next (child_from es (parent p) (x + 1)) (sym (ap next_of e) ∙ all (place.Next x) there ∙ ap (λ d. child_from es (parent d) (x + 1)) named))

pub linked_from : (root : Option ℕ) (rs : List (Option Record)) → AllLinked root rs → linked rs ≡ true
linked_from root rs all = upto (length rs)
  where
    upto : (n : ℕ) → linked_below (views rs) rs n ≡ true
    upto zero = refl
    upto (suc n) = and_from (slot_linked (views rs) n (get_or rs n None)) (linked_below (views rs) rs n) (slot_from root rs all n (get_or rs n None) refl) (upto n)
