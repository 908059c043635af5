-- The first child from a slot on, and the links that lead to it. Assumes nothing.
use Rattle.std.specs.Prelude.{◌≡◌, ℕ, zero, suc, ◌+◌, ◌-◌, ◌<◌, ◌≤◌, Bool, true, false, List, [], ◌∷◌, length, get_or, drop, is_some, Some, None, Option, ◌≢◌, slice_index_or, refl}
use Rattle.std.proofs.Common.{sym, ap, subst, ◌∙◌, ⊎_elim, arith}
use Rattle.std.proofs.lemmas.List.{get_or_past, at_drop_more, at_drop_all}
use Rattle.std.proofs.lemmas.Bool.{and_parts, and_from, both_ways, cases_eq, cases_lt, cases_order, cases_Bool, eqb-true, eq-eqb, cond-true, cond-false}
use Rattle.values.specs.Rules.{all, is_path}
use Rattle.values.specs.Texts.{path_text}
use Rattle.values.specs.Texts.{Path as Text}
use Rattle.fs.specs.Tree.{Path, same, parent}
use Rattle.fs.proofs.Trees.{same_refl, same_eq}
use Rattle.host.specs.Sound.{ruled}
use Rattle.host.proofs.Storing.{ruled_stored}
use Rattle.linked_host.specs.Slots.{Entry, Slots, entry_at, path_of, Stands, is_child, scan, child_from}
use Rattle.linked_host.specs.Links.{entry_of, view, views, same_link, slot_linked, linked_below, linked}
use Rattle.linked_host.specs.Places.{text_of}
use Rattle.linked_host.specs.declared.record.Record.{Record}
use Rattle.linked_host.specs.Rows.{some_same, none_some, fit}
use Rattle.linked_host.specs.Written.{tally, kids}

pub same_from : (p q : Path) → p ≡ q → same p q ≡ true
same_from p q e = ap (same p) (sym e) ∙ same_refl p

abbrev pub child : Slots → Path → ℕ → Bool
child es d x = is_child d (entry_at es x)

-- the first child of d from slot k on is o
abbrev pub First : Slots → Path → ℕ → Option ℕ → Type 0
First es d k None = (x : ℕ) → k ≤ x → child es d x ≡ false
First es d k (Some j) = (k ≤ j) × (child es d j ≡ true) × ((x : ℕ) → k ≤ x → x < j → child es d x ≡ false)

module _ (es : Slots) (d : Path) where
  pub child_past : (x : ℕ) → length es ≤ x → child es d x ≡ false
  child_past x h = ap (is_child d) (get_or_past es x None h)

  first_later : (k : ℕ) (o : Option ℕ) → child es d k ≡ false → First es d (k + 1) o → First es d k o
  first_later k None b f = λ x l. ⊎_elim (λ e. ap (child es d) e ∙ b) (λ n. f x (omega arith)) (cases_eq x k)
  first_later k (Some j) b f = (omega arith, f.1, λ x l m. ⊎_elim (λ e. ap (child es d) e ∙ b) (λ n. f.2 x (omega arith) m) (cases_eq x k))

  scan_first : (n k : ℕ) → length es ≤ n + k → First es d k (scan es d n k)
  scan_first zero k h = λ x l. child_past x (omega arith)
  scan_first (suc n) k h =
      ⊎_elim
      (λ b. subst (First es d k) (sym (cond-true (child es d k) (Some k) (scan es d n (k + 1)) b)) (omega arith, b, λ x l m. absurd (omega arith)))
      (λ b. subst (First es d k) (sym (cond-false (child es d k) (Some k) (scan es d n (k + 1)) b)) (first_later k (scan es d n (k + 1)) b (scan_first n (k + 1) (omega arith))))
      (cases_Bool (child es d k))

  pub first_is : (k : ℕ) → First es d k (child_from es d k)
  first_is k = scan_first (length es - k) k (omega arith)

  first_one : (k : ℕ) (o o' : Option ℕ) → First es d k o → First es d k o' → o ≡ o'
  first_one k None None f g = refl
  first_one k None (Some j) f g = absurd (both_ways (child es d j) (f j g.0) g.1)
  first_one k (Some i) None f g = absurd (both_ways (child es d i) (g i f.0) f.1)
  first_one k (Some i) (Some j) f g =
      ⊎_elim (λ e. ap Some e)
      (λ l. ⊎_elim
      (λ m. absurd (both_ways (child es d i) (g.2 i f.0 m) f.1))
      (λ m. absurd (both_ways (child es d j) (f.2 j g.0 m) g.1)) l)
      (cases_order i j)

  pub first_from : (k : ℕ) (o : Option ℕ) → First es d k o → o ≡ child_from es d k
  first_from k o f = first_one k o (child_from es d k) f (first_is k)

  pub to_first : (k : ℕ) (o : Option ℕ) → o ≡ child_from es d k → First es d k o
  to_first k o e = subst (First es d k) (sym e) (first_is k)

  -- ---- how many children are ahead

  kids_more : (k : ℕ) → kids d (drop k es) ≡ tally (child es d k) + kids d (drop (k + 1) es)
  kids_more k =
      ⊎_elim
      (λ l. at_drop_more (kids d) es k None l)
      (λ l.
      let one : tally (child es d k) ≡ 0 = ap tally (child_past k l) in
      let here : kids d (drop k es) ≡ 0 = at_drop_all (kids d) es k l in
      let rest : kids d (drop (k + 1) es) ≡ 0 = at_drop_all (kids d) es (k + 1) (omega arith) in
      omega arith)
      (cases_lt k (length es))

  abbrev pub Ahead : ℕ → Option ℕ → Type 0
  Ahead k None = kids d (drop k es) ≡ 0
  Ahead k (Some j) = kids d (drop k es) ≡ 1 + kids d (drop (j + 1) es)

  ahead_later : (k : ℕ) (o : Option ℕ) → child es d k ≡ false → Ahead (k + 1) o → Ahead k o
  ahead_later k None b h = let z : tally (child es d k) ≡ 0 = ap tally b in let m = kids_more k in omega arith
  ahead_later k (Some j) b h = let z : tally (child es d k) ≡ 0 = ap tally b in let m = kids_more k in omega arith

  scan_ahead : (n k : ℕ) → length es ≤ n + k → Ahead k (scan es d n k)
  scan_ahead zero k h = at_drop_all (kids d) es k (omega arith)
  scan_ahead (suc n) k h =
      ⊎_elim
      (λ b. subst (Ahead k) (sym (cond-true (child es d k) (Some k) (scan es d n (k + 1)) b)) (let z : tally (child es d k) ≡ 1 = ap tally b in let m = kids_more k in omega arith))
      (λ b. subst (Ahead k) (sym (cond-false (child es d k) (Some k) (scan es d n (k + 1)) b)) (ahead_later k (scan es d n (k + 1)) b (scan_ahead n (k + 1) (omega arith))))
      (cases_Bool (child es d k))

  pub ahead_is : (k : ℕ) (o : Option ℕ) → o ≡ child_from es d k → Ahead k o
  ahead_is k o e = subst (Ahead k) (sym e) (scan_ahead (length es - k) k (omega arith))

-- ---- a search of the children

pub stands_child : (p : Path) (o : Option Entry) → path_of o ≡ Some p → is_child (parent p) o ≡ true
stands_child p None s = absurd (none_some s)
stands_child p (Some e) s = same_from (parent e.0) (parent p) (ap parent (some_same s))

-- p stands in no slot before the cursor, which is at a child of p's parent
abbrev pub Passed : Slots → Path → Option ℕ → Type 0
Passed es p None = (x : ℕ) → Stands es p x → ⊥
Passed es p (Some i) = (child es (parent p) i ≡ true) × ((x : ℕ) → x < i → Stands es p x → ⊥)

pub passed_first : (es : Slots) (p : Path) (k : ℕ) (o : Option ℕ) → First es (parent p) k o → ((x : ℕ) → x < k → Stands es p x → ⊥) → Passed es p o
passed_first es p k None f n = λ x s. ⊎_elim (λ l. n x l s) (λ l. both_ways (child es (parent p) x) (f x l) (stands_child p (entry_at es x) s)) (cases_lt x k)
passed_first es p k (Some j) f n = (f.1, λ x m s. ⊎_elim (λ l. n x l s) (λ l. both_ways (child es (parent p) x) (f.2 x l m) (stands_child p (entry_at es x) s)) (cases_lt x k))

-- ---- the links of a record

pub view_at : (rs : List (Option Record)) (x : ℕ) → entry_at (views rs) x ≡ view (slice_index_or rs x None)
view_at [] x = refl
view_at (r ∷ rs) zero = refl
view_at (r ∷ rs) (suc x) = view_at rs x

pub child_some : (d : Path) (o : Option Record) → is_child d (view o) ≡ true → is_some o ≡ true
child_some d None b = b
child_some d (Some r) b = refl

-- a path is not the root
pub path_some : (p : Text) → path_text p ≢ []
path_some p e = both_ways (is_path (path_text p)) (ap is_path e) p.ruled

pub fit_views : (rs : List (Option Record)) → all fit (views rs) ≡ true
fit_views [] = refl
fit_views (None ∷ rs) = fit_views rs
fit_views (Some r ∷ rs) = and_from (ruled (entry_of r)) (all fit (views rs)) (ruled_stored r.path r.node) (fit_views rs)

pub same_link_is : (a b : Option ℕ) → same_link a b ≡ true → a ≡ b
same_link_is None None h = refl
same_link_is None (Some j) h = absurd (both_ways false refl h)
same_link_is (Some i) None h = absurd (both_ways false refl h)
same_link_is (Some i) (Some j) h = ap Some (eqb-true i j h)

pub link_same : (a b : Option ℕ) → a ≡ b → same_link a b ≡ true
link_same a b e = subst (λ x. same_link a x ≡ true) e (itself a)
  where
    itself : (a : Option ℕ) → same_link a a ≡ true
    itself None = refl
    itself (Some i) = eq-eqb i i refl

pub live_within : (rs : List (Option Record)) (x : ℕ) (r : Record) → slice_index_or rs x None ≡ Some r → x < length rs
live_within rs x r e = ⊎_elim (λ l. l) (λ l. absurd (none_some (sym (get_or_past rs x None l) ∙ e))) (cases_lt x (length rs))

pub some_within : (rs : List (Option Record)) (x : ℕ) → is_some (slice_index_or rs x None) ≡ true → x < length rs
some_within rs x h = ⊎_elim (λ l. l) (λ l. absurd (both_ways (is_some (slice_index_or rs x None)) (ap is_some (get_or_past rs x None l)) h)) (cases_lt x (length rs))

-- where the links of the record r in slot x lead
abbrev pub Leads : Slots → ℕ → Record → Type 0
Leads es x r = (r.first ≡ child_from es (path_text r.path) 0) × (r.next ≡ child_from es (parent (path_text r.path)) (x + 1))

linked_at : (es : Slots) (rs : List (Option Record)) (n : ℕ) → linked_below es rs n ≡ true → (x : ℕ) → x < n → slot_linked es x (slice_index_or rs x None) ≡ true
linked_at es rs zero h x l = absurd (omega arith)
linked_at es rs (suc n) h x l =
    let h' = and_parts (slot_linked es n (slice_index_or rs n None)) (linked_below es rs n) h in
    ⊎_elim (λ e. ap (λ y. slot_linked es y (slice_index_or rs y None)) e ∙ h'.0) (λ k. linked_at es rs n h'.1 x (omega arith)) (cases_eq x n)

pub leads : (rs : List (Option Record)) → linked rs ≡ true → (x : ℕ) (r : Record) → slice_index_or rs x None ≡ Some r → Leads (views rs) x r
leads rs h x r e =
    let es = views rs in
    let p = path_text r.path in
    let k = ap (slot_linked es x) (sym e) ∙ linked_at es rs (length rs) h x (live_within rs x r e) in
    let k' = and_parts (same_link r.first (child_from es p 0)) (same_link r.next (child_from es (parent p) (x + 1))) k in
    (same_link_is r.first (child_from es p 0) k'.0, same_link_is r.next (child_from es (parent p) (x + 1)) k'.1)

-- ---- one step along the siblings

-- how many slots the cursor may still pass
abbrev pub left_of : ℕ → Option ℕ → ℕ
left_of n None = 0
left_of n (Some i) = n - i

module _ (rs : List (Option Record)) (h : linked rs ≡ true) (d : Path) (i : ℕ) (r : Record) (here : get_or rs i None ≡ Some r) (b : child (views rs) d i ≡ true) where
  pub next_link : r.next ≡ child_from (views rs) d (i + 1)
  next_link =
      let up : parent (path_text r.path) ≡ d = same_eq (parent (path_text r.path)) d (ap (is_child d) (sym (view_at rs i ∙ ap view here)) ∙ b) in
      (leads rs h i r here).1 ∙ ap (λ e. child_from (views rs) e (i + 1)) up

  pub next_less : left_of (length rs) r.next < length rs - i
  next_less = less r.next (to_first (views rs) d (i + 1) r.next next_link) (live_within rs i r here)
    where
      less : (o : Option ℕ) → First (views rs) d (i + 1) o → i < length rs → left_of (length rs) o < length rs - i
      less None f w = omega arith
      less (Some j) f w = let k = f.0 in omega arith

pub next_passed : (rs : List (Option Record)) → linked rs ≡ true → (p : Path) (i : ℕ) (r : Record) → slice_index_or rs i None ≡ Some r → Passed (views rs) p (Some i) → (path_text r.path ≢ p) → Passed (views rs) p r.next
next_passed rs h p i r here inv other =
    passed_first (views rs) p (i + 1) r.next (to_first (views rs) (parent p) (i + 1) r.next (next_link rs h (parent p) i r here inv.0))
    (λ x l s.
    ⊎_elim
    (λ e. other (some_same (sym (ap path_of (view_at rs i ∙ ap view here)) ∙ ap (λ y. path_of (entry_at (views rs) y)) (sym e) ∙ s)))
    (λ n. inv.1 x (omega arith) s)
    (cases_eq x i))

-- ---- a count of the children

-- n children stand before the cursor, which is at a child of d
abbrev pub Counted : Slots → Path → ℕ → Option ℕ → Type 0
Counted es d n None = n ≡ kids d es
Counted es d n (Some j) = (child es d j ≡ true) × (n + 1 + kids d (drop (j + 1) es) ≡ kids d es)

pub counted_on : (es : Slots) (d : Path) (k n : ℕ) (o : Option ℕ) → o ≡ child_from es d k → n + kids d (drop k es) ≡ kids d es → Counted es d n o
counted_on es d k n o e h = on o (to_first es d k o e) (ahead_is es d k o e)
  where
    on : (o : Option ℕ) → First es d k o → Ahead es d k o → Counted es d n o
    on None f a = omega arith
    on (Some j) f a = (f.1, omega arith)

pub counted_first : (es : Slots) (d : Path) (o : Option ℕ) → o ≡ child_from es d 0 → Counted es d 0 o
counted_first es d o e = counted_on es d 0 0 o e (omega arith)

pub kids_few : (d : Path) (es : Slots) → kids d es ≤ length es
kids_few d [] = omega arith
kids_few d (o ∷ es) = omega (arith, kids_few d es, tally_few (is_child d o))
  where
    tally_few : (b : Bool) → tally b ≤ 1
    tally_few true = omega arith
    tally_few false = omega arith

pub stands_some : (rs : List (Option Record)) (p : Path) (x : ℕ) → Stands (views rs) p x → is_some (slice_index_or rs x None) ≡ true
stands_some rs p x s = some (slice_index_or rs x None) (sym (ap path_of (view_at rs x)) ∙ s)
  where
    some : (o : Option Record) → path_of (view o) ≡ Some p → is_some o ≡ true
    some None e = absurd (none_some e)
    some (Some r) e = refl

pub stands_path : (rs : List (Option Record)) (p : Path) (x : ℕ) (r : Record) → slice_index_or rs x None ≡ Some r → Stands (views rs) p x → path_text r.path ≡ p
stands_path rs p x r e s = some_same (sym (ap path_of (view_at rs x ∙ ap view e)) ∙ s)

pub text_from : (p : Path) (o : Option Entry) → path_of o ≡ Some p → text_of o ≡ p
text_from p None s = absurd (none_some s)
text_from p (Some e) s = some_same s

pub stands_text : (rs : List (Option Record)) (p : Path) (x : ℕ) → Stands (views rs) p x → text_of (entry_at (views rs) x) ≡ p
stands_text rs p x s = text_from p (entry_at (views rs) x) s

pub child_parent : (d : Path) (o : Option Entry) → is_child d o ≡ true → parent (text_of o) ≡ d
child_parent d None b = absurd (both_ways false refl b)
child_parent d (Some e) b = same_eq (parent e.0) d b
