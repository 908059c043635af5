-- The tree that slots hold, and what a write to one slot makes of it. Assumes nothing.
use Rattle.std.specs.Prelude.{◌≡◌, ℕ, zero, suc, Bool, true, false, cond, ◌⊎◌, [], ◌∷◌, Some, None, Option, ◌≢◌, slice_set, refl}
use Rattle.std.proofs.Common.{sym, ap, ◌∙◌, inl, inr, ⊎_elim, arith}
use Rattle.std.proofs.lemmas.Bool.{and_parts, and_from, both_ways, false≢true}
use Rattle.values.specs.Rules.{all, is_path}
use Rattle.fs.specs.Tree.{Path, Node, nothing, directory, file, Tree, at, with_node, is_nothing, Sorted}
use Rattle.fs.proofs.Trees.{same_refl, same_no, cases_same, at_with, sorted_with}
use Rattle.host.proofs.Storing.{all_with}
use Rattle.host.specs.Sound.{fits_node, ruled}
use Rattle.linked_host.specs.Slots.{Entry, Slots, entry_at, path_of, Stands, tree_from, apart}

pub some_same : {A : Type 0} {a b : A} → Some a ≡ Some b → a ≡ b
some_same e = cc

pub none_some : {A : Type 0} {b : A} → None ≢ Some b
none_some e = let z : ◌≡◌ {A = ℕ} 0 1 = cc in omega arith

pub same_or_apart : (p q : Path) → (p ≡ q) ⊎ (p ≢ q)
same_or_apart p q = ⊎_elim (λ e. inl e.1) (λ d. inr d.1) (cases_same p q)

pub is_none : (n : Node) → is_nothing n ≡ true → n ≡ nothing
is_none nothing e = refl
is_none directory e = absurd (false≢true e)
is_none (file c) e = absurd (false≢true e)

-- ---- a tree with one node more

pub at_here : (p : Path) (n : Node) (t : Tree) → at (with_node p n t) p ≡ n
at_here p n t = at_with p n t p ∙ ap (λ b. cond b n (at t p)) (same_refl p)

pub at_other : (p q : Path) (n : Node) (t : Tree) → (p ≢ q) → at (with_node p n t) q ≡ at t q
at_other p q n t d = at_with p n t q ∙ ap (λ b. cond b n (at t q)) (same_no q p (λ e. d (sym e)))

-- ---- each entry keeps its rules

abbrev pub fit : Option Entry → Bool
fit None = true
fit (Some e) = ruled e

pub ruled_some : (e : Entry) → ruled e ≡ true → is_nothing e.1 ≡ false
ruled_some e h = some_node e.1 (and_parts (is_path e.0) (fits_node e.1) h).1
  where
    some_node : (n : Node) → fits_node n ≡ true → is_nothing n ≡ false
    some_node nothing k = absurd (false≢true k)
    some_node directory k = refl
    some_node (file c) k = refl

pub ruled_from : (es : Slots) → all fit es ≡ true → all ruled (tree_from es) ≡ true
ruled_from [] a = refl
ruled_from (None ∷ es) a = ruled_from es a
ruled_from (Some e ∷ es) a =
    let a' = and_parts (ruled e) (all fit es) a in
    all_with ruled e.0 e.1 (tree_from es) a'.0 (ruled_from es a'.1)

pub sorted_from : (es : Slots) → all fit es ≡ true → Sorted (tree_from es)
sorted_from [] a = tt
sorted_from (None ∷ es) a = sorted_from es a
sorted_from (Some e ∷ es) a =
    let a' = and_parts (ruled e) (all fit es) a in
    sorted_with e.0 e.1 (tree_from es) (ruled_some e a'.0) (sorted_from es a'.1)

pub fit_set : (es : Slots) (i : ℕ) (s : Option Entry) → all fit es ≡ true → fit s ≡ true → all fit (slice_set es i s) ≡ true
fit_set [] i s a h = refl
fit_set (o ∷ es) zero s a h = and_from (fit s) (all fit es) h (and_parts (fit o) (all fit es) a).1
fit_set (o ∷ es) (suc i) s a h =
    let a' = and_parts (fit o) (all fit es) a in
    and_from (fit o) (all fit (slice_set es i s)) a'.0 (fit_set es i s a'.1 h)

-- ---- what stands at a path

head_at : (f : Entry) (t : Tree) (q : Path) → f.0 ≡ q → at (with_node f.0 f.1 t) q ≡ f.1
head_at f t q e = ap (at (with_node f.0 f.1 t)) (sym e) ∙ at_here f.0 f.1 t

pub at_skip : (s : Option Entry) (es : Slots) (q : Path) → (path_of s ≢ Some q) → at (tree_from (s ∷ es)) q ≡ at (tree_from es) q
at_skip None es q n = refl
at_skip (Some f) es q n = at_other f.0 q f.1 (tree_from es) (λ e. n (ap Some e))

pub at_seen : (es : Slots) (i : ℕ) (p : Path) → all fit es ≡ true → Stands es p i → is_nothing (at (tree_from es) p) ≡ false
at_seen [] i p a s = absurd (none_some s)
at_seen (None ∷ es) zero p a s = absurd (none_some s)
at_seen (None ∷ es) (suc i) p a s = at_seen es i p a s
at_seen (Some f ∷ es) zero p a s =
    ap is_nothing (head_at f (tree_from es) p (some_same s)) ∙ ruled_some f (and_parts (ruled f) (all fit es) a).0
at_seen (Some f ∷ es) (suc i) p a s =
    let a' = and_parts (ruled f) (all fit es) a in
    ⊎_elim
    (λ e. ap is_nothing (head_at f (tree_from es) p e) ∙ ruled_some f a'.0)
    (λ d. ap is_nothing (at_other f.0 p f.1 (tree_from es) d) ∙ at_seen es i p a'.1 s)
    (same_or_apart f.0 p)

pub at_none : (es : Slots) (p : Path) → ((x : ℕ) → Stands es p x → ⊥) → at (tree_from es) p ≡ nothing
at_none [] p n = refl
at_none (o ∷ es) p n = at_skip o es p (n 0) ∙ at_none es p (λ x. n (suc x))

tail_none : (o : Option Entry) (es : Slots) (q : Path) → fit o ≡ true → at (tree_from (o ∷ es)) q ≡ nothing → at (tree_from es) q ≡ nothing
tail_none None es q a h = h
tail_none (Some f) es q a h =
    ⊎_elim
    (λ e. absurd (both_ways (is_nothing f.1) (ruled_some f a) (ap is_nothing (sym (head_at f (tree_from es) q e) ∙ h))))
    (λ d. sym (at_other f.0 q f.1 (tree_from es) d) ∙ h)
    (same_or_apart f.0 q)

pub at_live : (es : Slots) (i : ℕ) (e : Entry) → all fit es ≡ true → apart es ≡ true → entry_at es i ≡ Some e → at (tree_from es) e.0 ≡ e.1
at_live [] i e a d s = absurd (none_some s)
at_live (None ∷ es) zero e a d s = absurd (none_some s)
at_live (None ∷ es) (suc i) e a d s = at_live es i e a d s
at_live (Some f ∷ es) zero e a d s =
    let eq = some_same s in
    head_at f (tree_from es) e.0 (ap (λ x. x.0) eq) ∙ ap (λ x. x.1) eq
at_live (Some f ∷ es) (suc i) e a d s =
    let a' = and_parts (ruled f) (all fit es) a in
    let d' = and_parts (is_nothing (at (tree_from es) f.0)) (apart es) d in
    ⊎_elim
    (λ k. absurd (both_ways (is_nothing (at (tree_from es) f.0)) (ap (λ x. is_nothing (at (tree_from es) x)) k ∙ at_seen es i e.0 a'.1 (ap path_of s)) d'.0))
    (λ k. at_other f.0 e.0 f.1 (tree_from es) k ∙ at_live es i e a'.1 d'.1 s)
    (same_or_apart f.0 e.0)

pub at_set : (es : Slots) (i : ℕ) (s : Option Entry) (q : Path) → (path_of s ≢ Some q) → (Stands es q i → ⊥) → at (tree_from (slice_set es i s)) q ≡ at (tree_from es) q
at_set [] i s q n m = refl
at_set (o ∷ es) zero s q n m = at_skip s es q n ∙ sym (at_skip o es q m)
at_set (None ∷ es) (suc i) s q n m = at_set es i s q n m
at_set (Some f ∷ es) (suc i) s q n m =
    let t = tree_from es in
    let t' = tree_from (slice_set es i s) in
    ⊎_elim
    (λ e. head_at f t' q e ∙ sym (head_at f t q e))
    (λ d. at_other f.0 q f.1 t' d ∙ at_set es i s q n m ∙ sym (at_other f.0 q f.1 t d))
    (same_or_apart f.0 q)

-- ---- no path stands in two slots

apart_tail : (o : Option Entry) (es : Slots) → apart (o ∷ es) ≡ true → apart es ≡ true
apart_tail None es d = d
apart_tail (Some f) es d = (and_parts (is_nothing (at (tree_from es) f.0)) (apart es) d).1

-- a path of the first slot stands in no other
once : (o : Option Entry) (es : Slots) (p : Path) (y : ℕ) → all fit (o ∷ es) ≡ true → apart (o ∷ es) ≡ true → path_of o ≡ Some p → Stands es p y → ⊥
once None es p y a d s s' = none_some s
once (Some f) es p y a d s s' =
    let d' = and_parts (is_nothing (at (tree_from es) f.0)) (apart es) d in
    both_ways (is_nothing (at (tree_from es) f.0)) (ap (λ q. is_nothing (at (tree_from es) q)) (some_same s) ∙ at_seen es y p (and_parts (ruled f) (all fit es) a).1 s') d'.0

pub unique : (es : Slots) → all fit es ≡ true → apart es ≡ true → (p : Path) (x y : ℕ) → Stands es p x → Stands es p y → x ≡ y
unique [] a d p x y s s' = absurd (none_some s)
unique (o ∷ es) a d p zero zero s s' = refl
unique (o ∷ es) a d p zero (suc y) s s' = absurd (once o es p y a d s s')
unique (o ∷ es) a d p (suc x) zero s s' = absurd (once o es p x a d s' s)
unique (o ∷ es) a d p (suc x) (suc y) s s' = ap suc (unique es (and_parts (fit o) (all fit es) a).1 (apart_tail o es d) p x y s s')

pub apart_set : (es : Slots) (i : ℕ) (s : Option Entry) → all fit es ≡ true → apart es ≡ true → ((q : Path) → path_of s ≡ Some q → at (tree_from es) q ≡ nothing) → apart (slice_set es i s) ≡ true
apart_set [] i s a d new = refl
apart_set (o ∷ es) zero None a d new = apart_tail o es d
apart_set (o ∷ es) zero (Some f) a d new =
    and_from (is_nothing (at (tree_from es) f.0)) (apart es) (ap is_nothing (tail_none o es f.0 (and_parts (fit o) (all fit es) a).0 (new f.0 refl))) (apart_tail o es d)
apart_set (None ∷ es) (suc i) s a d new = apart_set es i s a d new
apart_set (Some f ∷ es) (suc i) s a d new =
    let a' = and_parts (ruled f) (all fit es) a in
    let d' = and_parts (is_nothing (at (tree_from es) f.0)) (apart es) d in
    let kept : at (tree_from (slice_set es i s)) f.0 ≡ at (tree_from es) f.0 =
    at_set es i s f.0
    (λ e. both_ways (is_nothing f.1) (ruled_some f a'.0) (ap is_nothing (sym (at_here f.0 f.1 (tree_from es)) ∙ new f.0 e)))
    (λ e. both_ways (is_nothing (at (tree_from es) f.0)) (at_seen es i f.0 a'.1 e) d'.0) in
    and_from (is_nothing (at (tree_from (slice_set es i s)) f.0)) (apart (slice_set es i s)) (ap is_nothing kept ∙ d'.0) (apart_set es i s a'.1 d'.1 (λ q e. tail_none (Some f) es q a'.0 (new q e)))
