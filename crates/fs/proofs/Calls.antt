-- When a call is taken, and what it leaves. Assumes nothing.
use Rattle.std.proofs.Common.{◌≡◌, ℕ, ◌-◌, ◌<◌, ◌≤◌, Bool, true, false, cond, not, ◌&&◌, eqb, leb, ◌≢◌, List, [], ◌∷◌, ◌++◌, length, sym, refl, ap, ◌∙◌, subst, true≢false, arith}
use mathlib.Core.Bool.{false≢true}
use mathlib.Core.Option.{none, some}
use Rattle.std.proofs.lemmas.Bool.{and_parts, and_from, not-false, leb-false, lt-leb, le-leb, eq-eqb, eqb-false, ne_eqb}
use Rattle.fs.specs.Rig.{Rig, Answer, taken, refused, after, if_allowed, make, remove, remove_node, on_taken}
use Rattle.fs.specs.Tree.{Path, Node, nothing, directory, file, Tree, parent, at, with_node, without, children, is_dir, is_nothing, vacant, removable, blocked, Sorted, Rooted}
use Rattle.fs.specs.Change.{Change, made_dir, made_file, removed, change, made, allows, allows_all, altered, leaves, makes, call, calls, after_all, first_ground, unless_refused, RefusedByFirstGround, AltersOnePath}
use Rattle.fs.proofs.Rooting.{rooted_make, rooted_remove}
use Rattle.fs.proofs.Trees.{at_put_here, at_put_other, sorted_put}

pub taken_eq : {g h : Rig} → taken g ≡ taken h → g ≡ h
taken_eq e = cc

pub never : {A : Type 0} (n : ℕ) (h : Rig) → refused n ≡ taken h → A
never n h e = let z : ◌≡◌ {A = ℕ} 0 1 = cc in absurd (omega arith)

-- what a change needs to be taken
pub record Fits (c : Change) (g : Rig) : Type 0 where
  pub allowed : allows c g.tree ≡ true
  pub roomy : makes c ≡ true → length g.tree < g.capacity
  pub left : g.allowance ≢ 0

-- ---- the answers to a change that makes a node, past the checks of the tree

module _ (g : Rig) (p : Path) (n : Node) where
  module _ (d : is_dir g.tree (parent p) ≡ true) where
    module _ (b : is_nothing (at g.tree p) ≡ true) where
      pub make_39 : g.capacity ≤ length g.tree → make p n g ≡ refused 39
      make_39 h = rw (d, b, le-leb g.capacity (length g.tree) h)

      module _ (r : length g.tree < g.capacity) where
        pub make_40 : g.allowance ≡ 0 → make p n g ≡ refused 40
        make_40 h = rw (d, b, lt-leb g.capacity (length g.tree) r, eq-eqb g.allowance 0 h)

        pub make_taken : g.allowance ≢ 0 → make p n g ≡ taken (after g (with_node p n g.tree))
        make_taken h = rw (d, b, lt-leb g.capacity (length g.tree) r, ne_eqb g.allowance 0 h)

-- ---- the answer to a removal

module _ (g : Rig) (p : Path) where
  pub clear : is_nothing (at g.tree p) ≡ false → blocked (at g.tree p) (children g.tree p) ≡ false → removable (at g.tree p) (children g.tree p) ≡ true
  clear h k = by (at g.tree p) h k
    where
      by : (n : Node) → is_nothing n ≡ false → blocked n (children g.tree p) ≡ false → removable n (children g.tree p) ≡ true
      by nothing i j = absurd (true≢false i)
      by directory i j = not-false (eqb (children g.tree p) 0) j
      by (file x) i j = refl

  cleared : (n : Node) → removable n (children g.tree p) ≡ true → remove_node n p g ≡ if_allowed g (without p g.tree)
  cleared nothing h = absurd (false≢true h)
  cleared directory h = ap (λ b. cond b (if_allowed g (without p g.tree)) (refused 38)) h
  cleared (file x) h = refl

  module _ (h : removable (at g.tree p) (children g.tree p) ≡ true) where
    pub remove_taken : g.allowance ≢ 0 → remove p g ≡ taken (after g (without p g.tree))
    remove_taken e = cleared (at g.tree p) h ∙ ap (λ b. cond b (refused 40) (taken (after g (without p g.tree)))) (ne_eqb g.allowance 0 e)

-- ---- taken exactly where it fits

fits_make : (p : Path) (n : Node) (g : Rig) → vacant g.tree p ≡ true → length g.tree < g.capacity → g.allowance ≢ 0 → make p n g ≡ taken (after g (with_node p n g.tree))
fits_make p n g v r a = let k = and_parts (is_dir g.tree (parent p)) (is_nothing (at g.tree p)) v in make_taken g p n k.0 k.1 r a

pub fits_taken : (c : Change) (g : Rig) → Fits c g → call c g ≡ taken (after g (change c g.tree))
fits_taken (made_dir p) g f = fits_make p directory g f.allowed (f.roomy refl) f.left
fits_taken (made_file p x) g f = fits_make p (file x) g f.allowed (f.roomy refl) f.left
fits_taken (removed p) g f = remove_taken g p f.allowed f.left

abbrev Left : Rig → Tree → Rig → Type 0
Left g u h = (g.allowance ≢ 0) × (h ≡ after g u)

left_if : (g h : Rig) (u : Tree) → if_allowed g u ≡ taken h → Left g u h
left_if g h u e = by (eqb g.allowance 0) refl e
  where
    by : (a : Bool) → eqb g.allowance 0 ≡ a → cond a (refused 40) (taken (after g u)) ≡ taken h → Left g u h
    by true f k = never 40 h k
    by false f k = (eqb-false g.allowance 0 f, sym (taken_eq k))

made_parts : (p : Path) (n : Node) (g h : Rig) → make p n g ≡ taken h → (vacant g.tree p ≡ true) × (length g.tree < g.capacity) × Left g (with_node p n g.tree) h
made_parts p n g h e = by (is_dir g.tree (parent p)) (is_nothing (at g.tree p)) (leb g.capacity (length g.tree)) refl refl refl e
  where
    u : Tree
    u = with_node p n g.tree

    by : (d b x : Bool) → is_dir g.tree (parent p) ≡ d → is_nothing (at g.tree p) ≡ b → leb g.capacity (length g.tree) ≡ x
        → cond d (cond b (cond x (refused 39) (if_allowed g u)) (refused 36)) (refused 35) ≡ taken h → (vacant g.tree p ≡ true) × (length g.tree < g.capacity) × Left g u h
    by true true false i j l k = (and_from (is_dir g.tree (parent p)) (is_nothing (at g.tree p)) i j, leb-false g.capacity (length g.tree) l, left_if g h u k)
    by true true true i j l k = never 39 h k
    by true false x i j l k = never 36 h k
    by false b x i j l k = never 35 h k

removed_parts : (p : Path) (g h : Rig) (n : Node) → remove_node n p g ≡ taken h → (removable n (children g.tree p) ≡ true) × Left g (without p g.tree) h
removed_parts p g h nothing e = never 37 h e
removed_parts p g h directory e = by (eqb (children g.tree p) 0) e
  where
    by : (b : Bool) → cond b (if_allowed g (without p g.tree)) (refused 38) ≡ taken h → (b ≡ true) × Left g (without p g.tree) h
    by true k = (refl, left_if g h (without p g.tree) k)
    by false k = never 38 h k
removed_parts p g h (file x) e = (refl, left_if g h (without p g.tree) e)

pub taken_fits : (c : Change) (g h : Rig) → call c g ≡ taken h → Fits c g × (h ≡ after g (change c g.tree))
taken_fits (made_dir p) g h e = let k = made_parts p directory g h e in (record { allowed = k.0; roomy = λ _. k.1; left = k.2.0 }, k.2.1)
taken_fits (made_file p x) g h e = let k = made_parts p (file x) g h e in (record { allowed = k.0; roomy = λ _. k.1; left = k.2.0 }, k.2.1)
taken_fits (removed p) g h e = let k = removed_parts p g h (at g.tree p) e in (record { allowed = k.0; roomy = λ m. absurd (false≢true m); left = k.1.0 }, k.1.1)

-- ---- changes one after the other

-- the first was taken, and so were the rest
pub calls_parts : (c : Change) (l : List Change) (g h : Rig) → calls (c ∷ l) g ≡ taken h → (w : Rig) × (call c g ≡ taken w) × (calls l w ≡ taken h)
calls_parts c l g h e = by (call c g) e
  where
    by : (a : Answer) → on_taken a (λ w. calls l w) ≡ taken h → (w : Rig) × (a ≡ taken w) × (calls l w ≡ taken h)
    by (taken w) k = (w, refl, k)
    by (refused n) k = never n h k

pub calls_push : (l : List Change) (c : Change) (g : Rig) → calls (l ++ c ∷ []) g ≡ on_taken (calls l g) (call c)
calls_push [] c g = by (call c g)
  where
    by : (a : Answer) → on_taken a taken ≡ a
    by (taken w) = refl
    by (refused n) = refl
calls_push (x ∷ l) c g = by (call x g) (λ w. calls_push l c w)
  where
    by : (a : Answer) → ((w : Rig) → calls (l ++ c ∷ []) w ≡ on_taken (calls l w) (call c)) → on_taken a (λ w. calls (l ++ c ∷ []) w) ≡ on_taken (on_taken a (λ w. calls l w)) (call c)
    by (taken w) ih = ih w
    by (refused n) ih = refl

pub calls_made : (l : List Change) (g h : Rig) → calls l g ≡ taken h → (allows_all l g.tree ≡ true) × (length l ≤ g.allowance) × (h ≡ after_all l g)
calls_made [] g h e = let z : g.allowance ≡ g.allowance - 0 = omega arith in (refl, omega arith, sym (taken_eq e) ∙ (λ i. record { tree = g.tree; capacity = g.capacity; allowance = z i }))
calls_made (c ∷ l) g h e =
    let k = calls_parts c l g h e in
    let f = taken_fits c g k.0 k.1 in
    let r = calls_made l k.0 h k.2 in
    let t : k.0.tree ≡ change c g.tree = ap (λ w. w.tree) f.1 in
    let a : k.0.allowance ≡ g.allowance - 1 = ap (λ w. w.allowance) f.1 in
    let some : g.allowance ≢ 0 = f.0.left in
    let z : g.allowance - 1 - length l ≡ g.allowance - length (c ∷ l) = omega arith in (
      and_from (allows c g.tree) (allows_all l (change c g.tree)) f.0.allowed (ap (allows_all l) (sym t) ∙ r.0),
      let short = r.1 in omega arith,
      r.2 ∙ ap (after_all l) f.1 ∙ (λ i. record { tree = made l (change c g.tree); capacity = g.capacity; allowance = z i }),
    )

-- a larger allowance refuses no more
abbrev pub allowing : ℕ → Rig → Rig
allowing a g = record { tree = g.tree; capacity = g.capacity; allowance = a }

pub calls_still : (l : List Change) (g h : Rig) (a : ℕ) → g.allowance ≤ a → calls l g ≡ taken h → calls l (allowing a g) ≡ taken (after_all l (allowing a g))
calls_still [] g h a more e = let z : a ≡ a - 0 = omega arith in λ i. taken (record { tree = g.tree; capacity = g.capacity; allowance = z i })
calls_still (c ∷ l) g h a more e =
    let k = calls_parts c l g h e in
    let f = taken_fits c g k.0 k.1 in
    let some : g.allowance ≢ 0 = f.0.left in
    let less : k.0.allowance ≡ g.allowance - 1 = ap (λ w. w.allowance) f.1 in
    let here : call c (allowing a g) ≡ taken (after (allowing a g) (change c g.tree)) = fits_taken c (allowing a g) (record { allowed = f.0.allowed; roomy = f.0.roomy; left = omega arith }) in
    let same : allowing (a - 1) k.0 ≡ after (allowing a g) (change c g.tree) = ap (allowing (a - 1)) f.1 in
    let z : a - 1 - length l ≡ a - length (c ∷ l) = omega arith in
    ap (λ x. on_taken x (λ w. calls l w)) (here ∙ ap taken (sym same))
    ∙ calls_still l k.0 h (a - 1) (omega arith) k.2
    ∙ ap (λ w. taken (after_all l w)) same
    ∙ (λ i. taken (record { tree = made l (change c g.tree); capacity = g.capacity; allowance = z i }))

-- ---- the two laws of an answer

-- the tests of a creation, by what they come out as
create_grounds : (d b x a : Bool) (h : Rig)
    → cond d (cond b (cond x (refused 39) (cond a (refused 40) (taken h))) (refused 36)) (refused 35)
    ≡ unless_refused (first_ground ((35, true && not d) ∷ (36, true && not b) ∷ (37, false && b) ∷ (38, false) ∷ (39, true && x) ∷ (40, a) ∷ [])) h
create_grounds false b x a h = refl
create_grounds true false x a h = refl
create_grounds true true true a h = refl
create_grounds true true false true h = refl
create_grounds true true false false h = refl

make_grounds : (p : Path) (n : Node) (g : Rig)
    → make p n g
    ≡ unless_refused (first_ground ((35, true && not (is_dir g.tree (parent p))) ∷ (36, true && not (is_nothing (at g.tree p))) ∷ (37, false && is_nothing (at g.tree p)) ∷ (38, false) ∷ (39, true && leb g.capacity (length g.tree)) ∷ (40, eqb g.allowance 0) ∷ [])) (after g (with_node p n g.tree))
make_grounds p n g = create_grounds (is_dir g.tree (parent p)) (is_nothing (at g.tree p)) (leb g.capacity (length g.tree)) (eqb g.allowance 0) (after g (with_node p n g.tree))

-- the last test of a removal
allowed_last : (a : Bool) (h : Rig) → cond a (refused 40) (taken h) ≡ unless_refused (cond a (some 40) none) h
allowed_last true h = refl
allowed_last false h = refl

remove_grounds : (g : Rig) (p : Path) (n : Node)
    → remove_node n p g ≡ unless_refused (first_ground ((37, is_nothing n) ∷ (38, blocked n (children g.tree p)) ∷ (40, eqb g.allowance 0) ∷ [])) (after g (without p g.tree))
remove_grounds g p nothing = refl
remove_grounds g p directory = by (eqb (children g.tree p) 0)
  where
    by : (e : Bool) → cond e (if_allowed g (without p g.tree)) (refused 38) ≡ unless_refused (cond (not e) (some 38) (cond (eqb g.allowance 0) (some 40) none)) (after g (without p g.tree))
    by true = allowed_last (eqb g.allowance 0) (after g (without p g.tree))
    by false = refl
remove_grounds g p (file c) = allowed_last (eqb g.allowance 0) (after g (without p g.tree))

pub refused_by_first_ground : RefusedByFirstGround
refused_by_first_ground (made_dir p) g = make_grounds p directory g
refused_by_first_ground (made_file p c) g = make_grounds p (file c) g
refused_by_first_ground (removed p) g = remove_grounds g p (at g.tree p)

pub at_change_here : (c : Change) (t : Tree) → at (change c t) (altered c) ≡ leaves c
at_change_here (made_dir p) t = at_put_here p directory t
at_change_here (made_file p x) t = at_put_here p (file x) t
at_change_here (removed p) t = at_put_here p nothing t

pub at_change_other : (c : Change) (t : Tree) (q : Path) → q ≢ altered c → at (change c t) q ≡ at t q
at_change_other (made_dir p) t q h = at_put_other p directory t q h
at_change_other (made_file p x) t q h = at_put_other p (file x) t q h
at_change_other (removed p) t q h = at_put_other p nothing t q h

pub sorted_change : (c : Change) (t : Tree) → Sorted t → Sorted (change c t)
sorted_change (made_dir p) t s = sorted_put p directory t s
sorted_change (made_file p x) t s = sorted_put p (file x) t s
sorted_change (removed p) t s = sorted_put p nothing t s

pub rooted_change : (c : Change) (t : Tree) → allows c t ≡ true → Rooted t → Rooted (change c t)
rooted_change (made_dir p) t a r = rooted_make p directory t a r
rooted_change (made_file p x) t a r = rooted_make p (file x) t a r
rooted_change (removed p) t a r = rooted_remove p t a r

pub alters_one_path : AltersOnePath
alters_one_path c g g' s r e =
    let k = taken_fits c g g' e in
    let t : g'.tree ≡ change c g.tree = ap (λ w. w.tree) k.1 in
    let some_left : g.allowance ≢ 0 = k.0.left in
    let less : g'.allowance ≡ g.allowance - 1 = ap (λ w. w.allowance) k.1 in
    record {
      here = ap (λ u. at u (altered c)) t ∙ at_change_here c g.tree;
      elsewhere = λ q h. ap (λ u. at u q) t ∙ at_change_other c g.tree q h;
      capacity = ap (λ w. w.capacity) k.1;
      allowance = omega arith;
      sorted = subst Sorted (sym t) (sorted_change c g.tree s);
      rooted = subst Rooted (sym t) (rooted_change c g.tree k.0.allowed r);
    }
