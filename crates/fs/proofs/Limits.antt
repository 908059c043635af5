-- An evaluation on a rig: enough room and allowance refuse nothing, what is taken is what the evaluation says, and what is refused fails there or wants room or allowance. Assumes nothing.
use Rattle.std.proofs.Common.{◌≡◌, ℕ, suc, ◌+◌, ◌-◌, ◌≤◌, max, Bool, true, false, cond, ◌&&◌, eqb, leb, ◌≢◌, ◌⊎◌, List, [], ◌∷◌, length, sym, refl, ap, ◌∙◌, subst, inl, inr, ⊎_elim, arith}
use mathlib.Core.Bool.{false≢true}
use mathlib.Core.Option.{none, some}
use Rattle.std.proofs.lemmas.Bool.{lt-leb, ne_eqb, eqb-false}
use Rattle.fs.specs.Tree.{Path, same, before, Node, nothing, directory, file, is_nothing, Tree, at, with_node, without, children, parent, is_dir, vacant, removable, Sorted}
use Rattle.fs.specs.Rig.{Rig, Answer, taken, refused, after, if_allowed, make, remove_node, on_taken}
use Rattle.fs.specs.Fs.{Expr, skip, mkdir, creat, rm, sequence, test, passes, eval, Outcome, plus, and_then}
use Rattle.fs.specs.Manifest.{expr, changed, flagged, then_more, and_on, Manifest, resource, Result, evaluate}
use Rattle.fs.specs.Limits.{eval_on, evaluate_on, Enough, Follows, Faithful, Refuses}
use Rattle.fs.proofs.Calls.{taken_eq, never}
use Rattle.fs.proofs.Resources.{and_then_parts}
use Rattle.fs.proofs.Views.{evaluate_first}
use Rattle.fs.proofs.Sound.{SortedOut, eval_sorted}
use Rattle.fs.proofs.Rooms.{onward, peak, peak_of, peak_room}
use Rattle.fs.proofs.Options.{some_eq, none_some}

-- a node at a path that was nothing is one more
pub length_with : (p : Path) (n : Node) (t : Tree) → is_nothing (at t p) ≡ true → Sorted t → length (with_node p n t) ≡ suc (length t)
length_with p n [] h s = refl
length_with p n (e ∷ t) h s = by (same p e.0) (before p e.0) h (λ k. length_with p n t k s.2)
  where
    by : (b c : Bool) → is_nothing (cond b e.1 (at t p)) ≡ true → (is_nothing (at t p) ≡ true → length (with_node p n t) ≡ suc (length t))
        → length (cond b ((p, n) ∷ t) (cond c ((p, n) ∷ (e ∷ t)) (e ∷ with_node p n t))) ≡ suc (suc (length t))
    by true c k ih = absurd (false≢true (sym s.1 ∙ k))
    by false true k ih = refl
    by false false k ih = ap suc (ih k)

-- the rig after k changes to the tree u
abbrev spent : Rig → Tree → ℕ → Rig
spent g u k = record { tree = u; capacity = g.capacity; allowance = g.allowance - k }

allowed : (g : Rig) (u : Tree) → 1 ≤ g.allowance → if_allowed g u ≡ taken (spent g u 1)
allowed g u h = rw (ne_eqb g.allowance 0 (omega arith))

abbrev EnoughFor : Expr → Rig → Type 0
EnoughFor e g = (r : Tree × ℕ) → eval e g.tree ≡ some r → peak e g.tree ≤ g.capacity → r.1 ≤ g.allowance → Sorted g.tree → eval_on e g ≡ taken (spent g r.0 r.1)

makes_enough : (p : Path) (n : Node) (g : Rig) (r : Tree × ℕ) → (d b : Bool) → is_dir g.tree (parent p) ≡ d → is_nothing (at g.tree p) ≡ b
    → cond (d && b) (some (with_node p n g.tree, 1)) none ≡ some r → max (length g.tree) (onward (cond (d && b) (some (with_node p n g.tree, 1)) none) length) ≤ g.capacity → r.1 ≤ g.allowance → Sorted g.tree
    → make p n g ≡ taken (spent g r.0 r.1)
makes_enough p n g r true true e f h k a s =
    let q : (with_node p n g.tree, 1) ≡ r = some_eq h in
    let one : r.1 ≡ 1 = ap (λ z. z.1) (sym q) in
    let l : length (with_node p n g.tree) ≡ suc (length g.tree) = length_with p n g.tree f s in
    rw (e, f, lt-leb g.capacity (length g.tree) (omega arith)) (allowed g (with_node p n g.tree) (omega arith) ∙ ap (λ z. taken (spent g z.0 z.1)) q)
makes_enough p n g r true false e f h k a s = none_some h
makes_enough p n g r false b e f h k a s = none_some h

removes_enough : (p : Path) (g : Rig) (r : Tree × ℕ) (n : Node) (b : Bool) → eqb (children g.tree p) 0 ≡ b → cond (removable n (children g.tree p)) (some (without p g.tree, 1)) none ≡ some r → r.1 ≤ g.allowance
    → remove_node n p g ≡ taken (spent g r.0 r.1)
removes_enough p g r nothing b e h a = none_some h
removes_enough p g r directory true e h a =
    let q : (without p g.tree, 1) ≡ r = some_eq (sym (ap (λ c. cond c (some (without p g.tree, 1)) none) e) ∙ h) in
    let one : r.1 ≡ 1 = ap (λ z. z.1) (sym q) in
    rw e (allowed g (without p g.tree) (omega arith) ∙ ap (λ z. taken (spent g z.0 z.1)) q)
removes_enough p g r directory false e h a =
    none_some (sym (ap (λ c. cond c (some (without p g.tree, 1)) none) e) ∙ h)
removes_enough p g r (file c) b e h a =
    let q : (without p g.tree, 1) ≡ r = some_eq h in
    let one : r.1 ≡ 1 = ap (λ z. z.1) (sym q) in
    allowed g (without p g.tree) (omega arith) ∙ ap (λ z. taken (spent g z.0 z.1)) q

spent_twice : (g : Rig) (t u : Tree) (j k : ℕ) → spent (spent g t j) u k ≡ spent g u (j + k)
spent_twice g t u j k = let e : (g.allowance - j) - k ≡ g.allowance - (j + k) = omega arith in λ i. record { tree = u; capacity = g.capacity; allowance = e i }

enough_for : (e : Expr) (g : Rig) → EnoughFor e g
enough_for skip g r h k a s =
    let q : (g.tree, 0) ≡ r = some_eq h in
    let z : g.allowance ≡ g.allowance - 0 = omega arith in
    (λ i. taken (record { tree = g.tree; capacity = g.capacity; allowance = z i })) ∙ ap (λ x. taken (spent g x.0 x.1)) q
enough_for (mkdir p) g r h k a s = makes_enough p directory g r (is_dir g.tree (parent p)) (is_nothing (at g.tree p)) refl refl h k a s
enough_for (creat p c) g r h k a s = makes_enough p (file c) g r (is_dir g.tree (parent p)) (is_nothing (at g.tree p)) refl refl h k a s
enough_for (rm p) g r h k a s = removes_enough p g r (at g.tree p) (eqb (children g.tree p) 0) refl h a
enough_for (sequence e f) g r h k a s = by (and_then_parts (eval e g.tree) (λ u. eval f u) r h) (enough_for e g) (λ w. enough_for f w)
  where
    by : (v : Tree × ℕ) × (w : Tree × ℕ) × (eval e g.tree ≡ some v) × (eval f v.0 ≡ some w) × (r ≡ (w.0, v.1 + w.1)) → EnoughFor e g → ((w : Rig) → EnoughFor f w)
        → on_taken (eval_on e g) (λ w. eval_on f w) ≡ taken (spent g r.0 r.1)
    by z ih ih' =
        let count : r.1 ≡ z.0.1 + z.1.1 = ap (λ x. x.1) z.4 in
        let tops : max (peak e g.tree) (peak f z.0.0) ≤ g.capacity = subst (λ o. max (peak e g.tree) (onward o (λ u. peak f u)) ≤ g.capacity) z.2 k in
        let sorted : Sorted z.0.0 = subst SortedOut z.2 (eval_sorted e g.tree s) in
        ap (λ x. on_taken x (λ w. eval_on f w)) (ih z.0 z.2 (omega arith) (omega arith) s)
        ∙ ih' (spent g z.0.0 z.0.1) z.1 z.3 (omega arith) (omega arith) sorted
        ∙ ap taken (spent_twice g z.0.0 z.1.0 z.0.1 z.1.1)
        ∙ ap (λ x. taken (spent g x.0 x.1)) (sym z.4)
enough_for (test q e f) g r h k a s = by (passes q g.tree) h k (enough_for e g r) (enough_for f g r)
  where
    by : (b : Bool) → cond b (eval e g.tree) (eval f g.tree) ≡ some r → cond b (peak e g.tree) (peak f g.tree) ≤ g.capacity
        → (eval e g.tree ≡ some r → peak e g.tree ≤ g.capacity → r.1 ≤ g.allowance → Sorted g.tree → eval_on e g ≡ taken (spent g r.0 r.1))
        → (eval f g.tree ≡ some r → peak f g.tree ≤ g.capacity → r.1 ≤ g.allowance → Sorted g.tree → eval_on f g ≡ taken (spent g r.0 r.1))
        → cond b (eval_on e g) (eval_on f g) ≡ taken (spent g r.0 r.1)
    by true i j ih ih' = ih i j a s
    by false i j ih ih' = ih' i j a s

enough_all : (m : Manifest) (o : List ℕ) (g : Rig) → Sorted g.tree → (r : Result) → evaluate m o g.tree ≡ some r → peak_of m o g.tree ≤ g.capacity → r.1 ≤ g.allowance
    → evaluate_on m o g ≡ taken (spent g r.0 r.1)
enough_all m [] g s r h k a =
    let q : (g.tree, 0, []) ≡ r = some_eq h in
    let z : g.allowance ≡ g.allowance - 0 = omega arith in
    (λ i. taken (record { tree = g.tree; capacity = g.capacity; allowance = z i })) ∙ ap (λ x. taken (spent g x.0 x.1)) q
enough_all m (i ∷ o) g s r h k a = by (evaluate_first m i o g.tree r h) (λ w. enough_all m o w)
  where
    e : Expr
    e = expr (resource m i)

    by : (x : Tree × ℕ) × (q : Result) × (eval e g.tree ≡ some x) × (evaluate m o x.0 ≡ some q) × (r.0 ≡ q.0) × (r.1 ≡ x.1 + q.1)
        → ((w : Rig) → Sorted w.tree → (q : Result) → evaluate m o w.tree ≡ some q → peak_of m o w.tree ≤ w.capacity → q.1 ≤ w.allowance → evaluate_on m o w ≡ taken (spent w q.0 q.1))
        → on_taken (eval_on e g) (λ w. evaluate_on m o w) ≡ taken (spent g r.0 r.1)
    by z ih =
        let count : r.1 ≡ z.0.1 + z.1.1 = z.5 in
        let tops : max (peak e g.tree) (peak_of m o z.0.0) ≤ g.capacity = subst (λ O. max (peak e g.tree) (onward O (λ u. peak_of m o u)) ≤ g.capacity) z.2 k in
        let sorted : Sorted z.0.0 = subst SortedOut z.2 (eval_sorted e g.tree s) in
        ap (λ x. on_taken x (λ w. evaluate_on m o w)) (enough_for e g z.0 z.2 (omega arith) (omega arith) s)
        ∙ ih (spent g z.0.0 z.0.1) sorted z.1 z.3 (omega arith) (omega arith)
        ∙ ap taken (spent_twice g z.0.0 z.1.0 z.0.1 z.1.1)
        ∙ (λ j. taken (spent g (sym z.4 j) (sym z.5 j)))

pub enough : Enough
enough m o g s r h k a = enough_all m o g s r h (let c = peak_room m g.tree s o in omega arith) a

-- the same backwards: what was taken, and what it left
pub record Took (t : Tree) (k : ℕ) (g h : Rig) : Type 0 where
  pub tree_is : h.tree ≡ t
  pub capacity_is : h.capacity ≡ g.capacity
  pub allowance_is : h.allowance + k ≡ g.allowance

abbrev pub FaithfulFor : Expr → Rig → Rig → Type 0
FaithfulFor e g h = eval_on e g ≡ taken h → (r : Tree × ℕ) × (eval e g.tree ≡ some r) × Took r.0 r.1 g h

took : (g h : Rig) (u : Tree) → if_allowed g u ≡ taken h → Took u 1 g h
took g h u e = by (eqb g.allowance 0) refl e
  where
    by : (b : Bool) → eqb g.allowance 0 ≡ b → cond b (refused 40) (taken (after g u)) ≡ taken h → Took u 1 g h
    by true f k = never 40 h k
    by false f k =
        let q : after g u ≡ h = taken_eq k in
        let some_left : g.allowance ≢ 0 = eqb-false g.allowance 0 f in
        let less : h.allowance ≡ g.allowance - 1 = ap (λ z. z.allowance) (sym q) in
        record { tree_is = ap (λ z. z.tree) (sym q); capacity_is = ap (λ z. z.capacity) (sym q); allowance_is = omega arith }

make_faithful : (p : Path) (n : Node) (g h : Rig) (d b c : Bool) → is_dir g.tree (parent p) ≡ d → is_nothing (at g.tree p) ≡ b
    → cond d (cond b (cond c (refused 39) (if_allowed g (with_node p n g.tree))) (refused 36)) (refused 35) ≡ taken h
    → (r : Tree × ℕ) × (cond (vacant g.tree p) (some (with_node p n g.tree, 1)) none ≡ some r) × Took r.0 r.1 g h
make_faithful p n g h true true true e f k = never 39 h k
make_faithful p n g h true true false e f k = ((with_node p n g.tree, 1), rw (e, f), took g h (with_node p n g.tree) k)
make_faithful p n g h true false c e f k = never 36 h k
make_faithful p n g h false b c e f k = never 35 h k

remove_faithful : (p : Path) (g h : Rig) (n : Node) (b : Bool) → eqb (children g.tree p) 0 ≡ b → remove_node n p g ≡ taken h
    → (r : Tree × ℕ) × (cond (removable n (children g.tree p)) (some (without p g.tree, 1)) none ≡ some r) × Took r.0 r.1 g h
remove_faithful p g h nothing b e k = never 37 h k
remove_faithful p g h directory true e k = ((without p g.tree, 1), rw e, took g h (without p g.tree) (sym (ap (λ c. cond c (if_allowed g (without p g.tree)) (refused 38)) e) ∙ k))
remove_faithful p g h directory false e k = never 38 h (sym (ap (λ c. cond c (if_allowed g (without p g.tree)) (refused 38)) e) ∙ k)
remove_faithful p g h (file c) b e k = ((without p g.tree, 1), refl, took g h (without p g.tree) k)

-- a taken answer that came of two
on_taken_parts : (a : Answer) (f : Rig → Answer) (h : Rig) → on_taken a f ≡ taken h → (w : Rig) × (a ≡ taken w) × (f w ≡ taken h)
on_taken_parts (taken w) f h e = (w, refl, e)
on_taken_parts (refused n) f h e = never n h e

took_twice : (t u : Tree) (j k : ℕ) (g w h : Rig) → Took t j g w → Took u k w h → Took u (j + k) g h
took_twice t u j k g w h a b = let x = a.allowance_is in let y = b.allowance_is in record { tree_is = b.tree_is; capacity_is = b.capacity_is ∙ a.capacity_is; allowance_is = omega arith }

pub faithful_for : (e : Expr) (g h : Rig) → FaithfulFor e g h
faithful_for skip g h k = let q : g ≡ h = taken_eq k in let z : h.allowance ≡ g.allowance = ap (λ x. x.allowance) (sym q) in
    ((g.tree, 0), refl, record { tree_is = ap (λ x. x.tree) (sym q); capacity_is = ap (λ x. x.capacity) (sym q); allowance_is = omega arith })
faithful_for (mkdir p) g h k = make_faithful p directory g h (is_dir g.tree (parent p)) (is_nothing (at g.tree p)) (leb g.capacity (length g.tree)) refl refl k
faithful_for (creat p c) g h k = make_faithful p (file c) g h (is_dir g.tree (parent p)) (is_nothing (at g.tree p)) (leb g.capacity (length g.tree)) refl refl k
faithful_for (rm p) g h k = remove_faithful p g h (at g.tree p) (eqb (children g.tree p) 0) refl k
faithful_for (sequence e f) g h k = by (on_taken_parts (eval_on e g) (λ w. eval_on f w) h k) (λ w. faithful_for e g w) (λ w. faithful_for f w h)
  where
    by : (w : Rig) × (eval_on e g ≡ taken w) × (eval_on f w ≡ taken h) → ((w : Rig) → FaithfulFor e g w) → ((w : Rig) → FaithfulFor f w h)
        → (r : Tree × ℕ) × (eval (sequence e f) g.tree ≡ some r) × Took r.0 r.1 g h
    by z ih ih' =
        let a = ih z.0 z.1 in
        let b = ih' z.0 z.2 in
        let here : eval f a.0.0 ≡ some b.0 = ap (eval f) (sym a.2.tree_is) ∙ b.1 in
        ((b.0.0, a.0.1 + b.0.1), rw (a.1, here), took_twice a.0.0 b.0.0 a.0.1 b.0.1 g z.0 h a.2 b.2)
faithful_for (test q e f) g h k = by (passes q g.tree) k (faithful_for e g h) (faithful_for f g h)
  where
    by : (b : Bool) → cond b (eval_on e g) (eval_on f g) ≡ taken h → FaithfulFor e g h → FaithfulFor f g h → (r : Tree × ℕ) × (cond b (eval e g.tree) (eval f g.tree) ≡ some r) × Took r.0 r.1 g h
    by true i ih ih' = ih i
    by false i ih ih' = ih' i

pub faithful : Faithful
faithful m [] g h k =
    let q : g ≡ h = taken_eq k in
    let z : h.allowance ≡ g.allowance = ap (λ x. x.allowance) (sym q) in
    record { result = (g.tree, 0, []); evaluates = refl; tree = ap (λ x. x.tree) (sym q); capacity = ap (λ x. x.capacity) (sym q); allowance = omega arith }
faithful m (i ∷ o) g h k = by (on_taken_parts (eval_on (expr (resource m i)) g) (λ w. evaluate_on m o w) h k) (λ w. faithful m o w h)
  where
    e : Expr
    e = expr (resource m i)

    by : (w : Rig) × (eval_on e g ≡ taken w) × (evaluate_on m o w ≡ taken h) → ((w : Rig) → evaluate_on m o w ≡ taken h → Follows m o w h) → Follows m (i ∷ o) g h
    by z ih =
        let a = faithful_for e g z.0 z.1 in
        let b = ih z.0 z.2 in
        let here : evaluate m o a.0.0 ≡ some b.result = ap (evaluate m o) (sym a.2.tree_is) ∙ b.evaluates in
        let x = a.2.allowance_is in
        let y = b.allowance in
        record {
          result = (b.result.0, a.0.1 + b.result.1, cond (changed (resource m i) g.tree a.0.1) (i ∷ b.result.2) b.result.2);
          evaluates = rw (a.1, here);
          tree = b.tree;
          capacity = b.capacity ∙ a.2.capacity_is;
          allowance = omega arith;
        }

-- ---- why a rig refuses

-- the refusal is for want of a free node or of allowance
abbrev pub Limit : ℕ → Type 0
Limit n = (n ≡ 39) ⊎ (n ≡ 40)

pub refused_eq : {m n : ℕ} → refused m ≡ refused n → m ≡ n
refused_eq e = cc

pub untaken : {A : Type 0} (n : ℕ) (h : Rig) → taken h ≡ refused n → A
untaken n h e = let z : ◌≡◌ {A = ℕ} 0 1 = cc in absurd (omega arith)

-- a tree after one change, if it is allowed
abbrev one_if : Bool → Tree → Outcome
one_if b u = cond b (some (u, 1)) none

-- past the other checks it can only be the allowance
last_check : (g : Rig) (u : Tree) (n : ℕ) → if_allowed g u ≡ refused n → Limit n
last_check g u n e = by (eqb g.allowance 0) e
  where
    by : (a : Bool) → cond a (refused 40) (taken (after g u)) ≡ refused n → Limit n
    by true k = inr (sym (refused_eq k))
    by false k = untaken n (after g u) k

make_refused : (p : Path) (x : Node) (g : Rig) (n : ℕ) → make p x g ≡ refused n → (one_if (vacant g.tree p) (with_node p x g.tree) ≡ none) ⊎ (Limit n)
make_refused p x g n e = by (is_dir g.tree (parent p)) (is_nothing (at g.tree p)) (leb g.capacity (length g.tree)) e
  where
    by : (d b c : Bool) → cond d (cond b (cond c (refused 39) (if_allowed g (with_node p x g.tree))) (refused 36)) (refused 35) ≡ refused n
        → (one_if (d && b) (with_node p x g.tree) ≡ none) ⊎ (Limit n)
    by true true true k = inr (inl (sym (refused_eq k)))
    by true true false k = inr (last_check g (with_node p x g.tree) n k)
    by true false c k = inl refl
    by false b c k = inl refl

remove_refused : (p : Path) (g : Rig) (n : ℕ) (x : Node) → remove_node x p g ≡ refused n → (one_if (removable x (children g.tree p)) (without p g.tree) ≡ none) ⊎ (Limit n)
remove_refused p g n nothing e = inl refl
remove_refused p g n directory e = by (eqb (children g.tree p) 0) e
  where
    by : (b : Bool) → cond b (if_allowed g (without p g.tree)) (refused 38) ≡ refused n → (one_if b (without p g.tree) ≡ none) ⊎ (Limit n)
    by true k = inr (last_check g (without p g.tree) n k)
    by false k = inl refl
remove_refused p g n (file c) e = inr (last_check g (without p g.tree) n e)

pub refuses_for : (e : Expr) (g : Rig) (n : ℕ) → eval_on e g ≡ refused n → (eval e g.tree ≡ none) ⊎ Limit n
refuses_for skip g n k = untaken n g k
refuses_for (mkdir p) g n k = make_refused p directory g n k
refuses_for (creat p c) g n k = make_refused p (file c) g n k
refuses_for (rm p) g n k = remove_refused p g n (at g.tree p) k
refuses_for (sequence e f) g n k = by (eval_on e g) refl k (refuses_for e g) (λ w. refuses_for f w n)
  where
    Goal : Type 0
    Goal = (and_then (eval e g.tree) (λ u. eval f u) ≡ none) ⊎ (Limit n)

    by : (a : Answer) → eval_on e g ≡ a → on_taken a (λ w. eval_on f w) ≡ refused n → ((m : ℕ) → eval_on e g ≡ refused m → (eval e g.tree ≡ none) ⊎ (Limit m)) → ((w : Rig) → eval_on f w ≡ refused n → (eval f w.tree ≡ none) ⊎ (Limit n)) → Goal
    by (refused m) i j ih ih' = ⊎_elim (λ h. inl (ap (λ o. and_then o (λ u. eval f u)) h)) (λ h. inr (subst Limit (refused_eq j) h)) (ih m i)
    by (taken w) i j ih ih' =
        let a = faithful_for e g w i in
        ⊎_elim (λ h. inl (ap (λ o. and_then o (λ u. eval f u)) a.1 ∙ ap (plus a.0.1) (ap (eval f) (sym a.2.tree_is) ∙ h))) inr (ih' w j)
refuses_for (test q e f) g n k = by (passes q g.tree) k (refuses_for e g n) (refuses_for f g n)
  where
    by : (b : Bool) → cond b (eval_on e g) (eval_on f g) ≡ refused n → (eval_on e g ≡ refused n → (eval e g.tree ≡ none) ⊎ (Limit n)) → (eval_on f g ≡ refused n → (eval f g.tree ≡ none) ⊎ (Limit n)) → (cond b (eval e g.tree) (eval f g.tree) ≡ none) ⊎ (Limit n)
    by true i ih ih' = ih i
    by false i ih ih' = ih' i

pub refuses : Refuses
refuses m [] g n k = untaken n g k
refuses m (i ∷ o) g n k = by (eval_on e g) refl k (λ w. refuses m o w n)
  where
    e : Expr
    e = expr (resource m i)

    -- what comes of the evaluation where the resource has the outcome O
    after_one : Outcome → Type 0
    after_one O = (and_on i (flagged (resource m i) g.tree O) (λ u. evaluate m o u) ≡ none) ⊎ Limit n

    by : (a : Answer) → eval_on e g ≡ a → on_taken a (λ w. evaluate_on m o w) ≡ refused n → ((w : Rig) → evaluate_on m o w ≡ refused n → (evaluate m o w.tree ≡ none) ⊎ Limit n) → after_one (eval e g.tree)
    by (refused j) h q ih = ⊎_elim (λ z. subst after_one (sym z) (inl refl)) (λ z. inr (subst Limit (refused_eq q) z)) (refuses_for e g j h)
    by (taken w) h q ih =
        let a = faithful_for e g w h in
        subst after_one (sym a.1) (⊎_elim (λ z. inl (ap (then_more i a.0.1 (changed (resource m i) g.tree a.0.1)) (ap (evaluate m o) (sym a.2.tree_is) ∙ z))) inr (ih w q))
