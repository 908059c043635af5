-- A rig with room and allowance enough refuses nothing for want of them. Assumes nothing.
use Rattle.std.proofs.Common.{◌≡◌, ℕ, ◌<◌, max, Bool, true, false, cond, eqb, leb, List, [], ◌∷◌, ◌++◌, length, sym, refl, ap, ◌∙◌, subst, arith, length-append}
use mathlib.Core.Option.{none, some}
use Rattle.std.proofs.lemmas.Bool.{leb-true, eqb-true}
use Rattle.fs.specs.Tree.{Path, Node, nothing, directory, file, is_nothing, Tree, at, with_node, without, children, parent, is_dir, vacant, removable, Sorted}
use Rattle.fs.specs.Rig.{Rig, Answer, taken, refused, after, if_allowed, make, remove_node, on_taken}
use Rattle.fs.specs.Change.{Change, made_dir, made_file, removed}
use Rattle.fs.specs.Fs.{Expr, skip, mkdir, creat, rm, sequence, test, passes, eval}
use Rattle.fs.specs.Manifest.{expr, Manifest, resource}
use Rattle.fs.specs.Trace.{and_trace, trace, trace_of}
use Rattle.fs.specs.Limits.{eval_on, evaluate_on, NeverShort}
use Rattle.fs.proofs.Sound.{SortedOut, eval_sorted}
use Rattle.fs.proofs.Traces.{traced_expr}
use Rattle.fs.proofs.Rooms.{onward, peak, peak_of, peak_room}
use Rattle.fs.proofs.Bills.{within_bill}
use Rattle.fs.proofs.Limits.{length_with, faithful_for, refused_eq, untaken}

-- the last check refuses by 40, and only without an allowance
allowed : (g : Rig) (u : Tree) (n : ℕ) → if_allowed g u ≡ refused n → (40 ≡ n) × (g.allowance ≡ 0)
allowed g u n e = by (eqb g.allowance 0) refl e
  where
    by : (b : Bool) → eqb g.allowance 0 ≡ b → cond b (refused 40) (taken (after g u)) ≡ refused n → (40 ≡ n) × (g.allowance ≡ 0)
    by true f k = (refused_eq k, eqb-true g.allowance 0 f)
    by false f k = untaken n (after g u) k

-- what a node that is refused by n says
abbrev Full : Path → Node → Rig → Type 0
Full p x g = g.capacity < max (length g.tree) (onward (cond (vacant g.tree p) (some (with_node p x g.tree, 1)) none) length)

makes : (p : Path) (x : Node) (c : Change) (g : Rig) → Sorted g.tree → (n : ℕ) → make p x g ≡ refused n → (n ≡ 39 → Full p x g) × (n ≡ 40 → g.allowance < length (cond (vacant g.tree p) (c ∷ []) []))
makes p x c g s n e = by (is_dir g.tree (parent p)) (is_nothing (at g.tree p)) (leb g.capacity (length g.tree)) refl refl refl e
  where
    by : (a b d : Bool) → is_dir g.tree (parent p) ≡ a → is_nothing (at g.tree p) ≡ b → leb g.capacity (length g.tree) ≡ d
        → cond a (cond b (cond d (refused 39) (if_allowed g (with_node p x g.tree))) (refused 36)) (refused 35) ≡ refused n → (n ≡ 39 → Full p x g) × (n ≡ 40 → g.allowance < length (cond (vacant g.tree p) (c ∷ []) []))
    by true true true i j k q =
        let l = length_with p x g.tree j s in
        let z = leb-true g.capacity (length g.tree) k in
        let w = refused_eq q in
        (λ _. rw (i, j) (omega arith), λ h. absurd (omega arith))
    by true true false i j k q = let z = allowed g (with_node p x g.tree) n q in (λ h. absurd (omega arith), λ _. rw (i, j) (omega arith))
    by true false d i j k q = let z = refused_eq q in (λ h. absurd (omega arith), λ h. absurd (omega arith))
    by false b d i j k q = let z = refused_eq q in (λ h. absurd (omega arith), λ h. absurd (omega arith))

removes : (p : Path) (x : Node) (g : Rig) (n : ℕ) → remove_node x p g ≡ refused n → (n ≡ 39 → ⊥) × (n ≡ 40 → g.allowance < length (cond (removable x (children g.tree p)) (removed p ∷ []) []))
removes p nothing g n e = let z = refused_eq e in (λ h. omega arith, λ h. absurd (omega arith))
removes p directory g n e = by (eqb (children g.tree p) 0) e
  where
    by : (b : Bool) → cond b (if_allowed g (without p g.tree)) (refused 38) ≡ refused n → (n ≡ 39 → ⊥) × (n ≡ 40 → g.allowance < length (cond b (removed p ∷ []) []))
    by true k = let z = allowed g (without p g.tree) n k in (λ h. omega arith, λ _. omega arith)
    by false k = let z = refused_eq k in (λ h. omega arith, λ h. absurd (omega arith))
removes p (file c) g n e = let z = allowed g (without p g.tree) n e in (λ h. omega arith, λ _. omega arith)

-- an expression refused by 39 would have more nodes than there is room for; one refused by 40 makes more changes than are allowed
abbrev Short : Expr → Rig → ℕ → Type 0
Short e g n = (n ≡ 39 → g.capacity < peak e g.tree) × (n ≡ 40 → g.allowance < length (trace e g.tree))

short : (e : Expr) (g : Rig) → Sorted g.tree → (n : ℕ) → eval_on e g ≡ refused n → Short e g n
short skip g s n e = untaken n g e
short (mkdir p) g s n e = makes p directory (made_dir p) g s n e
short (creat p c) g s n e = makes p (file c) (made_file p c) g s n e
short (rm p) g s n e = let z = removes p (at g.tree p) g n e in (λ h. absurd (z.0 h), z.1)
short (sequence x y) g s n e = by (eval_on x g) refl e (short x g s n) (λ w k. short y w k n)
  where
    by : (a : Answer) → eval_on x g ≡ a → on_taken a (λ w. eval_on y w) ≡ refused n → (eval_on x g ≡ refused n → Short x g n) → ((w : Rig) → Sorted w.tree → eval_on y w ≡ refused n → Short y w n) → Short (sequence x y) g n
    by (refused j) f k ih ih' =
        let z = ih (f ∙ k) in
        let l = length-append (trace x g.tree) (and_trace (eval x g.tree) (λ u. trace y u)) in
        (λ h. let w = z.0 h in omega arith, λ h. let w = z.1 h in omega arith)
    by (taken w) f k ih ih' =
        let d = faithful_for x g w f in
        let sorted : Sorted w.tree = subst Sorted (sym d.2.tree_is) (subst SortedOut d.1 (eval_sorted x g.tree s)) in
        let z = ih' w sorted k in
        let t : peak y w.tree ≡ peak y d.0.0 = ap (peak y) d.2.tree_is in
        let u : length (trace y w.tree) ≡ length (trace y d.0.0) = ap (λ v. length (trace y v)) d.2.tree_is in
        let c = d.2.capacity_is in
        let r = d.2.allowance_is in
        let m = (traced_expr x g.tree d.0 d.1).1 in
        let l = length-append (trace x g.tree) (trace y d.0.0) in (
          λ h. subst (λ o. g.capacity < max (peak x g.tree) (onward o (λ u. peak y u))) (sym d.1) (let q = z.0 h in omega arith),
          λ h. subst (λ o. g.allowance < length (trace x g.tree ++ and_trace o (λ u. trace y u))) (sym d.1) (let q = z.1 h in omega arith),
        )
short (test q x y) g s n e = by (passes q g.tree) e (short x g s n) (short y g s n)
  where
    by : (b : Bool) → cond b (eval_on x g) (eval_on y g) ≡ refused n → (eval_on x g ≡ refused n → Short x g n) → (eval_on y g ≡ refused n → Short y g n)
        → (n ≡ 39 → g.capacity < cond b (peak x g.tree) (peak y g.tree)) × (n ≡ 40 → g.allowance < length (cond b (trace x g.tree) (trace y g.tree)))
    by true k ih ih' = ih k
    by false k ih ih' = ih' k

-- the same along an order
short_order : (m : Manifest) (o : List ℕ) (g : Rig) → Sorted g.tree → (n : ℕ) → evaluate_on m o g ≡ refused n → (n ≡ 39 → g.capacity < peak_of m o g.tree) × (n ≡ 40 → g.allowance < length (trace_of m o g.tree))
short_order m [] g s n e = untaken n g e
short_order m (i ∷ o) g s n e = by (eval_on x g) refl e (λ w k. short_order m o w k n)
  where
    x : Expr
    x = expr (resource m i)

    By : Rig → Type 0
    By w = (n ≡ 39 → w.capacity < peak_of m o w.tree) × (n ≡ 40 → w.allowance < length (trace_of m o w.tree))

    by : (a : Answer) → eval_on x g ≡ a → on_taken a (λ w. evaluate_on m o w) ≡ refused n → ((w : Rig) → Sorted w.tree → evaluate_on m o w ≡ refused n → By w)
        → (n ≡ 39 → g.capacity < peak_of m (i ∷ o) g.tree) × (n ≡ 40 → g.allowance < length (trace_of m (i ∷ o) g.tree))
    by (refused j) f k ih =
        let z = short x g s n (f ∙ k) in
        let l = length-append (trace x g.tree) (and_trace (eval x g.tree) (λ u. trace_of m o u)) in
        (λ h. let w = z.0 h in omega arith, λ h. let w = z.1 h in omega arith)
    by (taken w) f k ih =
        let d = faithful_for x g w f in
        let sorted : Sorted w.tree = subst Sorted (sym d.2.tree_is) (subst SortedOut d.1 (eval_sorted x g.tree s)) in
        let z = ih w sorted k in
        let t : peak_of m o w.tree ≡ peak_of m o d.0.0 = ap (peak_of m o) d.2.tree_is in
        let u : length (trace_of m o w.tree) ≡ length (trace_of m o d.0.0) = ap (λ v. length (trace_of m o v)) d.2.tree_is in
        let c = d.2.capacity_is in
        let r = d.2.allowance_is in
        let q = (traced_expr x g.tree d.0 d.1).1 in
        let l = length-append (trace x g.tree) (trace_of m o d.0.0) in (
          λ h. subst (λ v. g.capacity < max (peak x g.tree) (onward v (λ u. peak_of m o u))) (sym d.1) (let y = z.0 h in omega arith),
          λ h. subst (λ v. g.allowance < length (trace x g.tree ++ and_trace v (λ u. trace_of m o u))) (sym d.1) (let y = z.1 h in omega arith),
        )

pub never_short : NeverShort
never_short m o g s once k p n e =
    let z = short_order m o g s n e in
    let a = peak_room m g.tree s o in
    let b = within_bill m o g.tree s once in
    (λ h. let w = z.0 h in omega arith, λ h. let w = z.1 h in omega arith)
