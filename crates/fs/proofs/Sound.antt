-- An evaluation leaves a sorted tree sorted, and every node's parent a directory. Assumes nothing.
use Rattle.std.proofs.Common.{◌≡◌, ℕ, Bool, true, false, cond, sym, refl, ap, subst}
use mathlib.Core.Option.{none, some}
use Rattle.fs.specs.Tree.{nothing, directory, file, Tree, at, with_node, without, children, vacant, removable, Sorted, Rooted}
use Rattle.fs.specs.Fs.{Expr, skip, mkdir, creat, rm, sequence, test, Outcome, plus, and_then, passes, eval, StaysSound}
use Rattle.fs.proofs.Trees.{sorted_put}
use Rattle.fs.proofs.Rooting.{rooted_make, rooted_remove}
use Rattle.fs.proofs.Options.{some_eq, none_some}
use Rattle.fs.proofs.Resources.{and_then_parts}

-- an evaluation of a sorted tree ends sorted
abbrev pub SortedOut : Outcome → Type 0
SortedOut none = Unit {0}
SortedOut (some x) = Sorted x.0

sorted_cond : (b : Bool) (o : Outcome) → SortedOut o → SortedOut (cond b o none)
sorted_cond true o g = g
sorted_cond false o g = tt

sorted_plus : (k : ℕ) (o : Outcome) → SortedOut o → SortedOut (plus k o)
sorted_plus k none g = tt
sorted_plus k (some x) g = g

pub eval_sorted : (e : Expr) (t : Tree) → Sorted t → SortedOut (eval e t)
eval_sorted skip t s = s
eval_sorted (mkdir p) t s = sorted_cond (vacant t p) (some (with_node p directory t, 1)) (sorted_put p directory t s)
eval_sorted (creat p c) t s = sorted_cond (vacant t p) (some (with_node p (file c) t, 1)) (sorted_put p (file c) t s)
eval_sorted (rm p) t s = sorted_cond (removable (at t p) (children t p)) (some (without p t, 1)) (sorted_put p nothing t s)
eval_sorted (sequence e f) t s = by (eval e t) (eval_sorted e t s) (λ u k. eval_sorted f u k)
  where
    by : (o : Outcome) → SortedOut o → ((u : Tree) → Sorted u → SortedOut (eval f u)) → SortedOut (and_then o (λ u. eval f u))
    by none g ih = tt
    by (some x) g ih = sorted_plus x.1 (eval f x.0) (ih x.0 g)
eval_sorted (test q e f) t s = by (passes q t) (eval_sorted e t s) (eval_sorted f t s)
  where
    by : (b : Bool) → SortedOut (eval e t) → SortedOut (eval f t) → SortedOut (cond b (eval e t) (eval f t))
    by true g k = g
    by false g k = k

-- what a test lets through
passed : (b : Bool) (u : Tree) (r : Tree × ℕ) → cond b (some (u, 1)) none ≡ some r → (b ≡ true) × (u ≡ r.0)
passed true u r h = (refl, ap (λ z. z.0) (some_eq h))
passed false u r h = none_some h

rooted_eval : (e : Expr) (t : Tree) (r : Tree × ℕ) → Rooted t → eval e t ≡ some r → Rooted r.0
rooted_eval skip t r root h = subst Rooted (ap (λ z. z.0) (some_eq h)) root
rooted_eval (mkdir p) t r root h = let k = passed (vacant t p) (with_node p directory t) r h in subst Rooted k.1 (rooted_make p directory t k.0 root)
rooted_eval (creat p c) t r root h = let k = passed (vacant t p) (with_node p (file c) t) r h in subst Rooted k.1 (rooted_make p (file c) t k.0 root)
rooted_eval (rm p) t r root h = let k = passed (removable (at t p) (children t p)) (without p t) r h in subst Rooted k.1 (rooted_remove p t k.0 root)
rooted_eval (sequence e f) t r root h =
    let z = and_then_parts (eval e t) (λ u. eval f u) r h in
    subst Rooted (ap (λ x. x.0) (sym z.4)) (rooted_eval f z.0.0 z.1 (rooted_eval e t z.0 root z.2) z.3)
rooted_eval (test q e f) t r root h = by (passes q t) h (rooted_eval e t r root) (rooted_eval f t r root)
  where
    by : (b : Bool) → cond b (eval e t) (eval f t) ≡ some r → (eval e t ≡ some r → Rooted r.0) → (eval f t ≡ some r → Rooted r.0) → Rooted r.0
    by true k ih ih' = ih k
    by false k ih ih' = ih' k

pub stays_sound : StaysSound
stays_sound e t r s root h = (subst SortedOut h (eval_sorted e t s), rooted_eval e t r root h)
