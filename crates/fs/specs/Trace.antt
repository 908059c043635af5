-- The trace of an evaluation: its single changes in their order, up to the first refusal. Assumes nothing.
use Rattle.std.specs.Prelude.{◌≡◌, ℕ, Bool, true, false, cond, ◌||◌, List, [], ◌∷◌, ◌++◌, length}
use Rattle.std.proofs.Math.Option.{none, some}
use Rattle.fs.specs.Tree.{Path, same, Tree, at, children, vacant, removable, Sorted}
use Rattle.fs.specs.Fs.{Expr, skip, mkdir, creat, rm, sequence, test, Outcome, passes, eval}
use Rattle.fs.specs.Change.{Change, made_dir, made_file, removed, made, allows_all}
use Rattle.fs.specs.Manifest.{Entry, Package, marker, expr, does, Manifest, resource, Result, evaluate}

-- the changes from the tree that an outcome has, none where it has none
abbrev pub and_trace : Outcome → (Tree → List Change) → List Change
and_trace none f = []
and_trace (some x) f = f x.0

-- the changes of an expression
abbrev pub trace : Expr → Tree → List Change
trace skip t = []
trace (mkdir p) t = cond (vacant t p) (made_dir p ∷ []) []
trace (creat p c) t = cond (vacant t p) (made_file p c ∷ []) []
trace (rm p) t = cond (removable (at t p) (children t p)) (removed p ∷ []) []
trace (sequence e f) t = trace e t ++ and_trace (eval e t) (λ u. trace f u)
trace (test q e f) t = cond (passes q t) (trace e t) (trace f t)

-- the changes of the resources of the numbers `o`, one after the other
abbrev pub trace_of : Manifest → List ℕ → Tree → List Change
trace_of m [] t = []
trace_of m (i ∷ o) t = trace (expr (resource m i)) t ++ and_trace (eval (expr (resource m i)) t) (λ u. trace_of m o u)

-- the trace is one that the tree allows, change by change; where the evaluation succeeds, the trace makes its tree, and has as many changes as it counts
pub record Traces (m : Manifest) (o : List ℕ) (t : Tree) : Type 0 where
  pub allowed : allows_all (trace_of m o t) t ≡ true
  pub makes_tree : (r : Result) → evaluate m o t ≡ some r → made (trace_of m o t) t ≡ r.0
  pub counted : (r : Result) → evaluate m o t ≡ some r → length (trace_of m o t) ≡ r.1

abbrev pub Traced : Type 0
Traced = (m : Manifest) (o : List ℕ) (t : Tree) → Traces m o t

-- is a file made at p
abbrev pub makes_file : Path → List Change → Bool
makes_file p [] = false
makes_file p (made_dir q ∷ l) = makes_file p l
makes_file p (made_file q c ∷ l) = same p q || makes_file p l
makes_file p (removed q ∷ l) = makes_file p l

-- a package that succeeds is changed exactly where it made its marker
abbrev pub ChangedByMarker : Type 0
ChangedByMarker =
    (name : List ℕ) (l : List Entry) (t : Tree) → Sorted t → (u : Tree) (n : ℕ) (b : Bool) → does (Package name l) t ≡ some (u, n, b) → b ≡ makes_file (marker name) (trace (expr (Package name l)) t)
