-- The trace of an evaluation is allowed, has the changes that are counted, and makes its tree; and a package that is changed made its marker. Assumes nothing.
use Rattle.std.proofs.Common.{◌≡◌, ℕ, ◌+◌, Bool, true, false, cond, not, List, [], ◌∷◌, ◌++◌, length, sym, refl, ap, ◌∙◌, subst, ap₂, true≢false, length-append}
use mathlib.Core.Option.{none, some}
use Rattle.std.proofs.lemmas.Bool.{and_parts, and_from, or_parts}
use Rattle.fs.specs.Tree.{Path, same, Node, nothing, directory, file, is_file, Tree, at, children, vacant, removable}
use Rattle.fs.specs.Fs.{Expr, skip, mkdir, creat, rm, sequence, test, Outcome, passes, eval}
use Rattle.fs.specs.Change.{Change, made_dir, made_file, removed, change, made, allows, allows_all}
use Rattle.fs.specs.Manifest.{ensure_all, Package, steps, marker, expr, flagged, Manifest, resource, Result, evaluate}
use Rattle.fs.specs.Trace.{and_trace, trace, trace_of, Traced, makes_file, ChangedByMarker}
use Rattle.fs.proofs.Trees.{at_put}
use Rattle.fs.proofs.Resources.{and_then_parts, expr_is}
use Rattle.fs.proofs.Rest.{done_holds}
use Rattle.fs.proofs.Views.{evaluate_first}
use Rattle.fs.proofs.Options.{some_eq, none_some}

pub made_append : (a b : List Change) (t : Tree) → made (a ++ b) t ≡ made b (made a t)
made_append [] b t = refl
made_append (c ∷ a) b t = made_append a b (change c t)

-- a trace makes what the evaluation says
abbrev pub Makes : List Change → Tree → Tree → ℕ → Type 0
Makes l t u n = (made l t ≡ u) × (length l ≡ n)

pub makes_append : (a b : List Change) (t u v : Tree) (j k : ℕ) → Makes a t u j → Makes b u v k → Makes (a ++ b) t v (j + k)
makes_append a b t u v j k x y = (made_append a b t ∙ ap (made b) x.0 ∙ y.0, length-append a b ∙ ap₂ ◌+◌ x.1 y.1)

one_change : (b : Bool) (c : Change) (t : Tree) (r : Tree × ℕ) → cond b (some (change c t, 1)) none ≡ some r → Makes (cond b (c ∷ []) []) t r.0 r.1
one_change true c t r h = let g : (change c t, 1) ≡ r = some_eq h in (ap (λ z. z.0) g, ap (λ z. z.1) g)
one_change false c t r h = none_some h

pub traced_expr : (e : Expr) (t : Tree) (r : Tree × ℕ) → eval e t ≡ some r → Makes (trace e t) t r.0 r.1
traced_expr skip t r h = let g : (t, 0) ≡ r = some_eq h in (ap (λ z. z.0) g, ap (λ z. z.1) g)
traced_expr (mkdir p) t r h = one_change (vacant t p) (made_dir p) t r h
traced_expr (creat p c) t r h = one_change (vacant t p) (made_file p c) t r h
traced_expr (rm p) t r h = one_change (removable (at t p) (children t p)) (removed p) t r h
traced_expr (sequence e f) t r h = by (and_then_parts (eval e t) (λ u. eval f u) r h) (traced_expr e t) (λ u. traced_expr f u)
  where
    by : (v : Tree × ℕ) × (w : Tree × ℕ) × (eval e t ≡ some v) × (eval f v.0 ≡ some w) × (r ≡ (w.0, v.1 + w.1)) → ((v : Tree × ℕ) → eval e t ≡ some v → Makes (trace e t) t v.0 v.1)
        → ((u : Tree) (w : Tree × ℕ) → eval f u ≡ some w → Makes (trace f u) u w.0 w.1) → Makes (trace e t ++ and_trace (eval e t) (λ u. trace f u)) t r.0 r.1
    by z a b = rw (z.2, z.4) (makes_append (trace e t) (trace f z.0.0) t z.0.0 z.1.0 z.0.1 z.1.1 (a z.0 z.2) (b z.0.0 z.1 z.3))
traced_expr (test q e f) t r h = by (passes q t) h (traced_expr e t r) (traced_expr f t r)
  where
    by : (b : Bool) → cond b (eval e t) (eval f t) ≡ some r → (eval e t ≡ some r → Makes (trace e t) t r.0 r.1) → (eval f t ≡ some r → Makes (trace f t) t r.0 r.1) → Makes (cond b (trace e t) (trace f t)) t r.0 r.1
    by true k x y = x k
    by false k x y = y k

pub traced_order : (m : Manifest) (o : List ℕ) (t : Tree) (r : Result) → evaluate m o t ≡ some r → Makes (trace_of m o t) t r.0 r.1
traced_order m [] t r h = let g : (t, 0, []) ≡ r = some_eq h in (ap (λ z. z.0) g, ap (λ z. z.1) g)
traced_order m (i ∷ o) t r h =
    let z = evaluate_first m i o t r h in
    let e = expr (resource m i) in
    let k = makes_append (trace e t) (trace_of m o z.0.0) t z.0.0 z.1.0 z.0.1 z.1.1 (traced_expr e t z.0 z.2) (traced_order m o z.0.0 z.1 z.3) in
    rw z.2 (k.0 ∙ sym z.4, k.1 ∙ sym z.5)

-- a trace is allowed
abbrev Allowed : List Change → Tree → Type 0
Allowed l t = allows_all l t ≡ true

allowed_append : (a b : List Change) (t : Tree) → Allowed a t → Allowed b (made a t) → Allowed (a ++ b) t
allowed_append [] b t x y = y
allowed_append (c ∷ a) b t x y =
    let p = and_parts (allows c t) (allows_all a (change c t)) x in
    and_from (allows c t) (allows_all (a ++ b) (change c t)) p.0 (allowed_append a b (change c t) p.1 y)

allowed_from : (e : Expr) (t : Tree) (f : Tree → List Change) → Allowed (trace e t) t → ((u : Tree) → Allowed (f u) u) → Allowed (trace e t ++ and_trace (eval e t) f) t
allowed_from e t f x y = allowed_append (trace e t) (and_trace (eval e t) f) t x (by (eval e t) refl)
  where
    by : (o : Outcome) → eval e t ≡ o → Allowed (and_trace o f) (made (trace e t) t)
    by none h = refl
    by (some v) h = subst (λ u. Allowed (f v.0) u) (sym (traced_expr e t v h).0) (y v.0)

allowed_one : (c : Change) (t : Tree) → Allowed (cond (allows c t) (c ∷ []) []) t
allowed_one c t = by (allows c t) refl
  where
    by : (b : Bool) → allows c t ≡ b → Allowed (cond b (c ∷ []) []) t
    by true e = and_from (allows c t) true e refl
    by false e = refl

allowed_expr : (e : Expr) (t : Tree) → Allowed (trace e t) t
allowed_expr skip t = refl
allowed_expr (mkdir p) t = allowed_one (made_dir p) t
allowed_expr (creat p c) t = allowed_one (made_file p c) t
allowed_expr (rm p) t = allowed_one (removed p) t
allowed_expr (sequence e f) t = allowed_from e t (λ u. trace f u) (allowed_expr e t) (λ u. allowed_expr f u)
allowed_expr (test q e f) t = by (passes q t) (allowed_expr e t) (allowed_expr f t)
  where
    by : (b : Bool) → Allowed (trace e t) t → Allowed (trace f t) t → Allowed (cond b (trace e t) (trace f t)) t
    by true x y = x
    by false x y = y

allowed_order : (m : Manifest) (o : List ℕ) (t : Tree) → Allowed (trace_of m o t) t
allowed_order m [] t = refl
allowed_order m (i ∷ o) t = allowed_from (expr (resource m i)) t (λ u. trace_of m o u) (allowed_expr (expr (resource m i)) t) (λ u. allowed_order m o u)

pub traced : Traced
traced m o t = record { allowed = allowed_order m o t; makes_tree = λ r h. (traced_order m o t r h).0; counted = λ r h. (traced_order m o t r h).1 }

-- ---- the marker

-- a file is there only by a change that made it
file_unmade : (p : Path) (l : List Change) (t : Tree) → makes_file p l ≡ false → is_file (at t p) ≡ false → is_file (at (made l t) p) ≡ false
file_unmade p [] t h n = n
file_unmade p (made_dir q ∷ l) t h n = file_unmade p l (change (made_dir q) t) h (ap is_file (at_put q directory t p) ∙ other directory refl (same p q))
  where
    other : (x : Node) → is_file x ≡ false → (b : Bool) → is_file (cond b x (at t p)) ≡ false
    other x e true = e
    other x e false = n
file_unmade p (made_file q c ∷ l) t h n =
    let k = or_parts (same p q) (makes_file p l) h in
    file_unmade p l (change (made_file q c) t) k.1 (ap is_file (at_put q (file c) t p) ∙ ap (λ b. is_file (cond b (file c) (at t p))) k.0 ∙ n)
file_unmade p (removed q ∷ l) t h n = file_unmade p l (change (removed q) t) h (ap is_file (at_put q nothing t p) ∙ other nothing refl (same p q))
  where
    other : (x : Node) → is_file x ≡ false → (b : Bool) → is_file (cond b x (at t p)) ≡ false
    other x e true = e
    other x e false = n

pub changed_by_marker : ChangedByMarker
changed_by_marker name l t s u n b h = on (eval (expr (Package name l)) t) refl h
  where
    mk : Path
    mk = marker name

    e : Expr
    e = expr (Package name l)

    unmade : (v : Tree × ℕ) → eval e t ≡ some v → is_file (at t mk) ≡ false → (x : Bool) → makes_file mk (trace e t) ≡ x → true ≡ x
    unmade v k f true m = refl
    unmade v k f false m =
        absurd (true≢false (sym (done_holds (Package name l) t v s (sym (expr_is (Package name l) t) ∙ k)) ∙ ap (λ w. is_file (at w mk)) (sym (traced_expr e t v k).0) ∙ file_unmade mk (trace e t) t m f))

    is_file_marker : (f : Bool) → is_file (at t mk) ≡ f → (v : Tree × ℕ) → eval e t ≡ some v → not f ≡ makes_file mk (trace e t)
    is_file_marker true f v k = sym (ap (λ z. makes_file mk (cond z [] (trace (ensure_all (steps (Package name l))) t))) f)
    is_file_marker false f v k = unmade v k f (makes_file mk (trace e t)) refl

    on : (O : Outcome) → eval e t ≡ O → flagged (Package name l) t O ≡ some (u, n, b) → b ≡ makes_file mk (trace e t)
    on none k g = none_some g
    on (some v) k g = ap (λ z. z.2) (sym (some_eq g)) ∙ is_file_marker (is_file (at t mk)) refl v k
