-- No step makes more changes than its weight, and a package one less than its steps weigh, since its marker is no file before. Assumes nothing.
use Rattle.std.proofs.Common.{◌≡◌, ℕ, zero, suc, pred, ◌+◌, ◌*◌, ◌<◌, ◌≤◌, Bool, true, false, cond, ◌&&◌, eqb, leb, ◌≢◌, ◌⊎◌, List, [], ◌∷◌, ◌++◌, length, sym, refl, ap, ◌∙◌, subst, inl, inr, true≢false, arith, length-append}
use mathlib.Core.Option.{none, some}
use Rattle.std.proofs.lemmas.Bool.{eq-eqb, ne_eqb, cases_eq, cases_lt}
use Rattle.std.proofs.lemmas.Bool.Decides.{nat_tests}
use Rattle.fs.specs.Tree.{Path, same, Node, nothing, directory, file, is_nothing, is_directory, is_file, is_file_of, Tree, at, with_node, without, children, parent, is_dir, vacant, removable, Sorted}
use Rattle.fs.specs.Change.{made_dir, made_file, removed}
use Rattle.fs.specs.Fs.{Expr, Outcome, plus, and_then, eval}
use Rattle.fs.specs.Manifest.{Step, ensure_dir, ensure_file, ensure_absent, ensure, ensure_all, Entry, dir_entry, file_entry, entry_step, Resource, Put, Directory, Absent, Package, Service, pkg, marker, package_steps, expr, nth, Manifest, size, resource, Result, evaluate}
use Rattle.fs.specs.Order.{occurs, AtMostOnce}
use Rattle.fs.specs.Trace.{and_trace, trace, trace_of}
use Rattle.fs.specs.Bill.{entries_share, share, shares, bill, WithinShare, WithinBill, packages, entries, BillFits}
use Rattle.fs.proofs.Trees.{cases_same, put_node, at_put_here, at_put_other, sorted_put}
use Rattle.fs.proofs.Steps.{path, act, act_at, exec, run, exec_leaves}
use Rattle.fs.proofs.Resources.{and_then_parts, planned, expr_is}
use Rattle.fs.proofs.Orders.{drop, occurs_drop}
use Rattle.fs.proofs.Sound.{SortedOut, eval_sorted}
use Rattle.fs.proofs.Traces.{traced_expr, traced}
use Rattle.fs.proofs.Options.{some_eq, none_some}

abbrev pub weight : Step → ℕ
weight (ensure_dir p) = 1
weight (ensure_file p c) = 2
weight (ensure_absent p) = 1

abbrev pub weights : List Step → ℕ
weights [] = 0
weights (x ∷ xs) = weight x + weights xs

-- an act that is some has no more changes than n
at_most : (n : ℕ) (z : Node × ℕ) (a : Node × ℕ) → z.1 ≤ n → some z ≡ some a → a.1 ≤ n
at_most n z a h e = let k : z.1 ≡ a.1 = ap (λ w. w.1) (some_eq e) in omega arith

at_most_if : (n : ℕ) (b : Bool) (z : Node × ℕ) (a : Node × ℕ) → z.1 ≤ n → cond b (some z) none ≡ some a → a.1 ≤ n
at_most_if n true z a h e = at_most n z a h e
at_most_if n false z a h e = none_some e

act_weight : (x : Step) (n : Node) (d : Bool) (k : ℕ) (a : Node × ℕ) → act x n d k ≡ some a → a.1 ≤ weight x
act_weight (ensure_dir p) nothing d k a e = at_most_if 1 d (directory, 1) a (omega arith) e
act_weight (ensure_dir p) directory d k a e = at_most 1 (directory, 0) a (omega arith) e
act_weight (ensure_dir p) (file f) d k a e = none_some e
act_weight (ensure_file p c) nothing d k a e = at_most_if 2 d (file c, 1) a (omega arith) e
act_weight (ensure_file p c) directory d k a e = none_some e
act_weight (ensure_file p c) (file f) d k a e = by (same c f) e
  where
    by : (b : Bool) → cond b (some (file f, 0)) (cond d (some (file c, 2)) none) ≡ some a → a.1 ≤ 2
    by true h = at_most 2 (file f, 0) a (omega arith) h
    by false h = at_most_if 2 d (file c, 2) a (omega arith) h
act_weight (ensure_absent p) nothing d k a e = at_most 1 (nothing, 0) a (omega arith) e
act_weight (ensure_absent p) directory d k a e = at_most_if 1 (eqb k 0) (nothing, 1) a (omega arith) e
act_weight (ensure_absent p) (file f) d k a e = at_most 1 (nothing, 1) a (omega arith) e

-- a file is made by one change where there was none
act_first : (p : Path) (c : List ℕ) (n : Node) (d : Bool) (k : ℕ) (a : Node × ℕ) → is_file n ≡ false → act (ensure_file p c) n d k ≡ some a → a.1 ≤ 1
act_first p c nothing d k a h e = at_most_if 1 d (file c, 1) a (omega arith) e
act_first p c directory d k a h e = none_some e
act_first p c (file f) d k a h e = absurd (true≢false h)

act_no_file : (p : Path) (n : Node) (d : Bool) (k : ℕ) (a : Node × ℕ) → act (ensure_dir p) n d k ≡ some a → is_file a.0 ≡ false
act_no_file p nothing true k a e = ap (λ z. is_file z.0) (sym (some_eq e))
act_no_file p nothing false k a e = none_some e
act_no_file p directory d k a e = ap (λ z. is_file z.0) (sym (some_eq e))
act_no_file p (file c) d k a e = none_some e

pub exec_weight : (x : Step) (t : Tree) (r : Tree × ℕ) → Sorted t → exec x t ≡ some r → (r.1 ≤ weight x) × Sorted r.0
exec_weight x t r s h =
    let f = exec_leaves x t r s h in
    let k = act_weight x (at t (path x)) (is_dir t (parent (path x))) (children t (path x)) f.0 f.1 in
    let e : r.1 ≡ f.0.1 = f.3 in
    (omega arith, subst Sorted (sym f.2) (sorted_put (path x) f.0.0 t s))

run_weight : (xs : List Step) (t : Tree) (r : Tree × ℕ) → Sorted t → run xs t ≡ some r → r.1 ≤ weights xs
run_weight [] t r s h = let e : 0 ≡ r.1 = ap (λ z. z.1) (some_eq h) in omega arith
run_weight (x ∷ xs) t r s h =
    let z = and_then_parts (exec x t) (λ u. run xs u) r h in
    let a = exec_weight x t z.0 s z.2 in
    let b = run_weight xs z.0.0 z.1 a.1 z.3 in
    let e : r.1 ≡ z.0.1 + z.1.1 = ap (λ w. w.1) z.4 in
    let k : z.0.1 ≤ weight x = a.0 in
    omega arith

module _ (mk : Path) where
  -- a step of a package leaves what was no file no file, or makes less than its weight
  entry_first : (e : Entry) (t : Tree) (v : Tree × ℕ) → Sorted t → exec (entry_step e) t ≡ some v → is_file (at t mk) ≡ false → (is_file (at v.0 mk) ≡ false) ⊎ (v.1 < weight (entry_step e))
  entry_first e t v s h n = by e (cases_same mk (path (entry_step e))) (exec_leaves (entry_step e) t v s h)
    where
      Left : Entry → Type 0
      Left e = (a : Node × ℕ) × (act_at (entry_step e) t ≡ some a) × (v.0 ≡ put_node (path (entry_step e)) a.0 t) × (v.1 ≡ a.1)

      by : (e : Entry) → ((same mk (path (entry_step e)) ≡ true) × (mk ≡ path (entry_step e))) ⊎ ((same mk (path (entry_step e)) ≡ false) × (mk ≢ path (entry_step e))) → Left e
          → (is_file (at v.0 mk) ≡ false) ⊎ (v.1 < weight (entry_step e))
      by e (inr c) f = inl (ap (λ u. is_file (at u mk)) f.2 ∙ ap is_file (at_put_other (path (entry_step e)) f.0.0 t mk c.1) ∙ n)
      by (dir_entry p) (inl c) f =
          inl (ap (λ u. is_file (at u mk)) f.2 ∙ ap (λ q. is_file (at (put_node p f.0.0 t) q)) c.1 ∙ ap is_file (at_put_here p f.0.0 t)
          ∙ act_no_file p (at t p) (is_dir t (parent p)) (children t p) f.0 f.1)
      by (file_entry p q) (inl c) f =
          let k = act_first p q (at t p) (is_dir t (parent p)) (children t p) f.0 (ap (λ z. is_file (at t z)) (sym c.1) ∙ n) f.1 in
          let g : v.1 ≡ f.0.1 = f.3 in
          inr (omega arith)

  -- so it saves one change, where the steps behind it would
  saves : (e : Entry) (xs : List Step) (b : ℕ) (t : Tree) (r : Tree × ℕ) → Sorted t → is_file (at t mk) ≡ false → weights xs ≤ suc b
      → ((u : Tree) (w : Tree × ℕ) → Sorted u → is_file (at u mk) ≡ false → run xs u ≡ some w → w.1 ≤ b) → run (entry_step e ∷ xs) t ≡ some r → r.1 ≤ weight (entry_step e) + b
  saves e xs b t r s n h ih k = by (entry_first e t z.0 s z.2 n)
    where
      z : (v : Tree × ℕ) × (w : Tree × ℕ) × (exec (entry_step e) t ≡ some v) × (run xs v.0 ≡ some w) × (r ≡ (w.0, v.1 + w.1))
      z = and_then_parts (exec (entry_step e) t) (λ u. run xs u) r k

      a : (z.0.1 ≤ weight (entry_step e)) × Sorted z.0.0
      a = exec_weight (entry_step e) t z.0 s z.2

      sum : r.1 ≡ z.0.1 + z.1.1
      sum = ap (λ w. w.1) z.4

      by : (is_file (at z.0.0 mk) ≡ false) ⊎ (z.0.1 < weight (entry_step e)) → r.1 ≤ weight (entry_step e) + b
      by (inl c) = let w = ih z.0.0 z.1 a.1 c z.3 in let x = a.0 in let y = sum in omega arith
      by (inr c) = let w = run_weight xs z.0.0 z.1 a.1 z.3 in let y = sum in omega arith

pub file_first : (p : Path) (c : List ℕ) (t : Tree) (r : Tree × ℕ) → Sorted t → is_file (at t p) ≡ false → run (ensure_file p c ∷ []) t ≡ some r → r.1 ≤ 1
file_first p c t r s n h =
    let z = and_then_parts (exec (ensure_file p c) t) (λ u. run [] u) r h in
    let f = exec_leaves (ensure_file p c) t z.0 s z.2 in
    let k = act_first p c (at t p) (is_dir t (parent p)) (children t p) f.0 n f.1 in
    let a : z.0.1 ≡ f.0.1 = f.3 in
    let b : r.1 ≡ z.0.1 + z.1.1 = ap (λ w. w.1) z.4 in
    let d : 0 ≡ z.1.1 = ap (λ w. w.1) (some_eq z.3) in
    omega arith

pub steps_weigh : (l : List Entry) (name : List ℕ) → weights (package_steps l name) ≤ suc (entries_share l)
steps_weigh [] name = omega arith
steps_weigh (dir_entry p ∷ l) name = let k = steps_weigh l name in omega arith
steps_weigh (file_entry p c ∷ l) name = let k = steps_weigh l name in omega arith

-- a package whose marker is no file
package_share : (l : List Entry) (name : List ℕ) (t : Tree) (r : Tree × ℕ) → Sorted t → is_file (at t (marker name)) ≡ false → run (package_steps l name) t ≡ some r → r.1 ≤ entries_share l
package_share [] name t r s n h = saves (marker name) (dir_entry pkg) (ensure_file (marker name) [] ∷ []) 1 t r s n (omega arith) (λ u w. file_first (marker name) [] u w) h
package_share (dir_entry p ∷ l) name t r s n h = saves (marker name) (dir_entry p) (package_steps l name) (entries_share l) t r s n (steps_weigh l name) (λ u w. package_share l name u w) h
package_share (file_entry p c ∷ l) name t r s n h = saves (marker name) (file_entry p c) (package_steps l name) (entries_share l) t r s n (steps_weigh l name) (λ u w. package_share l name u w) h

planned_share : (r : Resource) (t : Tree) (x : Tree × ℕ) → Sorted t → run (planned r t) t ≡ some x → x.1 ≤ share r
planned_share (Put p c) t x s h = run_weight (ensure_file p c ∷ []) t x s h
planned_share (Directory p) t x s h = run_weight (ensure_dir p ∷ []) t x s h
planned_share (Absent p) t x s h = run_weight (ensure_absent p ∷ []) t x s h
planned_share (Package name l) t x s h = by (is_file (at t (marker name))) refl h
  where
    by : (b : Bool) → is_file (at t (marker name)) ≡ b → run (cond b [] (package_steps l name)) t ≡ some x → x.1 ≤ entries_share l
    by true e k = let z = run_weight [] t x s k in omega arith
    by false e k = package_share l name t x s e k
planned_share (Service name) t x s h = run_weight [] t x s h

-- a step that fails made less than its weight
step_fails : (x : Step) (t : Tree) → exec x t ≡ none → length (trace (ensure x) t) < weight x
step_fails (ensure_dir p) t h = by (is_directory (at t p)) (vacant t p) h
  where
    by : (a b : Bool) → ◌≡◌ {A = Outcome} (cond a (some (t, 0)) (cond b (some (with_node p directory t, 1)) none)) none → length (cond a [] (cond b (made_dir p ∷ []) [])) < 1
    by true b k = none_some (sym k)
    by false true k = none_some (sym k)
    by false false k = omega arith
step_fails (ensure_file p c) t h = by (is_file_of c (at t p)) (is_file (at t p)) (removable (at t p) (children t p)) (vacant t p) h
  where
    by : (a b d f : Bool) → ◌≡◌ {A = Outcome} (cond a (some (t, 0)) (cond b (and_then (cond d (some (without p t, 1)) none) (λ u. cond (vacant u p) (some (with_node p (file c) u, 1)) none)) (cond f (some (with_node p (file c) t, 1)) none))) none
        → length (cond a [] (cond b (cond d (removed p ∷ []) [] ++ and_trace (cond d (some (without p t, 1)) none) (λ u. cond (vacant u p) (made_file p c ∷ []) [])) (cond f (made_file p c ∷ []) []))) < 2
    by true b d f k = none_some (sym k)
    by false true true f k = last (vacant (without p t) p) k
      where
        last : (v : Bool) → plus 1 (cond v (some (with_node p (file c) (without p t), 1)) none) ≡ none → length (removed p ∷ cond v (made_file p c ∷ []) []) < 2
        last true k = none_some (sym k)
        last false k = omega arith
    by false true false f k = omega arith
    by false false d true k = none_some (sym k)
    by false false d false k = omega arith
step_fails (ensure_absent p) t h = by (is_nothing (at t p)) (removable (at t p) (children t p)) h
  where
    by : (a b : Bool) → ◌≡◌ {A = Outcome} (cond a (some (t, 0)) (cond b (some (without p t, 1)) none)) none → length (cond a [] (cond b (removed p ∷ []) [])) < 1
    by true b k = none_some (sym k)
    by false true k = none_some (sym k)
    by false false k = omega arith

steps_fail : (l : List Step) (t : Tree) → Sorted t → run l t ≡ none → length (trace (ensure_all l) t) < weights l
steps_fail [] t s h = none_some (sym h)
steps_fail (x ∷ l) t s h = by (exec x t) refl h (λ u k. steps_fail l u k)
  where
    failed : (k : ℕ) (o : Outcome) → plus k o ≡ none → o ≡ none
    failed k none e = refl
    failed k (some r) e = none_some (sym e)

    by : (o : Outcome) → exec x t ≡ o → and_then o (λ u. run l u) ≡ none → ((u : Tree) → Sorted u → run l u ≡ none → length (trace (ensure_all l) u) < weights l) → length (trace (ensure x) t ++ and_trace (exec x t) (λ u. trace (ensure_all l) u)) < weight x + weights l
    by none e k ih =
        let a = step_fails x t e in
        let b = length-append (trace (ensure x) t) [] in
        subst (λ o. length (trace (ensure x) t ++ and_trace o (λ u. trace (ensure_all l) u)) < weight x + weights l) (sym e) (omega arith)
    by (some v) e k ih =
        let a = exec_weight x t v s e in
        let w = a.0 in
        let b = ih v.0 a.1 (failed v.1 (run l v.0) k) in
        let c = (traced_expr (ensure x) t v e).1 in
        let d = length-append (trace (ensure x) t) (trace (ensure_all l) v.0) in
        subst (λ o. length (trace (ensure x) t ++ and_trace o (λ u. trace (ensure_all l) u)) < weight x + weights l) (sym e) (omega arith)

-- up to a refusal too, a resource makes no more changes than its share
pub within_share : WithinShare
within_share r t s = by (eval (expr r) t) refl
  where
    planned_trace : (r : Resource) → trace (expr r) t ≡ trace (ensure_all (planned r t)) t
    planned_trace (Put p c) = refl
    planned_trace (Directory p) = refl
    planned_trace (Absent p) = refl
    planned_trace (Package name l) = go (is_file (at t (marker name)))
      where
        go : (b : Bool) → cond b [] (trace (ensure_all (package_steps l name)) t) ≡ trace (ensure_all (cond b [] (package_steps l name))) t
        go true = refl
        go false = refl
    planned_trace (Service name) = refl

    planned_weigh : (r : Resource) → weights (planned r t) ≤ suc (share r)
    planned_weigh (Put p c) = omega arith
    planned_weigh (Directory p) = omega arith
    planned_weigh (Absent p) = omega arith
    planned_weigh (Package name l) = go (is_file (at t (marker name)))
      where
        go : (b : Bool) → weights (cond b [] (package_steps l name)) ≤ suc (share (Package name l))
        go true = omega arith
        go false = steps_weigh l name
    planned_weigh (Service name) = omega arith

    by : (o : Outcome) → eval (expr r) t ≡ o → length (trace (expr r) t) ≤ share r
    by none e =
        let a = steps_fail (planned r t) t s (sym (expr_is r t) ∙ e) in
        let b = planned_weigh r in
        let c : length (trace (expr r) t) ≡ length (trace (ensure_all (planned r t)) t) = ap length (planned_trace r) in
        omega arith
    by (some x) e = let a = (traced_expr (expr r) t x e).1 in let b = planned_share r t x s (sym (expr_is r t) ∙ e) in omega arith

-- the shares along an order
abbrev pub bill_along : Manifest → List ℕ → ℕ
bill_along m [] = 0
bill_along m (i ∷ o) = share (resource m i) + bill_along m o

pub trace_bill : (m : Manifest) (o : List ℕ) (t : Tree) → Sorted t → length (trace_of m o t) ≤ bill_along m o
trace_bill m [] t s = omega arith
trace_bill m (i ∷ o) t s = by (eval x t) refl (λ u k. trace_bill m o u k)
  where
    x : Expr
    x = expr (resource m i)

    by : (v : Outcome) → eval x t ≡ v → ((u : Tree) → Sorted u → length (trace_of m o u) ≤ bill_along m o) → length (trace_of m (i ∷ o) t) ≤ bill_along m (i ∷ o)
    by none e ih =
        let a = within_share (resource m i) t s in
        let b = length-append (trace x t) [] in
        subst (λ v. length (trace x t ++ and_trace v (λ u. trace_of m o u)) ≤ bill_along m (i ∷ o)) (sym e) (omega arith)
    by (some v) e ih =
        let a = within_share (resource m i) t s in
        let c = ih v.0 (subst SortedOut e (eval_sorted x t s)) in
        let b = length-append (trace x t) (trace_of m o v.0) in
        subst (λ v. length (trace x t ++ and_trace v (λ u. trace_of m o u)) ≤ bill_along m (i ∷ o)) (sym e) (omega arith)

-- a sum along a list of some of 1 up to n, each at most once, is at most the sum from 1 to n
module _ (f : ℕ → ℕ) where
  abbrev sum_of : List ℕ → ℕ
  sum_of [] = 0
  sum_of (i ∷ o) = f i + sum_of o

  sum_drop : (x : ℕ) (o : List ℕ) → 0 < occurs x o → sum_of o ≡ f x + sum_of (drop x o)
  sum_drop x [] h = absurd (omega arith)
  sum_drop x (y ∷ o) h = by (cases_eq x y) (sum_drop x o)
    where
      by : (x ≡ y) ⊎ (x ≡ y → ⊥) → (0 < occurs x o → sum_of o ≡ f x + sum_of (drop x o)) → sum_of (y ∷ o) ≡ f x + sum_of (drop x (y ∷ o))
      by (inl e) ih = rw (eq-eqb x y e) (ap (λ z. f z + sum_of o) (sym e))
      by (inr e) ih = let k = ih (subst (λ b. 0 < cond b (suc (occurs x o)) (occurs x o)) (ne_eqb x y e) h) in rw (ne_eqb x y e) (omega arith)

  abbrev total : ℕ → ℕ
  total zero = 0
  total (suc n) = f (suc n) + total n

  sum_total : (n : ℕ) (o : List ℕ) → ((i : ℕ) → occurs i o ≤ cond (leb 1 i && leb i n) 1 0) → sum_of o ≤ total n
  sum_total zero [] h = omega arith
  sum_total zero (x ∷ o) h = let k = h x in absurd (grind (arith, nat_tests))
  sum_total (suc n) o h = by (sum_total n) (cases_lt 0 (occurs (suc n) o))
    where
      others : (i : ℕ) → occurs (suc n) o ≤ 0 → (i ≡ suc n) ⊎ (i ≡ suc n → ⊥) → occurs i o ≤ cond (leb 1 i && leb i n) 1 0
      others i gone (inl e) = let k : occurs i o ≡ occurs (suc n) o = ap (λ z. occurs z o) e in omega arith
      others i gone (inr e) = let l = h i in grind (arith, nat_tests)

      fewer : (i : ℕ) → 0 < occurs (suc n) o → occurs i (drop (suc n) o) ≤ cond (leb 1 i && leb i n) 1 0
      fewer i there = let k = occurs_drop (suc n) o i there in let l = h i in grind (arith, nat_tests)

      by : ((l : List ℕ) → ((i : ℕ) → occurs i l ≤ cond (leb 1 i && leb i n) 1 0) → sum_of l ≤ total n) → (0 < occurs (suc n) o) ⊎ (occurs (suc n) o ≤ 0) → sum_of o ≤ total (suc n)
      by ih (inl there) = let k = sum_drop (suc n) o there in let w = ih (drop (suc n) o) (λ i. fewer i there) in omega arith
      by ih (inr gone) = let w = ih o (λ i. others i gone (cases_eq i (suc n))) in omega arith

total_eq : (f g : ℕ → ℕ) (n : ℕ) → ((i : ℕ) → 1 ≤ i → f i ≡ g i) → total f n ≡ total g n
total_eq f g zero h = refl
total_eq f g (suc n) h = let k = h (suc n) (omega arith) in let ih = total_eq f g n h in omega arith

total_first : (f : ℕ → ℕ) (n : ℕ) → total f (suc n) ≡ f 1 + total (λ i. f (suc i)) n
total_first f zero = refl
total_first f (suc n) = let ih = total_first f n in omega arith

nth_later : (r : Resource) (l : List Resource) (i : ℕ) → 1 ≤ i → nth (r ∷ l) (suc i) ≡ nth l i
nth_later r l i h = let k : pred (suc i) ≡ i = omega arith in rw (ne_eqb (suc i) 1 (λ e. omega arith)) (ap (nth l) k)

shares_total : (l : List Resource) → total (λ i. share (nth l i)) (length l) ≡ shares l
shares_total [] = refl
shares_total (r ∷ l) =
    let a = total_first (λ i. share (nth (r ∷ l) i)) (length l) in
    let b = total_eq (λ i. share (nth (r ∷ l) (suc i))) (λ i. share (nth l i)) (length l) (λ i h. ap share (nth_later r l i h)) in
    let ih = shares_total l in
    omega arith

along_sum : (m : Manifest) (o : List ℕ) → bill_along m o ≡ sum_of (λ i. share (resource m i)) o
along_sum m [] = refl
along_sum m (i ∷ o) = ap (λ n. share (resource m i) + n) (along_sum m o)

-- the shares of resources that occur once at most are at most the bill
pub along_bill : (m : Manifest) (o : List ℕ) → AtMostOnce m o → bill_along m o ≤ bill m
along_bill m o h =
    let a : bill_along m o ≡ sum_of (λ i. share (resource m i)) o = along_sum m o in
    let b = sum_total (λ i. share (resource m i)) (size m) o h in
    let c : total (λ i. share (resource m i)) (size m) ≡ bill m = shares_total m.resources in
    omega arith

pub within_bill : WithinBill
within_bill m o t s h = let a = trace_bill m o t s in let b = along_bill m o h in omega arith

-- so the count of one that succeeds is at most the bill
pub count_bill : (m : Manifest) (o : List ℕ) (t : Tree) → Sorted t → AtMostOnce m o → (r : Result) → evaluate m o t ≡ some r → r.1 ≤ bill m
count_bill m o t s h r e = let a = within_bill m o t s h in let b = (traced m o t).counted r e in omega arith

entries_bound : (l : List Entry) → entries_share l ≤ 2 * length l + 2
entries_bound [] = omega arith
entries_bound (dir_entry p ∷ l) = let k = entries_bound l in omega arith
entries_bound (file_entry p c ∷ l) = let k = entries_bound l in omega arith

nth_none : (l : List Resource) → nth l 0 ≡ Service []
nth_none [] = refl
nth_none (r ∷ l) = nth_none l

shares_bound : (l : List Resource) → ((i : ℕ) → entries (nth l i) ≤ 16) → shares l ≤ 2 * length l + 32 * packages l
shares_bound [] h = omega arith
shares_bound (r ∷ l) h = by r (h 1) (shares_bound l rest)
  where
    rest : (i : ℕ) → entries (nth l i) ≤ 16
    rest i = on (cases_eq i 0)
      where
        on : (i ≡ 0) ⊎ (i ≡ 0 → ⊥) → entries (nth l i) ≤ 16
        on (inl e) = subst (λ q. entries q ≤ 16) (sym (ap (nth l) e ∙ nth_none l)) (omega arith)
        on (inr e) = subst (λ q. entries q ≤ 16) (nth_later r l i (omega arith)) (h (suc i))

    by : (r : Resource) → entries r ≤ 16 → shares l ≤ 2 * length l + 32 * packages l → shares (r ∷ l) ≤ 2 * length (r ∷ l) + 32 * packages (r ∷ l)
    by (Put p c) e ih = omega arith
    by (Directory p) e ih = omega arith
    by (Absent p) e ih = omega arith
    by (Package name es) e ih = let k = entries_bound es in omega arith
    by (Service name) e ih = omega arith

pub bill_fits : BillFits
bill_fits m a b c = let k = shares_bound m.resources c in omega arith
