-- What a resource leaves holds to the end in a steady manifest, and a resource that holds does nothing. Assumes nothing.
use Rattle.std.proofs.Common.{◌≡◌, ℕ, zero, suc, ◌+◌, ◌<◌, ◌≤◌, Bool, true, false, cond, not, ◌&&◌, ◌||◌, eqb, ◌≢◌, ◌⊎◌, List, [], ◌∷◌, ◌++◌, sym, refl, ap, ◌∙◌, subst, inl, inr, true≢false, arith}
use mathlib.Core.Bool.{false≢true}
use mathlib.Core.Option.{none, some}
use Rattle.std.proofs.lemmas.Bool.{eqb-true, eqb-false}
use Rattle.fs.specs.Tree.{Path, Content, same, parent, Node, nothing, directory, file, is_nothing, is_file, is_file_of, Tree, at, children, is_dir, is_directory, Sorted}
use Rattle.fs.specs.Fs.{eval}
use Rattle.fs.specs.Manifest.{Step, ensure_dir, ensure_file, ensure_absent, Entry, entry_step, Resource, Put, Directory, Absent, Package, Service, steps, package_steps, marker, pkg, expr, does, Manifest, size, Edge, resource, notifies, notified, is_service, due_to, Result, evaluate}
use Rattle.fs.specs.Footprint.{step_makes_dirs, step_reads_below, writes, reads_below, footprint, footprint_of}
use Rattle.fs.specs.Order.{occurs, numbered, Permitted, Steady, SteadyRests}
use Rattle.fs.proofs.Trees.{same_refl, put_node, at_put_here, sorted_put}
use Rattle.fs.proofs.Steps.{path, act, act_at, exec, run, exec_leaves}
use Rattle.fs.proofs.Apart.{In, in_here, in_cons, in_left, in_right, in_only, paths, Context, below_writes}
use Rattle.fs.proofs.Commute.{context_grows}
use Rattle.fs.proofs.Resources.{and_then_parts, framed, planned, planned_is, skipped, expr_is, fp_paths, fp_writes, meets_no, marker_written}
use Rattle.fs.proofs.Swap.{paths_fewer}
use Rattle.fs.proofs.Views.{evaluate_first}
use Rattle.fs.proofs.Orders.{occurs_here, occurs_there, occurs_few, occurs_gone, few_once, numbered_once}
use Rattle.fs.proofs.Options.{some_eq, none_some}

-- the resource has nothing left to do
abbrev pub Holds : Resource → Tree → Type 0
Holds (Put p c) t = is_file_of c (at t p) ≡ true
Holds (Directory p) t = is_directory (at t p) ≡ true
Holds (Absent p) t = is_nothing (at t p) ≡ true
Holds (Package name l) t = is_file (at t (marker name)) ≡ true
Holds (Service name) t = Unit {0}

pub holds_rests : (r : Resource) (t : Tree) → Holds r t → does r t ≡ some (t, 0, false)
holds_rests (Put p c) t h = rw h
holds_rests (Directory p) t h = rw h
holds_rests (Absent p) t h = rw h
holds_rests (Package name l) t h = rw h (ap (λ b. some (t, 0, not b)) h)
holds_rests (Service name) t h = refl

-- what a step leaves at its path
abbrev pub Done : Step → Node → Bool
Done (ensure_dir p) n = is_directory n
Done (ensure_file p c) n = is_file_of c n
Done (ensure_absent p) n = is_nothing n

act_done : (x : Step) (n : Node) (d : Bool) (k : ℕ) (a : Node × ℕ) → act x n d k ≡ some a → Done x a.0 ≡ true
act_done (ensure_dir p) nothing true k a e = ap (λ z. is_directory z.0) (sym (some_eq e))
act_done (ensure_dir p) nothing false k a e = none_some e
act_done (ensure_dir p) directory d k a e = ap (λ z. is_directory z.0) (sym (some_eq e))
act_done (ensure_dir p) (file c) d k a e = none_some e
act_done (ensure_file p c) nothing true k a e = ap (λ z. is_file_of c z.0) (sym (some_eq e)) ∙ same_refl c
act_done (ensure_file p c) nothing false k a e = none_some e
act_done (ensure_file p c) directory d k a e = none_some e
act_done (ensure_file p c) (file f) d k a e = by (same c f) refl d e
  where
    by : (b : Bool) → same c f ≡ b → (i : Bool) → cond b (some (file f, 0)) (cond i (some (file c, 2)) none) ≡ some a → is_file_of c a.0 ≡ true
    by true g i h = ap (λ z. is_file_of c z.0) (sym (some_eq h)) ∙ g
    by false g true h = ap (λ z. is_file_of c z.0) (sym (some_eq h)) ∙ same_refl c
    by false g false h = none_some h
act_done (ensure_absent p) nothing d k a e = ap (λ z. is_nothing z.0) (sym (some_eq e))
act_done (ensure_absent p) directory d k a e = by (eqb k 0) e
  where
    by : (b : Bool) → cond b (some (nothing, 1)) none ≡ some a → is_nothing a.0 ≡ true
    by true h = ap (λ z. is_nothing z.0) (sym (some_eq h))
    by false h = none_some h
act_done (ensure_absent p) (file f) d k a e = ap (λ z. is_nothing z.0) (sym (some_eq e))

pub exec_done : (x : Step) (t : Tree) (r : Tree × ℕ) → Sorted t → exec x t ≡ some r → Done x (at r.0 (path x)) ≡ true
exec_done x t r s h = by (exec_leaves x t r s h)
  where
    by : (a : Node × ℕ) × (act_at x t ≡ some a) × (r.0 ≡ put_node (path x) a.0 t) × (r.1 ≡ a.1) → Done x (at r.0 (path x)) ≡ true
    by f = ap (λ u. Done x (at u (path x))) f.2 ∙ ap (Done x) (at_put_here (path x) f.0.0 t) ∙ act_done x (at t (path x)) (is_dir t (parent (path x))) (children t (path x)) f.0 f.1

-- the last step of a list is done at its end
last_done : (x : Step) (t : Tree) (r : Tree × ℕ) → Sorted t → run (x ∷ []) t ≡ some r → Done x (at r.0 (path x)) ≡ true
last_done x t r s h = by (and_then_parts (exec x t) (λ u. run [] u) r h)
  where
    by : (v : Tree × ℕ) × (w : Tree × ℕ) × (exec x t ≡ some v) × (run [] v.0 ≡ some w) × (r ≡ (w.0, v.1 + w.1)) → Done x (at r.0 (path x)) ≡ true
    by z =
        let e : (z.0.0, 0) ≡ z.1 = some_eq z.3 in
        ap (λ u. Done x (at u (path x))) (ap (λ y. y.0) z.4 ∙ sym (ap (λ y. y.0) e)) ∙ exec_done x t z.0 s z.2

-- after its first step a list goes on
after_first : (x : Step) (xs : List Step) (t : Tree) (r : Tree × ℕ) → Sorted t → run (x ∷ xs) t ≡ some r → (v : Tree) × (w : Tree × ℕ) × Sorted v × (run xs v ≡ some w) × (w.0 ≡ r.0)
after_first x xs t r s h = by (and_then_parts (exec x t) (λ u. run xs u) r h)
  where
    by : (v : Tree × ℕ) × (w : Tree × ℕ) × (exec x t ≡ some v) × (run xs v.0 ≡ some w) × (r ≡ (w.0, v.1 + w.1)) → (v : Tree) × (w : Tree × ℕ) × Sorted v × (run xs v ≡ some w) × (w.0 ≡ r.0)
    by z = on (exec_leaves x t z.0 s z.2)
      where
        on : (a : Node × ℕ) × (act_at x t ≡ some a) × (z.0.0 ≡ put_node (path x) a.0 t) × (z.0.1 ≡ a.1) → (v : Tree) × (w : Tree × ℕ) × Sorted v × (run xs v ≡ some w) × (w.0 ≡ r.0)
        on f = (z.0.0, z.1, subst Sorted (sym f.2) (sorted_put (path x) f.0.0 t s), z.3, sym (ap (λ y. y.0) z.4))

package_done : (l : List Entry) (name : List ℕ) (t : Tree) (r : Tree × ℕ) → Sorted t → run (package_steps l name) t ≡ some r → is_file_of [] (at r.0 (marker name)) ≡ true
package_done [] name t r s h =
    let z = after_first (ensure_dir pkg) (ensure_file (marker name) [] ∷ []) t r s h in
    ap (λ u. is_file_of [] (at u (marker name))) (sym z.4) ∙ last_done (ensure_file (marker name) []) z.0 z.1 z.2 z.3
package_done (e ∷ l) name t r s h =
    let z = after_first (entry_step e) (package_steps l name) t r s h in
    ap (λ u. is_file_of [] (at u (marker name))) (sym z.4) ∙ package_done l name z.0 z.1 z.2 z.3

is_file_of_file : (c : Content) (n : Node) → is_file_of c n ≡ true → is_file n ≡ true
is_file_of_file c nothing h = h
is_file_of_file c directory h = h
is_file_of_file c (file d) h = refl

pub done_holds : (r : Resource) (t : Tree) (x : Tree × ℕ) → Sorted t → run (planned r t) t ≡ some x → Holds r x.0
done_holds (Put p c) t x s h = last_done (ensure_file p c) t x s h
done_holds (Directory p) t x s h = last_done (ensure_dir p) t x s h
done_holds (Absent p) t x s h = last_done (ensure_absent p) t x s h
done_holds (Package name l) t x s h = by (is_file (at t (marker name))) refl h
  where
    by : (b : Bool) → is_file (at t (marker name)) ≡ b → run (cond b [] (package_steps l name)) t ≡ some x → is_file (at x.0 (marker name)) ≡ true
    by true e k = ap (λ z. is_file (at z.0 (marker name))) (sym (some_eq k)) ∙ e
    by false e k = is_file_of_file [] (at x.0 (marker name)) (package_done l name t x s k)
done_holds (Service name) t x s h = tt

-- directories that no step removes stay
run_keeps : (C : List Path) (ys : List Step) (t : Tree) (r : Tree × ℕ) → Sorted t → Context C t → ((p : Path) → In p (reads_below ys) → In p C → ⊥) → run ys t ≡ some r → Context C r.0
run_keeps C [] t r s ctx ok h p i = ap (λ z. at z.0 p) (sym (some_eq h)) ∙ ctx p i
run_keeps C (y ∷ ys) t r s ctx ok h p i = by (λ v w k c l. run_keeps C ys v w k c (λ p i j. ok p (in_right p (step_reads_below y) (reads_below ys) i) j) l) (and_then_parts (exec y t) (λ u. run ys u) r h) p i
  where
    by : ((v : Tree) (w : Tree × ℕ) → Sorted v → Context C v → run ys v ≡ some w → Context C w.0)
        → (v : Tree × ℕ) × (w : Tree × ℕ) × (exec y t ≡ some v) × (run ys v.0 ≡ some w) × (r ≡ (w.0, v.1 + w.1)) → Context C r.0
    by ih z a k =
        let g = context_grows C y t z.0 s ctx (λ q j k. ok q (in_left q (step_reads_below y) (reads_below ys) (in_only q (step_reads_below y) j)) k) z.2 in
        ap (λ d. at d.0 a) z.4 ∙ ih z.0.0 z.1 g.0 (λ q j. g.1 q (in_right q (step_makes_dirs y) C j)) z.3 a k

pub is_directory_node : (n : Node) → is_directory n ≡ true → n ≡ directory
is_directory_node nothing h = absurd (false≢true h)
is_directory_node directory h = refl
is_directory_node (file c) h = absurd (false≢true h)

-- what one resource holds, another of a steady manifest leaves
holds_kept : (r q : Resource) (b c : Bool) (t : Tree) (x : Tree × ℕ) → Sorted t
    → ((p : Path) → In p (footprint r b).W → In p (footprint q c).W ⊎ In p (footprint q c).D → ⊥)
    → ((p : Path) → In p (footprint q c).W → In p (footprint r b).W ⊎ In p (footprint r b).D → ⊥)
    → run (planned q t) t ≡ some x → Holds r t → Holds r x.0
holds_kept r q b c t x s free free' e = by r b free free'
  where
    from_plan : (p : Path) → In p (paths (planned q t)) → In p (footprint q c).W ⊎ In p (footprint q c).D
    from_plan p i = fp_paths p q c (paths_fewer (steps q) (skipped q t) p (rw (planned_is q t) at i))

    beneath : (l : List Step) (d : Bool) (p : Path) → In p (reads_below (cond d [] l)) → In p (writes l)
    beneath l true p i = absurd (false≢true i)
    beneath l false p i = below_writes l p i

    Free : Resource → Bool → Type 0
    Free a d = (p : Path) → In p (footprint a d).W → In p (footprint q c).W ⊎ In p (footprint q c).D → ⊥

    Free' : Resource → Bool → Type 0
    Free' a d = (p : Path) → In p (footprint q c).W → In p (footprint a d).W ⊎ In p (footprint a d).D → ⊥

    stays : (p : Path) → (In p (footprint q c).W ⊎ In p (footprint q c).D → ⊥) → at x.0 p ≡ at t p
    stays p no-w = (framed (planned q t) t x s e).nodes p (λ i. no-w (from_plan p i))

    by : (a : Resource) (d : Bool) → Free a d → Free' a d → Holds a t → Holds a x.0
    by (Put p f) d u v h = ap (is_file_of f) (stays p (u p (in_here p []))) ∙ h
    by (Directory p) true u v h = ap is_directory (stays p (u p (in_here p []))) ∙ h
    by (Directory p) false u v h =
        ap is_directory (run_keeps (p ∷ []) (planned q t) t x s
        (λ z i. ap (at t) (only z (in_cons z p [] i)) ∙ is_directory_node (at t p) h)
        (λ z i j. v z (fp_writes z q c (beneath (steps q) (skipped q t) z (rw (planned_is q t) at i))) (inr j)) e p (in_here p []))
      where
        only : (z : Path) → (z ≡ p) ⊎ In z [] → z ≡ p
        only z (inl i) = i
        only z (inr i) = absurd (false≢true i)
    by (Absent p) d u v h = ap is_nothing (stays p (u p (in_here p []))) ∙ h
    by (Package name l) d u v h = ap is_file (stays (marker name) (u (marker name) (marker_written l name))) ∙ h
    by (Service name) d u v h = tt

pub steady_free : (m : Manifest) → Steady m → (i j : ℕ) → numbered m i ≡ true → numbered m j ≡ true → i ≢ j → (p : Path) → In p (footprint_of m i).W → In p (footprint_of m j).W ⊎ In p (footprint_of m j).D → ⊥
steady_free m st i j a b ne p h (inl k) = meets_no p (footprint_of m i).W ((footprint_of m j).W ++ (footprint_of m j).D) (st i j a b ne) h (in_left p (footprint_of m j).W (footprint_of m j).D k)
steady_free m st i j a b ne p h (inr k) = meets_no p (footprint_of m i).W ((footprint_of m j).W ++ (footprint_of m j).D) (st i j a b ne) h (in_right p (footprint_of m j).W (footprint_of m j).D k)

module _ (m : Manifest) (st : Steady m) where
  held : (o : List ℕ) (t : Tree) (r : Result) → Sorted t → evaluate m o t ≡ some r → ((i : ℕ) → occurs i o ≤ 1) → ((i : ℕ) → 0 < occurs i o → numbered m i ≡ true)
      → Sorted r.0 × ((i : ℕ) → numbered m i ≡ true → (0 < occurs i o) ⊎ (Holds (resource m i) t × (occurs i o ≡ 0)) → Holds (resource m i) r.0)
  held [] t r s h few num = let g : (t, 0, []) ≡ r = some_eq h in (subst Sorted (ap (λ z. z.0) g) s, λ i n. by g i)
    where
      by : (t, 0, []) ≡ r → (i : ℕ) → (0 < 0) ⊎ (Holds (resource m i) t × (◌≡◌ {A = ℕ} 0 0)) → Holds (resource m i) r.0
      by g i (inl a) = absurd (omega arith)
      by g i (inr a) = subst (λ z. Holds (resource m i) z.0) g a.0
  held (j ∷ o) t r s h few num = by (λ v q k l. held o v q k l few' num') (evaluate_first m j o t r h)
    where
      few' : (i : ℕ) → occurs i o ≤ 1
      few' i = occurs_few i j o (few i)

      num' : (i : ℕ) → 0 < occurs i o → numbered m i ≡ true
      num' i a = num i (occurs_there i j o a)

      j_gone : occurs j o ≡ 0
      j_gone = occurs_gone j o (few j)

      by : ((v : Tree) (q : Result) → Sorted v → evaluate m o v ≡ some q → Sorted q.0 × ((i : ℕ) → numbered m i ≡ true → (0 < occurs i o) ⊎ (Holds (resource m i) v × (occurs i o ≡ 0)) → Holds (resource m i) q.0))
          → (x : Tree × ℕ) × (q : Result) × (eval (expr (resource m j)) t ≡ some x) × (evaluate m o x.0 ≡ some q) × (r.0 ≡ q.0) × (r.1 ≡ x.1 + q.1)
          → Sorted r.0 × ((i : ℕ) → numbered m i ≡ true → (0 < occurs i (j ∷ o)) ⊎ (Holds (resource m i) t × (occurs i (j ∷ o) ≡ 0)) → Holds (resource m i) r.0)
      by ih z = (subst Sorted (sym z.4) rest.0, λ i n a. subst (λ v. Holds (resource m i) v) (sym z.4) (rest.1 i n (on i n (eqb i j) refl a)))
        where
          runs : run (planned (resource m j) t) t ≡ some z.0
          runs = sym (expr_is (resource m j) t) ∙ z.2

          sorted_x : Sorted z.0.0
          sorted_x = (framed (planned (resource m j) t) t z.0 s runs).sorted

          rest : Sorted z.1.0 × ((i : ℕ) → numbered m i ≡ true → (0 < occurs i o) ⊎ (Holds (resource m i) z.0.0 × (occurs i o ≡ 0)) → Holds (resource m i) z.1.0)
          rest = ih z.0.0 z.1 sorted_x z.3

          on : (i : ℕ) → numbered m i ≡ true → (b : Bool) → eqb i j ≡ b → (0 < cond b (suc (occurs i o)) (occurs i o)) ⊎ (Holds (resource m i) t × (cond b (suc (occurs i o)) (occurs i o) ≡ 0))
              → (0 < occurs i o) ⊎ (Holds (resource m i) z.0.0 × (occurs i o ≡ 0))
          on i n true e a = inr (subst (λ k. Holds (resource m k) z.0.0) (sym (eqb-true i j e)) (done_holds (resource m j) t z.0 s runs), ap (λ k. occurs k o) (eqb-true i j e) ∙ j_gone)
          on i n false e (inl a) = inl a
          on i n false e (inr a) =
              let ne : i ≢ j = eqb-false i j e in
              let nj : numbered m j ≡ true = num j (occurs_here j o) in
              inr (holds_kept (resource m i) (resource m j) (notifies m.edges i) (notifies m.edges j) t z.0 s (steady_free m st i j n nj ne) (steady_free m st j i nj n (λ g. ne (sym g))) runs a.0, a.1)

all_rest : (m : Manifest) (o : List ℕ) (t : Tree) → ((i : ℕ) → 0 < occurs i o → Holds (resource m i) t) → evaluate m o t ≡ some (t, 0, [])
all_rest m [] t h = refl
all_rest m (j ∷ o) t h = rw (holds_rests (resource m j) t (h j (occurs_here j o)), all_rest m o t (λ i a. h i (occurs_there i j o a)))

none_notified : (es : List Edge) (j : ℕ) → notified es [] j ≡ false
none_notified [] j = refl
none_notified (e ∷ es) j = by e.notify (eqb e.to j) (none_notified es j)
  where
    by : (a b : Bool) → notified es [] j ≡ false → ((a && (b && false)) || notified es [] j) ≡ false
    by true true h = h
    by true false h = h
    by false b h = h

pub none_due : (m : Manifest) (n : ℕ) → due_to m [] n ≡ []
none_due m zero = refl
none_due m (suc n) = by (is_service (resource m (suc n))) (notified m.edges [] (suc n)) (none_notified m.edges (suc n)) (none_due m n)
  where
    by : (a b : Bool) → b ≡ false → due_to m [] n ≡ [] → (due_to m [] n ++ cond (a && b) (suc n ∷ []) []) ≡ []
    by true true e h = absurd (true≢false e)
    by true false e h = rw h
    by false b e h = rw h

-- where a steady manifest has ended, each resource holds
held_at : (m : Manifest) → Steady m → (t : Tree) → Sorted t → (o : List ℕ) → Permitted m o → (r : Result) → evaluate m o t ≡ some r → (i : ℕ) → numbered m i ≡ true → Holds (resource m i) r.0
held_at m st t s o a r h i n = let k : occurs i o ≡ 1 = a.once i ∙ ap (λ b. cond b 1 0) n in (held m st o t r s h (few_once m o a) (numbered_once m o a)).1 i n (inl (omega arith))

-- and does nothing
pub each_rests : (m : Manifest) → Steady m → (t : Tree) → Sorted t → (o : List ℕ) → Permitted m o → (r : Result) → evaluate m o t ≡ some r → (i : ℕ) → numbered m i ≡ true → does (resource m i) r.0 ≡ some (r.0, 0, false)
each_rests m st t s o a r h i n = holds_rests (resource m i) r.0 (held_at m st t s o a r h i n)

pub steady_rests : SteadyRests
steady_rests m st t s o o' a b r h = record {
  result = (r.0, 0, []);
  succeeds = all_rest m o' r.0 (λ i k. held_at m st t s o a r h i (numbered_once m o' b i k));
  same_tree = refl;
  no_change = refl;
  none_changed = refl;
  none_due = none_due m (size m);
  each_unchanged = each_rests m st t s o a r h;
}
