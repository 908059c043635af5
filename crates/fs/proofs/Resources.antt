-- Resources that do not clash: their steps are apart, and neither sees what the other does. Assumes nothing.
use Rattle.std.proofs.Common.{◌≡◌, ℕ, ◌+◌, Bool, true, false, cond, not, ◌&&◌, ◌||◌, eqb, ◌≢◌, ◌⊎◌, List, [], ◌∷◌, ◌++◌, sym, refl, ap, ◌∙◌, subst, inl, inr, true≢false}
use mathlib.Core.Bool.{false≢true}
use mathlib.Core.Option.{none, some}
use Rattle.std.proofs.lemmas.Bool.{or_parts}
use Rattle.fs.specs.Tree.{Path, has, parent, Node, is_file, Tree, at, children, is_dir, is_directory, Sorted}
use Rattle.fs.specs.Fs.{Outcome, plus, and_then, eval}
use Rattle.fs.specs.Manifest.{Step, ensure_dir, ensure_file, ensure_absent, Entry, dir_entry, file_entry, Resource, Put, Directory, Absent, Package, Service, steps, package_steps, marker, expr, changed}
use Rattle.fs.specs.Footprint.{step_writes, step_makes_dirs, step_reads_below, unless_made, writes, makes_dirs, reads_below, reads, Footprint, footprint, meets, parents, disturbs, clash}
use Rattle.fs.proofs.Trees.{put_node, at_put_other, sorted_put, is_dir_root, children_put}
use Rattle.fs.proofs.Steps.{and_then_skip, plus_zero, path, act_at, exec, run, exec_leaves}
use Rattle.fs.proofs.Apart.{In, in_here, in_there, in_cons, in_left, in_right, in_only, paths, Apart}
use Rattle.fs.proofs.Commute.{below_one, unseen, reads_parent, lists_commute}
use Rattle.fs.proofs.Options.{some_eq, none_some}

-- an outcome that came of two
pub and_then_parts : (o : Outcome) (f : Tree → Outcome) (r : Tree × ℕ) → and_then o f ≡ some r → (v : Tree × ℕ) × (w : Tree × ℕ) × (o ≡ some v) × (f v.0 ≡ some w) × (r ≡ (w.0, v.1 + w.1))
and_then_parts none f r h = none_some h
and_then_parts (some v) f r h = by (f v.0) refl
  where
    by : (p : Outcome) → f v.0 ≡ p → (x : Tree × ℕ) × (w : Tree × ℕ) × (some v ≡ some x) × (f x.0 ≡ some w) × (r ≡ (w.0, x.1 + w.1))
    by none e = none_some (sym (ap (plus v.1) e) ∙ h)
    by (some w) e = (v, w, refl, e, some_eq (sym h ∙ ap (plus v.1) e))

-- what a list of steps that succeeds leaves as it was
pub record Framed (ys : List Step) (t u : Tree) : Type 0 where
  pub sorted : Sorted u
  pub nodes : (p : Path) → (In p (paths ys) → ⊥) → at u p ≡ at t p
  pub kids : (p : Path) → ((q : Path) → In q (paths ys) → parent q ≢ p) → children u p ≡ children t p

pub framed : (ys : List Step) (t : Tree) (r : Tree × ℕ) → Sorted t → run ys t ≡ some r → Framed ys t r.0
framed [] t r s h =
    let f : t ≡ r.0 = ap (λ z. z.0) (some_eq h) in
    record { sorted = subst Sorted f s; nodes = λ p k. ap (λ u. at u p) (sym f); kids = λ p k. ap (λ u. children u p) (sym f) }
framed (y ∷ ys) t r s h = by (λ v w k l. framed ys v w k l) (and_then_parts (exec y t) (λ u. run ys u) r h)
  where
    by : ((v : Tree) (w : Tree × ℕ) → Sorted v → run ys v ≡ some w → Framed ys v w.0) → (v : Tree × ℕ) × (w : Tree × ℕ) × (exec y t ≡ some v) × (run ys v.0 ≡ some w) × (r ≡ (w.0, v.1 + w.1)) → Framed (y ∷ ys) t r.0
    by rec z = on (exec_leaves y t z.0 s z.2)
      where
        on : (a : Node × ℕ) × (act_at y t ≡ some a) × (z.0.0 ≡ put_node (path y) a.0 t) × (z.0.1 ≡ a.1) → Framed (y ∷ ys) t r.0
        on f =
            let ih : Framed ys z.0.0 z.1.0 = rec z.0.0 z.1 (subst Sorted (sym f.2) (sorted_put (path y) f.0.0 t s)) z.3 in
            let e : r.0 ≡ z.1.0 = ap (λ q. q.0) z.4 in
            record {
              sorted = subst Sorted (sym e) ih.sorted;
              nodes = λ p k. ap (λ u. at u p) e ∙ ih.nodes p (λ i. k (in_there p (path y) (paths ys) i)) ∙ ap (λ u. at u p) f.2
                  ∙ at_put_other (path y) f.0.0 t p (λ g. k (subst (λ q. In p (q ∷ paths ys)) g (in_here p (paths ys))));
              kids = λ p k. ap (λ u. children u p) e ∙ ih.kids p (λ q i. k q (in_there q (path y) (paths ys) i)) ∙ ap (λ u. children u p) f.2
                  ∙ children_put (path y) f.0.0 t p (k (path y) (in_here (path y) (paths ys)));
            }

-- the steps that a resource takes on t: none, for a package whose marker is a file
abbrev pub planned : Resource → Tree → List Step
planned (Put p c) t = steps (Put p c)
planned (Directory p) t = steps (Directory p)
planned (Absent p) t = steps (Absent p)
planned (Package name l) t = cond (is_file (at t (marker name))) [] (steps (Package name l))
planned (Service name) t = []

pub expr_is : (r : Resource) (t : Tree) → eval (expr r) t ≡ run (planned r t) t
expr_is (Put p c) t = refl
expr_is (Directory p) t = refl
expr_is (Absent p) t = refl
expr_is (Package name l) t = by (is_file (at t (marker name)))
  where
    by : (b : Bool) → cond b (some (t, 0)) (run (steps (Package name l)) t) ≡ run (cond b [] (steps (Package name l))) t
    by true = refl
    by false = refl
expr_is (Service name) t = refl

-- the footprint's parts, from the steps
paths_split : (xs : List Step) (p : Path) → In p (paths xs) → In p (writes xs) ⊎ In p (makes_dirs xs)
paths_split [] p h = inl h
paths_split (x ∷ xs) p h = by (in_cons p (path x) (paths xs) h) (paths_split xs p)
  where
    one : (z : Step) → p ≡ path z → In p (step_writes z) ⊎ In p (step_makes_dirs z)
    one (ensure_dir q) e = inr (subst (λ a. In p (a ∷ [])) e (in_here p []))
    one (ensure_file q c) e = inl (subst (λ a. In p (a ∷ [])) e (in_here p []))
    one (ensure_absent q) e = inl (subst (λ a. In p (a ∷ [])) e (in_here p []))

    first : In p (step_writes x) ⊎ In p (step_makes_dirs x) → In p (writes (x ∷ xs)) ⊎ In p (makes_dirs (x ∷ xs))
    first (inl i) = inl (in_left p (step_writes x) (writes xs) i)
    first (inr i) = inr (in_left p (step_makes_dirs x) (makes_dirs xs) i)

    rest : In p (writes xs) ⊎ In p (makes_dirs xs) → In p (writes (x ∷ xs)) ⊎ In p (makes_dirs (x ∷ xs))
    rest (inl i) = inl (in_right p (step_writes x) (writes xs) i)
    rest (inr i) = inr (in_right p (step_makes_dirs x) (makes_dirs xs) i)

    by : (p ≡ path x) ⊎ In p (paths xs) → (In p (paths xs) → In p (writes xs) ⊎ In p (makes_dirs xs)) → In p (writes (x ∷ xs)) ⊎ In p (makes_dirs (x ∷ xs))
    by (inl e) ih = first (one x e)
    by (inr i) ih = rest (ih i)

module _ (p : Path) where
  pub fp_writes : (r : Resource) (b : Bool) → In p (writes (steps r)) → In p (footprint r b).W
  fp_writes (Put q c) b h = h
  fp_writes (Directory q) true h = absurd (false≢true h)
  fp_writes (Directory q) false h = absurd (false≢true h)
  fp_writes (Absent q) b h = h
  fp_writes (Package name l) b h = h
  fp_writes (Service name) b h = h

  pub fp_paths : (r : Resource) (b : Bool) → In p (paths (steps r)) → In p (footprint r b).W ⊎ In p (footprint r b).D
  fp_paths (Put q c) b h = paths_split (steps (Put q c)) p h
  fp_paths (Directory q) true h = inl h
  fp_paths (Directory q) false h = inr h
  fp_paths (Absent q) b h = paths_split (steps (Absent q)) p h
  fp_paths (Package name l) b h = paths_split (steps (Package name l)) p h
  fp_paths (Service name) b h = inl h

  fp_reads : (r : Resource) (b : Bool) → In p (reads [] (steps r)) → In p (footprint r b).R
  fp_reads (Put q c) b h = in_only p (unless_made [] (parent q)) h
  fp_reads (Directory q) true h = in_only p (unless_made [] (parent q)) h
  fp_reads (Directory q) false h = in_only p (unless_made [] (parent q)) h
  fp_reads (Absent q) b h = h
  fp_reads (Package name l) b h = h
  fp_reads (Service name) b h = h

  below_none : (l : List Entry) (name : List ℕ) → reads_below (package_steps l name) ≡ []
  below_none [] name = refl
  below_none (dir_entry q ∷ l) name = below_none l name
  below_none (file_entry q c ∷ l) name = below_none l name

  fp_below : (r : Resource) (b : Bool) → In p (reads_below (steps r)) → In p (footprint r b).K
  fp_below (Put q c) b h = h
  fp_below (Directory q) true h = h
  fp_below (Directory q) false h = h
  fp_below (Absent q) b h = h
  fp_below (Package name l) b h = sym (ap (has p) (below_none l name)) ∙ h
  fp_below (Service name) b h = h

  fp_own : (r : Resource) → In p (reads_below (steps r)) → In p (makes_dirs (steps r)) → ⊥
  fp_own (Put q c) h k = false≢true h
  fp_own (Directory q) h k = false≢true h
  fp_own (Absent q) h k = false≢true k
  fp_own (Package name l) h k = false≢true (sym (ap (has p) (below_none l name)) ∙ h)
  fp_own (Service name) h k = false≢true h

pub meets_no : (p : Path) (k l : List Path) → meets k l ≡ false → In p k → In p l → ⊥
meets_no p [] l h i j = false≢true i
meets_no p (q ∷ k) l h i j = by (in_cons p q k i) (meets_no p k l (or_parts (has q l) (meets k l) h).1)
  where
    by : (p ≡ q) ⊎ In p k → (In p k → In p l → ⊥) → ⊥
    by (inl e) ih = true≢false (sym j ∙ ap (λ a. has a l) e ∙ (or_parts (has q l) (meets k l) h).0)
    by (inr e) ih = ih e j

parents_in : (p : Path) (l : List Path) → In p l → In (parent p) (parents l)
parents_in p [] h = absurd (false≢true h)
parents_in p (q ∷ l) h = by (in_cons p q l h) (parents_in p l)
  where
    by : (p ≡ q) ⊎ In p l → (In p l → In (parent p) (parents l)) → In (parent p) (parent q ∷ parents l)
    by (inl e) ih = subst (λ a. In (parent p) (parent a ∷ parents l)) e (in_here (parent p) (parents l))
    by (inr e) ih = in_there (parent p) (parent q) (parents l) (ih e)

-- what f touches, g neither writes, makes or reads, nor is it a child of a path whose children g reads
pub record Undisturbed (f g : Footprint) : Type 0 where
  pub not_written : (p : Path) → In p f.W → In p g.W ⊎ In p g.D → ⊥
  pub not_read : (p : Path) → In p f.W ⊎ In p f.D → In p g.R → ⊥
  pub not_beneath : (p : Path) → In p f.W ⊎ In p f.D → In (parent p) g.K → ⊥

undisturbed : (f g : Footprint) → disturbs f g ≡ false → Undisturbed f g
undisturbed f g h = record { not_written = written; not_read = read; not_beneath = beneath }
  where
    a : meets f.W (g.W ++ (g.R ++ g.D)) ≡ false
    a = (or_parts (meets f.W (g.W ++ (g.R ++ g.D))) (meets f.D g.R || meets (parents (f.W ++ f.D)) g.K) h).0

    bc : (meets f.D g.R || meets (parents (f.W ++ f.D)) g.K) ≡ false
    bc = (or_parts (meets f.W (g.W ++ (g.R ++ g.D))) (meets f.D g.R || meets (parents (f.W ++ f.D)) g.K) h).1

    b : (meets f.D g.R ≡ false) × (meets (parents (f.W ++ f.D)) g.K ≡ false)
    b = or_parts (meets f.D g.R) (meets (parents (f.W ++ f.D)) g.K) bc

    written : (p : Path) → In p f.W → In p g.W ⊎ In p g.D → ⊥
    written p i (inl j) = meets_no p f.W (g.W ++ (g.R ++ g.D)) a i (in_left p g.W (g.R ++ g.D) j)
    written p i (inr j) = meets_no p f.W (g.W ++ (g.R ++ g.D)) a i (in_right p g.W (g.R ++ g.D) (in_right p g.R g.D j))

    read : (p : Path) → In p f.W ⊎ In p f.D → In p g.R → ⊥
    read p (inl i) j = meets_no p f.W (g.W ++ (g.R ++ g.D)) a i (in_right p g.W (g.R ++ g.D) (in_left p g.R g.D j))
    read p (inr i) j = meets_no p f.D g.R b.0 i j

    beneath : (p : Path) → In p f.W ⊎ In p f.D → In (parent p) g.K → ⊥
    beneath p (inl i) j = meets_no (parent p) (parents (f.W ++ f.D)) g.K b.1 (parents_in p (f.W ++ f.D) (in_left p f.W f.D i)) j
    beneath p (inr i) j = meets_no (parent p) (parents (f.W ++ f.D)) g.K b.1 (parents_in p (f.W ++ f.D) (in_right p f.W f.D i)) j

-- the steps of resources that do not clash are apart
pub steps_apart : (r q : Resource) (b c : Bool) → Undisturbed (footprint r b) (footprint q c) → Undisturbed (footprint q c) (footprint r b) → Apart [] (steps r) (steps q)
steps_apart r q b c u v = record {
  written = λ p h k. u.not_written p (fp_writes p r b h) (fp_paths p q c k);
  written' = λ p h k. v.not_written p (fp_writes p q c h) (fp_paths p r b k);
  read = λ p h k. v.not_read p (fp_paths p q c h) (fp_reads p r b k);
  read' = λ p h k. u.not_read p (fp_paths p r b h) (fp_reads p q c k);
  beneath = λ p h k. v.not_beneath p (fp_paths p q c h) (fp_below (parent p) r b k);
  beneath' = λ p h k. u.not_beneath p (fp_paths p r b h) (fp_below (parent p) q c k);
  keeps = λ p h k. false≢true k;
  keeps' = λ p h k. false≢true k;
  own = λ p h k. fp_own p r h k;
  own' = λ p h k. fp_own p q h k;
}

pub clash_parts : (f g : Footprint) → clash f g ≡ false → Undisturbed f g × Undisturbed g f
clash_parts f g h = (undisturbed f g (or_parts (disturbs f g) (disturbs g f) h).0, undisturbed g f (or_parts (disturbs f g) (disturbs g f) h).1)

-- the same with no steps on either side
pub run_commutes : (xs ys : List Step) (a b : Bool) (t : Tree) → Sorted t → Apart [] xs ys
    → and_then (run (cond a [] xs) t) (λ u. run (cond b [] ys) u) ≡ and_then (run (cond b [] ys) t) (λ u. run (cond a [] xs) u)
run_commutes xs ys true b t s h = plus_zero (run (cond b [] ys) t) ∙ sym (and_then_skip (run (cond b [] ys) t))
run_commutes xs ys false true t s h = and_then_skip (run xs t) ∙ sym (plus_zero (run xs t))
run_commutes xs ys false false t s h = lists_commute [] xs ys t s (λ p i. absurd (false≢true i)) h

-- a package is skipped where its marker is a file
abbrev pub skipped : Resource → Tree → Bool
skipped (Put p c) t = false
skipped (Directory p) t = false
skipped (Absent p) t = false
skipped (Package name l) t = is_file (at t (marker name))
skipped (Service name) t = false

pub planned_is : (r : Resource) (t : Tree) → planned r t ≡ cond (skipped r t) [] (steps r)
planned_is (Put p c) t = refl
planned_is (Directory p) t = refl
planned_is (Absent p) t = refl
planned_is (Package name l) t = refl
planned_is (Service name) t = refl

pub marker_written : (l : List Entry) (name : List ℕ) → In (marker name) (writes (package_steps l name))
marker_written [] name = in_here (marker name) []
marker_written (dir_entry q ∷ l) name = marker_written l name
marker_written (file_entry q c ∷ l) name = in_there (marker name) q (writes (package_steps l name)) (marker_written l name)

pub skipped_stays : (r : Resource) (ys : List Step) (t u : Tree) → Apart [] (steps r) ys → Framed ys t u → skipped r u ≡ skipped r t
skipped_stays (Put p c) ys t u a f = refl
skipped_stays (Directory p) ys t u a f = refl
skipped_stays (Absent p) ys t u a f = refl
skipped_stays (Package name l) ys t u a f = ap is_file (f.nodes (marker name) (λ k. a.written (marker name) (marker_written l name) k))
skipped_stays (Service name) ys t u a f = refl

is_dir_framed : (ys : List Step) (t u : Tree) (p : Path) → Framed ys t u → (In p (paths ys) → ⊥) → is_dir u p ≡ is_dir t p
is_dir_framed ys t u [] f h = refl
is_dir_framed ys t u (a ∷ p) f h = ap is_directory (f.nodes (a ∷ p) h)

-- a step whose path no other step has makes as many changes before and after them
step_count : (x : Step) (ys : List Step) (t u : Tree) (v w : Tree × ℕ) → Sorted t → Apart [] (x ∷ []) ys → Framed ys t u → (In (path x) (paths ys) → ⊥)
    → run (x ∷ []) t ≡ some v → run (x ∷ []) u ≡ some w → v.1 ≡ w.1
step_count x ys t u v w s a f ne h k =
    by (exec_leaves x t v s (sym (and_then_skip (exec x t)) ∙ h)) (exec_leaves x u w f.sorted (sym (and_then_skip (exec x u)) ∙ k))
  where
    above : In (path x) (step_reads_below x) ⊎ ((parent (path x) ≡ []) ⊎ (In (parent (path x)) [] ⊎ In (parent (path x)) (reads [] (x ∷ [])))) → In (path x) (step_reads_below x) ⊎ (is_dir u (parent (path x)) ≡ is_dir t (parent (path x)))
    above (inl i) = inl i
    above (inr (inl i)) = inr (is_dir_root (parent (path x)) u i ∙ sym (is_dir_root (parent (path x)) t i))
    above (inr (inr (inl i))) = absurd (false≢true i)
    above (inr (inr (inr i))) = inr (is_dir_framed ys t u (parent (path x)) f (λ j. a.read (parent (path x)) j i))

    same_act : act_at x u ≡ act_at x t
    same_act = unseen x t u (record { node = f.nodes (path x) ne; above = above (reads_parent [] x); below = λ i. f.kids (path x) (λ q j e. a.beneath q j (subst (λ z. In z (reads_below (x ∷ []))) (sym e) (below_one x i))) })

    by : (m : Node × ℕ) × (act_at x t ≡ some m) × (v.0 ≡ put_node (path x) m.0 t) × (v.1 ≡ m.1) → (n : Node × ℕ) × (act_at x u ≡ some n) × (w.0 ≡ put_node (path x) n.0 u) × (w.1 ≡ n.1) → v.1 ≡ w.1
    by m n = let e : m.0 ≡ n.0 = some_eq (sym m.1 ∙ sym same_act ∙ n.1) in m.3 ∙ ap (λ z. z.1) e ∙ sym n.3

-- the mark of a resource that notifies: it was changed
pub mark_stays : (r : Resource) (b : Bool) (ys : List Step) (t u : Tree) (v w : Tree × ℕ) → Sorted t → Apart [] (steps r) ys → ((p : Path) → In p (footprint r b).W → In p (paths ys) → ⊥) → Framed ys t u
    → run (planned r t) t ≡ some v → run (planned r u) u ≡ some w → (b && changed r t v.1) ≡ (b && changed r u w.1)
mark_stays r false ys t u v w s a free f h k = refl
mark_stays (Put p c) true ys t u v w s a free f h k = ap (λ n. not (eqb n 0)) (step_count (ensure_file p c) ys t u v w s a f (free p (in_here p [])) h k)
mark_stays (Directory p) true ys t u v w s a free f h k = ap (λ n. not (eqb n 0)) (step_count (ensure_dir p) ys t u v w s a f (free p (in_here p [])) h k)
mark_stays (Absent p) true ys t u v w s a free f h k = ap (λ n. not (eqb n 0)) (step_count (ensure_absent p) ys t u v w s a f (free p (in_here p [])) h k)
mark_stays (Package name l) true ys t u v w s a free f h k = ap not (sym (skipped_stays (Package name l) ys t u a f))
mark_stays (Service name) true ys t u v w s a free f h k = refl
