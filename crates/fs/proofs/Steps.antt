-- One step looks at its own path, that path's parent and children, and sets its own path. Two steps that do not disturb one another commute. Assumes nothing.
use Rattle.std.proofs.Common.{◌≡◌, ℕ, ◌+◌, Bool, true, false, cond, ◌&&◌, eqb, ◌≢◌, List, sym, refl, ap, ◌∙◌, add-zero, add_assoc, add_comm, zero-add}
use mathlib.Core.Bool.{false≢true}
use mathlib.Core.Option.{Option, none, some}
use Rattle.fs.specs.Tree.{Path, Content, same, parent, Node, nothing, directory, file, is_nothing, is_directory, is_file, is_file_of, Tree, at, with_node, without, children, is_dir, Sorted, vacant, removable}
use Rattle.fs.specs.Fs.{Outcome, plus, and_then, eval}
use Rattle.fs.specs.Manifest.{Step, ensure_dir, ensure_file, ensure_absent, ensure, ensure_all}
use Rattle.fs.proofs.Trees.{put_node, at_put_here, sorted_put, put_swap, put_again, put_same, is_dir_parent}
use Rattle.fs.proofs.Options.{some_eq, none_some}

-- laws of and_then
plus_plus : (j k : ℕ) (o : Outcome) → plus (j + k) o ≡ plus j (plus k o)
plus_plus j k none = refl
plus_plus j k (some r) = ap (λ n. some (r.0, n)) (add_assoc j k r.1)

plus_and_then : (k : ℕ) (o : Outcome) (g : Tree → Outcome) → and_then (plus k o) g ≡ plus k (and_then o g)
plus_and_then k none g = refl
plus_and_then k (some r) g = plus_plus k r.1 (g r.0)

pub plus_zero : (o : Outcome) → plus 0 o ≡ o
plus_zero none = refl
plus_zero (some r) = ap (λ n. some (r.0, n)) (zero-add r.1)

pub and_then_assoc : (o : Outcome) (f g : Tree → Outcome) → and_then (and_then o f) g ≡ and_then o (λ u. and_then (f u) g)
and_then_assoc none f g = refl
and_then_assoc (some r) f g = plus_and_then r.1 (f r.0) g

pub and_then_skip : (o : Outcome) → and_then o (λ u. some (u, 0)) ≡ o
and_then_skip none = refl
and_then_skip (some r) = ap (λ n. some (r.0, n)) (add-zero r.1)

pub and_then_cong : (o : Outcome) (f g : Tree → Outcome) → ((r : Tree × ℕ) → o ≡ some r → f r.0 ≡ g r.0) → and_then o f ≡ and_then o g
and_then_cong none f g h = refl
and_then_cong (some r) f g h = ap (plus r.1) (h r refl)

-- the path of a step, and what the step does to the node there, from the node, whether the parent is a directory, and the number of children
abbrev pub path : Step → Path
path (ensure_dir p) = p
path (ensure_file p c) = p
path (ensure_absent p) = p

abbrev pub act : Step → Node → Bool → ℕ → Option (Node × ℕ)
act (ensure_dir p) nothing d k = cond d (some (directory, 1)) none
act (ensure_dir p) directory d k = some (directory, 0)
act (ensure_dir p) (file e) d k = none
act (ensure_file p c) nothing d k = cond d (some (file c, 1)) none
act (ensure_file p c) directory d k = none
act (ensure_file p c) (file e) d k = cond (same c e) (some (file e, 0)) (cond d (some (file c, 2)) none)
act (ensure_absent p) nothing d k = some (nothing, 0)
act (ensure_absent p) directory d k = cond (eqb k 0) (some (nothing, 1)) none
act (ensure_absent p) (file e) d k = some (nothing, 1)

abbrev pub act_at : Step → Tree → Option (Node × ℕ)
act_at s t = act s (at t (path s)) (is_dir t (parent (path s))) (children t (path s))

abbrev pub outcome : Path → Tree → Option (Node × ℕ) → Outcome
outcome p t none = none
outcome p t (some a) = some (put_node p a.0 t, a.1)

abbrev pub exec : Step → Tree → Outcome
exec s t = eval (ensure s) t

abbrev pub run : List Step → Tree → Outcome
run l t = eval (ensure_all l) t

module _ (t : Tree) (s : Sorted t) where
  kept : (p : Path) (n : Node) → at t p ≡ n → ◌≡◌ {A = Outcome} (some (t, 0)) (some (put_node p n t, 0))
  kept p n h = ap (λ u. some (u, 0)) (sym (put_same p n t s h))

  exec_dir : (p : Path) (n : Node) (d : Bool) → at t p ≡ n
      → cond (is_directory n) (some (t, 0)) (cond (d && is_nothing n) (some (with_node p directory t, 1)) none) ≡ outcome p t (act (ensure_dir p) n d (children t p))
  exec_dir p nothing true h = refl
  exec_dir p nothing false h = refl
  exec_dir p directory d h = kept p directory h
  exec_dir p (file e) true h = refl
  exec_dir p (file e) false h = refl

  replaced : (p : Path) (c : Content) (d b : Bool) → b ≡ true
      → plus 1 (cond (d && b) (some (with_node p (file c) (without p t), 1)) none) ≡ outcome p t (cond d (some (file c, 2)) none)
  replaced p c true true h = ap (λ u. some (u, 2)) (put_again p (file c) nothing t s)
  replaced p c false true h = refl
  replaced p c d false h = absurd (false≢true h)

  exec_file : (p : Path) (c : Content) (n : Node) (d : Bool) → at t p ≡ n → is_dir t (parent p) ≡ d
      → cond (is_file_of c n) (some (t, 0)) (cond (is_file n) (and_then (cond (removable n (children t p)) (some (without p t, 1)) none) (λ u. cond (vacant u p) (some (with_node p (file c) u, 1)) none)) (cond (d && is_nothing n) (some (with_node p (file c) t, 1)) none))
      ≡ outcome p t (act (ensure_file p c) n d (children t p))
  exec_file p c nothing true h k = refl
  exec_file p c nothing false h k = refl
  exec_file p c directory true h k = refl
  exec_file p c directory false h k = refl
  exec_file p c (file e) d h k = by (same c e)
    where
      again : plus 1 (cond (vacant (without p t) p) (some (with_node p (file c) (without p t), 1)) none) ≡ outcome p t (cond d (some (file c, 2)) none)
      again = rw (is_dir_parent p nothing t, k) (replaced p c d (is_nothing (at (without p t) p)) (ap is_nothing (at_put_here p nothing t)))

      by : (b : Bool) → cond b (some (t, 0)) (plus 1 (cond (vacant (without p t) p) (some (with_node p (file c) (without p t), 1)) none)) ≡ outcome p t (cond b (some (file e, 0)) (cond d (some (file c, 2)) none))
      by true = kept p (file e) h
      by false = again

  exec_absent : (p : Path) (n : Node) → at t p ≡ n
      → cond (is_nothing n) (some (t, 0)) (cond (removable n (children t p)) (some (without p t, 1)) none) ≡ outcome p t (act (ensure_absent p) n (is_dir t (parent p)) (children t p))
  exec_absent p nothing h = kept p nothing h
  exec_absent p directory h = by (eqb (children t p) 0)
    where
      by : (b : Bool) → cond b (some (without p t, 1)) none ≡ outcome p t (cond b (some (nothing, 1)) none)
      by true = refl
      by false = refl
  exec_absent p (file e) h = refl

pub exec_is : (x : Step) (t : Tree) → Sorted t → exec x t ≡ outcome (path x) t (act_at x t)
exec_is (ensure_dir p) t s = exec_dir t s p (at t p) (is_dir t (parent p)) refl
exec_is (ensure_file p c) t s = exec_file t s p c (at t p) (is_dir t (parent p)) refl refl
exec_is (ensure_absent p) t s = exec_absent t s p (at t p) refl

-- what a step that succeeds leaves
pub exec_leaves : (x : Step) (t : Tree) (r : Tree × ℕ) → Sorted t → exec x t ≡ some r → (a : Node × ℕ) × (act_at x t ≡ some a) × (r.0 ≡ put_node (path x) a.0 t) × (r.1 ≡ a.1)
exec_leaves x t r s h = by (act_at x t) refl
  where
    by : (o : Option (Node × ℕ)) → act_at x t ≡ o → (a : Node × ℕ) × (act_at x t ≡ some a) × (r.0 ≡ put_node (path x) a.0 t) × (r.1 ≡ a.1)
    by none e = none_some (sym (ap (outcome (path x) t) e) ∙ sym (exec_is x t s) ∙ h)
    by (some a) e =
        let g : r ≡ (put_node (path x) a.0 t, a.1) = some_eq (sym h ∙ exec_is x t s ∙ ap (outcome (path x) t) e) in
        (a, e, ap (λ z. z.0) g, ap (λ z. z.1) g)

-- y leaves what x looks at
abbrev pub Leaves : Step → Step → Tree → Type 0
Leaves y x t = (a : Node × ℕ) → act_at y t ≡ some a → act_at x (put_node (path y) a.0 t) ≡ act_at x t

pub exec_swap : (x y : Step) (t : Tree) → Sorted t → path x ≢ path y → Leaves y x t → Leaves x y t → and_then (exec x t) (λ u. exec y u) ≡ and_then (exec y t) (λ u. exec x u)
exec_swap x y t s ne lx ly = ap (λ o. and_then o (λ u. exec y u)) (exec_is x t s) ∙ by (act_at x t) (act_at y t) refl refl ∙ sym (ap (λ o. and_then o (λ u. exec x u)) (exec_is y t s))
  where
    later : (z w : Step) (a : Node × ℕ) → Leaves w z t → act_at w t ≡ some a → exec z (put_node (path w) a.0 t) ≡ outcome (path z) (put_node (path w) a.0 t) (act_at z t)
    later z w a l e = exec_is z (put_node (path w) a.0 t) (sorted_put (path w) a.0 t s) ∙ ap (outcome (path z) (put_node (path w) a.0 t)) (l a e)

    by : (o p : Option (Node × ℕ)) → act_at x t ≡ o → act_at y t ≡ p → and_then (outcome (path x) t o) (λ u. exec y u) ≡ and_then (outcome (path y) t p) (λ u. exec x u)
    by none none e f = refl
    by none (some b) e f = sym (ap (plus b.1) (later x y b lx f ∙ ap (outcome (path x) (put_node (path y) b.0 t)) e))
    by (some a) none e f = ap (plus a.1) (later y x a ly e ∙ ap (outcome (path y) (put_node (path x) a.0 t)) f)
    by (some a) (some b) e f =
        ap (plus a.1) (later y x a ly e ∙ ap (outcome (path y) (put_node (path x) a.0 t)) f)
        ∙ (λ i. some (put_swap (path y) (path x) b.0 a.0 t (λ h. ne (sym h)) s i, add_comm a.1 b.1 i))
        ∙ sym (ap (plus b.1) (later x y b lx f ∙ ap (outcome (path x) (put_node (path y) b.0 t)) e))
