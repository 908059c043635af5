-- Resources and what each does to a tree, edges, and the evaluation of a manifest in an order with the services that are then due. Assumes nothing.
use Rattle.std.specs.Prelude.{ℕ, zero, suc, pred, ◌+◌, Bool, true, false, cond, not, ◌&&◌, ◌||◌, List, [], ◌∷◌, ◌++◌, length, ◌==◌}
use Rattle.std.proofs.Math.Option.{Option, none, some}
use Rattle.fs.specs.Tree.{Path, Content, Tree, at, is_file}
use Rattle.fs.specs.Fs.{Expr, skip, mkdir, creat, rm, sequence, test, nothing?, dir?, file?, holds?, Outcome, eval}

-- one path, brought to a state
pub data Step : Type 0 where
  ensure_dir : Path → Step
  ensure_file : Path → Content → Step
  ensure_absent : Path → Step

-- what is as it should be is left; another file is replaced
abbrev pub ensure : Step → Expr
ensure (ensure_dir p) = test (dir? p) skip (mkdir p)
ensure (ensure_file p c) = test (holds? p c) skip (test (file? p) (sequence (rm p) (creat p c)) (creat p c))
ensure (ensure_absent p) = test (nothing? p) skip (rm p)

abbrev pub ensure_all : List Step → Expr
ensure_all [] = skip
ensure_all (s ∷ l) = sequence (ensure s) (ensure_all l)

pub data Entry : Type 0 where
  dir_entry : Path → Entry
  file_entry : Path → Content → Entry

-- a package and a service by their names
pub data Resource : Type 0 where
  Put : Path → Content → Resource
  Directory : Path → Resource
  Absent : Path → Resource
  Package : List ℕ → List Entry → Resource
  Service : List ℕ → Resource

-- `/pkg`, and `/pkg/NAME`
abbrev pub pkg : Path
pkg = 47 ∷ 112 ∷ 107 ∷ 103 ∷ []

abbrev pub marker : List ℕ → Path
marker name = pkg ++ (47 ∷ name)

abbrev pub entry_step : Entry → Step
entry_step (dir_entry p) = ensure_dir p
entry_step (file_entry p c) = ensure_file p c

-- the entries in their order, then `/pkg`, then the empty marker
abbrev pub package_steps : List Entry → List ℕ → List Step
package_steps [] name = ensure_dir pkg ∷ ensure_file (marker name) [] ∷ []
package_steps (e ∷ l) name = entry_step e ∷ package_steps l name

abbrev pub steps : Resource → List Step
steps (Put p c) = ensure_file p c ∷ []
steps (Directory p) = ensure_dir p ∷ []
steps (Absent p) = ensure_absent p ∷ []
steps (Package name entries) = package_steps entries name
steps (Service name) = []

-- what a resource does: its steps, but a package whose marker is a file does nothing
abbrev pub expr : Resource → Expr
expr (Put p c) = ensure_all (steps (Put p c))
expr (Directory p) = ensure_all (steps (Directory p))
expr (Absent p) = ensure_all (steps (Absent p))
expr (Package name entries) = test (file? (marker name)) skip (ensure_all (steps (Package name entries)))
expr (Service name) = skip

-- was the resource changed, where it succeeded on t by k changes: a package, if its marker was no file, so that it made it; any other, if it made a change
abbrev pub changed : Resource → Tree → ℕ → Bool
changed (Put p c) t k = not (k == 0)
changed (Directory p) t k = not (k == 0)
changed (Absent p) t k = not (k == 0)
changed (Package name entries) t k = not (is_file (at t (marker name)))
changed (Service name) t k = false

abbrev pub flagged : Resource → Tree → Outcome → Option (Tree × ℕ × Bool)
flagged r t none = none
flagged r t (some x) = some (x.0, x.1, changed r t x.1)

-- the new tree, the count of changes, and whether the resource was changed; none where it fails
abbrev pub does : Resource → Tree → Option (Tree × ℕ × Bool)
does r t = flagged r t (eval (expr r) t)

-- an edge from one resource to another, by their numbers from 1; the left end of `~>` notifies the right
pub record Edge : Type 0 where
  pub from : ℕ
  pub to : ℕ
  pub notify : Bool

pub record Manifest : Type 0 where
  pub resources : List Resource
  pub edges : List Edge

abbrev pub size : Manifest → ℕ
size m = length m.resources

-- the resource of a number; any other number does nothing
abbrev pub nth : List Resource → ℕ → Resource
nth [] i = Service []
nth (r ∷ l) i = cond (i == 1) r (nth l (pred i))

abbrev pub resource : Manifest → ℕ → Resource
resource m i = nth m.resources i

abbrev pub member : ℕ → List ℕ → Bool
member i [] = false
member i (j ∷ l) = i == j || member i l

-- does an edge, of either kind, lead from i to j
abbrev pub leads : List Edge → ℕ → ℕ → Bool
leads [] i j = false
leads (e ∷ l) i j = (e.from == i && e.to == j) || leads l i j

-- does i notify some resource
abbrev pub notifies : List Edge → ℕ → Bool
notifies [] i = false
notifies (e ∷ l) i = (e.notify && e.from == i) || notifies l i

-- is j notified by one of the numbers `l`
abbrev pub notified : List Edge → List ℕ → ℕ → Bool
notified [] l j = false
notified (e ∷ es) l j = (e.notify && (e.to == j && member e.from l)) || notified es l j

abbrev pub is_service : Resource → Bool
is_service (Put p c) = false
is_service (Directory p) = false
is_service (Absent p) = false
is_service (Package name entries) = false
is_service (Service name) = true

-- the services among 1 to n that are due, each once and in rising order, where the numbers `l` were changed
abbrev pub due_to : Manifest → List ℕ → ℕ → List ℕ
due_to m l zero = []
due_to m l (suc n) = due_to m l n ++ cond (is_service (resource m (suc n)) && notified m.edges l (suc n)) (suc n ∷ []) []

abbrev pub due : Manifest → List ℕ → List ℕ
due m l = due_to m l (size m)

-- what an evaluation gives: the tree, the count of changes, and the numbers of the changed resources
abbrev pub Result : Type 0
Result = Tree × ℕ × List ℕ

abbrev pub then_more : ℕ → ℕ → Bool → Option Result → Option Result
then_more i k b none = none
then_more i k b (some r) = some (r.0, k + r.1, cond b (i ∷ r.2) r.2)

abbrev pub and_on : ℕ → Option (Tree × ℕ × Bool) → (Tree → Option Result) → Option Result
and_on i none f = none
and_on i (some x) f = then_more i x.1 x.2 (f x.0)

-- the resources of the numbers `o`, one after the other; none where one of them fails
abbrev pub evaluate : Manifest → List ℕ → Tree → Option Result
evaluate m [] t = some (t, 0, [])
evaluate m (i ∷ o) t = and_on i (does (resource m i) t) (λ u. evaluate m o u)

-- the same with the due services in place of the changed resources: the tree, the count and the due services, or none
abbrev pub with_due : Manifest → Option Result → Option Result
with_due m none = none
with_due m (some r) = some (r.0, r.1, due m r.2)
