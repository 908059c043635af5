-- Eight small manifests in one joint statement: what is said of each, how many changes it makes from the empty tree and in the next run, and at which limits a start is refused. Assumes nothing.
use Rattle.std.specs.Prelude.{◌≡◌, ℕ, true, false, List, [], ◌∷◌}
use Rattle.std.proofs.Math.Option.{Option, none, some}
use Rattle.fs.specs.Tree.{Path}
use Rattle.fs.specs.Rig.{Rig}
use Rattle.fs.specs.Manifest.{Resource, Put, Directory, Absent, Package, Service, dir_entry, file_entry, marker, Edge, Manifest, Result, evaluate}
use Rattle.fs.specs.Judgement.{judge, circle_at, clash_of, accepted}
use Rattle.fs.specs.Room.{need}
use Rattle.fs.specs.Bill.{bill}
use Rattle.fs.specs.Start.{start_refusal}

-- `/a`, `/a/b`, `/opt`, `/opt/g`, and the names `fx`, `lut`, `mix`
abbrev pub a : Path
a = 47 ∷ 97 ∷ []

abbrev pub a/b : Path
a/b = 47 ∷ 97 ∷ 47 ∷ 98 ∷ []

abbrev pub opt : Path
opt = 47 ∷ 111 ∷ 112 ∷ 116 ∷ []

abbrev pub opt/g : Path
opt/g = 47 ∷ 111 ∷ 112 ∷ 116 ∷ 47 ∷ 103 ∷ []

abbrev pub fx : List ℕ
fx = 102 ∷ 120 ∷ []

abbrev pub lut : List ℕ
lut = 108 ∷ 117 ∷ 116 ∷ []

abbrev pub mix : List ℕ
mix = 109 ∷ 105 ∷ 120 ∷ []

-- a package that lists the directory `/opt` and the file `/opt/NAME`
abbrev pub in_opt : List ℕ → Resource
in_opt name = Package name (dir_entry opt ∷ file_entry (47 ∷ 111 ∷ 112 ∷ 116 ∷ 47 ∷ name) name ∷ [])

-- i -> j and i ~> j
abbrev pub edge : ℕ → ℕ → Edge
edge i j = record { from = i; to = j; notify = false }

abbrev pub notice : ℕ → ℕ → Edge
notice i j = record { from = i; to = j; notify = true }

abbrev pub of : List Resource → List Edge → Manifest
of rs es = record { resources = rs; edges = es }

-- 1 and 2: a directory and a file in it, without an edge and with 1 -> 2
abbrev pub filed : List Edge → Manifest
filed es = of (Directory opt ∷ Put opt/g [] ∷ []) es

abbrev pub filed_behind : Manifest
filed_behind = filed (edge 1 2 ∷ [])

-- 3: a file that is to wait for itself
abbrev pub looped : Manifest
looped = of (Put a [] ∷ []) (edge 1 1 ∷ [])

-- 4: two packages that list the same directory
abbrev pub shared : Manifest
shared = of (in_opt fx ∷ in_opt lut ∷ []) []

-- 5: a path and one below it, both to be absent
abbrev pub cleared : Manifest
cleared = of (Absent a ∷ Absent a/b ∷ []) []

-- 6: a directory with an edge to a service, and a package that lists the directory
abbrev pub heard : Edge → Manifest
heard e = of (Directory opt ∷ Service mix ∷ in_opt fx ∷ []) (e ∷ [])

-- 7: a package, and then its marker to be absent
abbrev pub unmarked : Manifest
unmarked = of (in_opt fx ∷ Absent (marker fx) ∷ []) (edge 1 2 ∷ [])

-- 8: a directory and a file in it, ordered by way of the service `m`
abbrev pub across : Manifest
across = of (Directory a ∷ Service (109 ∷ []) ∷ Put a/b [] ∷ []) (edge 1 2 ∷ edge 2 3 ∷ [])

-- the changes of an evaluation from the empty tree, and of the next one
abbrev pub counts : ℕ → Option Result → Option (ℕ × ℕ)
counts k none = none
counts k (some r) = some (k, r.1)

abbrev pub then_again : Manifest → List ℕ → Option Result → Option (ℕ × ℕ)
then_again m o none = none
then_again m o (some r) = counts r.1 (evaluate m o r.0)

abbrev pub runs : Manifest → List ℕ → Option (ℕ × ℕ)
runs m o = then_again m o (evaluate m o [])

-- a rig with an empty tree
abbrev pub empty : ℕ → ℕ → Rig
empty c n = record { tree = []; capacity = c; allowance = n }

pub record Samples : Type 0 where
  -- 1
  pub filed_clashes : judge (filed []) ≡ clash_of 1 2
  -- 2
  pub behind_steady : judge filed_behind ≡ accepted 2 true
  pub behind_runs : runs filed_behind (1 ∷ 2 ∷ []) ≡ some (2, 0)
  pub behind_needs : need filed_behind [] ≡ 2
  pub behind_bill : bill filed_behind ≡ 3
  pub behind_no_room : (n : ℕ) → start_refusal filed_behind (empty 1 n) ≡ some 25
  pub behind_no_allowance : start_refusal filed_behind (empty 2 2) ≡ some 26
  pub behind_starts : start_refusal filed_behind (empty 2 3) ≡ none
  -- 3
  pub looped_circle : judge looped ≡ circle_at 1
  -- 4
  pub shared_steady : judge shared ≡ accepted 2 true
  pub shared_runs : runs shared (1 ∷ 2 ∷ []) ≡ some (6, 0)
  pub shared_runs_back : runs shared (2 ∷ 1 ∷ []) ≡ some (6, 0)
  -- 5
  pub cleared_clashes : judge cleared ≡ clash_of 1 2
  -- 6
  pub heard_clashes : judge (heard (notice 1 2)) ≡ clash_of 1 3
  pub heard_steady : judge (heard (edge 1 2)) ≡ accepted 3 true
  pub heard_runs : runs (heard (edge 1 2)) (1 ∷ 2 ∷ 3 ∷ []) ≡ some (4, 0)
  -- 7
  pub unmarked_unsteady : judge unmarked ≡ accepted 2 false
  pub unmarked_runs : runs unmarked (1 ∷ 2 ∷ []) ≡ some (5, 2)
  -- 8
  pub across_steady : judge across ≡ accepted 3 true
  pub across_runs : runs across (1 ∷ 2 ∷ 3 ∷ []) ≡ some (2, 0)
