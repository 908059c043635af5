-- The need of a manifest: how many nodes it may make more than a tree has; and the theorem that it suffices at each single change. Assumes nothing.
use Rattle.std.specs.Prelude.{ℕ, ◌+◌, ◌≤◌, cond, not, ◌&&◌, List, [], ◌∷◌, ◌++◌, length, take}
use Rattle.fs.specs.Tree.{Path, has, Tree, at, is_nothing, Sorted}
use Rattle.fs.specs.Change.{made}
use Rattle.fs.specs.Manifest.{Resource, Put, Directory, Absent, Package, Service, steps, Manifest}
use Rattle.fs.specs.Footprint.{writes, makes_dirs}
use Rattle.fs.specs.Trace.{trace_of}

-- the paths at which a resource may make a node: W and D of a put, a directory and a package
abbrev pub sites : Resource → List Path
sites (Put p c) = p ∷ []
sites (Directory p) = p ∷ []
sites (Absent p) = []
sites (Package name l) = writes (steps (Package name l)) ++ makes_dirs (steps (Package name l))
sites (Service name) = []

abbrev pub all_sites : List Resource → List Path
all_sites [] = []
all_sites (r ∷ l) = sites r ++ all_sites l

-- those, each once, that are nothing in t
abbrev pub fresh : List Path → Tree → List Path
fresh [] t = []
fresh (p ∷ l) t = cond (is_nothing (at t p) && not (has p l)) (p ∷ fresh l t) (fresh l t)

abbrev pub need : Manifest → Tree → ℕ
need m t = length (fresh (all_sites m.resources) t)

-- after each single change of an evaluation, begun or whole, in any order, the tree has at most the nodes that it began with and those that it needs
abbrev pub Room : Type 0
Room = (m : Manifest) (t : Tree) → Sorted t → (o : List ℕ) (k : ℕ) → length (made (take k (trace_of m o t)) t) ≤ length t + need m t
