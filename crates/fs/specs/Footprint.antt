-- Footprints: the paths that a resource writes (W), reads (R) and makes as shared directories (D), those whose children it reads (K), and when two resources clash. Assumes nothing.
use Rattle.std.specs.Prelude.{ℕ, Bool, true, false, cond, ◌||◌, List, [], ◌∷◌, ◌++◌}
use Rattle.fs.specs.Tree.{Path, same, has, parent}
use Rattle.fs.specs.Manifest.{Step, ensure_dir, ensure_file, ensure_absent, Resource, Put, Directory, Absent, Package, Service, steps, Manifest, resource, notifies}

pub record Footprint : Type 0 where
  pub W : List Path
  pub R : List Path
  pub D : List Path
  pub K : List Path

-- ---- one step

abbrev pub step_writes : Step → List Path
step_writes (ensure_dir p) = []
step_writes (ensure_file p c) = p ∷ []
step_writes (ensure_absent p) = p ∷ []

abbrev pub step_makes_dirs : Step → List Path
step_makes_dirs (ensure_dir p) = p ∷ []
step_makes_dirs (ensure_file p c) = []
step_makes_dirs (ensure_absent p) = []

abbrev pub step_reads_below : Step → List Path
step_reads_below (ensure_dir p) = []
step_reads_below (ensure_file p c) = []
step_reads_below (ensure_absent p) = p ∷ []

-- the path, unless it is the root or one of the directories `ds`
abbrev pub unless_made : List Path → Path → List Path
unless_made ds p = cond (same p [] || has p ds) [] (p ∷ [])

-- a step that makes a node reads the parent, unless an earlier step made it: the directories `ds`
abbrev pub step_reads : List Path → Step → List Path
step_reads ds (ensure_dir p) = unless_made ds (parent p)
step_reads ds (ensure_file p c) = unless_made ds (parent p)
step_reads ds (ensure_absent p) = []

-- ---- several steps in turn

abbrev pub writes : List Step → List Path
writes [] = []
writes (s ∷ l) = step_writes s ++ writes l

abbrev pub makes_dirs : List Step → List Path
makes_dirs [] = []
makes_dirs (s ∷ l) = step_makes_dirs s ++ makes_dirs l

abbrev pub reads_below : List Step → List Path
reads_below [] = []
reads_below (s ∷ l) = step_reads_below s ++ reads_below l

abbrev pub reads : List Path → List Step → List Path
reads ds [] = []
reads ds (s ∷ l) = step_reads ds s ++ reads (step_makes_dirs s ++ ds) l

-- ---- a resource; the flag says whether it notifies

abbrev pub footprint : Resource → Bool → Footprint
footprint (Put p c) b = record { W = p ∷ []; R = unless_made [] (parent p); D = []; K = [] }
footprint (Directory p) true = record { W = p ∷ []; R = unless_made [] (parent p); D = []; K = [] }
footprint (Directory p) false = record { W = []; R = unless_made [] (parent p); D = p ∷ []; K = [] }
footprint (Absent p) b = record { W = p ∷ []; R = []; D = []; K = p ∷ [] }
footprint (Package name l) b = record { W = writes (steps (Package name l)); R = reads [] (steps (Package name l)); D = makes_dirs (steps (Package name l)); K = [] }
footprint (Service name) b = record { W = []; R = []; D = []; K = [] }

abbrev pub footprint_of : Manifest → ℕ → Footprint
footprint_of m i = footprint (resource m i) (notifies m.edges i)

-- ---- two resources

-- have two lists a path in common
abbrev pub meets : List Path → List Path → Bool
meets [] l = false
meets (p ∷ k) l = has p l || meets k l

abbrev pub parents : List Path → List Path
parents [] = []
parents (p ∷ l) = parent p ∷ parents l

-- f writes what g writes, reads or makes, or makes what g reads, or has a child of a path whose children g reads
abbrev pub disturbs : Footprint → Footprint → Bool
disturbs f g = meets f.W (g.W ++ (g.R ++ g.D)) || (meets f.D g.R || meets (parents (f.W ++ f.D)) g.K)

abbrev pub clash : Footprint → Footprint → Bool
clash f g = disturbs f g || disturbs g f
