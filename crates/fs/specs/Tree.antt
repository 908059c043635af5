-- Paths, nodes and trees. A tree is the list of its nodes in byte order of their paths, so that equal trees are equal values.
use Rattle.std.specs.Prelude.{◌≡◌, ℕ, suc, Bool, true, false, cond, not, ◌&&◌, ◌||◌, List, [], ◌∷◌, ◌==◌, nat_lt}

-- the bytes of a path; the root, which is no path, is []
abbrev pub Path : Type 0
Path = List ℕ

abbrev pub Content : Type 0
Content = List ℕ

-- are two byte lists equal
abbrev pub same : List ℕ → List ℕ → Bool
same [] [] = true
same [] (b ∷ q) = false
same (a ∷ p) [] = false
same (a ∷ p) (b ∷ q) = a == b && same p q

-- byte order
abbrev pub before : Path → Path → Bool
before [] [] = false
before [] (b ∷ q) = true
before (a ∷ p) [] = false
before (a ∷ p) (b ∷ q) = nat_lt a b || (a == b && before p q)

abbrev pub has : Path → List Path → Bool
has p [] = false
has p (q ∷ l) = same p q || has p l

abbrev pub slashed : Path → Bool
slashed [] = false
slashed (a ∷ p) = a == 47 || slashed p

-- the bytes before the last `/`
abbrev pub parent : Path → Path
parent [] = []
parent (a ∷ p) = cond (slashed p) (a ∷ parent p) []

pub data Node : Type 0 where
  nothing : Node
  directory : Node
  file : Content → Node

abbrev pub is_nothing : Node → Bool
is_nothing nothing = true
is_nothing directory = false
is_nothing (file c) = false

abbrev pub is_directory : Node → Bool
is_directory nothing = false
is_directory directory = true
is_directory (file c) = false

abbrev pub is_file : Node → Bool
is_file nothing = false
is_file directory = false
is_file (file c) = true

abbrev pub is_file_of : Content → Node → Bool
is_file_of c nothing = false
is_file_of c directory = false
is_file_of c (file d) = same c d

abbrev pub Tree : Type 0
Tree = List (Path × Node)

abbrev pub at : Tree → Path → Node
at [] p = nothing
at (e ∷ t) p = cond (same p e.0) e.1 (at t p)

-- the tree with the node n at p, in place of what was there
abbrev pub with_node : Path → Node → Tree → Tree
with_node p n [] = (p, n) ∷ []
with_node p n (e ∷ t) = cond (same p e.0) ((p, n) ∷ t) (cond (before p e.0) ((p, n) ∷ (e ∷ t)) (e ∷ with_node p n t))

-- the tree with nothing at p
abbrev pub without : Path → Tree → Tree
without p [] = []
without p (e ∷ t) = cond (same p e.0) (without p t) (e ∷ without p t)

-- how many nodes have p as their parent
abbrev pub children : Tree → Path → ℕ
children [] p = 0
children (e ∷ t) p = cond (same (parent e.0) p) (suc (children t p)) (children t p)

-- is there a directory at p: the root always is one
abbrev pub is_dir : Tree → Path → Bool
is_dir t [] = true
is_dir t (a ∷ p) = is_directory (at t (a ∷ p))

-- may a node be made at p: it is nothing, and its parent is a directory
abbrev pub vacant : Tree → Path → Bool
vacant t p = is_dir t (parent p) && is_nothing (at t p)

-- may a node that has k children be removed: a file, or a directory without children
abbrev pub removable : Node → ℕ → Bool
removable nothing k = false
removable directory k = k == 0
removable (file c) k = true

-- is a node that has k children a directory with children
abbrev pub blocked : Node → ℕ → Bool
blocked n k = is_directory n && not (k == 0)

-- each path of the tree stands behind p in byte order
abbrev pub Behind : Path → Tree → Type 0
Behind p [] = Unit {0}
Behind p (e ∷ t) = (before p e.0 ≡ true) × Behind p t

-- the paths rise strictly, and no entry is nothing
abbrev pub Sorted : Tree → Type 0
Sorted [] = Unit {0}
Sorted (e ∷ t) = Behind e.0 t × (is_nothing e.1 ≡ false) × Sorted t

-- every node's parent is a directory
abbrev pub Rooted : Tree → Type 0
Rooted t = (p : Path) → is_nothing (at t p) ≡ false → is_dir t (parent p) ≡ true

-- two sorted trees that give every path the same are the same value
abbrev pub EqualTrees : Type 0
EqualTrees = (t u : Tree) → Sorted t → Sorted u → ((p : Path) → at t p ≡ at u p) → t ≡ u
