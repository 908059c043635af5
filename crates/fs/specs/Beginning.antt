-- The beginning of an order, and three theorems: it can be completed, an accepted manifest has an order, and a beginning that fails makes every order fail. Assumes nothing.
use Rattle.std.specs.Prelude.{◌≡◌, ℕ, ◌<◌, true, List, ◌++◌}
use Rattle.std.proofs.Math.Option.{none}
use Rattle.fs.specs.Tree.{Tree, Sorted}
use Rattle.fs.specs.Manifest.{Manifest, leads, evaluate}
use Rattle.fs.specs.Order.{occurs, place, numbered, AtMostOnce, Permitted, Walk, Accepted}

-- every edge joins two resources, as in every manifest that was read
abbrev pub Joined : Manifest → Type 0
Joined m = (i j : ℕ) → leads m.edges i j ≡ true → (numbered m i ≡ true) × (numbered m j ≡ true)

-- resources, each at most once, and before each of them the left ends of all edges to it
pub record Begins (m : Manifest) (b : List ℕ) : Type 0 where
  pub once : AtMostOnce m b
  pub forward : (i j : ℕ) → leads m.edges i j ≡ true → 0 < occurs j b → (0 < occurs i b) × (place b i < place b j)

-- where there is no circle, every beginning goes on to a permitted order
abbrev pub Completes : Type 0
Completes = (m : Manifest) → Joined m → ((i : ℕ) → Walk m i i → ⊥) → (b : List ℕ) → Begins m b → (o : List ℕ) × Permitted m (b ++ o)

abbrev pub HasAnOrder : Type 0
HasAnOrder = (m : Manifest) → Joined m → Accepted m → (o : List ℕ) × Permitted m o

-- a beginning that fails makes every permitted order fail
abbrev pub FailsEarly : Type 0
FailsEarly = (m : Manifest) → Accepted m → (t : Tree) → Sorted t → (b : List ℕ) → Begins m b → evaluate m b t ≡ none → (o : List ℕ) → Permitted m o → evaluate m o t ≡ none
