-- Permitted orders, walks along the edges, accepted and steady manifests, and two theorems: the order is free, and a steady manifest rests. Assumes nothing.
use Rattle.std.specs.Prelude.{◌≡◌, ℕ, suc, ◌<◌, ◌≤◌, Bool, true, false, cond, ◌&&◌, ◌≢◌, List, [], ◌∷◌, ◌++◌, ◌==◌, nat_le}
use Rattle.std.proofs.Math.Option.{some}
use Rattle.fs.specs.Tree.{Tree, Sorted}
use Rattle.fs.specs.Manifest.{does, Manifest, size, resource, leads, due, Result, evaluate, with_due}
use Rattle.fs.specs.Footprint.{footprint_of, clash, meets}

-- how often i occurs
abbrev pub occurs : ℕ → List ℕ → ℕ
occurs i [] = 0
occurs i (j ∷ l) = cond (i == j) (suc (occurs i l)) (occurs i l)

-- how many numbers stand before the first i
abbrev pub place : List ℕ → ℕ → ℕ
place [] i = 0
place (j ∷ l) i = cond (i == j) 0 (suc (place l i))

-- is i the number of a resource
abbrev pub numbered : Manifest → ℕ → Bool
numbered m i = nat_le 1 i && nat_le i (size m)

-- no resource twice and nothing else: a beginning of an order, or a whole one
abbrev pub AtMostOnce : Manifest → List ℕ → Type 0
AtMostOnce m o = (i : ℕ) → occurs i o ≤ cond (numbered m i) 1 0

-- each resource once and nothing else, and each edge's left end before its right
pub record Permitted (m : Manifest) (o : List ℕ) : Type 0 where
  pub once : (i : ℕ) → occurs i o ≡ cond (numbered m i) 1 0
  pub forward : (i j : ℕ) → leads m.edges i j ≡ true → place o i < place o j

-- one or more edges, each from where the one before it ended, lead from i to j
pub data Walk (m : Manifest) : ℕ → ℕ → Type 0 where
  one : {i j : ℕ} → leads m.edges i j ≡ true → Walk m i j
  more : {i j k : ℕ} → leads m.edges i j ≡ true → Walk m j k → Walk m i k

-- no walk is a circle, and no two resources clash unless a walk leads from one to the other
pub record Accepted (m : Manifest) : Type 0 where
  pub no_circle : (i : ℕ) → Walk m i i → ⊥
  pub no_clash : (i j : ℕ) → numbered m i ≡ true → numbered m j ≡ true → i ≢ j → (Walk m i j → ⊥) → (Walk m j i → ⊥) → clash (footprint_of m i) (footprint_of m j) ≡ false

-- no path in W of one resource is in W or D of another, ordered or not
abbrev pub Steady : Manifest → Type 0
Steady m = (i j : ℕ) → numbered m i ≡ true → numbered m j ≡ true → i ≢ j → meets (footprint_of m i).W ((footprint_of m j).W ++ (footprint_of m j).D) ≡ false

-- any two permitted orders of an accepted manifest both fail, or both give the same tree, the same count and the same due services
abbrev pub OrderIsFree : Type 0
OrderIsFree = (m : Manifest) → Accepted m → (t : Tree) → Sorted t → (o o' : List ℕ) → Permitted m o → Permitted m o' → with_due m (evaluate m o t) ≡ with_due m (evaluate m o' t)

-- in the order o, nothing is left to do on t
pub record Rests (m : Manifest) (o : List ℕ) (t : Tree) : Type 0 where
  pub result : Result
  pub succeeds : evaluate m o t ≡ some result
  pub same_tree : result.0 ≡ t
  pub no_change : result.1 ≡ 0
  pub none_changed : result.2 ≡ []
  pub none_due : due m result.2 ≡ []
  pub each_unchanged : (i : ℕ) → numbered m i ≡ true → does (resource m i) t ≡ some (t, 0, false)

-- where a steady manifest came to by a permitted order, every permitted order has nothing left to do
abbrev pub SteadyRests : Type 0
SteadyRests = (m : Manifest) → Steady m → (t : Tree) → Sorted t → (o o' : List ℕ) → Permitted m o → Permitted m o' → (r : Result) → evaluate m o t ≡ some r → Rests m o' r.0
