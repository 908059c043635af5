-- The judgement of a manifest, by computation: its smallest circle, its least clash, whether it is steady, and what each verdict says. Assumes nothing.
use Rattle.std.specs.Prelude.{◌≡◌, ℕ, zero, suc, ◌<◌, ◌≤◌, Bool, true, cond, not, ◌&&◌, ◌||◌, ◌⊎◌, ◌↔◌, ◌++◌, ◌==◌, nat_lt}
use Rattle.std.proofs.Math.Option.{Option, none, some}
use Rattle.fs.specs.Manifest.{Manifest, size, leads}
use Rattle.fs.specs.Footprint.{footprint_of, clash, meets}
use Rattle.fs.specs.Order.{numbered, Walk, Accepted, Steady}
use Rattle.fs.specs.Beginning.{Joined}

-- does a walk lead from i to j that passes only through numbers up to k on its way
abbrev pub through : Manifest → ℕ → ℕ → ℕ → Bool
through m zero i j = leads m.edges i j
through m (suc k) i j = through m k i j || (through m k i (suc k) && through m k (suc k) j)

abbrev pub reaches : Manifest → ℕ → ℕ → Bool
reaches m i j = through m (size m) i j

abbrev pub or_else : {A : Type 0} → Option A → Option A → Option A
or_else none b = b
or_else (some x) b = some x

-- the first answer that f gives at 1, 2 up to n
abbrev pub seek : {A : Type 0} → (ℕ → Option A) → ℕ → Option A
seek f zero = none
seek f (suc n) = or_else (seek f n) (f (suc n))

-- does f hold at each of 1 up to n
abbrev pub every : (ℕ → Bool) → ℕ → Bool
every f zero = true
every f (suc n) = every f n && f (suc n)

-- the smallest number on a circle
abbrev pub least_circle : Manifest → Option ℕ
least_circle m = seek (λ i. cond (reaches m i i) (some i) none) (size m)

-- does i clash with a larger j that is not ordered with it
abbrev pub unordered_clash : Manifest → ℕ → ℕ → Bool
unordered_clash m i j = nat_lt i j && (clash (footprint_of m i) (footprint_of m j) && not (reaches m i j || reaches m j i))

-- the least such pair, by its smaller number first
abbrev pub least_clash : Manifest → Option (ℕ × ℕ)
least_clash m = seek (λ i. seek (λ j. cond (unordered_clash m i j) (some (i, j)) none) (size m)) (size m)

abbrev pub steady : Manifest → Bool
steady m = every (λ i. every (λ j. (i == j) || not (meets (footprint_of m i).W ((footprint_of m j).W ++ (footprint_of m j).D))) (size m)) (size m)

-- a circle by its smallest number, a clash by both numbers, or accepted with the number of resources and whether it is steady
pub data Verdict : Type 0 where
  circle_at : ℕ → Verdict
  clash_of : ℕ → ℕ → Verdict
  accepted : ℕ → Bool → Verdict

abbrev pub clash_or : Option (ℕ × ℕ) → Verdict → Verdict
clash_or none v = v
clash_or (some p) v = clash_of p.0 p.1

abbrev pub circle_or : Option ℕ → Verdict → Verdict
circle_or none v = v
circle_or (some k) v = circle_at k

-- a circle is said before a clash
abbrev pub judge : Manifest → Verdict
judge m = circle_or (least_circle m) (clash_or (least_clash m) (accepted (size m) (steady m)))

-- two resources, the smaller number first, that clash and are not ordered
pub record UnorderedClash (m : Manifest) (i j : ℕ) : Type 0 where
  pub left : numbered m i ≡ true
  pub right : numbered m j ≡ true
  pub rising : i < j
  pub clash_is : clash (footprint_of m i) (footprint_of m j) ≡ true
  pub no_walk : Walk m i j → ⊥
  pub no_walk_back : Walk m j i → ⊥

-- k is on a circle, and no smaller number is
abbrev pub LeastCircle : Manifest → ℕ → Type 0
LeastCircle m k = Walk m k k × ((i : ℕ) → Walk m i i → k ≤ i)

-- i and j clash and are not ordered, and no pair before them does
abbrev pub LeastClash : Manifest → ℕ → ℕ → Type 0
LeastClash m i j = UnorderedClash m i j × ((k l : ℕ) → UnorderedClash m k l → (i < k) ⊎ ((i ≡ k) × (j ≤ l)))

-- no circle and no clash is found exactly in an accepted manifest
abbrev pub Accepts : Type 0
Accepts = (m : Manifest) → Joined m → ((least_circle m ≡ none) × (least_clash m ≡ none)) ↔ Accepted m

abbrev pub CircleIsLeast : Type 0
CircleIsLeast = (m : Manifest) → Joined m → (k : ℕ) → least_circle m ≡ some k → LeastCircle m k

abbrev pub ClashIsLeast : Type 0
ClashIsLeast = (m : Manifest) → Joined m → (p : ℕ × ℕ) → least_clash m ≡ some p → LeastClash m p.0 p.1

abbrev pub SteadyIsTested : Type 0
SteadyIsTested = (m : Manifest) → (steady m ≡ true) ↔ Steady m

-- what each verdict says of a manifest
abbrev pub Says : Manifest → Verdict → Type 0
Says m (circle_at k) = LeastCircle m k
Says m (clash_of i j) = ((k : ℕ) → Walk m k k → ⊥) × LeastClash m i j
Says m (accepted n b) = Accepted m × (n ≡ size m) × ((b ≡ true) ↔ Steady m)

-- and that it is true
abbrev pub Judged : Type 0
Judged = (m : Manifest) → Joined m → Says m (judge m)
