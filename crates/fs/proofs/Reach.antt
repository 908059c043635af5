-- A walk along the edges is found by the test for it. Assumes nothing.
use Rattle.std.proofs.Common.{◌≡◌, ℕ, zero, suc, ◌≤◌, Bool, true, ◌&&◌, ◌||◌, leb, ◌⊎◌, length, subst, inl, inr, arith}
use Rattle.std.proofs.lemmas.Bool.{or_cases, or_left, or_right, and_parts, and_from, leb-true, cases_eq}
use Rattle.fs.specs.Manifest.{Manifest, size, leads}
use Rattle.fs.specs.Order.{numbered, Walk, one, more}
use Rattle.fs.specs.Beginning.{Joined}
use Rattle.fs.specs.Judgement.{through, reaches}

pub walk_join : (m : Manifest) {i j k : ℕ} → Walk m i j → Walk m j k → Walk m i k
walk_join m (one h) s = more h s
walk_join m (more h r) s = more h (walk_join m r s)

through_walk : (m : Manifest) (k i j : ℕ) → through m k i j ≡ true → Walk m i j
through_walk m zero i j h = one h
through_walk m (suc k) i j h = by (λ x y. through_walk m k x y) (or_cases (through m k i j) (through m k i (suc k) && through m k (suc k) j) h)
  where
    by : ((x y : ℕ) → through m k x y ≡ true → Walk m x y) → (through m k i j ≡ true) ⊎ ((through m k i (suc k) && through m k (suc k) j) ≡ true) → Walk m i j
    by ih (inl e) = ih i j e
    by ih (inr e) = let p = and_parts (through m k i (suc k)) (through m k (suc k) j) e in walk_join m (ih i (suc k) p.0) (ih (suc k) j p.1)

pub reaches_walk : (m : Manifest) (i j : ℕ) → reaches m i j ≡ true → Walk m i j
reaches_walk m i j h = through_walk m (size m) i j h

leads_through : (m : Manifest) (k i j : ℕ) → leads m.edges i j ≡ true → through m k i j ≡ true
leads_through m zero i j h = h
leads_through m (suc k) i j h = or_left (through m k i j) (through m k i (suc k) && through m k (suc k) j) (leads_through m k i j h)

-- walks through numbers up to k join at each of these
through_join : (m : Manifest) (k i j l : ℕ) → 1 ≤ j → j ≤ k → through m k i j ≡ true → through m k j l ≡ true → through m k i l ≡ true
through_join m zero i j l a b g h = absurd (omega arith)
through_join m (suc k) i j l a b g h = by (λ x z. through_join m k x j z a) (cases_eq j (suc k)) (or_cases (T i j) (T i v && T v j) g) (or_cases (T j l) (T j v && T v l) h)
  where
    v : ℕ
    v = suc k

    T : ℕ → ℕ → Bool
    T x y = through m k x y

    direct : T i l ≡ true → (T i l || (T i v && T v l)) ≡ true
    direct e = or_left (T i l) (T i v && T v l) e

    over : T i v ≡ true → T v l ≡ true → (T i l || (T i v && T v l)) ≡ true
    over e f = or_right (T i l) (T i v && T v l) (and_from (T i v) (T v l) e f)

    to_v : j ≡ v → (T i j ≡ true) ⊎ ((T i v && T v j) ≡ true) → T i v ≡ true
    to_v e (inl x) = subst (λ z. T i z ≡ true) e x
    to_v e (inr x) = (and_parts (T i v) (T v j) x).0

    from_v : j ≡ v → (T j l ≡ true) ⊎ ((T j v && T v l) ≡ true) → T v l ≡ true
    from_v e (inl x) = subst (λ z. T z l ≡ true) e x
    from_v e (inr x) = (and_parts (T j v) (T v l) x).1

    Joins : Type 0
    Joins = (x z : ℕ) → j ≤ k → T x j ≡ true → T j z ≡ true → T x z ≡ true

    by : Joins → (j ≡ v) ⊎ (j ≡ v → ⊥) → (T i j ≡ true) ⊎ ((T i v && T v j) ≡ true) → (T j l ≡ true) ⊎ ((T j v && T v l) ≡ true) → (T i l || (T i v && T v l)) ≡ true
    by ih (inl e) x y = over (to_v e x) (from_v e y)
    by ih (inr ne) (inl x) (inl y) = direct (ih i l (omega arith) x y)
    by ih (inr ne) (inl x) (inr y) = let q = and_parts (T j v) (T v l) y in over (ih i v (omega arith) x q.0) q.1
    by ih (inr ne) (inr x) (inl y) = let p = and_parts (T i v) (T v j) x in over p.0 (ih v l (omega arith) p.1 y)
    by ih (inr ne) (inr x) (inr y) = over (and_parts (T i v) (T v j) x).0 (and_parts (T j v) (T v l) y).1

pub numbered_parts : (m : Manifest) (i : ℕ) → numbered m i ≡ true → (1 ≤ i) × (i ≤ size m)
numbered_parts m i h = let p = and_parts (leb 1 i) (leb i (length m.resources)) h in (leb-true 1 i p.0, leb-true i (length m.resources) p.1)

pub reaches_join : (m : Manifest) (i j k : ℕ) → numbered m j ≡ true → reaches m i j ≡ true → reaches m j k ≡ true → reaches m i k ≡ true
reaches_join m i j k n g h = let p = numbered_parts m j n in through_join m (size m) i j k p.0 p.1 g h

pub leads_reaches : (m : Manifest) (i j : ℕ) → leads m.edges i j ≡ true → reaches m i j ≡ true
leads_reaches m i j h = leads_through m (size m) i j h

pub walk_reaches : (m : Manifest) → Joined m → {i j : ℕ} → Walk m i j → reaches m i j ≡ true
walk_reaches m jn (one {i = i} {j = j} h) = leads_reaches m i j h
walk_reaches m jn (more {i = i} {j = j} {k = k} h r) = reaches_join m i j k (jn i j h).1 (leads_reaches m i j h) (walk_reaches m jn r)

-- the ends of a walk are resources
pub walk_ends : (m : Manifest) → Joined m → {i j : ℕ} → Walk m i j → (numbered m i ≡ true) × (numbered m j ≡ true)
walk_ends m jn (one {i = i} {j = j} h) = jn i j h
walk_ends m jn (more {i = i} {j = j} h r) = ((jn i j h).0, (walk_ends m jn r).1)
