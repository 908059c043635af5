-- A tree on the way has only nodes of the first tree and at the sites of the resources, so they are few. Assumes nothing.
use Rattle.std.proofs.Common.{◌≡◌, ℕ, zero, suc, pred, ◌+◌, ◌≤◌, max, Bool, true, false, cond, not, ◌&&◌, ◌||◌, eqb, ◌≢◌, ◌⊎◌, List, [], ◌∷◌, ◌++◌, length, take, sym, refl, ap, ◌∙◌, subst, inl, inr, true≢false, arith, length-append}
use mathlib.Core.Bool.{false≢true}
use mathlib.Core.Option.{none, some}
use lib.Seq.{take-length}
use Rattle.std.proofs.lemmas.Bool.{or_left, or_right, or_cases}
use Rattle.fs.specs.Tree.{Path, same, has, Node, nothing, directory, file, is_nothing, Tree, at, with_node, without, children, vacant, removable, Behind, Sorted}
use Rattle.fs.specs.Change.{Change, made_dir, made_file, removed, change, made}
use Rattle.fs.specs.Fs.{Expr, skip, mkdir, creat, rm, sequence, test, Outcome, plus, and_then, passes, eval}
use Rattle.fs.specs.Manifest.{Step, ensure_dir, ensure_file, ensure_absent, ensure_all, Resource, Put, Directory, Absent, Package, Service, steps, expr, nth, Manifest, resource}
use Rattle.fs.specs.Footprint.{writes, makes_dirs}
use Rattle.fs.specs.Trace.{and_trace, trace, trace_of}
use Rattle.fs.specs.Room.{sites, all_sites, fresh, need, Room}
use Rattle.fs.proofs.Trees.{same_refl, same_eq, cases_same, before_ne, put_node, at_put_here, at_put_other, sorted_put}
use Rattle.fs.proofs.Apart.{In, in_here, in_there, in_cons, in_left, in_right}
use Rattle.fs.proofs.Traces.{traced_expr}

-- ---- the most nodes that a tree has on the way

-- the measure of the tree that an outcome has, 0 for none
abbrev pub onward : Outcome → (Tree → ℕ) → ℕ
onward none f = 0
onward (some x) f = f x.0

abbrev pub peak : Expr → Tree → ℕ
peak skip t = length t
peak (mkdir p) t = max (length t) (onward (eval (mkdir p) t) length)
peak (creat p c) t = max (length t) (onward (eval (creat p c) t) length)
peak (rm p) t = max (length t) (onward (eval (rm p) t) length)
peak (sequence e f) t = max (peak e t) (onward (eval e t) (λ u. peak f u))
peak (test q e f) t = cond (passes q t) (peak e t) (peak f t)

abbrev pub peak_of : Manifest → List ℕ → Tree → ℕ
peak_of m [] t = length t
peak_of m (i ∷ o) t = max (peak (expr (resource m i)) t) (onward (eval (expr (resource m i)) t) (λ u. peak_of m o u))

-- the tree after the first k changes
abbrev upto : ℕ → List Change → Tree → Tree
upto k l t = made (take k l) t

upto_none : (k : ℕ) (t : Tree) → upto k [] t ≡ t
upto_none zero t = refl
upto_none (suc k) t = refl

-- of two traces, the first k changes end in the first or behind it
upto_append : (k : ℕ) (a b : List Change) (t : Tree) → (upto k (a ++ b) t ≡ upto k a t) ⊎ ((j : ℕ) × (upto k (a ++ b) t ≡ upto j b (made a t)))
upto_append zero a b t = inl refl
upto_append (suc k) [] b t = inr (suc k, refl)
upto_append (suc k) (c ∷ a) b t = upto_append k a b (change c t)

one_peak : (b : Bool) (c : Change) (t : Tree) (k : ℕ) → length (upto k (cond b (c ∷ []) []) t) ≤ max (length t) (onward (cond b (some (change c t, 1)) none) length)
one_peak true c t zero = omega arith
one_peak true c t (suc k) = let e : length (upto k [] (change c t)) ≡ length (change c t) = ap length (upto_none k (change c t)) in omega arith
one_peak false c t k = let e : length (upto k [] t) ≡ length t = ap length (upto_none k t) in omega arith

-- an expression, and what goes on from its tree
next_peak : (e : Expr) (t : Tree) (f : Tree → List Change) (g : Tree → ℕ) → ((j : ℕ) → length (upto j (trace e t) t) ≤ peak e t) → ((u : Tree) (j : ℕ) → length (upto j (f u) u) ≤ g u)
    → (k : ℕ) → length (upto k (trace e t ++ and_trace (eval e t) f) t) ≤ max (peak e t) (onward (eval e t) g)
next_peak e t f g first next k = by (eval e t) refl (upto_append k (trace e t) (and_trace (eval e t) f) t)
  where
    by : (O : Outcome) → eval e t ≡ O → (upto k (trace e t ++ and_trace (eval e t) f) t ≡ upto k (trace e t) t) ⊎ ((j : ℕ) × (upto k (trace e t ++ and_trace (eval e t) f) t ≡ upto j (and_trace (eval e t) f) (made (trace e t) t)))
        → length (upto k (trace e t ++ and_trace (eval e t) f) t) ≤ max (peak e t) (onward O g)
    by O h (inl c) = let n : length (upto k (trace e t ++ and_trace (eval e t) f) t) ≡ length (upto k (trace e t) t) = ap length c in let w = first k in omega arith
    by none h (inr c) =
        let n : length (upto k (trace e t ++ and_trace (eval e t) f) t) ≡ length (upto (length (trace e t)) (trace e t) t) =
        ap length (c.1 ∙ ap (λ O. upto c.0 (and_trace O f) (made (trace e t) t)) h ∙ upto_none c.0 (made (trace e t) t) ∙ ap (λ l. made l t) (sym (take-length (trace e t)))) in
        let w = first (length (trace e t)) in omega arith
    by (some v) h (inr c) =
        let n : length (upto k (trace e t ++ and_trace (eval e t) f) t) ≡ length (upto c.0 (f v.0) v.0) =
        ap length (c.1 ∙ ap (λ O. upto c.0 (and_trace O f) (made (trace e t) t)) h ∙ ap (upto c.0 (f v.0)) (traced_expr e t v h).0) in
        let w = next v.0 c.0 in omega arith

under_peak : (e : Expr) (t : Tree) (k : ℕ) → length (upto k (trace e t) t) ≤ peak e t
under_peak skip t k = let n : length (upto k [] t) ≡ length t = ap length (upto_none k t) in omega arith
under_peak (mkdir p) t k = one_peak (vacant t p) (made_dir p) t k
under_peak (creat p c) t k = one_peak (vacant t p) (made_file p c) t k
under_peak (rm p) t k = one_peak (removable (at t p) (children t p)) (removed p) t k
under_peak (sequence e f) t k = next_peak e t (λ u. trace f u) (λ u. peak f u) (under_peak e t) (λ u. under_peak f u) k
under_peak (test q e f) t k = by (passes q t) (under_peak e t k) (under_peak f t k)
  where
    by : (b : Bool) → length (upto k (trace e t) t) ≤ peak e t → length (upto k (trace f t) t) ≤ peak f t → length (upto k (cond b (trace e t) (trace f t)) t) ≤ cond b (peak e t) (peak f t)
    by true x y = x
    by false x y = y

under_peak_of : (m : Manifest) (o : List ℕ) (t : Tree) (k : ℕ) → length (upto k (trace_of m o t) t) ≤ peak_of m o t
under_peak_of m [] t k = let n : length (upto k [] t) ≡ length t = ap length (upto_none k t) in omega arith
under_peak_of m (i ∷ o) t k = next_peak (expr (resource m i)) t (λ u. trace_of m o u) (λ u. peak_of m o u) (under_peak (expr (resource m i)) t) (λ u. under_peak_of m o u) k

-- ---- a tree has no more nodes than there are paths for them

abbrev keys : Tree → List Path
keys [] = []
keys (e ∷ t) = e.0 ∷ keys t

length_keys : (t : Tree) → length (keys t) ≡ length t
length_keys [] = refl
length_keys (e ∷ t) = ap suc (length_keys t)

key_at : (t : Tree) (p : Path) → Sorted t → In p (keys t) → is_nothing (at t p) ≡ false
key_at [] p s h = absurd (false≢true h)
key_at (e ∷ t) p s h = by (same p e.0) (or_cases (same p e.0) (has p (keys t)) h) (key_at t p s.2)
  where
    by : (b : Bool) → (b ≡ true) ⊎ In p (keys t) → (In p (keys t) → is_nothing (at t p) ≡ false) → is_nothing (cond b e.1 (at t p)) ≡ false
    by true h ih = s.1
    by false (inl h) ih = absurd (false≢true h)
    by false (inr h) ih = ih h

at_key : (t : Tree) (p : Path) → is_nothing (at t p) ≡ false → In p (keys t)
at_key [] p h = absurd (true≢false h)
at_key (e ∷ t) p h = by (same p e.0) h (at_key t p)
  where
    by : (b : Bool) → is_nothing (cond b e.1 (at t p)) ≡ false → (is_nothing (at t p) ≡ false → In p (keys t)) → (b || has p (keys t)) ≡ true
    by true h ih = refl
    by false h ih = ih h

behind_key : (q : Path) (t : Tree) (p : Path) → Behind q t → In p (keys t) → p ≢ q
behind_key q [] p b h = absurd (false≢true h)
behind_key q (e ∷ t) p b h = by (in_cons p e.0 (keys t) h) (behind_key q t p b.1)
  where
    by : (p ≡ e.0) ⊎ In p (keys t) → (In p (keys t) → p ≢ q) → p ≢ q
    by (inl g) ih k = before_ne q e.0 b.0 (sym k ∙ g)
    by (inr g) ih k = ih g k

-- the list without the first p
abbrev less : Path → List Path → List Path
less p [] = []
less p (q ∷ l) = cond (same p q) l (q ∷ less p l)

less_length : (p : Path) (l : List Path) → In p l → length l ≡ suc (length (less p l))
less_length p [] h = absurd (false≢true h)
less_length p (q ∷ l) h = by (same p q) h (less_length p l)
  where
    by : (b : Bool) → (b || has p l) ≡ true → (In p l → length l ≡ suc (length (less p l))) → suc (length l) ≡ suc (length (cond b l (q ∷ less p l)))
    by true h ih = refl
    by false h ih = ap suc (ih h)

less_in : (p q : Path) (l : List Path) → q ≢ p → In q l → In q (less p l)
less_in p q [] ne h = h
less_in p q (r ∷ l) ne h = by (same p r) refl (in_cons q r l h) (less_in p q l ne)
  where
    by : (b : Bool) → same p r ≡ b → (q ≡ r) ⊎ In q l → (In q l → In q (less p l)) → In q (cond b l (r ∷ less p l))
    by true e (inl g) ih = absurd (ne (g ∙ sym (same_eq p r e)))
    by true e (inr g) ih = g
    by false e (inl g) ih = or_left (same q r) (has q (less p l)) (ap (same q) (sym g) ∙ same_refl q)
    by false e (inr g) ih = or_right (same q r) (has q (less p l)) (ih g)

-- a sorted tree has no more nodes than a list that has all of its paths
fits : (u : Tree) (l : List Path) → Sorted u → ((p : Path) → In p (keys u) → In p l) → length u ≤ length l
fits [] l s h = omega arith
fits (e ∷ u) l s h =
    let here : length l ≡ suc (length (less e.0 l)) = less_length e.0 l (h e.0 (in_here e.0 (keys u))) in
    let rest : length u ≤ length (less e.0 l) = fits u (less e.0 l) s.2 (λ p i. less_in e.0 p l (behind_key e.0 u p s.0 i) (h p (in_there p e.0 (keys u) i))) in
    omega arith

fresh_in : (l : List Path) (t : Tree) (p : Path) → In p l → is_nothing (at t p) ≡ true → In p (fresh l t)
fresh_in [] t p h k = h
fresh_in (q ∷ l) t p h k = by (has q l) refl (in_cons p q l h) (λ i. fresh_in l t p i k)
  where
    more : (c : Bool) → In p (fresh l t) → In p (cond c (q ∷ fresh l t) (fresh l t))
    more true i = in_there p q (fresh l t) i
    more false i = i

    by : (b : Bool) → has q l ≡ b → (p ≡ q) ⊎ In p l → (In p l → In p (fresh l t)) → In p (cond (is_nothing (at t q) && not b) (q ∷ fresh l t) (fresh l t))
    by b e (inr i) ih = more (is_nothing (at t q) && not b) (ih i)
    by true e (inl i) ih = more (is_nothing (at t q) && false) (ih (ap (λ z. has z l) i ∙ e))
    by false e (inl i) ih = rw (ap (λ z. is_nothing (at t z)) (sym i) ∙ k) (subst (λ z. In p (z ∷ fresh l t)) i (in_here p (fresh l t)))

max_le : {a b n : ℕ} → a ≤ n → b ≤ n → max a b ≤ n
max_le h k = omega arith

module _ (l : List Path) (t : Tree) where
  -- the nodes of u stand in t too, or at paths of l
  Within : Tree → Type 0
  Within u = (p : Path) → is_nothing (at u p) ≡ false → (is_nothing (at t p) ≡ false) ⊎ In p l

  few : (u : Tree) → Sorted u → Within u → length u ≤ length t + length (fresh l t)
  unfolding Within
  few u s w = let k = fits u (keys t ++ fresh l t) s each in simp (length-append, length_keys) at k
    where
      each : (p : Path) → In p (keys u) → In p (keys t ++ fresh l t)
      each p i = by (is_nothing (at t p)) refl (w p (key_at u p s i))
        where
          by : (b : Bool) → is_nothing (at t p) ≡ b → (b ≡ false) ⊎ In p l → In p (keys t ++ fresh l t)
          by true e (inl k) = absurd (true≢false k)
          by true e (inr k) = in_right p (keys t) (fresh l t) (fresh_in l t p k e)
          by false e k = in_left p (keys t) (fresh l t) (at_key t p e)

  put_within : (p : Path) (n : Node) (u : Tree) → (is_nothing n ≡ true) ⊎ In p l → Within u → Within (put_node p n u)
  unfolding Within
  put_within p n u h w q k = by (cases_same q p) h
    where
      by : ((same q p ≡ true) × (q ≡ p)) ⊎ ((same q p ≡ false) × (q ≢ p)) → (is_nothing n ≡ true) ⊎ In p l → (is_nothing (at t q) ≡ false) ⊎ In q l
      by (inr c) g = w q (ap is_nothing (sym (at_put_other p n u q c.1)) ∙ k)
      by (inl c) (inl g) = absurd (true≢false (sym g ∙ ap is_nothing (sym (at_put_here p n u)) ∙ ap (λ z. is_nothing (at (put_node p n u) z)) (sym c.1) ∙ k))
      by (inl c) (inr g) = inr (subst (λ z. In z l) (sym c.1) g)

  -- the expression makes nodes only at paths of l
  abbrev Makes : Expr → Type 0
  Makes skip = Unit {0}
  Makes (mkdir p) = In p l
  Makes (creat p c) = In p l
  Makes (rm p) = Unit {0}
  Makes (sequence e f) = Makes e × Makes f
  Makes (test q e f) = Makes e × Makes f

  bound : ℕ
  bound = length t + length (fresh l t)

  -- the outcome is none, or a sorted tree within
  abbrev Good : Outcome → Type 0
  Good none = Unit {0}
  Good (some x) = Sorted x.0 × Within x.0

  good_cond : (b : Bool) (o : Outcome) → Good o → Good (cond b o none)
  good_cond true o g = g
  good_cond false o g = tt

  good_plus : (k : ℕ) (o : Outcome) → Good o → Good (plus k o)
  good_plus k none g = tt
  good_plus k (some x) g = g

  good : (e : Expr) (u : Tree) → Makes e → Sorted u → Within u → Good (eval e u)
  good skip u h s w = (s, w)
  good (mkdir p) u h s w = good_cond (vacant u p) (some (with_node p directory u, 1)) (sorted_put p directory u s, put_within p directory u (inr h) w)
  good (creat p c) u h s w = good_cond (vacant u p) (some (with_node p (file c) u, 1)) (sorted_put p (file c) u s, put_within p (file c) u (inr h) w)
  good (rm p) u h s w = good_cond (removable (at u p) (children u p)) (some (without p u, 1)) (sorted_put p nothing u s, put_within p nothing u (inl refl) w)
  good (sequence e f) u h s w = by (eval e u) (good e u h.0 s w) (λ v k m. good f v h.1 k m)
    where
      by : (o : Outcome) → Good o → ((v : Tree) → Sorted v → Within v → Good (eval f v)) → Good (and_then o (λ v. eval f v))
      by none g ih = tt
      by (some x) g ih = good_plus x.1 (eval f x.0) (ih x.0 g.0 g.1)
  good (test q e f) u h s w = by (passes q u) (good e u h.0 s w) (good f u h.1 s w)
    where
      by : (b : Bool) → Good (eval e u) → Good (eval f u) → Good (cond b (eval e u) (eval f u))
      by true g k = g
      by false g k = k

  onward_few : (o : Outcome) (f : Tree → ℕ) → Good o → ((v : Tree) → Sorted v → Within v → f v ≤ bound) → onward o f ≤ bound
  onward_few none f g h = omega arith
  onward_few (some x) f g h = h x.0 g.0 g.1

  few_nodes : (u : Tree) → Sorted u → Within u → length u ≤ bound
  unfolding bound
  few_nodes u s w = few u s w

  peak_few : (e : Expr) (u : Tree) → Makes e → Sorted u → Within u → peak e u ≤ bound
  peak_few skip u h s w = few_nodes u s w
  peak_few (mkdir p) u h s w = max_le (few_nodes u s w) (onward_few (eval (mkdir p) u) length (good (mkdir p) u h s w) few_nodes)
  peak_few (creat p c) u h s w = max_le (few_nodes u s w) (onward_few (eval (creat p c) u) length (good (creat p c) u h s w) few_nodes)
  peak_few (rm p) u h s w = max_le (few_nodes u s w) (onward_few (eval (rm p) u) length (good (rm p) u h s w) few_nodes)
  peak_few (sequence e f) u h s w = max_le (peak_few e u h.0 s w) (onward_few (eval e u) (λ v. peak f v) (good e u h.0 s w) (λ v k m. peak_few f v h.1 k m))
  peak_few (test q e f) u h s w = by (passes q u) (peak_few e u h.0 s w) (peak_few f u h.1 s w)
    where
      by : (b : Bool) → peak e u ≤ bound → peak f u ≤ bound → cond b (peak e u) (peak f u) ≤ bound
      by true g k = g
      by false g k = k

  makes_steps : (xs : List Step) → ((p : Path) → In p (writes xs) → In p l) → ((p : Path) → In p (makes_dirs xs) → In p l) → Makes (ensure_all xs)
  makes_steps [] g h = tt
  makes_steps (ensure_dir p ∷ xs) g h = ((tt, h p (in_here p (makes_dirs xs))), makes_steps xs g (λ q i. h q (in_there q p (makes_dirs xs) i)))
  makes_steps (ensure_file p c ∷ xs) g h = let i = g p (in_here p (writes xs)) in ((tt, ((tt, i), i)), makes_steps xs (λ q j. g q (in_there q p (writes xs) j)) h)
  makes_steps (ensure_absent p ∷ xs) g h = ((tt, tt), makes_steps xs (λ q j. g q (in_there q p (writes xs) j)) h)

  makes_expr : (r : Resource) → ((p : Path) → In p (sites r) → In p l) → Makes (expr r)
  makes_expr (Put p c) h = let i = h p (in_here p []) in ((tt, ((tt, i), i)), tt)
  makes_expr (Directory p) h = ((tt, h p (in_here p [])), tt)
  makes_expr (Absent p) h = ((tt, tt), tt)
  makes_expr (Package name es) h = (
    tt,
    makes_steps (steps (Package name es)) (λ p i. h p (in_left p (writes (steps (Package name es))) (makes_dirs (steps (Package name es))) i))
        (λ p i. h p (in_right p (writes (steps (Package name es))) (makes_dirs (steps (Package name es))) i)),
  )
  makes_expr (Service name) h = tt

nth_sites : (rs : List Resource) (i : ℕ) (p : Path) → In p (sites (nth rs i)) → In p (all_sites rs)
nth_sites [] i p h = h
nth_sites (r ∷ rs) i p h = by (eqb i 1) h (nth_sites rs (pred i) p)
  where
    by : (b : Bool) → In p (sites (cond b r (nth rs (pred i)))) → (In p (sites (nth rs (pred i))) → In p (all_sites rs)) → In p (sites r ++ all_sites rs)
    by true h ih = in_left p (sites r) (all_sites rs) h
    by false h ih = in_right p (sites r) (all_sites rs) (ih h)

-- the peak is within the need
pub peak_room : (m : Manifest) (t : Tree) → Sorted t → (o : List ℕ) → peak_of m o t ≤ length t + need m t
unfolding bound Within
peak_room m t s o = go o t s (λ p h. inl h)
  where
    L : List Path
    L = all_sites m.resources

    ok : (i : ℕ) → Makes L t (expr (resource m i))
    ok i = makes_expr L t (resource m i) (λ p h. nth_sites m.resources i p h)

    go : (x : List ℕ) (u : Tree) → Sorted u → Within L t u → peak_of m x u ≤ bound L t
    go [] u k w = few_nodes L t u k w
    go (i ∷ x) u k w = max_le (peak_few L t (expr (resource m i)) u (ok i) k w) (onward_few L t (eval (expr (resource m i)) u) (λ v. peak_of m x v) (good L t (expr (resource m i)) u (ok i) k w) (λ v a b. go x v a b))

pub room : Room
room m t s o k = let a = under_peak_of m o t k in let b = peak_room m t s o in omega arith
