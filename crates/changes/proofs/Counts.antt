-- How changes alter what is counted. Assumes nothing.
use Rattle.std.proofs.Common.{◌≡◌, ℕ, suc, ◌+◌, ◌≤◌, Bool, true, false, cond, not, ◌&&◌, List, [], ◌∷◌, length, sym, refl, ap, ◌∙◌, true≢false, arith}
use mathlib.Core.Bool.{false≢true}
use Rattle.std.proofs.lemmas.Bool.{and_parts}
use Rattle.fs.specs.Change.{Change, made_dir, made_file, removed, change, made, allows, allows_all, altered, makes}
use Rattle.fs.specs.Tree.{Path, Node, nothing, directory, file, Tree, same, before, parent, at, with_node, without, children, is_dir, is_nothing, removable, Sorted}
use Rattle.fs.proofs.Calls.{sorted_change}
use Rattle.fs.proofs.Trees.{same_eq, behind_none, put_same}
use Rattle.changes.specs.Counts.{counted, births, deaths}

pub children_counted : (t : Tree) (q : Path) → children t q ≡ counted (λ p. same (parent p) q) t
children_counted [] q = refl
children_counted (e ∷ t) q = ap (λ n. cond (same (parent e.0) q) (suc n) n) (children_counted t q)

pub length_counted : (t : Tree) → length t ≡ counted (λ _. true) t
length_counted [] = refl
length_counted (e ∷ t) = ap suc (length_counted t)

pub counted_few : (f : Path → Bool) (t : Tree) → counted f t ≤ length t
counted_few f [] = omega arith
counted_few f (e ∷ t) = by (f e.0) (counted_few f t)
  where
    by : (b : Bool) → counted f t ≤ length t → cond b (suc (counted f t)) (counted f t) ≤ suc (length t)
    by true h = omega arith
    by false h = omega arith

-- one test more on both sides
beside : (x y : Bool) (m n : ℕ) → m ≡ cond y (suc n) n → cond x (suc m) m ≡ cond y (suc (cond x (suc n) n)) (cond x (suc n) n)
beside true true m n e = ap suc e
beside true false m n e = ap suc e
beside false true m n e = e
beside false false m n e = e

module _ (f : Path → Bool) where
  pub counted_with : (p : Path) (n : Node) (t : Tree) → Sorted t → is_nothing (at t p) ≡ true → counted f (with_node p n t) ≡ cond (f p) (suc (counted f t)) (counted f t)
  counted_with p n [] s h = refl
  counted_with p n (e ∷ t) s h = by (same p e.0) (before p e.0) h (counted_with p n t s.2)
    where
      by : (b c : Bool) → is_nothing (cond b e.1 (at t p)) ≡ true → (is_nothing (at t p) ≡ true → counted f (with_node p n t) ≡ cond (f p) (suc (counted f t)) (counted f t))
          → counted f (cond b ((p, n) ∷ t) (cond c ((p, n) ∷ (e ∷ t)) (e ∷ with_node p n t))) ≡ cond (f p) (suc (counted f (e ∷ t))) (counted f (e ∷ t))
      by true c k ih = absurd (false≢true (sym s.1 ∙ k))
      by false true k ih = refl
      by false false k ih = beside (f e.0) (f p) (counted f (with_node p n t)) (counted f t) (ih k)

  pub counted_without : (p : Path) (t : Tree) → Sorted t → is_nothing (at t p) ≡ false → counted f t ≡ cond (f p) (suc (counted f (without p t))) (counted f (without p t))
  counted_without p [] s h = absurd (true≢false h)
  counted_without p (e ∷ t) s h = by (same p e.0) refl h (counted_without p t s.2)
    where
      by : (b : Bool) → same p e.0 ≡ b → is_nothing (cond b e.1 (at t p)) ≡ false → (is_nothing (at t p) ≡ false → counted f t ≡ cond (f p) (suc (counted f (without p t))) (counted f (without p t)))
          → counted f (e ∷ t) ≡ cond (f p) (suc (counted f (cond b (without p t) (e ∷ without p t)))) (counted f (cond b (without p t) (e ∷ without p t)))
      by true k j ih =
          let here : p ≡ e.0 = same_eq p e.0 k in
          let gone : without p t ≡ t = put_same p nothing t s.2 (ap (at t) here ∙ behind_none e.0 t s.0) in
          λ i. cond (f (sym here i)) (suc (counted f (sym gone i))) (counted f (sym gone i))
      by false k j ih = beside (f e.0) (f p) (counted f t) (counted f (without p t)) (ih j)

  -- one change
  pub counted_change : (c : Change) (t : Tree) → Sorted t → allows c t ≡ true → counted f (change c t) + deaths f (c ∷ []) ≡ counted f t + births f (c ∷ [])
  counted_change (made_dir p) t s a = by (f p) (counted_with p directory t s (and_parts (is_dir t (parent p)) (is_nothing (at t p)) a).1)
    where
      by : (b : Bool) → counted f (with_node p directory t) ≡ cond b (suc (counted f t)) (counted f t) → counted f (with_node p directory t) + 0 ≡ counted f t + cond b 1 0
      by true e = omega arith
      by false e = omega arith
  counted_change (made_file p x) t s a = by (f p) (counted_with p (file x) t s (and_parts (is_dir t (parent p)) (is_nothing (at t p)) a).1)
    where
      by : (b : Bool) → counted f (with_node p (file x) t) ≡ cond b (suc (counted f t)) (counted f t) → counted f (with_node p (file x) t) + 0 ≡ counted f t + cond b 1 0
      by true e = omega arith
      by false e = omega arith
  counted_change (removed p) t s a = by (f p) (counted_without p t s (some (at t p) a))
    where
      some : (n : Node) → removable n (children t p) ≡ true → is_nothing n ≡ false
      some nothing k = absurd (false≢true k)
      some directory k = refl
      some (file c) k = refl

      by : (b : Bool) → counted f t ≡ cond b (suc (counted f (without p t))) (counted f (without p t)) → counted f (without p t) + cond b 1 0 ≡ counted f t + 0
      by true e = omega arith
      by false e = omega arith

  pub births_more : (c : Change) (l : List Change) → births f (c ∷ l) ≡ births f (c ∷ []) + births f l
  births_more c l = by (makes c && f (altered c))
    where
      by : (b : Bool) → cond b (suc (births f l)) (births f l) ≡ cond b 1 0 + births f l
      by true = omega arith
      by false = omega arith

  pub deaths_more : (c : Change) (l : List Change) → deaths f (c ∷ l) ≡ deaths f (c ∷ []) + deaths f l
  deaths_more c l = by (not (makes c) && f (altered c))
    where
      by : (b : Bool) → cond b (suc (deaths f l)) (deaths f l) ≡ cond b 1 0 + deaths f l
      by true = omega arith
      by false = omega arith

  pub counted_made : (l : List Change) (t : Tree) → Sorted t → allows_all l t ≡ true → counted f (made l t) + deaths f l ≡ counted f t + births f l
  counted_made [] t s a = refl
  counted_made (c ∷ l) t s a =
      let k = and_parts (allows c t) (allows_all l (change c t)) a in
      let here = counted_change c t s k.0 in
      let rest = counted_made l (change c t) (sorted_change c t s) k.1 in
      omega (arith, births_more c l, deaths_more c l)
