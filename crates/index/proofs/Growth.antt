-- Packages, one record on. Assumes nothing.
use Rattle.std.proofs.Common.{◌≡◌, ℕ, ◌<◌, Bool, true, false, cond, not, eqb, leb, List, [], ◌∷◌, ◌++◌, length, Ok, Err, refl, ap, ◌∙◌, arith}
use Rattle.std.proofs.lemmas.Bool.{cond-false, lt-leb, leb-false, ne_eqb, eqb-false, not-true, not_from_false}
use Rattle.fs.specs.Tree.{has}
use Rattle.fs.specs.Manifest.{Entry}
use Rattle.fs.specs.Package.{entry_paths}
use Rattle.records.specs.Entries.{entry_path}
use Rattle.records.specs.Items.{after, new_entry}
use Rattle.records.specs.declared.fault.Ground.TheVariants.{TooMany, Repeated}
use Rattle.records.proofs.Says.{not_both}
use Rattle.index.specs.Packs.{Pack}
use Rattle.index.specs.Reading.{admit, with_entry, extended, last_pack, with_last, grown}

module _ (most : ℕ) (x : List ℕ) (before : List (List ℕ)) where
  pub admit_one : length before < most → has x before ≡ false → admit most x before ≡ Ok tt
  admit_one h n = cond-false _ _ _ (lt-leb most (length before) h) ∙ cond-false _ _ _ n

  pub admitted : (u : Unit) → admit most x before ≡ Ok u → (length before < most) × (has x before ≡ false)
  admitted u h = by (leb most (length before)) (has x before) refl refl h
    where
      by : (a b : Bool) → leb most (length before) ≡ a → has x before ≡ b → cond a (Err TooMany) (cond b (Err Repeated) (Ok tt)) ≡ Ok u → (length before < most) × (has x before ≡ false)
      by true b p q e = absurd (not_both TooMany u e)
      by false true p q e = absurd (not_both Repeated u e)
      by false false p q e = (leb-false most (length before) p, q)

-- a list that is not empty has a last one
pub split_last : {X : Type 0} (xs : List X) → 0 < length xs → (front : List X) × (x : X) × (xs ≡ front ++ x ∷ [])
split_last [] h = absurd (omega arith)
split_last (x ∷ []) h = ([], x, refl)
split_last (x ∷ y ∷ xs) h = let k = split_last (y ∷ xs) (omega arith) in (x ∷ k.0, k.1, ap (λ l. x ∷ l) k.2)

pub last_is : (front : List Pack) (p : Pack) → last_pack (front ++ p ∷ []) ≡ p
last_is [] p = refl
last_is (x ∷ []) p = refl
last_is (x ∷ y ∷ xs) p = last_is (y ∷ xs) p

pub with_last_is : (front : List Pack) (p q : Pack) → with_last (front ++ p ∷ []) q ≡ front ++ q ∷ []
with_last_is [] p q = refl
with_last_is (x ∷ []) p q = refl
with_last_is (x ∷ y ∷ xs) p q = ap (λ l. x ∷ l) (with_last_is (y ∷ xs) p q)

-- one more entry goes to the last package
pub grown_entry : (front : List Pack) (p : Pack) (e : Entry) → grown (front ++ p ∷ []) (new_entry e) ≡ after (extended p e) (λ q. Ok (front ++ q ∷ []))
grown_entry front p e =
    ap (λ x. after (extended x e) (λ q. Ok (with_last (front ++ p ∷ []) q))) (last_is front p)
    ∙ ap (λ f. after (extended p e) f) (λ i q. Ok (with_last_is front p q i))

pub extended_ok : (p : Pack) (e : Entry) → length (entry_paths p.1) < 16 → has (entry_path e) (entry_paths p.1) ≡ false → extended p e ≡ Ok (with_entry p e)
extended_ok p e h n = ap (λ r. after r (λ _. Ok (with_entry p e))) (admit_one 16 (entry_path e) (entry_paths p.1) h n)

pub begun_is : {X : Type 0} (xs : List X) → 0 < length xs → not (eqb (length xs) 0) ≡ true
begun_is xs h = not_from_false (eqb (length xs) 0) (ne_eqb (length xs) 0 (λ e. omega arith))

pub begun_some : {X : Type 0} (xs : List X) → not (eqb (length xs) 0) ≡ true → 0 < length xs
begun_some xs h = omega (arith, eqb-false (length xs) 0 (not-true (eqb (length xs) 0) h))
