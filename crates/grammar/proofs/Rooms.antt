-- A list with one more, as a Vec that is pushed to. Assumes nothing.
use Rattle.std.proofs.Common.{◌≡◌, ℕ, ◌<◌, ◌≤◌, List, [], ◌∷◌, ◌++◌, map, length, Some, None, vec_items, vec_len, Vec, sym, ap, ◌∙◌, arith}
use Rattle.std.proofs.lemmas.List.{length-map, map_push}
use Rattle.std.proofs.lemmas.Bool.{cond-true, cond-false, lt-ltb, le-ltb}
use Rattle.std.specs.declared.alloc.Global.{Global}
use Rattle.grammar.specs.Chains.{room}

module _ {A B : Type 0} (f : A → B) (n : ℕ) (v : Vec A Global) (len : ℕ) (s : len ≡ vec_len v) where
  size_is : length (map f (vec_items v)) ≡ len
  size_is = length-map (vec_items v) f ∙ sym (s ∙ v.ok.0)

  pub room_some : (ys : List A) (x : A) → len < n → ys ≡ vec_items v ++ x ∷ [] → Some (map f ys) ≡ room n (map f (vec_items v)) (f x)
  room_some ys x h e =
      ap Some (ap (map f) e ∙ map_push f (vec_items v) x)
      ∙ sym (cond-true _ _ _ (lt-ltb (length (map f (vec_items v))) n (omega (arith, size_is))))

  pub room_none : (y : B) → n ≤ len → None ≡ room n (map f (vec_items v)) y
  room_none y h = sym (cond-false _ _ _ (le-ltb (length (map f (vec_items v))) n (omega (arith, size_is))))
