-- The front of a list, where a table keeps its nodes, after an insertion and a removal in the whole list. Assumes nothing.
use Rattle.std.proofs.Common.{◌≡◌, ℕ, suc, ◌+◌, ◌-◌, ◌<◌, ◌≤◌, List, ◌∷◌, ◌++◌, length, take, drop, set, sym, ap, ◌∙◌, arith}
use Rattle.std.specs.List.{insert, remove}
use Rattle.std.proofs.lemmas.List.Edits.{length-insert, length-remove}
use Rattle.std.proofs.lemmas.List.{append_assoc, length-take-le, take-append-drop, set_at, take_all, take_at, take-append-le, drop-append-le}

module _ {X : Type 0} where
  -- an edit of the front leaves the rest
  inserted_front : (xs rest : List X) (i : ℕ) (y : X) → i ≤ length xs → insert (xs ++ rest) i y ≡ insert xs i y ++ rest
  inserted_front xs rest i y h =
      (λ k. take-append-le i xs rest h k ++ y ∷ drop-append-le i xs rest h k)
      ∙ sym (append_assoc (take i xs) (y ∷ drop i xs) rest)

  removed_front : (xs rest : List X) (i : ℕ) → i < length xs → remove (xs ++ rest) i ≡ remove xs i ++ rest
  removed_front xs rest i h =
      (λ k. take-append-le i xs rest (omega arith) k ++ drop-append-le (suc i) xs rest (omega arith) k)
      ∙ sym (append_assoc (take i xs) (drop (suc i) xs) rest)

  -- a free record moved to the place i, and then written
  pub reused : (rs : List X) (n i : ℕ) (free r : X) → n < length rs → i ≤ n → take (n + 1) (set (insert (remove rs n) i free) i r) ≡ insert (take n rs) i r
  reused rs n i free r h k =
      let xs = remove rs n in
      let ns = take n rs in
      let many : length ns ≡ n = length-take-le n rs (omega arith) in
      let long : length xs + 1 ≡ length rs = length-remove rs n h in
      let written : set (insert xs i free) i r ≡ insert xs i r = set_at (take i xs) free (drop i xs) r i (length-take-le i xs (omega arith)) in
      let more : length (insert ns i r) ≡ length ns + 1 = length-insert ns i r (omega arith) in
      ap (take (n + 1)) (written ∙ inserted_front ns (drop (suc n) rs) i r (omega arith))
      ∙ take_at (insert ns i r) (drop (suc n) rs) (n + 1) (omega arith)

  -- a new record, where none is free
  pub grown : (rs : List X) (n i : ℕ) (r : X) → n ≡ length rs → i ≤ n → take (n + 1) (insert rs i r) ≡ insert (take n rs) i r
  grown rs n i r e k =
      let more : length (insert rs i r) ≡ length rs + 1 = length-insert rs i r (omega arith) in
      take_all (n + 1) (insert rs i r) (omega arith) ∙ ap (λ xs. insert xs i r) (sym (take_all n rs (omega arith)))

  -- the record of a node moved behind the nodes
  pub freed : (rs : List X) (n i : ℕ) (free : X) → n ≤ length rs → i < n → take (n - 1) (insert (remove rs i) (n - 1) free) ≡ remove (take n rs) i
  freed rs n i free h k =
      let ns = take n rs in
      let many : length ns ≡ n = length-take-le n rs h in
      let xs = remove rs i in
      let long : length xs + 1 ≡ length rs = length-remove rs i (omega arith) in
      let less : length (remove ns i) + 1 ≡ length ns = length-remove ns i (omega arith) in
      take_at (take (n - 1) xs) (free ∷ drop (n - 1) xs) (n - 1) (length-take-le (n - 1) xs (omega arith))
      ∙ ap (λ ys. take (n - 1) (remove ys i)) (sym (take-append-drop n rs))
      ∙ ap (take (n - 1)) (removed_front ns (drop n rs) i (omega arith))
      ∙ take_at (remove ns i) (drop n rs) (n - 1) (omega arith)
