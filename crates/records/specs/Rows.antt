-- The row of records that bytes are. Assumes nothing.
use Rattle.std.specs.Prelude.{ℕ, zero, suc, ◌+◌, ◌*◌, cond, List, [], ◌∷◌, length, take, drop, nat_lt}

-- records with their places, kinds and bodies, up to the end or up to a record that passes it
pub data Row : Type 0 where
  ended : Row
  broken : (place : ℕ) → Row
  next : (place kind : ℕ) (body : List ℕ) → Row → Row

-- a number of two bytes, the low one first
abbrev pub word : ℕ → ℕ → ℕ
word low high = low + 256 * high

-- the records from place p on, where these bytes stand, of which the first `skip` belong to a record that is done
unfoldable pub row : ℕ → ℕ → List ℕ → Row
row skip p [] = ended
row (suc n) p (b ∷ bs) = row n (p + 1) bs
row zero p (a ∷ []) = broken p
row zero p (a ∷ b ∷ []) = broken p
row zero p (a ∷ b ∷ c ∷ []) = broken p
row zero p (a ∷ b ∷ c ∷ d ∷ bs) =
    cond (nat_lt (length bs) (word a b)) (broken p) (next p (word c d) (take (word a b) bs) (row (word a b) (p + 4) bs))

-- the records of these bytes from place p on
abbrev pub row_from : List ℕ → ℕ → Row
row_from bytes p = row 0 p (drop p bytes)
