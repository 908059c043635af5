-- Bytes that are a row of records, as a relation. Assumes nothing.
use Rattle.std.specs.Prelude.{◌≡◌, ℕ, ◌+◌, ◌↔◌, List, [], ◌∷◌, ◌++◌, length, ◌≢◌}
use Rattle.records.specs.Rows.{Row, ended, next, word, row_from}

-- the bytes bs begin with a record of this kind and body: the body's length and the kind, two bytes each, the low one first, and the body; `rest` stands behind it
pub record Begins (k : ℕ) (body bs rest : List ℕ) : Type 0 where
  pub size_low : ℕ
  pub size_high : ℕ
  pub kind_low : ℕ
  pub kind_high : ℕ
  pub bytes : bs ≡ size_low ∷ size_high ∷ kind_low ∷ kind_high ∷ (body ++ rest)
  pub size : word size_low size_high ≡ length body
  pub kind : word kind_low kind_high ≡ k

-- bytes, at least one, begin with no record: its four leading bytes or its body pass the end
abbrev pub Cut : List ℕ → Type 0
Cut bytes = (bytes ≢ []) × ((kind : ℕ) (body rest : List ℕ) → Begins kind body bytes rest → ⊥)

-- bytes are records of these kinds and bodies, one behind the other
abbrev pub Spells : List (ℕ × List ℕ) → List ℕ → Type 0
Spells [] bytes = bytes ≡ []
Spells (r ∷ rs) bytes = (rest : List ℕ) × Begins r.0 r.1 bytes rest × Spells rs rest

-- a whole row of records of these kinds and bodies, from place p on
abbrev pub row_of : ℕ → List (ℕ × List ℕ) → Row
row_of p [] = ended
row_of p (r ∷ rs) = next p r.0 r.1 (row_of (p + 4 + length r.1) rs)

-- bytes are split into just the records that they are
abbrev pub SplitExactly : Type 0
SplitExactly = (bytes : List ℕ) (rs : List (ℕ × List ℕ)) → (row_from bytes 0 ≡ row_of 0 rs) ↔ Spells rs bytes
