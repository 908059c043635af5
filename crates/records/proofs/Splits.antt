-- Bytes are split into just the records that they are. Assumes nothing.
use Rattle.std.proofs.Common.{◌≡◌, ℕ, ◌+◌, ◌≤◌, Bool, true, false, List, [], ◌∷◌, ◌++◌, length, take, drop, sym, refl, ap, ◌∙◌, subst, ⊎_elim, arith}
use Rattle.std.proofs.lemmas.List.{length-append, length-take-le, take-append-drop, take_at, drop_at}
use Rattle.std.proofs.lemmas.Bool.{cases_lt, false≢true}
use Rattle.records.specs.Rows.{Row, ended, broken, next, word, row}
use Rattle.records.specs.Spelling.{Begins, Cut, Spells, row_of, SplitExactly}
use Rattle.records.proofs.Rows.{row_over, row_more}

-- a row that comes to the end
abbrev pub whole : Row → Bool
whole ended = true
whole (broken p) = false
whole (next p k b r) = whole r

-- the kinds and bodies of a row
abbrev pub contents : Row → List (ℕ × List ℕ)
contents ended = []
contents (broken p) = []
contents (next p k b r) = (k, b) ∷ contents r

pub record_bytes : (k : ℕ) (body bs rest : List ℕ) (p : ℕ) → Begins k body bs rest → row 0 p bs ≡ next p k body (row 0 (p + 4 + length body) rest)
record_bytes k body bs rest p h =
    let long = length-append body rest in
    let s = h.size in
    ap (row 0 p) h.bytes
    ∙ row_more h.size_low h.size_high h.kind_low h.kind_high p (body ++ rest) (omega arith)
    ∙ (λ i. next p (h.kind i) (take (h.size i) (body ++ rest)) (row 0 (p + 4 + h.size i) (drop (h.size i) (body ++ rest))))
    ∙ (λ i. next p k (take_at body rest (length body) refl i) (row 0 (p + 4 + length body) (drop_at body rest (length body) refl i)))

-- bytes that are records are split into them
pub split_spelled : (rs : List (ℕ × List ℕ)) (bs : List ℕ) (p : ℕ) → Spells rs bs → row 0 p bs ≡ row_of p rs
unfolding row
split_spelled [] bs p h = ap (row 0 p) h
split_spelled (r ∷ rs) bs p h = record_bytes r.0 r.1 bs h.0 p h.1 ∙ ap (next p r.0 r.1) (split_spelled rs h.0 (p + 4 + length r.1) h.2)

-- the body and what stands behind it, cut out of what stands behind the four leading bytes
begins : (a b c d : ℕ) (xs : List ℕ) → word a b ≤ length xs → Begins (word c d) (take (word a b) xs) (a ∷ b ∷ c ∷ d ∷ xs) (drop (word a b) xs)
begins a b c d xs h = record {
  size_low = a;
  size_high = b;
  kind_low = c;
  kind_high = d;
  bytes = ap (λ l. a ∷ b ∷ c ∷ d ∷ l) (sym (take-append-drop (word a b) xs));
  size = sym (length-take-le (word a b) xs h);
  kind = refl;
}

no_record : (p q k : ℕ) (b : List ℕ) (r : Row) → broken p ≡ next q k b r → ⊥
no_record p q k b r e = let z : ◌≡◌ {A = ℕ} 0 1 = cc in omega arith

end_no_record : (q k : ℕ) (b : List ℕ) (r : Row) → ended ≡ next q k b r → ⊥
end_no_record q k b r e = let z : ◌≡◌ {A = ℕ} 0 1 = cc in omega arith

broken_no_end : (p : ℕ) → broken p ≡ ended → ⊥
broken_no_end p e = let z : ◌≡◌ {A = ℕ} 0 1 = cc in omega arith

same_place : (p q : ℕ) → broken p ≡ broken q → q ≡ p
same_place p q e = cc

-- only no bytes are no record
no_end : (x : ℕ) (xs : List ℕ) (p : ℕ) → row 0 p (x ∷ xs) ≡ ended → ⊥
unfolding row
no_end a [] p e = broken_no_end p e
no_end a (b ∷ []) p e = broken_no_end p e
no_end a (b ∷ c ∷ []) p e = broken_no_end p e
no_end a (b ∷ c ∷ d ∷ xs) p e =
    ⊎_elim
    (λ l. broken_no_end p (sym (row_over a b c d p xs l) ∙ e))
    (λ l. end_no_record p (word c d) (take (word a b) xs) (row 0 (p + 4 + word a b) (drop (word a b) xs)) (sym e ∙ row_more a b c d p xs l))
    (cases_lt (length xs) (word a b))

-- what a row that begins with a record tells of the bytes
abbrev pub Heads : List ℕ → ℕ → ℕ → ℕ → List ℕ → Row → Type 0
Heads bs p q k body r = (q ≡ p) × ((rest : List ℕ) × Begins k body bs rest × (row 0 (p + 4 + length body) rest ≡ r))

head : (a b c d : ℕ) (xs : List ℕ) (p q k : ℕ) (body : List ℕ) (r : Row) → word a b ≤ length xs → next p (word c d) (take (word a b) xs) (row 0 (p + 4 + word a b) (drop (word a b) xs)) ≡ next q k body r → Heads (a ∷ b ∷ c ∷ d ∷ xs) p q k body r
head a b c d xs p q k body r l h =
    let rest = drop (word a b) xs in
    let places : p ≡ q = cc in
    let kinds : word c d ≡ k = cc in
    let bodies : take (word a b) xs ≡ body = cc in
    let rests : row 0 (p + 4 + word a b) rest ≡ r = cc in
    let sizes : length body ≡ word a b = ap length (sym bodies) ∙ length-take-le (word a b) xs l in
    let Here : ℕ → List ℕ → Type 0 = λ x y. Begins x y (a ∷ b ∷ c ∷ d ∷ xs) rest in
    let first : Here k (take (word a b) xs) = subst (λ x. Here x (take (word a b) xs)) kinds (begins a b c d xs l) in
    (sym places, (rest, subst (λ y. Here k y) bodies first, ap (λ n. row 0 (p + 4 + n) rest) sizes ∙ rests))

pub row_begins : (bs : List ℕ) (p q k : ℕ) (body : List ℕ) (r : Row) → row 0 p bs ≡ next q k body r → Heads bs p q k body r
unfolding row
row_begins [] p q k body r e = absurd (end_no_record q k body r e)
row_begins (a ∷ []) p q k body r e = absurd (no_record p q k body r e)
row_begins (a ∷ b ∷ []) p q k body r e = absurd (no_record p q k body r e)
row_begins (a ∷ b ∷ c ∷ []) p q k body r e = absurd (no_record p q k body r e)
row_begins (a ∷ b ∷ c ∷ d ∷ xs) p q k body r e =
    ⊎_elim
    (λ l. absurd (no_record p q k body r (sym (row_over a b c d p xs l) ∙ e)))
    (λ l. head a b c d xs p q k body r l (sym (row_more a b c d p xs l) ∙ e))
    (cases_lt (length xs) (word a b))

-- what a row that is broken at once tells of the bytes
pub row_cut : (bs : List ℕ) (p q : ℕ) → row 0 p bs ≡ broken q → (q ≡ p) × Cut bs
unfolding row
row_cut bs p q e = (at bs e, ((λ z. none bs z e), λ k body rest h. no_record q p k body (row 0 (p + 4 + length body) rest) (sym e ∙ record_bytes k body bs rest p h)))
  where
    none : (xs : List ℕ) → xs ≡ [] → row 0 p xs ≡ broken q → ⊥
    none [] z h = broken_no_end q (sym h)
    none (x ∷ xs) z h = let n : ◌≡◌ {A = ℕ} 0 1 = cc in omega arith

    at : (xs : List ℕ) → row 0 p xs ≡ broken q → q ≡ p
    at [] h = absurd (broken_no_end q (sym h))
    at (a ∷ []) h = same_place p q h
    at (a ∷ b ∷ []) h = same_place p q h
    at (a ∷ b ∷ c ∷ []) h = same_place p q h
    at (a ∷ b ∷ c ∷ d ∷ xs) h =
        ⊎_elim
        (λ l. same_place p q (sym (row_over a b c d p xs l) ∙ h))
        (λ l. absurd (no_record q p (word c d) (take (word a b) xs) (row 0 (p + 4 + word a b) (drop (word a b) xs)) (sym h ∙ row_more a b c d p xs l)))
        (cases_lt (length xs) (word a b))

-- bytes whose row comes to the end are the records of the row
pub spelled_split : (r : Row) (bs : List ℕ) (p : ℕ) → row 0 p bs ≡ r → whole r ≡ true → Spells (contents r) bs
spelled_split ended [] p e w = refl
spelled_split ended (a ∷ bs) p e w = absurd (no_end a bs p e)
spelled_split (broken q) bs p e w = absurd (false≢true w)
spelled_split (next q k body r) bs p e w =
    let h = (row_begins bs p q k body r e).1 in
    (h.0, h.1, spelled_split r h.0 (p + 4 + length body) h.2 w)

-- a row of these records comes to the end, and has them
row_whole : (p : ℕ) (rs : List (ℕ × List ℕ)) → whole (row_of p rs) ≡ true
row_whole p [] = refl
row_whole p (r ∷ rs) = row_whole (p + 4 + length r.1) rs

row_contents : (p : ℕ) (rs : List (ℕ × List ℕ)) → contents (row_of p rs) ≡ rs
row_contents p [] = refl
row_contents p (r ∷ rs) = ap (λ l. r ∷ l) (row_contents (p + 4 + length r.1) rs)

pub split_exactly : SplitExactly
split_exactly bytes rs = (
  (λ e. subst (λ l. Spells l bytes) (row_contents 0 rs) (spelled_split (row_of 0 rs) bytes 0 e (row_whole 0 rs))),
  (λ s. split_spelled rs bytes 0 s),
)
