-- A path is names, each behind a slash: the parts between its slashes spell it again, and names that are spelled are its parts. Assumes nothing.
use Rattle.std.proofs.Common.{◌≡◌, ℕ, suc, ◌≤◌, Bool, true, false, cond, eqb, List, [], ◌∷◌, ◌++◌, length, sym, refl, ap, ◌∙◌, ⊎_elim, arith, rules}
use Rattle.std.proofs.lemmas.List.{append-nil, append_assoc}
use Rattle.std.proofs.lemmas.Bool.{cases_Bool, and_parts, eqb-true, false≢true}
use Rattle.values.specs.Rules.{all, name_byte, is_name, parts_from, components, is_path, spelled, Spells, PathsAreNames}
use Rattle.values.proofs.Parents.{made_path}
use Rattle.values.specs.Fits.{path_fits}

-- the parts spell the bytes again
spelled_parts : (part bs : List ℕ) → spelled (parts_from part bs) ≡ 47 ∷ (part ++ bs)
spelled_parts part [] = refl
spelled_parts part (b ∷ bs) = by (eqb b 47) refl (spelled_parts [] bs) (spelled_parts (part ++ b ∷ []) bs)
  where
    by : (q : Bool) → eqb b 47 ≡ q → spelled (parts_from [] bs) ≡ 47 ∷ bs → spelled (parts_from (part ++ b ∷ []) bs) ≡ 47 ∷ ((part ++ b ∷ []) ++ bs)
        → spelled (cond q (part ∷ parts_from [] bs) (parts_from (part ++ b ∷ []) bs)) ≡ 47 ∷ (part ++ b ∷ bs)
    by true e here more = ap (λ x. 47 ∷ (part ++ x)) (here ∙ ap (λ x. x ∷ bs) (sym (eqb-true b 47 e)))
    by false e here more = more ∙ ap (λ x. 47 ∷ x) (append_assoc part (b ∷ []) bs)

some_part : (part bs : List ℕ) → 1 ≤ length (parts_from part bs)
some_part part [] = omega arith
some_part part (b ∷ bs) = by (eqb b 47) (some_part (part ++ b ∷ []) bs)
  where
    by : (q : Bool) → 1 ≤ length (parts_from (part ++ b ∷ []) bs) → 1 ≤ length (cond q (part ∷ parts_from [] bs) (parts_from (part ++ b ∷ []) bs))
    by true more = omega arith
    by false more = more

not_slash : (b : ℕ) → name_byte b ≡ true → eqb b 47 ≡ false
not_slash b h = ⊎_elim (λ y. absurd (false≢true (sym (ap name_byte (eqb-true b 47 y)) ∙ h))) (λ n. n) (cases_Bool (eqb b 47))

-- the bytes of a name go to the part at hand, up to what stands behind the name
name_bytes : (rest : List ℕ) (cs : List (List ℕ)) → ((part : List ℕ) → parts_from part rest ≡ part ∷ cs) → (part c : List ℕ) → all name_byte c ≡ true → parts_from part (c ++ rest) ≡ (part ++ c) ∷ cs
name_bytes rest cs end part [] a = end part ∙ ap (λ x. x ∷ cs) (sym (append-nil part))
name_bytes rest cs end part (b ∷ bs) a =
    let k = and_parts (name_byte b) (all name_byte bs) a in
    ap (λ q. cond q (part ∷ parts_from [] (bs ++ rest)) (parts_from (part ++ b ∷ []) (bs ++ rest))) (not_slash b k.0)
    ∙ name_bytes rest cs end (part ++ b ∷ []) bs k.1
    ∙ ap (λ x. x ∷ cs) (append_assoc part (b ∷ []) bs)

name_bytes_pass : (c : List ℕ) → is_name c ≡ true → all name_byte c ≡ true
name_bytes_pass c h = search rules

-- what stands behind a part: no name more, or names behind their slashes
behind : (cs : List (List ℕ)) → all is_name cs ≡ true → (part : List ℕ) → parts_from part (spelled cs) ≡ part ∷ cs
behind [] a part = refl
behind (c ∷ cs) a part =
    let k = and_parts (is_name c) (all is_name cs) a in
    ap (λ x. part ∷ x) (name_bytes (spelled cs) cs (behind cs k.1) [] c (name_bytes_pass c k.0))

pub paths_are_names : PathsAreNames
paths_are_names bs = (there bs, back bs)
  where
    there : (s : List ℕ) → is_path s ≡ true → (cs : List (List ℕ)) × Spells s cs
    there [] h = absurd (false≢true h)
    there (b ∷ xs) h =
        let first : b ≡ 47 = search (rules, eqb-true) in
        let named : all is_name (components xs) ≡ true = search rules in
        (components xs, record { bytes = ap (λ x. x ∷ xs) first ∙ sym (spelled_parts [] xs); some = some_part [] xs; short = path_fits (b ∷ xs) h; names = named })

    one : (s : List ℕ) (cs : List (List ℕ)) → Spells s cs → is_path s ≡ true
    one s [] k = absurd (let some = k.some in omega arith)
    one s (c ∷ cs) k =
        let n = and_parts (is_name c) (all is_name cs) k.names in
        let parts : components (c ++ spelled cs) ≡ c ∷ cs = name_bytes (spelled cs) cs (behind cs n.1) [] c (name_bytes_pass c n.0) in
        let long : length s ≡ suc (length (c ++ spelled cs)) = ap length k.bytes in
        let short = k.short in
        ap is_path k.bytes ∙ made_path (c ++ spelled cs) (omega arith) (ap (all is_name) parts ∙ k.names)

    back : (s : List ℕ) → ((cs : List (List ℕ)) × Spells s cs) → is_path s ≡ true
    back s k = one s k.0 k.1
