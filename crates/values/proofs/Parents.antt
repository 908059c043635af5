-- The parent of a path is a path, or the root. Assumes nothing.
use Rattle.std.proofs.Common.{◌≡◌, ℕ, suc, ◌-◌, ◌≤◌, Bool, true, false, cond, eqb, List, [], ◌∷◌, ◌++◌, length, get_or, sym, refl, ap, ◌∙◌, ⊎_elim, arith, rules}
use Rattle.std.proofs.lemmas.Bool.{cases_Bool, cond-true, cond-false, and_parts, and_from, or_cases, both_ways, eqb-true, eq-eqb, false≢true}
use Rattle.fs.specs.Tree.{slashed, parent}
use Rattle.values.specs.Rules.{all, is_name, parts_from, components, is_path}
use Rattle.values.proofs.Scan.{path_rest}
use Rattle.values.specs.Fits.{path_fits}

pub parent_short : (bs : List ℕ) → length (parent bs) ≤ length bs
parent_short [] = omega arith
parent_short (b ∷ bs) =
    let rest = parent_short bs in
    ⊎_elim
    (λ y. let e : length (parent (b ∷ bs)) ≡ suc (length (parent bs)) = ap length (cond-true (slashed bs) (b ∷ parent bs) [] y) in omega arith)
    (λ n. let e : length (parent (b ∷ bs)) ≡ 0 = ap length (cond-false (slashed bs) (b ∷ parent bs) [] n) in omega arith)
    (cases_Bool (slashed bs))

-- what all parts pass, those of the parent pass
pub parent_parts : (f : List ℕ → Bool) (part bs : List ℕ) → slashed bs ≡ true → all f (parts_from part bs) ≡ true → all f (parts_from part (parent bs)) ≡ true
parent_parts f part [] h a = absurd (false≢true h)
parent_parts f part (b ∷ bs) h a =
    let slash : Bool → Bool = λ q. all f (cond q (part ∷ parts_from [] bs) (parts_from (part ++ b ∷ []) bs)) in
    let deeper = parent_parts f [] bs in
    let further = parent_parts f (part ++ b ∷ []) bs in
    ⊎_elim
    (λ more.
    let up = ap (λ x. all f (parts_from part x)) (cond-true (slashed bs) (b ∷ parent bs) [] more) in
    up ∙
    ⊎_elim
    (λ y.
    let a' = and_parts (f part) (all f (parts_from [] bs)) (sym (ap slash y) ∙ a) in
    ap (λ q. all f (cond q (part ∷ parts_from [] (parent bs)) (parts_from (part ++ b ∷ []) (parent bs)))) y ∙ and_from (f part) (all f (parts_from [] (parent bs))) a'.0 (deeper more a'.1))
    (λ n. ap (λ q. all f (cond q (part ∷ parts_from [] (parent bs)) (parts_from (part ++ b ∷ []) (parent bs)))) n ∙ further more (sym (ap slash n) ∙ a))
    (cases_Bool (eqb b 47)))
    (λ none.
    let up = ap (λ x. all f (parts_from part x)) (cond-false (slashed bs) (b ∷ parent bs) [] none) in
    let y : eqb b 47 ≡ true = ⊎_elim (λ q. q) (λ q. absurd (both_ways (slashed bs) none q)) (or_cases (eqb b 47) (slashed bs) h) in
    up ∙ and_from (f part) true (and_parts (f part) (all f (parts_from [] bs)) (sym (ap slash y) ∙ a)).0 refl)
    (cases_Bool (slashed bs))

-- where every part is a name, the last byte is no slash
pub last_byte : (part : List ℕ) (b : ℕ) (bs : List ℕ) → all is_name (parts_from part (b ∷ bs)) ≡ true → get_or (b ∷ bs) (length bs) 0 ≡ 47 → ⊥
last_byte part b [] a e =
    let slash : Bool → Bool = λ q. all is_name (cond q (part ∷ parts_from [] []) (parts_from (part ++ b ∷ []) [])) in
    false≢true (and_parts (is_name part) false (sym (ap slash (eq-eqb b 47 e)) ∙ a)).1
last_byte part b (d ∷ ds) a e =
    let slash : Bool → Bool = λ q. all is_name (cond q (part ∷ parts_from [] (d ∷ ds)) (parts_from (part ++ b ∷ []) (d ∷ ds))) in
    let deeper = last_byte [] d ds in
    let further = last_byte (part ++ b ∷ []) d ds in
    ⊎_elim
    (λ y. deeper (and_parts (is_name part) (all is_name (parts_from [] (d ∷ ds))) (sym (ap slash y) ∙ a)).1 e)
    (λ n. further (sym (ap slash n) ∙ a) e)
    (cases_Bool (eqb b 47))

-- a slash before names that are parted by slashes
pub made_path : (bs : List ℕ) → length bs ≤ 47 → all is_name (components bs) ≡ true → is_path (47 ∷ bs) ≡ true
made_path [] short a = absurd (false≢true a)
made_path (b ∷ bs) short a =
    let s : List ℕ = 47 ∷ b ∷ bs in
    let end : length s - 1 ≡ suc (length bs) = omega arith in
    path_rest s (omega arith) (omega arith) refl (λ e. last_byte [] b bs a (ap (λ k. get_or s k 0) (sym end) ∙ e)) ∙ a

pub parent_is_path : (s : List ℕ) → is_path s ≡ true → (length (parent s) ≡ 0 → ⊥) → is_path (parent s) ≡ true
parent_is_path [] h some = absurd (some refl)
parent_is_path (b ∷ bs) h some =
    let short = path_fits (b ∷ bs) h in
    let first : b ≡ 47 = search (rules, eqb-true) in
    let named : all is_name (components bs) ≡ true = search rules in
    ⊎_elim
    (λ more.
    let up = cond-true (slashed bs) (b ∷ parent bs) [] more in
    ap is_path (up ∙ ap (λ x. x ∷ parent bs) first) ∙ made_path (parent bs) (omega (arith, parent_short bs)) (parent_parts is_name [] bs more named))
    (λ none. absurd (some (ap length (cond-false (slashed bs) (b ∷ parent bs) [] none))))
    (cases_Bool (slashed bs))
