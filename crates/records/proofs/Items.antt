-- What a refusal's number names, and what `starts_with` answers.
use Rattle.std.proofs.Common.{◌≡◌, Bool, true, eqb, List, ℕ, [], ◌∷◌, ◌++◌, length, take, drop, nat_eq, sym, refl, ap, ◌∙◌, arith}
use Rattle.std.specs.Cmp.Lexicographic.{pointwise}
use Rattle.std.proofs.lemmas.Slice.Eq.{starts_is}
use Rattle.std.proofs.lemmas.Bool.{eqb-true, and_parts, and_from, eq-eqb, false≢true}
use Rattle.std.proofs.lemmas.Bool.Decides.{same_from_decides, Decides-eqb}
use Rattle.values.specs.Faults.{value_fault_number}
use Rattle.values.specs.declared.fault.ValueFault.{ValueFault}
use Rattle.values.specs.declared.fault.ValueFault.TheVariants.{Malformed, TooLong}
use Rattle.fs.specs.Package.{starts}

-- from a refusal's number to its name
pub is_malformed : (f : ValueFault) → value_fault_number f ≡ 1 → f ≡ Malformed
is_malformed Malformed h = refl
is_malformed TooLong h = absurd (omega arith)

pub is_too_long : (f : ValueFault) → value_fault_number f ≡ 2 → f ≡ TooLong
is_too_long Malformed h = absurd (omega arith)
is_too_long TooLong h = refl

starts_append : (q rest : List ℕ) → starts q (q ++ rest) ≡ true
starts_append [] rest = refl
starts_append (a ∷ q) rest = and_from (eqb a a) (starts q (q ++ rest)) (eq-eqb a a refl) (starts_append q rest)

starts_true : (q p : List ℕ) → starts q p ≡ true → (rest : List ℕ) × (p ≡ q ++ rest)
starts_true [] p h = (p, refl)
starts_true (a ∷ q) [] h = absurd (false≢true h)
starts_true (a ∷ q) (b ∷ p) h =
    let k = and_parts (eqb a b) (starts q p) h in
    let more = starts_true q p k.1 in
    (more.0, λ i. sym (eqb-true a b k.0) i ∷ more.1 i)

-- what `starts_with` answers, as a test
pub starts_bytes : (p q : List ℕ) (r : Bool) → r ≡ pointwise nat_eq q (take (length q) p) → r ≡ starts q p
starts_bytes p q r m =
    let k = starts_is Decides-eqb p q r m in
    let Front : Type 0 = (rest : List ℕ) × (p ≡ q ++ rest) in
    same_from_decides {P = Front} r (starts q p) ((λ t. (drop (length q) p, k.0 t)), (λ f. k.1 f.0 f.1)) (starts_true q p, (λ f. ap (starts q) f.1 ∙ starts_append q f.0))
