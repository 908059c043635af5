-- A checked value, whose refusal is placed in the text. Assumes nothing.
use Rattle.std.proofs.Common.{◌≡◌, ℕ, Bool, true, false, cond, List, IsErrAnd, MatchResult, Ok, Err, Result, sym, refl, ap, ◌∙◌, arith}
use Rattle.values.specs.declared.fault.ValueFault.TheVariants.{Malformed}
use Rattle.lexer.specs.Rows.{Row}
use Rattle.lexer.specs.Spots.{Spot, ahead}
use Rattle.lexer.specs.declared.position.Position.{Position}
use Rattle.syntax.specs.declared.fault.Ground.{Ground}
use Rattle.syntax.specs.declared.fault.Ground.TheVariants.{Value}
use Rattle.syntax.specs.declared.kind.Kind.{Kind}
use Rattle.syntax.specs.Faults.{TextFault, fault_at}
use Rattle.syntax.specs.Reading.{Read, read, refused, checked, answer, Reads}
use Rattle.syntax.proofs.Steps.{exits, holds, breaks}
use Rattle.grammar.specs.Declarations.{title_ok, title_check}
use Rattle.declarations.specs.Meanings.{Tells}

-- an answer whose refusal has the position p
abbrev pub located : {X : Type 0} → Position → Result X Ground → Result X TextFault
located p (Ok x) = Ok x
located p (Err g) = Err (fault_at p g)

-- what `map_err` answers where it gives a refusal the position p
pub located_by : {X : Type 0} (p : Position) (t : Result X Ground) (s : Result X TextFault) {post : Ground → TextFault → Type 0} → MatchResult t (λ x. s ≡ Ok x) (λ g. IsErrAnd s (post g)) → ((g : Ground) (e : TextFault) → post g e → e ≡ fault_at p g) → s ≡ located p t
located_by p (Ok x) s m placed = m
located_by p (Err g) (Ok x) m placed = absurd m
located_by p (Err g) (Err e) m placed = ap Err (placed g e m)

module _ {A B : Type 0} (f : A → B) (a : Result B Ground) (p : Position) where
  pub value_told : (t : Result A Ground) {x : A} → Tells f a t → Ok x ≡ located p t → a ≡ Ok (f x)
  value_told (Ok y) {x} told e = let z : y ≡ x = cc in told ∙ ap (λ y. Ok (f y)) z
  value_told (Err g) told e = let z : ◌≡◌ {A = ℕ} 0 1 = cc in absurd (omega arith)

  refusal_told : {D : Type 0} (k : B → Read D) (t : Result A Ground) {e : TextFault} → Tells f a t → Err e ≡ located p t → refused e ≡ checked a p k
  refusal_told k (Ok y) told e = let z : ◌≡◌ {A = ℕ} 0 1 = cc in absurd (omega arith)
  refusal_told k (Err g) {e} told h = let z : e ≡ fault_at p g = cc in ap refused z ∙ breaks p k (sym told)

  module _ (t : Result A Ground) (told : Tells f a t) where
    -- on past a value that is told
    pub passes : {C D : Type 0} {h : C → D} (k : B → Row → Read D) {from to : Spot} {r : Result C TextFault} {x : A} → Ok x ≡ located p t → Reads h (k (f x)) from r to → Reads h (λ row. checked a p (λ y. k y row)) from r to
    passes k {from} e b = record { text = b.text; stands = b.stands; answers = λ n. holds p (λ y. k y (ahead from)) (sym (value_told t told e)) (b.answers n) }

    -- out with a refusal that is told
    pub fails : {C D : Type 0} {h : C → D} (k : B → Row → Read D) {from : Spot} {r : Result C TextFault} {e : TextFault} → Err e ≡ located p t → IsErrAnd r (λ y. y ≡ e) → Reads h (λ row. checked a p (λ y. k y row)) from r from
    fails {h} k {from} e x = record { text = refl; stands = λ n. n; answers = λ _. exits h _ _ x ∙ refusal_told (λ y. k y (ahead from)) t told e }

-- a reading that ends in what is told
pub ends : {A B : Type 0} (f : A → B) (a : Result B Ground) (p : Position) (t : Result A Ground) {s : Result A TextFault} (at : Spot) → Tells f a t → s ≡ located p t → Reads f (λ row. checked a p (λ y. read y row)) at s at
ends f a p t {s} at told e = record { text = refl; stands = λ n. n; answers = λ _. by t s told e }
  where
    by : (t : Result _ Ground) (s : Result _ TextFault) → Tells f a t → s ≡ located p t → answer f s (ahead at) ≡ checked a p (λ y. read y (ahead at))
    by (Ok x) s told e = ap (λ s. answer f s (ahead at)) e ∙ holds p (λ y. read y (ahead at)) (sym told) refl
    by (Err g) s told e = ap (λ s. answer f s (ahead at)) e ∙ breaks p (λ y. read y (ahead at)) (sym told)

-- a title that was checked is itself
pub title_same : (k : Kind) (t u : List ℕ) → title_check k t ≡ Ok u → u ≡ t
title_same k t u e = by (title_ok k t) e
  where
    by : (b : Bool) → ◌≡◌ {A = Result (List ℕ) Ground} (cond b (Ok t) (Err (Value Malformed))) (Ok u) → u ≡ t
    by true e = cc
    by false e = let z : ◌≡◌ {A = ℕ} 0 1 = cc in absurd (omega arith)
