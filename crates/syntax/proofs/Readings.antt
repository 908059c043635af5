-- A reading, one step on. Assumes nothing.
use Rattle.std.proofs.Common.{◌≡◌, IsErrAnd, Some, None, Ok, Err, Option, Result, refl, ap, ◌∙◌}
use Rattle.std.specs.Option.{ok_or}
use Rattle.lexer.specs.Rows.{Row}
use Rattle.lexer.specs.Spots.{Spot, ahead}
use Rattle.lexer.specs.declared.position.Position.{Position}
use Rattle.syntax.specs.declared.fault.Ground.{Ground}
use Rattle.syntax.specs.Faults.{TextFault, fault_at}
use Rattle.syntax.specs.Reading.{Read, read, refused, after, or_refuse, Reads}
use Rattle.syntax.proofs.Steps.{exits, then, stop, there, missing, lacks}

-- a refusal as another function answers it
pub hands_on : {A C D : Type 0} {f : A → D} {g : Row → Read D} {h : C → D} {from to : Spot} {r : Result C TextFault} {e : TextFault} → Reads f g from (Err e) to → IsErrAnd r (λ y. y ≡ e) → Reads h g from r to
hands_on {h} s x = record { text = s.text; stands = s.stands; answers = λ n. exits h _ _ x ∙ s.answers n }

module _ {B C D : Type 0} {h : C → D} (k : B → Row → Read D) {from to : Spot} {r : Result C TextFault} where
  -- out with the fault of a step
  pub quits : {A : Type 0} {f : A → B} {g : Row → Read B} {e : TextFault} → Reads f g from (Err e) to → IsErrAnd r (λ y. y ≡ e) → Reads h (λ row. after (g row) k) from r to
  quits s x = record { text = s.text; stands = s.stands; answers = λ n. exits h _ _ x ∙ stop k (s.answers n) }

  -- on past a step
  pub goes : {A : Type 0} {f : A → B} {g : Row → Read B} {x : A} {mid : Spot} → Reads f g from (Ok x) mid → Reads h (k (f x)) mid r to → Reads h (λ row. after (g row) k) from r to
  goes a b = record { text = b.text ∙ a.text; stands = λ n. b.stands (a.stands n); answers = λ n. then k (a.answers n) (b.answers (a.stands n)) }

  -- on past what is there
  pub has : {o : Option B} (why : Ground) (at : Position) {x : B} → Some x ≡ o → Reads h (k x) from r to → Reads h (λ row. or_refuse o why at (λ y. k y row)) from r to
  has why at e b = record { text = b.text; stands = b.stands; answers = λ n. there why at _ e (b.answers n) }

-- out where nothing is there
pub misses : {B C D : Type 0} {h : C → D} (k : B → Row → Read D) {from : Spot} {o : Option B} (why : Ground) (at : Position) → None ≡ o → Reads h (λ row. or_refuse o why at (λ y. k y row)) from (Err (fault_at at why)) from
misses k {from} why at n = record { text = refl; stands = λ n. n; answers = λ _. missing why at (λ y. k y (ahead from)) n }

-- the same as `ok_or` and a `?` answer it
pub lacking : {B C D : Type 0} {h : C → D} (k : B → Row → Read D) {from : Spot} {r : Result C TextFault} {T : Type 0} (t : Option T) {o : Option B} {why : Ground} {at : Position} {e w : TextFault} → None ≡ o → Err e ≡ ok_or t w → w ≡ fault_at at why → IsErrAnd r (λ y. y ≡ e) → Reads h (λ row. or_refuse o why at (λ y. k y row)) from r from
lacking {h} k t {why} {at} n v p x = record { text = refl; stands = λ n. n; answers = λ _. exits h _ _ x ∙ ap refused ((lacks t v).1 ∙ p) ∙ missing why at _ n }

-- the last step
pub done : {C D : Type 0} (h : C → D) {x : C} {y : D} (at : Spot) → h x ≡ y → Reads h (λ row. read y row) at (Ok x) at
done h at e = record { text = refl; stands = λ n. n; answers = λ _. ap (λ z. read z (ahead at)) e }
