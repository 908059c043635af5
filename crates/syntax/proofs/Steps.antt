-- A reading, one step on. Assumes nothing.
use Rattle.std.proofs.Common.{◌≡◌, ℕ, IsErrAnd, Some, None, Ok, Err, Option, Result, refl, ap, ◌∙◌, arith}
use Rattle.std.specs.Option.{ok_or}
use Rattle.lexer.specs.Rows.{Row}
use Rattle.lexer.specs.declared.position.Position.{Position}
use Rattle.lexer.specs.declared.fault.LexFault.{LexFault}
use Rattle.syntax.specs.declared.fault.Ground.{Ground}
use Rattle.syntax.specs.declared.fault.Ground.TheVariants.{NoToken}
use Rattle.faults.specs.declared.error.ReadError.TheVariants.{Fault, Memory}
use Rattle.syntax.specs.Errors.{TextError, Told}
use Rattle.syntax.specs.Faults.{TextFault, fault_at, no_token}
use Rattle.syntax.specs.Reading.{Read, read, refused, after, or_refuse, checked, answer}

-- what the exit of a `?` answers
pub exits : {A B : Type 0} (f : A → B) (r : Result A TextFault) (q : Row) {e : TextFault} → IsErrAnd r (λ y. y ≡ e) → answer f r q ≡ refused e
exits f (Ok x) q h = absurd h
exits f (Err y) q h = ap refused h

-- the same of a fault of the tokens
pub breaks_off : {A B : Type 0} (f : A → B) (r : Result A TextFault) (q : Row) {e : LexFault} → IsErrAnd r (λ l. (l.ground ≡ NoToken) × (l.at ≡ e.at)) → answer f r q ≡ refused (no_token e)
breaks_off f (Ok x) q h = absurd h
breaks_off f (Err l) q h = λ i. refused (record { ground = h.0 i; at = h.1 i })

-- on past a step, or out with its fault
module _ {A B : Type 0} (k : A → Row → Read B) {m : Read A} where
  pub then : {x : A} {q : Row} {y : Read B} → read x q ≡ m → y ≡ k x q → y ≡ after m k
  unfolding after
  then e n = n ∙ ap (λ m. after m k) e

  pub stop : {f : TextFault} → refused f ≡ m → refused f ≡ after m k
  unfolding after
  stop e = ap (λ m. after m k) e

module _ {A B : Type 0} (why : Ground) (at : Position) (k : A → Read B) {o : Option A} where
  pub there : {x : A} {y : Read B} → Some x ≡ o → y ≡ k x → y ≡ or_refuse o why at k
  unfolding or_refuse
  there e n = n ∙ ap (λ o. or_refuse o why at k) e

  pub missing : None ≡ o → refused (fault_at at why) ≡ or_refuse o why at k
  unfolding or_refuse
  missing e = ap (λ o. or_refuse o why at k) e

module _ {A B : Type 0} (at : Position) (k : A → Read B) {o : Result A Ground} where
  pub holds : {x : A} {y : Read B} → Ok x ≡ o → y ≡ k x → y ≡ checked o at k
  unfolding checked
  holds e n = n ∙ ap (λ o. checked o at k) e

  pub breaks : {g : Ground} → Err g ≡ o → refused (fault_at at g) ≡ checked o at k
  unfolding checked
  breaks e = ap (λ o. checked o at k) e

-- what `ok_or` answers
pub lacks : {T : Type 0} {e f : TextFault} (t : Option T) → Err e ≡ ok_or t f → (t ≡ None) × (e ≡ f)
lacks (Some x) h = let z : ◌≡◌ {A = ℕ} 0 1 = cc in absurd (omega arith)
lacks None h = (refl, cc)

-- the exits of a function that may want memory
module _ {A B : Type 0} (x : A → B) (q : Row) (m : Read B) where
  pub fails : (r : Result A TextError) {f : TextFault} → IsErrAnd r (λ y. y ≡ Fault f) → refused f ≡ m → Told r x q m
  fails (Ok y) h e = absurd h
  fails (Err (Fault g)) {f} h e = let z : g ≡ f = cc in ap refused z ∙ e
  fails (Err Memory) h e = tt

  pub wants : (r : Result A TextError) → IsErrAnd r (λ y. y ≡ Memory) → Told r x q m
  wants (Ok y) h = absurd h
  wants (Err (Fault g)) h = let z : ◌≡◌ {A = ℕ} 0 1 = cc in absurd (omega arith)
  wants (Err Memory) h = tt

  -- what a callee of this kind was told, and how its fault stops the reading
  pub passes : {C D : Type 0} (y : C → D) (p : Row) (n : Read D) (r : Result A TextError) (e : TextError) → IsErrAnd r (λ y. y ≡ e) → Told (Err e) y p n → ((f : TextFault) → refused f ≡ n → refused f ≡ m) → Told r x q m
  passes y p n r (Fault f) h t k = fails r h (k f t)
  passes y p n r Memory h t k = wants r h
