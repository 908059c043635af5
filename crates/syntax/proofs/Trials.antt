-- A reading that may want memory, one step on. Assumes nothing.
use Rattle.std.proofs.Common.{◌≡◌, IsErrAnd, Ok, Err, Result, refl, ◌∙◌}
use Rattle.faults.specs.declared.error.ReadError.TheVariants.{Fault, Memory}
use Rattle.lexer.specs.Rows.{Row}
use Rattle.lexer.specs.Spots.{Spot, Standing, ahead}
use Rattle.syntax.specs.Faults.{TextFault}
use Rattle.syntax.specs.Errors.{TextError, Told, Tries}
use Rattle.syntax.specs.Reading.{Read, read, after, Reads}
use Rattle.syntax.proofs.Steps.{then, stop, fails, wants}

module _ {B C D : Type 0} (h : C → D) (k : B → Row → Read D) {from to : Spot} {r : Result C TextError} where
  -- out with the fault of a step
  pub tries_quits : {A : Type 0} {f : A → B} {g : Row → Read B} {e : TextFault} → Reads f g from (Err e) to → IsErrAnd r (λ y. y ≡ Fault e) → Tries h (λ row. after (g row) k) from r to
  tries_quits s x = record { text = s.text; stands = s.stands; told = λ n. fails h _ _ r x (stop k (s.answers n)) }

  -- on past a step
  pub tries_goes : {A : Type 0} {f : A → B} {g : Row → Read B} {x : A} {mid : Spot} → Reads f g from (Ok x) mid → Tries h (k (f x)) mid r to → Tries h (λ row. after (g row) k) from r to
  tries_goes {f} {x} {mid} a b = record { text = b.text ∙ a.text; stands = λ n. b.stands (a.stands n); told = λ n. on r (a.answers n) (b.told (a.stands n)) }
    where
      on : (r : Result C TextError) {m : Read B} → read (f x) (ahead mid) ≡ m → Told r h (ahead to) (k (f x) (ahead mid)) → Told r h (ahead to) (after m k)
      on (Ok y) e t = then k e t
      on (Err (Fault g)) e t = then k e t
      on (Err Memory) e t = tt

-- out for want of memory
pub tries_wants : {C D : Type 0} (h : C → D) (g : Row → Read D) {from to : Spot} {r : Result C TextError} → to.text ≡ from.text → (Standing from → Standing to) → IsErrAnd r (λ y. y ≡ Memory) → Tries h g from r to
tries_wants h g {r} e s x = record { text = e; stands = s; told = λ _. wants h _ _ r x }

-- the last step
pub tries_done : {C D : Type 0} (h : C → D) (x : C) (at : Spot) → Tries h (λ row. read (h x) row) at (Ok x) at
tries_done h x at = record { text = refl; stands = λ n. n; told = λ _. refl }
