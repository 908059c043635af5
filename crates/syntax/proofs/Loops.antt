-- A reading that repeats a step, one turn on. Assumes nothing.
use Rattle.std.proofs.Common.{◌≡◌, true, false, IsErrAnd, Ok, Err, Result, sym, ◌∙◌}
use Rattle.lexer.specs.Rows.{Row}
use Rattle.lexer.specs.Spots.{Spot, Standing, ahead}
use Rattle.syntax.specs.Faults.{TextFault}
use Rattle.syntax.specs.Reading.{Read, Reads}
use Rattle.syntax.specs.Repeating.{Turn, repeated}
use Rattle.syntax.proofs.Progress.{Strict, left_below}
use Rattle.syntax.proofs.Steps.{exits}
use Rattle.syntax.proofs.Turns.{turn_more, turn_last, turn_fault}

-- what is left at `mid` is read, from the state s on, as the whole is at `from`
module _ {S : Type 0} (step : S → Row → Read (Turn S)) (s : S) (whole : Row → Read S) (from : Spot) {mid to : Spot} (text : mid.text ≡ from.text) (stands : Standing from → Standing mid) (left : Standing from → repeated step s (ahead mid) ≡ whole (ahead from)) where
  -- out with the fault of a turn
  pub loop_quits : {C : Type 0} (h : C → S) {r : Result C TextFault} {e : TextFault} → IsErrAnd r (λ y. y ≡ e) → Reads {A = Turn S} (λ t. t) (step s) mid (Err e) to → Reads h whole from r to
  loop_quits h x t = record { text = t.text ∙ text; stands = λ n. t.stands (stands n); answers = λ n. exits h _ _ x ∙ sym (turn_fault step s _ (t.answers (stands n))) ∙ left n }

  -- out with the last turn
  pub loop_ends : {C : Type 0} (h : C → S) (x : C) → Reads {A = Turn S} (λ t. t) (step s) mid (Ok (record { state = h x; last = true })) to → Reads h whole from (Ok x) to
  loop_ends h x t = record { text = t.text ∙ text; stands = λ n. t.stands (stands n); answers = λ n. sym (turn_last step s _ _ (t.answers (stands n))) ∙ left n }

  -- on with the state that a turn leaves
  pub loop_goes : {u : S} → ((row : Row) → Strict row (step s row)) → Reads {A = Turn S} (λ t. t) (step s) mid (Ok (record { state = u; last = false })) to → Standing from → repeated step u (ahead to) ≡ whole (ahead from)
  loop_goes strict t n =
      let a = t.answers (stands n) in
      sym (turn_more step s _ _ a (left_below _ (strict _) a)) ∙ left n
