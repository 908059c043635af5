use Rattle.std.proofs.Common.{sym, refl, ap, ◌∙◌}
use Rattle.lexer.specs.Rows.{placed_sight}
use Rattle.syntax.proofs.Steps.{breaks_off}
use Rattle.grammar.specs.Declarations.{is_true}
use Rattle.declarations.proofs.Blocks.{closes_tested, closed_behind, open_behind, broken_behind}
use Rattle.declarations.proofs.block.last_comma.Goals as goal

pub returns-in_err-t : goal.returns-in_err-t
returns-in_err-t g c = record {
  text = refl;
  stands = λ s. s;
  answers = λ s. breaks_off (λ b. b) _ _ c.from_residual.ensures.1 ∙ broken_behind _ _ (c.in_err-t.ensures.row s);
}

pub returns-then-eq : goal.returns-then-eq
returns-then-eq g c =
    let t = c.in_ok-t.t in
    let e = sym (closes_tested _) ∙ sym c.eq.ensures ∙ c.if-eq.true in
    record {
      text = c.in_ok-t.ensures.text;
      stands = c.in_ok-t.ensures.stands;
      answers = λ s. closed_behind (placed_sight t) _ _ (c.in_ok-t.ensures.row s) (ap is_true (sym (c.closer_in.ensures t.at)) ∙ e);
    }

pub returns : goal.returns
returns g c =
    let t = c.in_ok-t.t in
    let e = sym (closes_tested _) ∙ sym c.eq.ensures ∙ c.if-eq.false in
    record {
      text = refl;
      stands = λ s. s;
      answers = λ s. open_behind (placed_sight t) _ _ (c.in_ok-t.ensures.row s) (ap is_true (sym (c.closer_in.ensures t.at)) ∙ e);
    }
