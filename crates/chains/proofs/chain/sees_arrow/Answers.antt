use Rattle.std.proofs.Common.{is_some, refl, ap, ◌∙◌}
use Rattle.lexer.specs.Rows.{placed_sight}
use Rattle.lexer.specs.Spots.{ahead}
use Rattle.syntax.specs.Reading.{read}
use Rattle.syntax.proofs.Steps.{breaks_off}
use Rattle.chains.proofs.Arrows.{seen_follows, broken_follows}
use Rattle.chains.proofs.chain.sees_arrow.Goals as goal

pub returns-in_err-t : goal.returns-in_err-t
returns-in_err-t g c = record { text = refl; stands = λ s. s; answers = λ s. breaks_off (λ b. b) _ _ c.from_residual.ensures.1 ∙ broken_follows _ _ (c.in_err-t.ensures.row s) }

pub returns : goal.returns
returns g c =
    let t = c.in_ok-t.t in
    let row = ahead (g.R.Tokens.spot c.args.reader) in
    record {
      text = refl;
      stands = λ s. s;
      answers = λ s. ap (λ b. read b row) (c.is_some.ensures ∙ ap is_some (c.arrow_in.ensures t.at)) ∙ seen_follows (placed_sight t) _ _ (c.in_ok-t.ensures.row s);
    }
