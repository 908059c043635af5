use Rattle.std.proofs.Common.{sym, refl, ◌∙◌}
use Rattle.std.proofs.lemmas.Bool.{cond-true, cond-false}
use Rattle.syntax.proofs.Readings.{quits, goes}
use Rattle.syntax.proofs.Tokens.{picked_itself}
use Rattle.grammar.specs.Declarations.{closer_of, closing}
use Rattle.declarations.proofs.block.next_closer.Goals as goal

pub returns-in_err-next_as : goal.returns-in_err-next_as
unfolding closing
returns-in_err-next_as g c = quits _ (picked_itself closer_of c.in_err-next_as.ensures (λ t o h. h.1)) c.from_residual.ensures.1

pub returns-then-branch : goal.returns-then-branch
unfolding closing
returns-then-branch g c =
    goes _ (picked_itself closer_of c.in_ok-next_as.ensures (λ t o h. h.1)) (record { text = refl; stands = λ s. s; answers = λ _. sym (cond-true _ _ _ c.if-branch.true) })

pub returns : goal.returns
unfolding closing
returns g c =
    let l = c.last_comma.ensures in
    goes _ (picked_itself closer_of c.in_ok-next_as.ensures (λ t o h. h.1)) (record { text = l.text; stands = l.stands; answers = λ s. l.answers s ∙ sym (cond-false _ _ _ c.if-branch.false) })
