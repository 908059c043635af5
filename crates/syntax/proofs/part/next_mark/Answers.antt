use Rattle.std.proofs.Common.{rules}
use Rattle.syntax.specs.Tokens.{the_mark}
use Rattle.syntax.proofs.Readings.{hands_on}
use Rattle.syntax.proofs.Tokens.{picked}
use Rattle.syntax.proofs.part.next_mark.Goals as goal

pub returns-in_err-next_as : goal.returns-in_err-next_as
returns-in_err-next_as g c = hands_on (picked (λ u. u) (the_mark c.args.wanted) c.in_err-next_as.ensures (λ t o h. search rules)) c.from_residual.ensures.1

pub returns : goal.returns
returns g c =
    let p = picked (λ u. u) (the_mark c.args.wanted) c.in_ok-next_as.ensures (λ t o h. search rules) in
    record { text = p.text; stands = p.stands; answers = p.answers }
