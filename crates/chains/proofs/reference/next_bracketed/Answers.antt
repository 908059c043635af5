use Rattle.std.proofs.Common.{refl}
use Rattle.syntax.proofs.Readings.{quits, goes, done}
use Rattle.grammar.specs.Chains.{bracketed}
use Rattle.chains.specs.Meanings.{ref_of}
use Rattle.chains.proofs.reference.next_bracketed.Goals as goal

pub returns-in_err-next_mark : goal.returns-in_err-next_mark
unfolding bracketed
returns-in_err-next_mark g c = quits _ c.in_err-next_mark.ensures c.from_residual.ensures.1

pub returns-in_err-title : goal.returns-in_err-title
unfolding bracketed
returns-in_err-title g c = goes _ c.in_ok-next_mark.ensures (quits _ c.in_err-title.ensures c.from_residual-in_err-title.ensures.1)

pub returns-in_err-next_mark-2 : goal.returns-in_err-next_mark-2
unfolding bracketed
returns-in_err-next_mark-2 g c = goes _ c.in_ok-next_mark.ensures (goes _ c.in_ok-title.ensures (quits _ c.in_err-next_mark-2.ensures c.from_residual-in_err-next_mark-2.ensures.1))

pub returns : goal.returns
unfolding bracketed
returns g c = goes _ c.in_ok-next_mark.ensures (goes _ c.in_ok-title.ensures (goes _ c.in_ok-next_mark-2.ensures (done ref_of _ refl)))
