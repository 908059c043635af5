use Rattle.std.proofs.Common.{◌≡◌, Bool, sym, refl, ap, ◌∙◌, subst}
use Rattle.lexer.specs.Spots.{Standing, ahead}
use Rattle.syntax.specs.Repeating.{Turn, repeated}
use Rattle.syntax.proofs.Loops.{loop_quits, loop_ends, loop_goes}
use Rattle.syntax.proofs.Readings.{quits, goes, done}
use Rattle.grammar.specs.Declarations.{Given, member, attributes}
use Rattle.grammar.proofs.Progress.{member_strict}
use Rattle.declarations.specs.Meanings.{subject_kind, given_of}
use Rattle.declarations.proofs.block.attribute_block.Goals as goal

pub loop-given-init : goal.loop-given-init
unfolding attributes
loop-given-init g c = (refl, refl, λ s. s, λ _. refl)

pub returns-in_err-given-clause-reads : goal.returns-in_err-given-clause-reads
unfolding member
returns-in_err-given-clause-reads g c =
    let i = c.loop-given.invariant in
    let k = subject_kind c.loop-given.given.subject in
    loop_quits (member k) _ _ _ i.1 i.2 i.3 given_of c.from_residual.ensures.1 (quits _ c.in_err-given.ensures.reads refl)

pub returns-in_err-next_closer-clause-reads : goal.returns-in_err-next_closer-clause-reads
unfolding member
returns-in_err-next_closer-clause-reads g c =
    let i = c.loop-given.invariant in
    let k = subject_kind c.loop-given.given.subject in
    loop_quits (member k) _ _ _ i.1 i.2 i.3 given_of c.from_residual-in_err-next_closer.ensures.1 (goes _ c.in_ok-given.ensures.reads (quits _ c.in_err-next_closer.ensures refl))

pub returns-then-branch-clause-reads : goal.returns-then-branch-clause-reads
unfolding member
returns-then-branch-clause-reads g c =
    let i = c.loop-given.invariant in
    let k = subject_kind c.loop-given.given.subject in
    let d = c.in_ok-given.given in
    let turn : Bool → Turn Given = λ b. record { state = given_of d; last = b } in
    loop_ends (member k) _ _ _ i.1 i.2 i.3 given_of d (goes _ c.in_ok-given.ensures.reads (goes _ c.in_ok-next_closer.ensures (done (λ t. t) _ (ap turn (sym c.if-branch.true)))))

pub loop-given-preserved : goal.loop-given-preserved
unfolding member
loop-given-preserved g c =
    let spot = g.R.Tokens.spot in
    let from = spot c.args.reader.now in
    let i = c.loop-given.invariant in
    let k = subject_kind c.loop-given.given.subject in
    let d = c.in_ok-given.given in
    let turn : Bool → Turn Given = λ b. record { state = given_of d; last = b } in
    let t = goes _ c.in_ok-given.ensures.reads (goes _ c.in_ok-next_closer.ensures (done (λ t. t) _ (ap turn (sym c.if-branch.false)))) in
    let kept = c.in_ok-given.ensures.kept in (
      kept ∙ i.0,
      t.text ∙ i.1,
      λ s. t.stands (i.2 s),
      subst (λ u. Standing from → repeated (member (subject_kind u)) (given_of d) (ahead (spot c.next_closer.new.reader)) ≡ attributes (subject_kind c.args.subject) (ahead from)) (sym kept)
          (loop_goes (member k) _ (attributes (subject_kind c.args.subject)) from i.1 i.2 i.3 (member_strict k _) t),
    )
