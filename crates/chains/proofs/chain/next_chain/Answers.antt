use Rattle.std.proofs.Common.{Bool, not, map, vec_items, sym, refl, ap, ◌∙◌}
use Rattle.faults.specs.declared.error.ReadError.TheVariants.{Fault}
use Rattle.syntax.specs.Repeating.{Turn, repeated}
use Rattle.syntax.proofs.Loops.{loop_quits, loop_ends, loop_goes}
use Rattle.syntax.proofs.Readings.{quits, goes, has, misses, done}
use Rattle.syntax.proofs.Trials.{tries_quits, tries_goes, tries_wants, tries_done}
use Rattle.grammar.specs.Chains.{Chained, chain_turn, chain}
use Rattle.grammar.proofs.Progress.{chain_turn_strict}
use Rattle.grammar.proofs.Rooms.{room_some, room_none}
use Rattle.chains.specs.Meanings.{ref_of, link_of}
use Rattle.chains.proofs.Fronts.{front_more}
use Rattle.chains.proofs.chain.next_chain.Goals as goal

pub returns-in_err-left-clause-reads : goal.returns-in_err-left-clause-reads
unfolding chain
returns-in_err-left-clause-reads g c = tries_quits _ _ c.in_err-left.ensures c.from_residual.ensures.1

pub returns-in_err-next-clause-reads : goal.returns-in_err-next-clause-reads
unfolding chain chain_turn
returns-in_err-next-clause-reads g c =
    let i = c.loop-next.invariant in
    tries_goes _ _ c.in_ok-left.ensures (tries_quits _ _ (loop_quits chain_turn _ _ _ i.1 i.2 i.3 (λ (s : Chained). s) refl (quits _ c.in_err-next.ensures refl)) c.from_residual-in_err-next.ensures.1)

pub returns-then-len-ge-LINKS_MAX-clause-reads : goal.returns-then-len-ge-LINKS_MAX-clause-reads
unfolding chain chain_turn
returns-then-len-ge-LINKS_MAX-clause-reads g c =
    let i = c.loop-next.invariant in
    let full = room_none link_of 64 c.loop-next.links _ c.len.ensures _ c.if-len-ge-LINKS_MAX.true in
    tries_goes _ _ c.in_ok-left.ensures (tries_quits _ _ (loop_quits chain_turn _ _ _ i.1 i.2 i.3 (λ (s : Chained). s) refl (goes _ c.in_ok-next.ensures (misses _ _ _ full))) (c.into.ensures ∙ ap Fault c.at.ensures))

pub returns-in_err-push-clause-reads : goal.returns-in_err-push-clause-reads
returns-in_err-push-clause-reads g c =
    let i = c.loop-next.invariant in
    tries_wants _ _ (c.in_ok-next.ensures.text ∙ i.1 ∙ c.in_ok-left.ensures.text) (λ s. c.in_ok-next.ensures.stands (i.2 (c.in_ok-left.ensures.stands s))) c.from_residual-in_err-push.ensures.1

pub returns-in_err-sees_arrow-clause-reads : goal.returns-in_err-sees_arrow-clause-reads
unfolding chain chain_turn
returns-in_err-sees_arrow-clause-reads g c =
    let i = c.loop-next.invariant in
    let r = room_some link_of 64 c.loop-next.links _ c.len.ensures _ _ c.if-len-ge-LINKS_MAX.false c.in_ok-push.ensures.items in
    tries_goes _ _ c.in_ok-left.ensures (tries_quits _ _ (loop_quits chain_turn _ _ _ i.1 i.2 i.3 (λ (s : Chained). s) refl (goes _ c.in_ok-next.ensures (has _ _ _ r (quits _ c.in_err-sees_arrow.ensures refl)))) c.from_residual-in_err-sees_arrow.ensures.1)

pub returns-then-not-branch-clause-reads : goal.returns-then-not-branch-clause-reads
unfolding chain chain_turn
returns-then-not-branch-clause-reads g c =
    let i = c.loop-next.invariant in
    let r = room_some link_of 64 c.loop-next.links _ c.len.ensures _ _ c.if-len-ge-LINKS_MAX.false c.in_ok-push.ensures.items in
    let state : Chained = record { left = ref_of c.in_ok-next.next.right; links = map link_of (vec_items c.push.new.self) } in
    let made : Bool → Turn Chained = λ x. record { state = state; last = not x } in
    let turn = goes _ c.in_ok-next.ensures (has _ _ _ r (goes _ c.in_ok-sees_arrow.ensures (done (λ t. t) _ (ap made (sym c.if-not-branch.true))))) in
    tries_goes _ _ c.in_ok-left.ensures (tries_goes _ _ (loop_ends chain_turn _ _ _ i.1 i.2 i.3 (λ (s : Chained). s) state turn) (tries_done _ tt _))

pub loop-next-preserved : goal.loop-next-preserved
unfolding chain_turn
loop-next-preserved g c =
    let i = c.loop-next.invariant in
    let r = room_some link_of 64 c.loop-next.links _ c.len.ensures _ _ c.if-len-ge-LINKS_MAX.false c.in_ok-push.ensures.items in
    let state : Chained = record { left = ref_of c.in_ok-next.next.right; links = map link_of (vec_items c.push.new.self) } in
    let made : Bool → Turn Chained = λ x. record { state = state; last = not x } in
    let turn = goes _ c.in_ok-next.ensures (has _ _ _ r (goes _ c.in_ok-sees_arrow.ensures (done (λ t. t) _ (ap made (sym c.if-not-branch.false))))) in (
      front_more (vec_items c.args.links.now) (vec_items c.loop-next.links) _ _ c.in_ok-push.ensures.items i.0,
      c.in_ok-next.ensures.text ∙ i.1,
      λ s. c.in_ok-next.ensures.stands (i.2 s),
      loop_goes chain_turn _ (repeated chain_turn (record { left = ref_of c.in_ok-left.left; links = map link_of (vec_items c.args.links.now) })) (g.R.Tokens.spot c.next_bracketed.new.reader) i.1 i.2 i.3 (chain_turn_strict _) turn,
    )
