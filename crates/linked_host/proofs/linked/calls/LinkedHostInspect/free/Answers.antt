use Rattle.std.proofs.Common.{◌≡◌, ◌<◌, Bool, true, false, not, count_by, get_or, length, sym, refl, ap, ◌∙◌, arith}
use Rattle.std.proofs.lemmas.List.{take_all}
use Rattle.std.proofs.lemmas.List.Sums.{count_by_more_yes, count_by_more_no}
use Rattle.linked_host.specs.Arenas.{slots_of, entries}
use Rattle.linked_host.specs.Lookups.{is_free, free_or_live}
use Rattle.linked_host.specs.Scans.{fit_views}
use Rattle.linked_host.specs.Written.{length_from}
use Rattle.linked_host.proofs.linked.calls.LinkedHostInspect.free.Goals as goal
use Rattle.linked_host.proofs.linked.calls.LinkedHostInspect.free.Goals.{then-is_none, else-is_none}

pub loop-slot-init : goal.loop-slot-init
loop-slot-init c = (refl, omega arith)

pub overflow_add-n : goal.overflow_add-n
overflow_add-n c =
    let h = c.args.self.now in
    omega (arith, c.loop-slot.invariant.1, c.loop-slot-test.true, h.high, h.arena.slots.ok.0, ap length c.deref-slot-items.ensures.value)

pub loop-slot-preserved : goal.loop-slot-preserved
loop-slot-preserved c =
    let h = c.args.self.now in
    let rs = slots_of h.arena in
    let i = c.loop-slot.slot-index in
    let x = c.slot-item.result in
    let items : c.deref-slot-items.result.now ≡ rs = c.deref-slot-items.ensures.value in
    let within : i < length rs = omega (arith, c.loop-slot-test.true, ap length items) in
    let here : x ≡ get_or rs i x = c.slot-item.is ∙ ap (λ l. get_or l i x) items in
    let free : (b : Bool) → c.is_none.result ≡ b → is_free (get_or rs i x) ≡ not (not b) = λ b e. ap is_free (sym here) ∙ ap not c.is_none.ensures ∙ ap (λ b. not (not b)) e in
    elim c.if-is_none.branch [
      | then-is_none w ↦ (let k = count_by_more_yes is_free rs i x within (free true w.if-is_none.true) in (omega (arith, w.n-is, c.loop-slot.invariant.0), omega (arith, w.n-is, c.loop-slot.invariant.1)))
      | else-is_none w ↦ (let k = count_by_more_no is_free rs i x within (free false w.if-is_none.false) in (omega (arith, w.n-is, c.loop-slot.invariant.0), omega (arith, w.n-is, c.loop-slot.invariant.1)))
    ]

pub returns : goal.returns
returns c =
    let h = c.args.self.now in
    let rs = slots_of h.arena in
    let all = ap (count_by is_free) (take_all c.loop-slot.slot-index rs (omega (arith, c.loop-slot-test.false, ap length c.deref-slot-items.ensures.value))) in
    omega (arith, c.loop-slot.invariant.0, all, free_or_live rs, length_from (entries h.arena) (fit_views rs) h.distinct, h.arena.slots.ok.0)
