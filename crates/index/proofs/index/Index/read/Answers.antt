use Rattle.std.proofs.Common.{is_ok, Ok, Some, ap, ◌∙◌, subst, inr, arith, rules, tests}
use Rattle.records.specs.Lefts.{Gives}
use Rattle.records.specs.Rows.{row_from}
use Rattle.index.specs.Indexes.{index_of}
use Rattle.index.proofs.Turns.{added_ok, reads_on, begins, stops}
use Rattle.index.proofs.index.Index.read.Goals as goal
use Rattle.index.proofs.index.Index.read.Goals.{After-take_in}

taken : (c : After-take_in) → Gives c.loop-record.record-iterator (Some (Ok c.in_ok-record.record)) c.next.new.self
taken c = subst (λ o. Gives c.loop-record.record-iterator (Some o) c.next.new.self) c.in_ok-record.was c.in-Some.ensures.steps

pub loop-record-preserved : goal.loop-record-preserved
loop-record-preserved c =
    let h = (taken (goal.at.loop-record-preserved c).After-take_in).0 in
    let ps = index_of c.loop-record.index in
    let qs = index_of c.take_in.new.self in
    let whole = row_from c.args.bytes.now 0 in
    let a = added_ok ps qs _ c.take_in.result c.take_in.ensures c.in_ok-map_err.ensures.variant in
    (tt, tt, reads_on whole _ _ ps _ _ _ h qs a ∙ c.loop-record.invariant.2, inr (begins whole _ _ ps _ _ _ h c.loop-record.invariant.3 (ap is_ok a)))

pub returns-in_err-map_err : goal.returns-in_err-map_err
returns-in_err-map_err c =
    let h = (taken (goal.at.returns-in_err-map_err c).After-take_in).0 in
    stops c.args.bytes.now _ _ (index_of c.loop-record.index) _ _ _ h (omega arith) c.loop-record.invariant.2 c.loop-record.invariant.3 c.take_in.result (index_of c.take_in.new.self) c.map_err.result c.from_residual-in_err-map_err.result c.take_in.ensures (search (rules, tests)) _ c.in_err-map_err.was c.from_residual-in_err-map_err.ensures.1
