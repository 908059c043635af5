use Rattle.std.proofs.Common.{◌<◌, length, rules, arith}
use Rattle.records.proofs.Rows.{none_past_end, broken_within}
use Rattle.records.proofs.iter.RecordsIterator.next.Goals as goal

pub returns-in-Err-clause-steps : goal.returns-in-Err-clause-steps
returns-in-Err-clause-steps c =
    let bytes = c.args.self.now.bytes.now in
    let ends = none_past_end bytes (length bytes) (omega arith) in search rules

pub returns-in-Err-clause-goes : goal.returns-in-Err-clause-goes
returns-in-Err-clause-goes c =
    let s = c.args.self.now in
    let within : s.place < length s.bytes.now = broken_within s.bytes.now s.place s.place c.in-Err.ensures.0 in search rules
