use Rattle.std.proofs.Common.{refl}
use Rattle.records.proofs.Rows.{head}
use Rattle.records.proofs.row.record_at.Goals as goal

pub returns-in-Some : goal.returns-in-Some
returns-in-Some c = let body = c.in-Some.ensures.lookup.0 in head _ _ _ _ _ _ _ c.bytes_from.ensures c.in-len4-up.len_at_least c.word-size.ensures c.word-kind.ensures body.1 body.2 refl
