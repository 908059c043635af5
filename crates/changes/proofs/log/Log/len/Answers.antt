use Rattle.std.proofs.Common.{arith}
use Rattle.changes.proofs.Logged.{changes_length}
use Rattle.changes.proofs.log.Log.len.Goals as goal

pub returns : goal.returns
returns c = let l = c.args.self.now in (omega (arith, changes_length l), omega (arith, l.few))
