use Rattle.std.proofs.Common.{rules}
use Rattle.values.proofs.Scan.{parent_none, parent_at}
use Rattle.values.proofs.rules.parent_bytes.Goals as goal

pub returns-in-Some : goal.returns-in-Some
returns-in-Some c = parent_at c.args.s.now c.in-Some.i (search rules) (search rules) (search rules)

pub returns-in-None : goal.returns-in-None
returns-in-None c = parent_none c.args.s.now (search rules)
