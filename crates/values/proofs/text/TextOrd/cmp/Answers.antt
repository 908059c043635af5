use Rattle.std.proofs.Common.{rules}
use Rattle.values.specs.Held.{held}
use Rattle.values.proofs.Orders.{order_says}
use Rattle.values.proofs.text.TextOrd.cmp.Goals as goal

pub returns-clause-ordered : goal.returns-clause-ordered
returns-clause-ordered g c = order_says (held c.args.self.now) (held c.args.other.now) c.cmp.result (search rules)
