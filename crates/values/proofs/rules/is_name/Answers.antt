use Rattle.std.proofs.Common.{rules}
use Rattle.values.specs.Comparing.{same_is}
use Rattle.values.proofs.Scan.{name_rest}
use Rattle.values.proofs.rules.is_name.Goals as goal

pub returns-then-ne-2 : goal.returns-then-ne-2
returns-then-ne-2 c = search (rules, same_is, name_rest)
