use Rattle.std.proofs.Common.{length}
use Rattle.values.specs.Texts.{path_text}
use Rattle.linked_host.proofs.linked.LinkedHost.+find.Given as goal

abbrev pub decreases-find : goal.decreases-find
decreases-find l = length (path_text l.p.now)
