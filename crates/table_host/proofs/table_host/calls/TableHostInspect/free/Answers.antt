use Rattle.std.proofs.Common.{arith}
use Rattle.table_host.specs.Kept.{count_of}
use Rattle.table_host.proofs.table_host.calls.TableHostInspect.free.Goals as goal

pub returns : goal.returns
returns c = omega (arith, count_of c.args.self.now)
