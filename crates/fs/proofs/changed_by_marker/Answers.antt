use Rattle.fs.proofs.Traces.{changed_by_marker}
use Rattle.fs.proofs.changed_by_marker.Goals as goal

pub returns : goal.returns
returns c = changed_by_marker
