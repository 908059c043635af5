use Rattle.index.proofs.Stops as stops
use Rattle.index.proofs.refused_at_first_fault.Goals as goal

pub returns : goal.returns
returns c = stops.refused_at_first_fault
