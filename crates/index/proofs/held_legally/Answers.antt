use Rattle.index.proofs.Held as held
use Rattle.index.proofs.held_legally.Goals as goal

pub returns : goal.returns
returns c = held.held_legally
