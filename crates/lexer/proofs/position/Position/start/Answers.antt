use Rattle.std.proofs.Common.{refl}
use Rattle.lexer.proofs.Lines.{start_stands}
use Rattle.lexer.proofs.position.Position.start.Goals as goal

pub returns : goal.returns
returns c = record { value = refl; stands = start_stands }
