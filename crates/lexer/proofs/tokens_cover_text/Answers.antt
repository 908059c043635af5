use Rattle.lexer.proofs.Cover.{covered}
use Rattle.lexer.proofs.tokens_cover_text.Goals as goal

pub returns : goal.returns
returns c = covered
