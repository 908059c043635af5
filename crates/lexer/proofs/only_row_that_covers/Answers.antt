use Rattle.lexer.proofs.Only.{only_cover}
use Rattle.lexer.proofs.only_row_that_covers.Goals as goal

pub returns : goal.returns
returns c = only_cover
