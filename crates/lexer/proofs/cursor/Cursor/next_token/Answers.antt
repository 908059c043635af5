use Rattle.std.proofs.Common.{Ok, rules}
use Rattle.lexer.proofs.Rows.{row_step}
use Rattle.lexer.proofs.cursor.Cursor.next_token.Goals as goal

pub returns-in_err-part-clause-row : goal.returns-in_err-part-clause-row
returns-in_err-part-clause-row c = λ s. row_step _ _ _ c.along-self.result s.within (search rules)

pub returns-clause-row : goal.returns-clause-row
returns-clause-row c = λ s. row_step _ _ (Ok (record { part = c.in_ok-part.part; at = c.past-self.result })) c.along-self.result s.within (search rules)
