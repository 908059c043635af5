use Rattle.std.proofs.Common.{arith}
use Rattle.std.proofs.lemmas.Grind.{common_steps}
use Rattle.std.proofs.lemmas.Bool.Decides.{nat_tests}
use Rattle.lexer.proofs.Steps.{word_answer}
use Rattle.lexer.proofs.cursor.Cursor.token.Goals as goal

pub returns-in-a-to-z-clause-answer : goal.returns-in-a-to-z-clause-answer
returns-in-a-to-z-clause-answer c = λ s.
    word_answer _ _ s.right _ _ c.rest-rest.ensures c.letters-n.ensures.value (omega (arith, c.in-Some.ensures)) (grind (arith, common_steps, nat_tests))
