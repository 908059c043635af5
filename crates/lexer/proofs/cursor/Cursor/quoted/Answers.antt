use Rattle.std.proofs.Common.{◌+◌, ◌≤◌, length, drop, sym, ap, ◌∙◌, arith, length-drop}
use Rattle.std.proofs.lemmas.Grind.{common_steps}
use Rattle.std.proofs.lemmas.List.{drop-drop}
use Rattle.lexer.specs.Lexing.{quote_stop}
use Rattle.lexer.proofs.Steps.{end_unclosed, end_wrong, unclosed_answer, closed_answer, wrong_answer}
use Rattle.lexer.proofs.cursor.Cursor.quoted.Goals as goal

pub returns-in-None-clause-answer : goal.returns-in-None-clause-answer
returns-in-None-clause-answer c = λ s.
    unclosed_answer _ _ s.right _ _ c.plain-n.ensures.value (grind (arith, common_steps))

pub returns-in-Some-clause-answer : goal.returns-in-Some-clause-answer
returns-in-Some-clause-answer c = λ s.
    let self = c.args.self.now in
    closed_answer _ _ s.right _ _ c.plain-n.ensures.value (grind (arith, common_steps)) (grind (arith, common_steps)) (ap (drop 1) (sym c.requires) ∙ drop-drop 1 self.at.place self.text.now)

pub returns-in-Some-2-clause-answer : goal.returns-in-Some-2-clause-answer
returns-in-Some-2-clause-answer c = λ s.
    wrong_answer _ _ s.right _ _ c.plain-n.ensures.value (grind (arith, common_steps)) (grind (arith, common_steps)) _ c.along-stop.ensures.place (c.along-stop.ensures.stands s).right

pub returns-in-Some-2-clause-refused : goal.returns-in-Some-2-clause-refused
returns-in-Some-2-clause-refused c =
    let self = c.args.self.now in
    let w = end_wrong (self.at.place + 1) c.args.inner.now c.plain-n.result c.plain-n.ensures.value (grind (arith, common_steps)) (grind (arith, common_steps)) in
    omega (arith, ap (quote_stop self.text.now self.at.place) w)

pub returns-in-None-clause-refused : goal.returns-in-None-clause-refused
returns-in-None-clause-refused c =
    let self = c.args.self.now in
    let h : length c.args.inner.now ≤ c.plain-n.result = grind (arith, common_steps) in
    let u = end_unclosed (self.at.place + 1) c.args.inner.now c.plain-n.result c.plain-n.ensures.value h in
    omega (arith, ap (quote_stop self.text.now self.at.place) u, ap length c.requires, length-drop self.at.place self.text.now)
