use Rattle.std.proofs.Common.{drop, refl, arith, length-drop}
use Rattle.std.proofs.lemmas.List.Sums.{prefix_len-le-length}
use Rattle.lexer.specs.Bytes.{in_line}
use Rattle.lexer.proofs.Lines.{lines_within, stands_past}
use Rattle.lexer.proofs.cursor.Cursor.along.Goals as goal

pub overflow_add-result : goal.overflow_add-result
overflow_add-result c =
    let at = c.args.self.now.at in
    let text = c.args.self.now.text.now in
    omega (arith, prefix_len-le-length in_line (drop at.place text), length-drop at.place text)

pub returns-clause-within : goal.returns-clause-within
returns-clause-within c = λ h.
    let at = c.args.self.now.at in
    let text = c.args.self.now.text.now in
    omega (arith, prefix_len-le-length in_line (drop at.place text), length-drop at.place text)

pub returns-clause-stands : goal.returns-clause-stands
returns-clause-stands c = λ s.
    let at = c.args.self.now.at in
    let text = c.args.self.now.text.now in
    let none = lines_within (drop at.place text) c.args.n c.requires in
    stands_past text at _ c.args.n s (omega (arith, prefix_len-le-length in_line (drop at.place text), length-drop at.place text)) refl (omega arith)
