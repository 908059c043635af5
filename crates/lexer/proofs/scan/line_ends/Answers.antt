use Rattle.std.proofs.Common.{sym, ◌∙◌, rules}
use Rattle.std.proofs.iter.runs.Made.{chains}
use Rattle.lexer.proofs.Lines.{lines_counted}
use Rattle.lexer.proofs.scan.line_ends.Goals as goal

pub returns : goal.returns
returns c = search (rules, chains) ∙ sym (lines_counted c.args.bytes.now)
