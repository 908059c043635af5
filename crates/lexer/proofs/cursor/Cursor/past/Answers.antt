use Rattle.std.proofs.Common.{refl, arith}
use Rattle.lexer.proofs.Lines.{line_fits_past, stands_past}
use Rattle.lexer.proofs.cursor.Cursor.past.Goals as goal

pub returns-clause-stands : goal.returns-clause-stands
returns-clause-stands c = λ s.
    let at = c.args.self.now.at in
    let fits = line_fits_past _ at c.args.n s c.requires.within in
    stands_past _ at _ c.args.n s c.requires.within refl (grind arith)
