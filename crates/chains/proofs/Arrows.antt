-- Whether an arrow comes next, by what the lexer answers. Assumes nothing.
use Rattle.std.proofs.Common.{◌≡◌, ℕ, is_some, ap, arith}
use Rattle.lexer.specs.Lexing.{Seen, seen, end}
use Rattle.lexer.specs.Rows.{Row, token, ended, broken, parsed, failed, next}
use Rattle.lexer.specs.declared.fault.LexFault.{LexFault}
use Rattle.syntax.specs.Faults.{no_token}
use Rattle.syntax.specs.Reading.{read, refused}
use Rattle.syntax.specs.Tokens.{of_seen}
use Rattle.grammar.specs.Chains.{arrow_of, arrow_follows}

pub seen_follows : (s : Seen) (q row : Row) → parsed s q ≡ next row → read (is_some (of_seen arrow_of s)) row ≡ arrow_follows row
unfolding next arrow_follows
seen_follows s q (token l at r) e = let a : s ≡ seen l at = cc in ap (λ s. read (is_some (of_seen arrow_of s)) (token l at r)) a
seen_follows s q (ended at) e = let a : s ≡ end at = cc in ap (λ s. read (is_some (of_seen arrow_of s)) (ended at)) a
seen_follows s q (broken b) e = let z : ◌≡◌ {A = ℕ} 0 1 = cc in absurd (omega arith)

pub broken_follows : (b : LexFault) (row : Row) → failed b ≡ next row → refused (no_token b) ≡ arrow_follows row
unfolding next arrow_follows
broken_follows b (token l at r) e = let z : ◌≡◌ {A = ℕ} 0 1 = cc in absurd (omega arith)
broken_follows b (ended at) e = let z : ◌≡◌ {A = ℕ} 0 1 = cc in absurd (omega arith)
broken_follows b (broken d) e = let z : b ≡ d = cc in ap (λ b. refused (no_token b)) z
