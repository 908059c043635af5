-- The number of the refusal.
use Rattle.std.specs.Prelude.{ℕ}
use Rattle.lexer.specs.declared.fault.LexFault.{LexFault}

abbrev pub lex_fault_number : LexFault → ℕ
lex_fault_number f = 12
