-- What the code's parts of a block answer. Assumes nothing.
use Rattle.std.specs.Bool.{beq}
use Rattle.std.specs.Option.{option_eq}
use Rattle.std.proofs.Common.{◌≡◌, ℕ, Bool, true, false, cond, Some, None, Option, sym, refl, ap, ◌∙◌, arith}
use Rattle.std.proofs.lemmas.Bool.{cond-true, cond-false}
use Rattle.lexer.specs.Lexing.{Seen, seen, end}
use Rattle.lexer.specs.Rows.{Row, token, ended, broken, parsed, failed, next}
use Rattle.lexer.specs.declared.fault.LexFault.{LexFault}
use Rattle.syntax.specs.Faults.{no_token}
use Rattle.syntax.specs.Reading.{read, refused}
use Rattle.syntax.specs.Tokens.{of_seen}
use Rattle.grammar.specs.Declarations.{closer_of, is_true, last_comma}

-- the test for a closer that closes
pub closes_tested : (o : Option Bool) → option_eq beq o (Some true) ≡ is_true o
closes_tested None = refl
closes_tested (Some true) = refl
closes_tested (Some false) = refl

-- behind a comma, by what stands next
module _ (s : Seen) (q : Row) where
  last_seen : (row : Row) → parsed s q ≡ next row → last_comma row ≡ cond (is_true (of_seen closer_of s)) (read true q) (read false row)
  unfolding next last_comma
  last_seen (token l at r) e =
      let a : s ≡ seen l at = cc in
      let b : q ≡ r = cc in
      λ i. cond (is_true (of_seen closer_of (sym a i))) (read true (sym b i)) (read false (token l at r))
  last_seen (ended at) e =
      let a : s ≡ end at = cc in
      ap (λ s. cond (is_true (of_seen closer_of s)) (read true q) (read false (ended at))) (sym a)
  last_seen (broken b) e = let z : ◌≡◌ {A = ℕ} 0 1 = cc in absurd (omega arith)

  pub closed_behind : (row : Row) → parsed s q ≡ next row → is_true (of_seen closer_of s) ≡ true → read true q ≡ last_comma row
  closed_behind row e h = sym (last_seen row e ∙ cond-true _ _ _ h)

  pub open_behind : (row : Row) → parsed s q ≡ next row → is_true (of_seen closer_of s) ≡ false → read false row ≡ last_comma row
  open_behind row e h = sym (last_seen row e ∙ cond-false _ _ _ h)

pub broken_behind : (b : LexFault) (row : Row) → failed b ≡ next row → refused (no_token b) ≡ last_comma row
unfolding next last_comma
broken_behind b (token l at r) e = let z : ◌≡◌ {A = ℕ} 0 1 = cc in absurd (omega arith)
broken_behind b (ended at) e = let z : ◌≡◌ {A = ℕ} 0 1 = cc in absurd (omega arith)
broken_behind b (broken d) e = let z : b ≡ d = cc in ap (λ b. refused (no_token b)) z
