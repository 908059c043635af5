-- What is read off a row of tokens, and how one reading goes on with another. Assumes nothing.
use Rattle.std.specs.Prelude.{◌≡◌, Some, None, Ok, Err, Option, Result}
use Rattle.lexer.specs.Lexing.{Lexeme}
use Rattle.lexer.specs.Rows.{Row, token, ended, broken}
use Rattle.lexer.specs.Spots.{Spot, Standing, ahead}
use Rattle.lexer.specs.declared.position.Position.{Position}
use Rattle.syntax.specs.declared.fault.Ground.{Ground}
use Rattle.syntax.specs.declared.fault.Ground.TheVariants.{Unexpected}
use Rattle.syntax.specs.Faults.{TextFault, fault_at, no_token}

-- what was read and the row past it, or the first fault
pub data Read (A : Type 0) : Type 0 where
  read : A → Row → Read A
  refused : TextFault → Read A

-- goes on with k
unfoldable pub after : {A B : Type 0} → Read A → (A → Row → Read B) → Read B
after (read x r) k = k x r
after (refused f) k = refused f

abbrev pub refuse : {A : Type 0} → Ground → Position → Read A
refuse why at = refused (fault_at at why)

-- goes on with what is there, or refuses
unfoldable pub or_refuse : {A B : Type 0} → Option A → Ground → Position → (A → Read B) → Read B
or_refuse (Some x) why at k = k x
or_refuse None why at k = refuse why at

-- goes on with the value of an answer, or refuses by its ground
unfoldable pub checked : {A B : Type 0} → Result A Ground → Position → (A → Read B) → Read B
checked (Ok x) at k = k x
checked (Err g) at k = refuse g at

-- a value with the position of its part of the text
pub record Located (A : Type 0) : Type 0 where
  pub value : A
  pub at : Position

-- the next token, as what `f` makes of it; the grammar allows no other here, and no end
unfoldable pub taken : {A : Type 0} → (Lexeme → Option A) → Row → Read (Located A)
taken f (token l at r) = or_refuse (f l) Unexpected at (λ x. read (record { value = x; at = at }) r)
taken f (ended at) = refuse Unexpected at
taken f (broken b) = refused (no_token b)

-- what the code answers, with the row past it
abbrev pub answer : {A B : Type 0} → (A → B) → Result A TextFault → Row → Read B
answer f (Ok x) r = read (f x) r
answer f (Err e) r = refused e

-- what came from one place of a text to another answers, as f means it, what the grammar reads off the row there, and stands in the text again
pub record Reads {A B : Type 0} (f : A → B) (grammar : Row → Read B) (from : Spot) (r : Result A TextFault) (to : Spot) : Type 0 where
  pub text : to.text ≡ from.text
  pub stands : Standing from → Standing to
  pub answers : Standing from → answer f r (ahead to) ≡ grammar (ahead from)
