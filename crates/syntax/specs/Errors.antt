-- The numbers of a text's errors, and what a reading that may want memory answers. Assumes nothing.
use Rattle.std.specs.Prelude.{◌≡◌, ℕ, Ok, Err, Option, Result}
use Rattle.faults.specs.Faults.{error_number}
use Rattle.faults.specs.declared.error.ReadError.{ReadError}
use Rattle.faults.specs.declared.error.ReadError.TheVariants.{Fault, Memory}
use Rattle.lexer.specs.Rows.{Row}
use Rattle.lexer.specs.Spots.{Spot, Standing, ahead}
use Rattle.syntax.specs.Faults.{TextFault, ground_number}
use Rattle.syntax.specs.Reading.{Read, read, refused}

-- why no manifest is read
abbrev pub TextError : Type 0
TextError = ReadError TextFault

-- want of memory has no number
abbrev pub text_error_number : TextError → Option ℕ
text_error_number e = error_number (λ f. ground_number f.ground) e

-- the answer is what was read, with the row past it, or the fault; nothing is said for want of memory
abbrev pub Told : {A B : Type 0} → Result A TextError → (A → B) → Row → Read B → Type 0
Told (Ok v) f q m = read (f v) q ≡ m
Told (Err (Fault e)) f q m = refused e ≡ m
Told (Err Memory) f q m = Unit {0}

-- as Reads, for a reading that may want memory
pub record Tries {A B : Type 0} (f : A → B) (grammar : Row → Read B) (from : Spot) (r : Result A TextError) (to : Spot) : Type 0 where
  pub text : to.text ≡ from.text
  pub stands : Standing from → Standing to
  pub told : Standing from → Told r f (ahead to) (grammar (ahead from))
