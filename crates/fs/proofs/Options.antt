-- The constructors of an option are apart, and take their argument back. Assumes nothing.
use Rattle.std.proofs.Common.{◌≡◌, ℕ, arith}
use mathlib.Core.Option.{none, some}

pub some_eq : {A : Type 0} {x y : A} → some x ≡ some y → x ≡ y
some_eq e = cc

pub none_some : {A B : Type 0} {x : A} → none ≡ some x → B
none_some e = let z : ◌≡◌ {A = ℕ} 0 1 = cc in absurd (omega arith)
