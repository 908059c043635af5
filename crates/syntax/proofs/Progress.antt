-- Readings leave a part of their row. Assumes nothing.
use Rattle.std.proofs.Common.{◌≡◌, ℕ, cond, ltb, Some, None, Ok, Err, Option, Result, sym, subst}
use Rattle.std.proofs.lemmas.Bool.{cond_both}
use Rattle.lexer.specs.Lexing.{Lexeme}
use Rattle.lexer.specs.Rows.{Row, token, ended, broken}
use Rattle.lexer.specs.declared.position.Position.{Position}
use Rattle.syntax.specs.declared.fault.Ground.{Ground}
use Rattle.syntax.specs.Reading.{Read, read, refused, after, or_refuse, checked, taken}
use Rattle.syntax.specs.Repeating.{size, Turn, turns, repeated}
use Rattle.syntax.proofs.Turns.{Within, here, past, Below}

pub within_trans : {p q r : Row} → Within p q → Within q r → Within p r
within_trans v here = v
within_trans v (past w) = past (within_trans v w)

-- a step leaves a part of the row, which is not the whole where it is strict
abbrev pub Loose : {A : Type 0} → Row → Read A → Type 0
Loose row (read x q) = Within q row
Loose row (refused f) = Unit {0}

abbrev pub Strict : {A : Type 0} → Row → Read A → Type 0
Strict row (read x q) = Below q row
Strict row (refused f) = Unit {0}

pub loose_on : {A : Type 0} (row q : Row) → Within q row → (m : Read A) → Loose q m → Loose row m
loose_on row q w (read x p) h = within_trans h w
loose_on row q w (refused f) h = tt

pub strict_on : {A : Type 0} (row q : Row) → Below q row → (m : Read A) → Loose q m → Strict row m
strict_on (token l at r) q w (read x p) h = within_trans h w
strict_on (ended at) q w m h = absurd w
strict_on (broken f) q w m h = absurd w
strict_on (token l at r) q w (refused f) h = tt

pub strict_loose : {A : Type 0} (row : Row) (m : Read A) → Strict row m → Loose row m
strict_loose (token l at r) (read x q) w = past w
strict_loose (ended at) (read x q) w = absurd w
strict_loose (broken f) (read x q) w = absurd w
strict_loose row (refused f) w = tt

module _ {A B : Type 0} (k : A → Row → Read B) (h : (x : A) (q : Row) → Loose q (k x q)) (row : Row) where
  pub loose_after : (m : Read A) → Loose row m → Loose row (after m k)
  unfolding after
  loose_after (read x q) w = loose_on row q w (k x q) (h x q)
  loose_after (refused f) w = tt

  pub strict_after : (m : Read A) → Strict row m → Strict row (after m k)
  unfolding after
  strict_after (read x q) w = strict_on row q w (k x q) (h x q)
  strict_after (refused f) w = tt

pub loose_or : {A B : Type 0} (row : Row) (o : Option A) (why : Ground) (at : Position) (k : A → Read B) → ((x : A) → Loose row (k x)) → Loose row (or_refuse o why at k)
unfolding or_refuse
loose_or row (Some x) why at k h = h x
loose_or row None why at k h = tt

pub loose_checked : {A B : Type 0} (row : Row) (o : Result A Ground) (at : Position) (k : A → Read B) → ((x : A) → Loose row (k x)) → Loose row (checked o at k)
unfolding checked
loose_checked row (Ok x) at k h = h x
loose_checked row (Err g) at k h = tt

pub taken_strict : {A : Type 0} (f : Lexeme → Option A) (row : Row) → Strict row (taken f row)
unfolding taken
taken_strict f (token l at r) = strict_on (token l at r) r here _ (loose_or r (f l) _ at _ (λ x. here))
taken_strict f (ended at) = tt
taken_strict f (broken b) = tt

pub taken_loose : {A : Type 0} (f : Lexeme → Option A) (row : Row) → Loose row (taken f row)
taken_loose f row = strict_loose row _ (taken_strict f row)

-- what a strict step leaves
pub left_below : {A : Type 0} {x : A} {q : Row} (row : Row) {m : Read A} → Strict row m → read x q ≡ m → Below q row
left_below row h e = subst (Strict row) (sym e) h

module _ {S : Type 0} (step : S → Row → Read (Turn S)) (h : (s : S) (row : Row) → Loose row (step s row)) where
  turn_loose : (row r : Row) → Within r row → ((n : ℕ) (s : S) → Loose r (turns step n s r)) → (m : Read (Turn S)) → Loose row m → Loose row (after m (λ t q. cond t.last (read t.state q) (turns step (size q) t.state r)))
  unfolding after
  turn_loose row r v go (read t q) w = cond_both t.last _ _ (Loose row) (λ _. w) (λ _. loose_on row r v _ (go (size q) t.state))
  turn_loose row r v go (refused f) w = tt

  turns_loose : (n : ℕ) (s : S) (row : Row) → Loose row (turns step n s row)
  unfolding turns
  turns_loose n s (token l at r) =
      cond_both (ltb n (size (token l at r))) _ _ (Loose (token l at r))
      (λ _. loose_on (token l at r) r (past here) _ (turns_loose n s r))
      (λ _. turn_loose (token l at r) r (past here) (λ k t. turns_loose k t r) (step s (token l at r)) (h s (token l at r)))
  turns_loose n s (ended at) = loose_after _ (λ t q. here) (ended at) _ (h s (ended at))
  turns_loose n s (broken f) = loose_after _ (λ t q. here) (broken f) _ (h s (broken f))

  pub repeated_loose : (s : S) (row : Row) → Loose row (repeated step s row)
  unfolding repeated
  repeated_loose s row = turns_loose (size row) s row
