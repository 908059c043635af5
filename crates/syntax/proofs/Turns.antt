-- A repeated step, one turn on. Assumes nothing.
use Rattle.std.proofs.Common.{◌≡◌, ◌<◌, ◌≤◌, true, false, cond, sym, refl, ap, ◌∙◌, arith}
use Rattle.std.proofs.lemmas.Bool.{cond-true, cond-false, lt-ltb, le-ltb}
use Rattle.lexer.specs.declared.position.Position.{Position}
use Rattle.syntax.specs.Faults.{TextFault}
use Rattle.lexer.specs.Lexing.{Lexeme}
use Rattle.lexer.specs.Rows.{Row, token, ended, broken}
use Rattle.syntax.specs.Reading.{Read, read, refused, after}
use Rattle.syntax.specs.Repeating.{size, Turn, turns, repeated}

-- q is the row, or a part of it up to the end
pub data Within (q : Row) : Row → Type 0 where
  here : Within q q
  past : {l : Lexeme} {at : Position} {r : Row} → Within q r → Within q (token l at r)

-- and not the row itself
abbrev pub Below : Row → Row → Type 0
Below q (token l at r) = Within q r
Below q (ended at) = ⊥
Below q (broken f) = ⊥

pub within_size : {q r : Row} → Within q r → size q ≤ size r
unfolding size
within_size here = omega arith
within_size (past w) = let h = within_size w in omega arith

pub below_size : (q r : Row) → Below q r → size q < size r
unfolding size
below_size q (token l at r) w = let h = within_size w in omega arith
below_size q (ended at) w = absurd w
below_size q (broken f) w = absurd w

module _ {S : Type 0} (step : S → Row → Read (Turn S)) where
  turns_skip : {q r : Row} (s : S) → Within q r → turns step (size q) s r ≡ repeated step s q
  unfolding turns repeated
  turns_skip s here = refl
  turns_skip {q} s (past {l} {at} {r} w) = cond-true _ _ _ (lt-ltb (size q) (size (token l at r)) (below_size q (token l at r) w)) ∙ turns_skip s w

  pub turn_more : (s : S) (row q : Row) {t : S} → read (record { state = t; last = false }) q ≡ step s row → Below q row → repeated step s row ≡ repeated step t q
  unfolding turns repeated after
  turn_more s (token l at r) q {t} e w =
      cond-false _ _ _ (le-ltb (size (token l at r)) (size (token l at r)) (omega arith))
      ∙ ap (λ m. after m (λ u p. cond u.last (read u.state p) (turns step (size p) u.state r))) (sym e)
      ∙ turns_skip t w
  turn_more s (ended at) q e w = absurd w
  turn_more s (broken f) q e w = absurd w

  pub turn_last : (s : S) (row q : Row) {t : S} → read (record { state = t; last = true }) q ≡ step s row → repeated step s row ≡ read t q
  unfolding turns repeated after
  turn_last s (token l at r) q e =
      cond-false _ _ _ (le-ltb (size (token l at r)) (size (token l at r)) (omega arith))
      ∙ ap (λ m. after m (λ u p. cond u.last (read u.state p) (turns step (size p) u.state r))) (sym e)
  turn_last s (ended at) q e = ap (λ m. after m (λ u p. read u.state p)) (sym e)
  turn_last s (broken f) q e = ap (λ m. after m (λ u p. read u.state p)) (sym e)

  pub turn_fault : (s : S) (row : Row) {f : TextFault} → refused f ≡ step s row → repeated step s row ≡ refused f
  unfolding turns repeated after
  turn_fault s (token l at r) e =
      cond-false _ _ _ (le-ltb (size (token l at r)) (size (token l at r)) (omega arith))
      ∙ ap (λ m. after m (λ u p. cond u.last (read u.state p) (turns step (size p) u.state r))) (sym e)
  turn_fault s (ended at) e = ap (λ m. after m (λ u p. read u.state p)) (sym e)
  turn_fault s (broken f) e = ap (λ m. after m (λ u p. read u.state p)) (sym e)
