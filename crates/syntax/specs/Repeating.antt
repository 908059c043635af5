-- A step of a grammar, repeated over a row. Assumes nothing.
use Rattle.std.specs.Prelude.{ℕ, suc, Bool, cond, nat_lt}
use Rattle.lexer.specs.Rows.{Row, token, ended, broken}
use Rattle.syntax.specs.Reading.{Read, read, after}

-- how many tokens a row has
unfoldable pub size : Row → ℕ
size (token l at r) = suc (size r)
size (ended at) = 0
size (broken f) = 0

-- what a step leaves, and whether it was the last
pub record Turn (S : Type 0) : Type 0 where
  pub state : S
  pub last : Bool

-- steps from the row on that has n tokens
unfoldable pub turns : {S : Type 0} → (S → Row → Read (Turn S)) → ℕ → S → Row → Read S
turns step n s (token l at r) =
    cond (nat_lt n (size (token l at r))) (turns step n s r)
    (after (step s (token l at r)) (λ t q. cond t.last (read t.state q) (turns step (size q) t.state r)))
turns step n s (ended at) = after (step s (ended at)) (λ t q. read t.state q)
turns step n s (broken f) = after (step s (broken f)) (λ t q. read t.state q)

-- steps up to the last; each but the last takes a token
unfoldable pub repeated : {S : Type 0} → (S → Row → Read (Turn S)) → S → Row → Read S
repeated step s row = turns step (size row) s row
