-- The FS language and its evaluation on a tree without limits: the new tree and the number of changes, or none where a change is refused. Assumes nothing.
use Rattle.std.specs.Prelude.{◌≡◌, ℕ, ◌+◌, Bool, cond}
use Rattle.std.proofs.Math.Option.{Option, none, some}
use Rattle.fs.specs.Tree.{Path, Content, directory, file, is_nothing, is_directory, is_file, is_file_of, Tree, at, with_node, without, children, vacant, removable, Sorted, Rooted}

-- what is asked of one path
pub data Test : Type 0 where
  nothing? : Path → Test
  dir? : Path → Test
  file? : Path → Test
  holds? : Path → Content → Test

pub data Expr : Type 0 where
  skip : Expr
  mkdir : Path → Expr
  creat : Path → Content → Expr
  rm : Path → Expr
  sequence : Expr → Expr → Expr
  test : Test → Expr → Expr → Expr

abbrev pub Outcome : Type 0
Outcome = Option (Tree × ℕ)

abbrev pub passes : Test → Tree → Bool
passes (nothing? p) t = is_nothing (at t p)
passes (dir? p) t = is_directory (at t p)
passes (file? p) t = is_file (at t p)
passes (holds? p c) t = is_file_of c (at t p)

-- k changes more
abbrev pub plus : ℕ → Outcome → Outcome
plus k none = none
plus k (some r) = some (r.0, k + r.1)

-- one after the other: the first refusal makes the whole fail
abbrev pub and_then : Outcome → (Tree → Outcome) → Outcome
and_then none f = none
and_then (some r) f = plus r.1 (f r.0)

abbrev pub eval : Expr → Tree → Outcome
eval skip t = some (t, 0)
eval (mkdir p) t = cond (vacant t p) (some (with_node p directory t, 1)) none
eval (creat p c) t = cond (vacant t p) (some (with_node p (file c) t, 1)) none
eval (rm p) t = cond (removable (at t p) (children t p)) (some (without p t, 1)) none
eval (sequence e f) t = and_then (eval e t) (λ u. eval f u)
eval (test q e f) t = cond (passes q t) (eval e t) (eval f t)

-- a tree that is sorted, and whose nodes all have directories as parents, stays so
abbrev pub StaysSound : Type 0
StaysSound = (e : Expr) (t : Tree) (r : Tree × ℕ) → Sorted t → Rooted t → eval e t ≡ some r → Sorted r.0 × Rooted r.0
