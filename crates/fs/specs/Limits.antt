-- Evaluation on a rig, which has limits, and four theorems that hold it to the evaluation without limits. Assumes nothing.
use Rattle.std.specs.Prelude.{◌≡◌, ℕ, ◌+◌, ◌-◌, ◌≤◌, cond, ◌≢◌, ◌⊎◌, List, [], ◌∷◌, length}
use Rattle.std.proofs.Math.Option.{none, some}
use Rattle.fs.specs.Tree.{directory, file, Sorted}
use Rattle.fs.specs.Rig.{Rig, Answer, taken, refused, make, remove, on_taken}
use Rattle.fs.specs.Fs.{Expr, skip, mkdir, creat, rm, sequence, test, passes}
use Rattle.fs.specs.Manifest.{expr, Manifest, resource, Result, evaluate}
use Rattle.fs.specs.Order.{AtMostOnce}
use Rattle.fs.specs.Room.{need}
use Rattle.fs.specs.Bill.{bill}

abbrev pub eval_on : Expr → Rig → Answer
eval_on skip g = taken g
eval_on (mkdir p) g = make p directory g
eval_on (creat p c) g = make p (file c) g
eval_on (rm p) g = remove p g
eval_on (sequence e f) g = on_taken (eval_on e g) (λ h. eval_on f h)
eval_on (test q e f) g = cond (passes q g.tree) (eval_on e g) (eval_on f g)

-- the resources of the numbers `o`, one after the other, up to the first refusal
abbrev pub evaluate_on : Manifest → List ℕ → Rig → Answer
evaluate_on m [] g = taken g
evaluate_on m (i ∷ o) g = on_taken (eval_on (expr (resource m i)) g) (λ h. evaluate_on m o h)

-- with room for the nodes needed, and allowance for the changes, a rig refuses nothing, and ends with the tree of the evaluation
abbrev pub Enough : Type 0
Enough =
    (m : Manifest) (o : List ℕ) (g : Rig) → Sorted g.tree → (r : Result) → evaluate m o g.tree ≡ some r → length g.tree + need m g.tree ≤ g.capacity → r.1 ≤ g.allowance
    → evaluate_on m o g ≡ taken (record { tree = r.0; capacity = g.capacity; allowance = g.allowance - r.1 })

-- what a rig g took, and came to h by, is what the evaluation says: h has its tree, the capacity of g, and one of the allowance less for each change
pub record Follows (m : Manifest) (o : List ℕ) (g h : Rig) : Type 0 where
  pub result : Result
  pub evaluates : evaluate m o g.tree ≡ some result
  pub tree : h.tree ≡ result.0
  pub capacity : h.capacity ≡ g.capacity
  pub allowance : h.allowance + result.1 ≡ g.allowance

abbrev pub Faithful : Type 0
Faithful = (m : Manifest) (o : List ℕ) (g h : Rig) → evaluate_on m o g ≡ taken h → Follows m o g h

-- where a rig refuses, the evaluation fails, or the rig wants a free node (39) or allowance (40)
abbrev pub Refuses : Type 0
Refuses = (m : Manifest) (o : List ℕ) (g : Rig) (n : ℕ) → evaluate_on m o g ≡ refused n → (evaluate m o g.tree ≡ none) ⊎ ((n ≡ 39) ⊎ (n ≡ 40))

-- with room for the nodes needed, and allowance for the bill, neither is ever wanting, whatever else is refused
abbrev pub NeverShort : Type 0
NeverShort =
    (m : Manifest) (o : List ℕ) (g : Rig) → Sorted g.tree → AtMostOnce m o → length g.tree + need m g.tree ≤ g.capacity → bill m ≤ g.allowance
    → (n : ℕ) → evaluate_on m o g ≡ refused n → (n ≢ 39) × (n ≢ 40)
