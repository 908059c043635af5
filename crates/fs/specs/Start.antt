-- The check of a start, and the theorem that one which is not refused has room and allowance enough. Assumes nothing.
use Rattle.std.specs.Prelude.{◌≡◌, ℕ, ◌-◌, ◌≤◌, cond, ◌≢◌, List, length, nat_lt}
use Rattle.std.proofs.Math.Option.{Option, none, some}
use Rattle.fs.specs.Tree.{Sorted}
use Rattle.fs.specs.Rig.{Rig, taken, refused}
use Rattle.fs.specs.Manifest.{Manifest, Result, evaluate}
use Rattle.fs.specs.Order.{AtMostOnce}
use Rattle.fs.specs.Room.{need}
use Rattle.fs.specs.Bill.{bill}
use Rattle.fs.specs.Limits.{evaluate_on}

abbrev pub free_nodes : Rig → ℕ
free_nodes g = g.capacity - length g.tree

-- 25 where the free nodes are under the need, else 26 where the allowance is under the bill
abbrev pub start_refusal : Manifest → Rig → Option ℕ
start_refusal m g = cond (nat_lt (free_nodes g) (need m g.tree)) (some 25) (cond (nat_lt g.allowance (bill m)) (some 26) none)

-- the limits of g take no part in an evaluation: what evaluates is taken, and what is refused fails without limits too, by a ground that is neither a full rig nor a spent allowance
pub record Suffices (m : Manifest) (o : List ℕ) (g : Rig) : Type 0 where
  pub takes : (r : Result) → evaluate m o g.tree ≡ some r → evaluate_on m o g ≡ taken (record { tree = r.0; capacity = g.capacity; allowance = g.allowance - r.1 })
  pub fails : (n : ℕ) → evaluate_on m o g ≡ refused n → (evaluate m o g.tree ≡ none) × (n ≢ 39) × (n ≢ 40)

-- so it is after a start that is not refused, begun or whole
abbrev pub StartSuffices : Type 0
StartSuffices = (m : Manifest) (g : Rig) → Sorted g.tree → length g.tree ≤ g.capacity → start_refusal m g ≡ none → (o : List ℕ) → AtMostOnce m o → Suffices m o g
