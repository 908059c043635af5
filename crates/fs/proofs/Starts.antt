-- A start that is not refused has room and allowance enough. Assumes nothing.
use Rattle.std.proofs.Common.{◌≡◌, ℕ, ◌+◌, ◌≤◌, Bool, true, false, cond, ltb, length, sym, refl, ⊎_elim, arith}
use mathlib.Core.Option.{Option, none, some}
use Rattle.std.proofs.lemmas.Bool.{ltb-false}
use Rattle.fs.specs.Rig.{Rig}
use Rattle.fs.specs.Manifest.{Manifest}
use Rattle.fs.specs.Room.{need}
use Rattle.fs.specs.Bill.{bill}
use Rattle.fs.specs.Start.{free_nodes, start_refusal, StartSuffices}
use Rattle.fs.proofs.Bills.{count_bill}
use Rattle.fs.proofs.Limits.{enough, refuses}
use Rattle.fs.proofs.Shortage.{never_short}
use Rattle.fs.proofs.Options.{none_some}

pub started : (m : Manifest) (g : Rig) → length g.tree ≤ g.capacity → start_refusal m g ≡ none → (length g.tree + need m g.tree ≤ g.capacity) × (bill m ≤ g.allowance)
started m g f h = by (ltb (free_nodes g) (need m g.tree)) (ltb g.allowance (bill m)) refl refl h
  where
    by : (a b : Bool) → ltb (free_nodes g) (need m g.tree) ≡ a → ltb g.allowance (bill m) ≡ b → cond {A = Option ℕ} a (some 25) (cond b (some 26) none) ≡ none
        → (length g.tree + need m g.tree ≤ g.capacity) × (bill m ≤ g.allowance)
    by true b x y k = none_some (sym k)
    by false true x y k = none_some (sym k)
    by false false x y k = let p = ltb-false (free_nodes g) (need m g.tree) x in (omega arith, ltb-false g.allowance (bill m) y)

pub start_suffices : StartSuffices
start_suffices m g s f h o once = record {
  takes = λ r k. enough m o g s r k a.0 (let b = count_bill m o g.tree s once r k in let c = a.1 in omega arith);
  fails = λ n k. let z = never_short m o g s once a.0 a.1 n k in (⊎_elim (λ q. q) (λ q. absurd (⊎_elim z.0 z.1 q)) (refuses m o g n k), z.0, z.1);
}
  where
    a : (length g.tree + need m g.tree ≤ g.capacity) × (bill m ≤ g.allowance)
    a = started m g f h
