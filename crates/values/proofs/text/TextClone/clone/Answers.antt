use Rattle.std.proofs.Common.{◌≡◌, ◌≤◌, ℕ, true, List, take}
use Rattle.std.proofs.Math.Bool.{Bool-set}
use Rattle.std.proofs.Math.Bridge.{le_prop}
use Rattle.std.specs.declared.marker.PhantomData.{PhantomData}
use Rattle.values.specs.declared.text.Text.{Text}
use Rattle.values.specs.declared.text.Rule as rule
use Rattle.values.proofs.text.TextClone.clone.Goals as goal

-- two texts with the same bytes are one, whatever shows that the bytes keep the rule
module _ {R : Type 0} {n : ℕ} {r : rule.Ghosts R n} (bytes : List ℕ) (len : ℕ) (of : PhantomData R) where
  one : (f f' : len ≤ n) (a a' : r.allowed (take len bytes) ≡ true)
      → ◌≡◌ {A = Text R n r} (record { bytes = bytes; len = len; rule = of; fits = f; ruled = a }) (record { bytes = bytes; len = len; rule = of; fits = f'; ruled = a' })
  one f f' a a' = λ i. record { bytes = bytes; len = len; rule = of; fits = le_prop f f' i; ruled = Bool-set _ _ a a' i }

pub returns : goal.returns
returns g c = record { cases = one _ _ _ _ _ _ _ }
