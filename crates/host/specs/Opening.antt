-- What the opening of a host answers. Assumes nothing.
use Rattle.std.specs.Prelude.{◌≡◌, Bool, true, false, ◌&&◌, [], Result, MatchResult, nat_le}
use Rattle.fs.specs.Rig.{Rig}
use Rattle.host.specs.declared.opening.Limits.{Limits}
use Rattle.host.specs.declared.opening.OpenFault.{OpenFault}
use Rattle.host.specs.declared.opening.OpenFault.TheVariants.{Capacity, Memory}

-- the capacity is 1 to 256
abbrev pub in_range : Limits → Bool
in_range l = nat_le 1 l.capacity && nat_le l.capacity 256

-- the empty tree with those numbers
abbrev pub empty : Limits → Rig
empty l = record { tree = []; capacity = l.capacity; allowance = l.allowance }

-- the capacity is refused exactly where it is out of range; memory can only be wanting otherwise
abbrev pub NotOpened : Limits → OpenFault → Type 0
NotOpened l Capacity = in_range l ≡ false
NotOpened l Memory = in_range l ≡ true

abbrev pub Opened : {X : Type 0} → (X → Rig) → Limits → Result X OpenFault → Type 0
Opened means l r = MatchResult r (λ h. (in_range l ≡ true) × (means h ≡ empty l)) (NotOpened l)
