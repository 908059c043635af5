-- What a change on a host answers, and what the host is then. Assumes nothing.
use Rattle.std.specs.Prelude.{◌≡◌, Result, MatchResult}
use Rattle.fs.specs.Change.{Change, call}
use Rattle.fs.specs.Rig.{Rig, Answer, taken, refused}
use Rattle.host.specs.Faults.{host_fault_number}
use Rattle.host.specs.declared.fault.HostFault.{HostFault}

-- a result tells an answer, and the rig that is left: that of a taken call, and the same one after a refusal
abbrev pub Answered : Answer → Rig → Result Unit HostFault → Rig → Type 0
Answered a g r g' = MatchResult r (λ _. a ≡ taken g') (λ f. (a ≡ refused (host_fault_number f)) × (g' ≡ g))

-- the change was called for at the rig g, answered by r, and left the rig g'
abbrev pub Called : Change → Rig → Result Unit HostFault → Rig → Type 0
Called c g r g' = Answered (call c g) g r g'
