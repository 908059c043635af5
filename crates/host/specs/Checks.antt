-- What the checks before a change answer. Assumes nothing.
use Rattle.std.specs.Prelude.{◌≡◌, Result, MatchResult}
use Rattle.fs.specs.Change.{Change, change, call}
use Rattle.fs.specs.Rig.{Rig, Answer, taken, refused, after, make, remove}
use Rattle.fs.specs.Tree.{Path, Node, with_node, without}
use Rattle.host.specs.Faults.{host_fault_number}
use Rattle.host.specs.declared.fault.HostFault.{HostFault}

-- fine exactly where the call is taken, and then to the rig `left`; else the fault that it is refused for
abbrev pub Judged : Answer → Rig → Result Unit HostFault → Type 0
Judged a left r = MatchResult r (λ _. a ≡ taken left) (λ f. a ≡ refused (host_fault_number f))

-- the judgement of a change, at a rig
abbrev pub Checked : Change → Rig → Result Unit HostFault → Type 0
Checked c g r = Judged (call c g) (after g (change c g.tree)) r

-- the same of a node made, whatever it is, and of one removed
abbrev pub MakeChecked : Path → Rig → Result Unit HostFault → Type 0
MakeChecked p g r = (n : Node) → Judged (make p n g) (after g (with_node p n g.tree)) r

abbrev pub RemoveChecked : Path → Rig → Result Unit HostFault → Type 0
RemoveChecked p g r = Judged (remove p g) (after g (without p g.tree)) r
