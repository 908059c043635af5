-- What a journal means: the rig below with the held changes made. Assumes nothing.
use Rattle.fs.specs.Change.{Change, change}
use Rattle.fs.specs.Rig.{Rig, after}
use Rattle.changes.specs.Logs.{changes}
use Rattle.journal.specs.Held.{held_rig}
use Rattle.journal.specs.declared.journal.Journal.{Journal}

abbrev pub rig_of : {B : Type 0} {m : _} → (B → Rig) → Journal B m → Rig
rig_of means j = held_rig (changes j.log) (means j.below)

abbrev pub changed_rig : Change → Rig → Rig
changed_rig c g = after g (change c g.tree)
