-- The numbers of a host's refusals. Assumes nothing.
use Rattle.std.specs.Prelude.{ℕ, Some, None, Option}
use Rattle.host.specs.declared.fault.HostFault.{HostFault}
use Rattle.host.specs.declared.fault.HostFault.TheVariants.{NoParent, Exists, Missing, HasChildren, Full, Exhausted}
use Rattle.host.specs.declared.opening.OpenFault.{OpenFault}
use Rattle.host.specs.declared.opening.OpenFault.TheVariants.{Capacity, Memory}

-- a change's
abbrev pub host_fault_number : HostFault → ℕ
host_fault_number NoParent = 35
host_fault_number Exists = 36
host_fault_number Missing = 37
host_fault_number HasChildren = 38
host_fault_number Full = 39
host_fault_number Exhausted = 40

-- an opening's: want of memory has no number
abbrev pub open_fault_number : OpenFault → Option ℕ
open_fault_number Capacity = Some 34
open_fault_number Memory = None
