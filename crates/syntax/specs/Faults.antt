-- The numbers of the refusals of a text, and their positions. Assumes nothing.
use Rattle.std.specs.Prelude.{ℕ}
use Rattle.faults.specs.declared.located.Located.{Located}
use Rattle.values.specs.declared.fault.ValueFault.TheVariants.{Malformed, TooLong}
use Rattle.lexer.specs.declared.fault.LexFault.{LexFault}
use Rattle.lexer.specs.declared.position.Position.{Position}
use Rattle.syntax.specs.declared.fault.Ground.{Ground}
use Rattle.syntax.specs.declared.fault.Ground.TheVariants.{TextTooLong, NoToken, Unexpected, Value, Attribute, NotAllowed, Incomplete, NotInIndex, Repeated, TooMany, NoResource, NoNotice}

abbrev pub ground_number : Ground → ℕ
ground_number TextTooLong = 11
ground_number NoToken = 12
ground_number Unexpected = 13
ground_number (Value Malformed) = 14
ground_number Attribute = 15
ground_number NotAllowed = 16
ground_number (Value TooLong) = 16
ground_number Incomplete = 17
ground_number NotInIndex = 18
ground_number Repeated = 19
ground_number TooMany = 20
ground_number NoResource = 21
ground_number NoNotice = 22

abbrev pub TextFault : Type 0
TextFault = Located Ground Position

abbrev pub fault_at : Position → (ground : Ground) → TextFault
fault_at p g = record { ground = g; at = p }

-- a fault of the tokens is one of the text, at its own position
abbrev pub no_token : LexFault → TextFault
no_token f = fault_at f.at NoToken
