-- A part that is picked of the next token. Assumes nothing.
use Rattle.std.specs.Prelude.{◌≡◌, Some, None, Ok, Err, Option, Result}
use Rattle.lexer.specs.Rows.{placed_sight, next, answer}
use Rattle.lexer.specs.Spots.{Spot, Standing, ahead}
use Rattle.lexer.specs.declared.fault.LexFault.{LexFault}
use Rattle.lexer.specs.declared.placed.Placed.{Placed}
use Rattle.lexer.specs.declared.position.Position.{Position}
use Rattle.lexer.specs.declared.token.Token.{Token}
use Rattle.syntax.specs.declared.fault.Ground.TheVariants.{Unexpected}
use Rattle.syntax.specs.Faults.{TextFault, fault_at, no_token}

-- a part, at its token's position, or the refusal of a token of which nothing is picked
abbrev pub or_unexpected : {T : Type 0} → Option T → Position → Result (Placed T) TextFault
or_unexpected (Some x) p = Ok (record { part = x; at = p })
or_unexpected None p = Err (fault_at p Unexpected)

-- what is answered of a token by what is picked of it, and of what is no token
abbrev pub Picked : {T : Type 0} → (Token → Option T → Type 0) → Result (Placed Token) LexFault → Result (Placed T) TextFault → Type 0
Picked {T} picks (Ok t) r = (o : Option T) × picks t.part o × (r ≡ or_unexpected o t.at)
Picked picks (Err b) r = r ≡ Err (no_token b)

-- what came past the next token answers what is picked of it
pub record Picks {T : Type 0} (picks : Token → Option T → Type 0) (from : Spot) (r : Result (Placed T) TextFault) (to : Spot) : Type 0 where
  pub text : to.text ≡ from.text
  pub stands : Standing from → Standing to
  pub lexed : Result (Placed Token) LexFault
  pub stood : Standing from → answer placed_sight lexed (ahead to) ≡ next (ahead from)
  pub answers : Picked picks lexed r
