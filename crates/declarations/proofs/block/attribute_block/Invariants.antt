use Rattle.std.proofs.Common.{◌≡◌}
use Rattle.lexer.specs.Spots.{Standing, ahead}
use Rattle.syntax.specs.Repeating.{repeated}
use Rattle.grammar.specs.Declarations.{member, attributes}
use Rattle.declarations.specs.Meanings.{subject_kind, given_of, spare}
use Rattle.declarations.proofs.block.attribute_block.Given as goal

-- what is left of the block reads as the whole did
abbrev pub invariant-loop-given : goal.invariant-loop-given
invariant-loop-given g l =
    let spot = g.R.Tokens.spot in
    (l.given.subject ≡ l.fn.subject)
    × ((spot l.reader).text ≡ (spot l.initial.reader).text)
    × (Standing (spot l.initial.reader) → Standing (spot l.reader))
    × (Standing (spot l.initial.reader) → repeated (member (subject_kind l.given.subject)) (given_of l.given) (ahead (spot l.reader)) ≡ attributes (subject_kind l.fn.subject) (ahead (spot l.initial.reader)))

abbrev pub decreases-loop-given : goal.decreases-loop-given
decreases-loop-given g l = spare (given_of l.given)
