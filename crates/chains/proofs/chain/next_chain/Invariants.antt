use Rattle.std.proofs.Common.{◌≡◌, ◌-◌, length, map, take, vec_items, vec_len}
use Rattle.lexer.specs.Spots.{Standing, ahead}
use Rattle.syntax.specs.Repeating.{repeated}
use Rattle.grammar.specs.Chains.{chain_turn}
use Rattle.chains.specs.Meanings.{ref_of, link_of}
use Rattle.chains.proofs.chain.next_chain.Given as goal

-- the links that were there stand in front, and what is left of the chain reads as the whole did behind its first reference
abbrev pub invariant-loop-next : goal.invariant-loop-next
invariant-loop-next g l =
    let spot = g.R.Tokens.spot in
    (take (length (vec_items l.initial.links)) (vec_items l.links) ≡ vec_items l.initial.links)
    × ((spot l.reader).text ≡ (spot l.initial.reader).text)
    × (Standing (spot l.initial.reader) → Standing (spot l.reader))
    × (Standing (spot l.initial.reader) → repeated chain_turn (record { left = ref_of l.left; links = map link_of (vec_items l.links) }) (ahead (spot l.reader))
    ≡ repeated chain_turn (record { left = ref_of l.initial.left; links = map link_of (vec_items l.initial.links) }) (ahead (spot l.initial.reader)))

abbrev pub decreases-loop-next : goal.decreases-loop-next
decreases-loop-next g l = 64 - vec_len l.links
