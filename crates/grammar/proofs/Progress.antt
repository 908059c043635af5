-- Each turn of the grammar's repeated steps takes a token. Assumes nothing.
use Rattle.std.proofs.Common.{◌≡◌, ℕ, true, false, List, ap, arith}
use Rattle.std.proofs.lemmas.Bool.{cond_both, false≢true}
use Rattle.lexer.specs.Lexing.{Lexeme}
use Rattle.lexer.specs.Rows.{Row, token, ended, broken}
use Rattle.lexer.specs.declared.position.Position.{Position}
use Rattle.syntax.specs.declared.kind.Kind.{Kind}
use Rattle.syntax.specs.Reading.{read, after}
use Rattle.syntax.specs.Repeating.{Turn}
use Rattle.syntax.proofs.Turns.{here, past, Below}
use Rattle.syntax.proofs.Progress.{Loose, Strict, strict_on, strict_loose, loose_after, strict_after, loose_or, loose_checked, taken_strict, taken_loose, left_below, repeated_loose}
use Rattle.grammar.specs.Documents.{Ref, Link, Document}
use Rattle.grammar.specs.Declarations.{Given, attribute, closer_of, is_true, last_comma, closing, member, none_given, attributes, heading, declaration}
use Rattle.grammar.specs.Chains.{arrow_follows, bracketed, reference, link, Chained, chain_turn, chain}
use Rattle.grammar.specs.Items.{Start, finish, declares, refers, start_by, start, item_of, item}

attribute_strict : (k : Kind) (g : Given) (row : Row) → Strict row (attribute k g row)
unfolding attribute
attribute_strict k g row =
    strict_after _ (λ w q. loose_or q _ _ _ _ (λ n.
    loose_after _ (λ _ r.
    loose_after _ (λ v s. loose_checked s _ _ _ (λ _. here))
    r _ (taken_loose _ r)) q _ (taken_loose _ q))) row _ (taken_strict _ row)

last_comma_loose : (row : Row) → Loose row (last_comma row)
unfolding last_comma
last_comma_loose (token l at r) = cond_both (is_true (closer_of l)) _ _ (Loose (token l at r)) (λ _. past here) (λ _. here)
last_comma_loose (ended at) = here
last_comma_loose (broken b) = tt

closing_loose : (row : Row) → Loose row (closing row)
unfolding closing
closing_loose row = loose_after _ (λ t q. cond_both t.value _ _ (Loose q) (λ _. here) (λ _. last_comma_loose q)) row _ (taken_loose _ row)

pub member_strict : (k : Kind) (g : Given) (row : Row) → Strict row (member k g row)
unfolding member
member_strict k g row = strict_after _ (λ g q. loose_after _ (λ c r. here) q _ (closing_loose q)) row _ (attribute_strict k g row)

heading_loose : (k : Kind) (row : Row) → Loose row (heading k row)
unfolding heading
heading_loose k row =
    loose_after _ (λ _ q.
    loose_after _ (λ t r.
    loose_checked r _ _ _ (λ _.
    loose_after _ (λ _ s. here) r _ (taken_loose _ r))) q _ (taken_loose _ q)) row _ (taken_loose _ row)

attributes_loose : (k : Kind) (row : Row) → Loose row (attributes k row)
unfolding attributes
attributes_loose k row = repeated_loose (member k) (λ g r. strict_loose r _ (member_strict k g r)) none_given row

declaration_loose : (k : Kind) (row : Row) → Loose row (declaration k row)
unfolding declaration
declaration_loose k row =
    loose_after _ (λ t q. loose_after _ (λ g r. loose_or r _ _ _ _ (λ d. here)) q _ (attributes_loose k q)) row _ (heading_loose k row)

bracketed_loose : (k : Kind) (p : Position) (row : Row) → Loose row (bracketed k p row)
unfolding bracketed
bracketed_loose k p row =
    loose_after _ (λ _ q.
    loose_after _ (λ t r.
    loose_after _ (λ _ s. here) r _ (taken_loose _ r)) q _ (taken_loose _ q)) row _ (taken_loose _ row)

reference_loose : (row : Row) → Loose row (reference row)
unfolding reference
reference_loose row = loose_after _ (λ w q. loose_or q _ _ _ _ (λ k. bracketed_loose k w.at q)) row _ (taken_loose _ row)

arrow_loose : (row : Row) → Loose row (arrow_follows row)
unfolding arrow_follows
arrow_loose (token l at r) = here
arrow_loose (ended at) = here
arrow_loose (broken f) = tt

link_strict : (left : Ref) (row : Row) → Strict row (link left row)
unfolding link
link_strict left row = strict_after _ (λ a q. loose_after _ (λ _ r. here) q _ (reference_loose q)) row _ (taken_strict _ row)

pub chain_turn_strict : (s : Chained) (row : Row) → Strict row (chain_turn s row)
unfolding chain_turn
chain_turn_strict s row =
    strict_after _ (λ l q. loose_or q _ _ _ _ (λ ls. loose_after _ (λ m r. here) q _ (arrow_loose q))) row _ (link_strict s.left row)

chain_loose : (k : Kind) (p : Position) (ls : List Link) (row : Row) → Loose row (chain k p ls row)
unfolding chain
chain_loose k p ls row =
    loose_after _ (λ left q. loose_after _ (λ s r. here) q _ (repeated_loose chain_turn (λ s r. strict_loose r _ (chain_turn_strict s r)) _ q)) row _ (bracketed_loose k p row)

item_of_loose : (ns : List (List ℕ)) (m : Document) (s : Start) (row : Row) → Loose row (item_of ns m s row)
item_of_loose ns m finish row = here
item_of_loose ns m (declares k) row = loose_after _ (λ d q. loose_checked q _ _ _ (λ ds. here)) row _ (declaration_loose k row)
item_of_loose ns m (refers k p) row = loose_after _ (λ ls q. here) row _ (chain_loose k p m.links row)

start_strict : (l : Lexeme) (at : Position) (r : Row) → Strict (token l at r) (start (token l at r))
unfolding start
start_strict l at r = strict_on (token l at r) r here _ (loose_or r (start_by at _) _ at (λ s. read s r) (λ s. here))

item_strict : (ns : List (List ℕ)) (m : Document) (l : Lexeme) (at : Position) (r : Row) → Strict (token l at r) (item ns m (token l at r))
unfolding item
item_strict ns m l at r = strict_after (item_of ns m) (item_of_loose ns m) (token l at r) (start (token l at r)) (start_strict l at r)

-- an item that is not the end takes a token
pub item_below : (ns : List (List ℕ)) (m n : Document) (q row : Row) → read (record { state = n; last = false }) q ≡ item ns m row → Below q row
unfolding item start after
item_below ns m n q (token l at r) e = left_below (token l at r) (item_strict ns m l at r) e
item_below ns m n q (ended at) e =
    let z : ◌≡◌ {A = Turn Document} (record { state = n; last = false }) (record { state = m; last = true }) = cc in
    absurd (false≢true (ap (λ (t : Turn Document). t.last) z))
item_below ns m n q (broken f) e = let z : ◌≡◌ {A = ℕ} 0 1 = cc in absurd (omega arith)
