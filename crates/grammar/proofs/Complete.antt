-- A row that is written as the grammar says is read so. Assumes nothing.
use Rattle.std.proofs.Common.{◌≡◌, ℕ, ◌+◌, ◌<◌, ◌≤◌, Bool, true, false, not, List, [], ◌∷◌, ◌++◌, length, Some, Ok, Option, sym, refl, ap, ◌∙◌, subst, append_assoc, arith, length-append}
use Rattle.std.proofs.lemmas.Bool.{cond-true, lt-ltb}
use Rattle.lexer.specs.Lexing.{Lexeme, word, quoted, open_bracket, close_bracket}
use Rattle.lexer.specs.Rows.{Row, token, ended}
use Rattle.lexer.specs.declared.position.Position.{Position}
use Rattle.syntax.specs.declared.arrow.Arrow.{Arrow}
use Rattle.syntax.specs.declared.arrow.Arrow.TheVariants.{Before, Notifies}
use Rattle.syntax.specs.declared.kind.Kind.{Kind}
use Rattle.syntax.specs.declared.kind.Kind.TheVariants.{File, Package, Service}
use Rattle.syntax.specs.Kinds.{kind_word, ref_word, kind_by, referred_kind}
use Rattle.syntax.specs.Reading.{Read, read, after, or_refuse, taken}
use Rattle.syntax.specs.Repeating.{Turn, repeated}
use Rattle.syntax.specs.Tokens.{word_of}
use Rattle.syntax.proofs.Steps.{then, there, holds}
use Rattle.syntax.proofs.Turns.{turn_more, turn_last}
use Rattle.syntax.proofs.Progress.{left_below}
use Rattle.grammar.specs.Documents.{Declared, Ref, Link, Document, kind_of}
use Rattle.grammar.specs.Chains.{arrow_of, arrow_follows, bracketed, reference, link, Chained, chain_turn, chain}
use Rattle.grammar.specs.Items.{Start, declares, refers, start, known, repeats, admit, item_of, item, nothing_said, document}
use Rattle.grammar.specs.Grammar.{Written, written, on, Declares, Refers, arrow_lexeme, Links, last_link, link_on, Says, nothing, declared, chained}
use Rattle.grammar.proofs.Progress.{chain_turn_strict, item_below}
use Rattle.grammar.proofs.CompleteDeclarations.{declaration_read}

-- no arrow comes next, and no fault
abbrev Quiet : Row → Type 0
Quiet q = read false q ≡ arrow_follows q

word_quiet : (w : List ℕ) (at : Position) (r : Row) → Quiet (token (word w) at r)
unfolding arrow_follows
word_quiet w at r = refl

end_quiet : (at : Position) → Quiet (ended at)
unfolding arrow_follows
end_quiet at = refl

refers_quiet : {r : Ref} {q row : Row} → Refers r q row → Quiet row
refers_quiet w = subst Quiet (sym w.begins) (word_quiet _ _ _)

links_arrow : {left : Ref} {ls : List Link} {q row : Row} → Links left ls q row → read true row ≡ arrow_follows row
unfolding arrow_follows
links_arrow (last_link Before at right w) = refl
links_arrow (last_link Notifies at right w) = refl
links_arrow (link_on Before at right w l) = refl
links_arrow (link_on Notifies at right w l) = refl

token_read : {A : Type 0} (f : Lexeme → Option A) {x : A} (l : Lexeme) (at : Position) (r : Row) → Some x ≡ f l → read (record { value = x; at = at }) r ≡ taken f (token l at r)
unfolding taken
token_read f l at r e = there _ at _ e refl

ref_word_kind : (k : Kind) → Some k ≡ referred_kind (ref_word k)
unfolding kind_by
ref_word_kind File = refl
ref_word_kind Package = refl
ref_word_kind Service = refl

arrow_is : (a : Arrow) → Some a ≡ arrow_of (arrow_lexeme a)
arrow_is Before = refl
arrow_is Notifies = refl

-- a reference
bracketed_read : (r : Ref) {q row : Row} → Written (open_bracket ∷ quoted r.title ∷ close_bracket ∷ []) q row → read r q ≡ bracketed r.kind r.at row
unfolding bracketed taken after or_refuse
bracketed_read r (on (on (on written))) = refl

reference_read : {r : Ref} {q row : Row} → Refers r q row → read r q ≡ reference row
unfolding reference
reference_read {r} w =
    then _ (token_read word_of (word (ref_word r.kind)) r.at w.brackets refl) (there _ _ _ (ref_word_kind r.kind) (bracketed_read r w.rest)) ∙ ap reference (sym w.begins)

-- an arrow and a reference
module _ (left : Ref) (es : List Link) (h : length es < 64) (a : Arrow) (at : Position) {right : Ref} {q r : Row} (w : Refers right q r) where
  abbrev new_link : Link
  new_link = record { left = left; arrow = a; at = at; right = right }

  link_read : read new_link q ≡ link left (token (arrow_lexeme a) at r)
  unfolding link
  link_read = then _ (token_read arrow_of (arrow_lexeme a) at r (arrow_is a)) (then _ (reference_read w) refl)

  link_turn : (more : Bool) → read more q ≡ arrow_follows q → read (record { state = record { left = right; links = es ++ new_link ∷ [] }; last = not more }) q ≡ chain_turn (record { left = left; links = es }) (token (arrow_lexeme a) at r)
  unfolding chain_turn
  link_turn more m = then _ link_read (there _ _ _ (sym (cond-true _ _ _ (lt-ltb (length es) 64 h))) (then _ m refl))

chain_goes_on : (s t : Chained) (row q : Row) → read (record { state = t; last = false }) q ≡ chain_turn s row → repeated chain_turn s row ≡ repeated chain_turn t q
chain_goes_on s t row q e = turn_more chain_turn s row q e (left_below row (chain_turn_strict s row) e)

-- the links of a chain, behind the links es
links_read : {left : Ref} {fs : List Link} {q row : Row} (es : List Link) → Links left fs q row → length es + length fs ≤ 64 → Quiet q → (s : Chained) × (s.links ≡ es ++ fs) × (repeated chain_turn (record { left = left; links = es }) row ≡ read s q)
links_read {left} {q = q} es (last_link a at right w) h quiet =
    (record { left = right; links = es ++ record { left = left; arrow = a; at = at; right = right } ∷ [] }, refl, turn_last chain_turn _ _ q (link_turn left es (omega arith) a at w false quiet))
links_read {left} es (link_on a at right {ls = fs} w l) h quiet =
    let e : Link = record { left = left; arrow = a; at = at; right = right } in
    let t = link_turn left es (omega arith) a at w true (links_arrow l) in
    let g = links_read (es ++ e ∷ []) l (omega (arith, length-append es (e ∷ []))) quiet in
    (g.0, g.1 ∙ append_assoc es (e ∷ []) fs, chain_goes_on _ _ _ _ t ∙ g.2)

start_declares : (k : Kind) (at : Position) (r : Row) → read (declares k) r ≡ start (token (word (kind_word k)) at r)
unfolding start kind_by or_refuse
start_declares File at r = refl
start_declares Package at r = refl
start_declares Service at r = refl

start_refers : (k : Kind) (at : Position) (r : Row) → read (refers k at) r ≡ start (token (word (ref_word k)) at r)
unfolding start kind_by or_refuse
start_refers File at r = refl
start_refers Package at r = refl
start_refers Service at r = refl

module _ (ns : List (List ℕ)) where
  -- an item, by how it begins
  begun : (m : Document) (row : Row) {s : Start} {q : Row} → read s q ≡ start row → {y : Read (Turn Document)} → y ≡ item_of ns m s q → y ≡ item ns m row
  unfolding item
  begun m row e n = then (item_of ns m) e n

  admitted : (ds : List Declared) (d : Declared) → known ns d.resource ≡ true → repeats d.resource ds ≡ false → length ds < 32 → Ok (ds ++ d ∷ []) ≡ admit ns ds d
  admitted ds d k f h = rw (k, f, lt-ltb (length ds) 32 h) refl

  declared_item : (m : Document) (at : Position) {d : Declared} {q r : Row} → Declares d q r → known ns d.resource ≡ true → repeats d.resource m.declared ≡ false → length m.declared < 32 → read (record { state = record { declared = m.declared ++ d ∷ []; links = m.links }; last = false }) q ≡ item ns m (token (word (kind_word (kind_of d.resource))) at r)
  declared_item m at {d} {r = r} w k f h =
      begun m _ (start_declares (kind_of d.resource) at r) (then _ (declaration_read w) (holds _ _ (admitted m.declared d k f h) refl))

  chained_item : (m : Document) {left : Ref} {ls : List Link} {p q r : Row} → Refers left r p → Links left ls q r → length m.links + length ls ≤ 64 → Quiet q → read (record { state = record { declared = m.declared; links = m.links ++ ls }; last = false }) q ≡ item ns m p
  unfolding chain
  chained_item m {left} {q = q} w l h quiet =
      let t = links_read m.links l h quiet in
      let made : List Link → Read (Turn Document) = λ ls. read (record { state = record { declared = m.declared; links = ls }; last = false }) q in
      begun m _ (start_refers left.kind left.at w.brackets) (then _ (then _ (bracketed_read left w.rest) (then _ (sym t.2) refl)) (ap made (sym t.1))) ∙ ap (item ns m) (sym w.begins)

  item_goes_on : (m n : Document) (row q : Row) → read (record { state = n; last = false }) q ≡ item ns m row → repeated (item ns) m row ≡ repeated (item ns) n q
  item_goes_on m n row q e = turn_more (item ns) m row q e (item_below ns m n q row e)

  -- up to q
  says_read : {m : Document} {q row : Row} → Says ns m q row → Quiet q → repeated (item ns) nothing_said row ≡ repeated (item ns) m q
  says_read nothing quiet = refl
  says_read (declared d s w k f h) quiet = says_read s (word_quiet _ _ _) ∙ item_goes_on _ _ _ _ (declared_item _ _ w k f h)
  says_read (chained {m = m} left ls s w l h) quiet = says_read s (refers_quiet w) ∙ item_goes_on _ _ _ _ (chained_item m w l (omega (arith, length-append m.links ls)) quiet)

  last_item : (m : Document) (at : Position) → read (record { state = m; last = true }) (ended at) ≡ item ns m (ended at)
  unfolding item start after
  last_item m at = refl

  pub complete : (m : Document) (at : Position) (row : Row) → Says ns m (ended at) row → document ns row ≡ read m (ended at)
  unfolding document
  complete m at row s = says_read s (end_quiet at) ∙ turn_last (item ns) m (ended at) (ended at) (last_item m at)
