-- A chain that is read is written as the grammar says. Assumes nothing.
use Rattle.std.proofs.Common.{◌≡◌, ℕ, zero, suc, ◌<◌, ◌≤◌, Bool, true, false, not, ltb, List, [], ◌∷◌, ◌++◌, length, Some, sym, refl, ap, ◌∙◌, subst, inl, inr, append_assoc, arith, length-append}
use Rattle.std.proofs.lemmas.Bool.{ltb-true}
use Rattle.fs.specs.Tree.{same}
use Rattle.fs.proofs.Trees.{same_eq}
use Rattle.lexer.specs.Lexing.{word, quoted, open_bracket, close_bracket}
use Rattle.lexer.specs.Rows.{Row, token, ended, broken}
use Rattle.lexer.specs.declared.position.Position.{Position}
use Rattle.syntax.specs.declared.arrow.Arrow.{Arrow}
use Rattle.syntax.specs.declared.kind.Kind.{Kind}
use Rattle.syntax.specs.declared.kind.Kind.TheVariants.{File, Package, Service}
use Rattle.syntax.specs.declared.mark.Mark.TheVariants.{OpenBracket, CloseBracket}
use Rattle.syntax.specs.Kinds.{ref_word, kind_by, referred_kind}
use Rattle.syntax.specs.Reading.{read, taken}
use Rattle.syntax.specs.Repeating.{size, Turn, repeated}
use Rattle.syntax.specs.Tokens.{word_of, quoted_of, the_mark}
use Rattle.syntax.proofs.Turns.{Below, below_size}
use Rattle.syntax.proofs.Progress.{left_below}
use Rattle.grammar.specs.Documents.{Ref, Link}
use Rattle.grammar.specs.Chains.{arrow_of, arrow_follows, bracketed, reference, link, room, Chained, chain_turn, chain}
use Rattle.grammar.specs.Grammar.{Written, Refers, arrow_lexeme, Links, last_link, link_on}
use Rattle.grammar.proofs.Inversions.{after_inv, or_inv, pick, no_some, join, moved, single, repeated_inv}
use Rattle.grammar.proofs.Progress.{chain_turn_strict}
use Rattle.grammar.proofs.Tokens.{word_taken, quoted_taken, arrow_taken, mark_taken}

-- the word of a kind
module _ (spelled : Kind → List ℕ) (k : Kind) (w : List ℕ) where
  kind_at : (j : Kind) → Some k ≡ Some j → same w (spelled j) ≡ true → w ≡ spelled k
  kind_at j e s = let f : j ≡ k = cc in same_eq w _ s ∙ ap spelled f

  pub kind_by_inv : Some k ≡ kind_by spelled w → w ≡ spelled k
  unfolding kind_by
  kind_by_inv e =
      elim (pick (same w (spelled File)) _ _ e) [
        | inl h ↦ kind_at File h.1 h.0
        | inr h ↦ elim (pick (same w (spelled Package)) _ _ h.1) [
          | inl i ↦ kind_at Package i.1 i.0
          | inr i ↦ elim (pick (same w (spelled Service)) _ _ i.1) [
            | inl j ↦ kind_at Service j.1 j.0
            | inr j ↦ absurd (no_some j.1)
          ]
        ]
      ]

bracketed_inv : (k : Kind) (p : Position) (r : Ref) (q row : Row) → read r q ≡ bracketed k p row → (r.kind ≡ k) × (r.at ≡ p) × Written (open_bracket ∷ quoted r.title ∷ close_bracket ∷ []) q row
unfolding bracketed
bracketed_inv k p r q row e =
    let a = after_inv _ (taken (the_mark OpenBracket) row) e in
    let b = after_inv _ (taken quoted_of a.1) a.3 in
    let c = after_inv _ (taken (the_mark CloseBracket) b.1) b.3 in
    let is : ◌≡◌ {A = Ref} (record { kind = k; title = b.0.value; at = p }) r = cc in
    let past : c.1 ≡ q = cc in
    let w = join (single (mark_taken row OpenBracket a.2)) (join (single (quoted_taken a.1 b.2)) (single (mark_taken b.1 CloseBracket c.2))) in
    (ap (λ (x : Ref). x.kind) (sym is), ap (λ (x : Ref). x.at) (sym is), moved past (subst (λ (x : Ref). Written (open_bracket ∷ quoted x.title ∷ close_bracket ∷ []) c.1 row) is w))

-- a reference, by its parts
refers_by : (k : Kind) (p : Position) (r : Ref) (w : List ℕ) (q s row : Row) → row ≡ token (word w) p s → w ≡ ref_word k → read r q ≡ bracketed k p s → Refers r q row
refers_by k p r w q s row e f b =
    let t = bracketed_inv k p r q s b in
    let spelled = f ∙ ap ref_word (sym t.0) in
    record { brackets = s; begins = e ∙ (λ i. token (word (spelled i)) (sym t.1 i) s); rest = t.2 }

reference_inv : (r : Ref) (q row : Row) → read r q ≡ reference row → Refers r q row
unfolding reference
reference_inv r q row e =
    let a = after_inv _ (taken word_of row) e in
    let o = or_inv _ _ _ (referred_kind a.0.value) a.3 in
    refers_by o.0 a.0.at r a.0.value q a.1 row (word_taken row a.2) (kind_by_inv ref_word o.0 _ o.1) o.2

-- an arrow and a reference, behind `left`
record Linked (left : Ref) (l : Link) (q row : Row) : Type 0 where
  arrow : Arrow
  at : Position
  right : Ref
  past : Row
  is : l ≡ record { left = left; arrow = arrow; at = at; right = right }
  begins : row ≡ token (arrow_lexeme arrow) at past
  refers : Refers right q past

link_inv : (left : Ref) (l : Link) (q row : Row) → read l q ≡ link left row → Linked left l q row
unfolding link
link_inv left l q row e =
    let a = after_inv _ (taken arrow_of row) e in
    let b = after_inv _ (reference a.1) a.3 in
    let is : ◌≡◌ {A = Link} l (record { left = left; arrow = a.0.value; at = a.0.at; right = b.0 }) = cc in
    let past : b.1 ≡ q = cc in
    record { arrow = a.0.value; at = a.0.at; right = b.0; past = a.1; is = is; begins = arrow_taken row a.2; refers = subst (λ r. Refers b.0 r a.1) past (reference_inv b.0 b.1 a.1 b.2) }

follows_inv : (row : Row) {b : Bool} {r : Row} → read b r ≡ arrow_follows row → row ≡ r
unfolding arrow_follows
follows_inv (token l at s) e = cc
follows_inv (ended at) e = cc
follows_inv (broken f) e = let z : ◌≡◌ {A = ℕ} 0 1 = cc in absurd (omega arith)

pub room_inv : {A : Type 0} (n : ℕ) (xs ys : List A) (x : A) → Some ys ≡ room n xs x → (length xs < n) × (ys ≡ xs ++ x ∷ [])
room_inv n xs ys x e =
    elim (pick (ltb (length xs) n) _ _ e) [ inl h ↦ let f : ys ≡ xs ++ x ∷ [] = cc h.1 in (ltb-true _ n h.0, f) | inr h ↦ absurd (no_some h.1) ]

turn_inv : (s t : Chained) (b : Bool) (q row : Row) → read (record { state = t; last = b }) q ≡ chain_turn s row → (l : Link) × Linked s.left l q row × (t ≡ record { left = l.right; links = s.links ++ l ∷ [] }) × (length s.links < 64)
unfolding chain_turn
turn_inv s t b q row e =
    let a = after_inv _ (link s.left row) e in
    let o = or_inv _ _ _ (room 64 s.links a.0) a.3 in
    let c = after_inv _ (arrow_follows a.1) o.2 in
    let r = room_inv 64 s.links o.0 a.0 o.1 in
    let is : ◌≡◌ {A = Turn Chained} (record { state = t; last = b }) (record { state = record { left = a.0.right; links = o.0 }; last = not c.0 }) = cc in
    let past : c.1 ≡ q = cc in
    (a.0, subst (λ p. Linked s.left a.0 p row) (follows_inv a.1 c.2 ∙ past) (link_inv s.left a.0 a.1 row a.2), ap (λ (y : Turn Chained). y.state) is ∙ (λ i. record { left = a.0.right; links = r.1 i }), r.0)

chain_below : (s t : Chained) (q row : Row) → read (record { state = t; last = false }) q ≡ chain_turn s row → Below q row
chain_below s t q row e = left_below row (chain_turn_strict s row) e

-- the links of a chain from s to z
record LinksOn (s z : Chained) (q row : Row) : Type 0 where
  new : List Link
  is : z.links ≡ s.links ++ new
  said : Links s.left new q row
  few : length (s.links ++ new) ≤ 64

module _ (s t : Chained) (r row : Row) where
  one_link : (l : Link) → Linked s.left l r row → t ≡ record { left = l.right; links = s.links ++ l ∷ [] } → length s.links < 64 → LinksOn s t r row
  one_link l w e h =
      let last : Links s.left (l ∷ []) r row = subst (λ x. Links s.left (x ∷ []) r row) (sym w.is) (subst (λ x. Links s.left (record { left = s.left; arrow = w.arrow; at = w.at; right = w.right } ∷ []) r x) (sym w.begins) (last_link w.arrow w.at w.right w.refers)) in
      record { new = l ∷ []; is = ap (λ (y : Chained). y.links) e; said = last; few = omega (arith, length-append s.links (l ∷ [])) }

  more_links : (l : Link) (z : Chained) (q : Row) → Linked s.left l r row → t ≡ record { left = l.right; links = s.links ++ l ∷ [] } → LinksOn t z q r → LinksOn s z q row
  more_links l z q w e g =
      let es : t.links ++ g.new ≡ s.links ++ (l ∷ g.new) = ap (λ (y : Chained). y.links ++ g.new) e ∙ append_assoc s.links (l ∷ []) g.new in
      let left : t.left ≡ w.right = ap (λ (y : Chained). y.left) e ∙ ap (λ (y : Link). y.right) w.is in
      let tail : Links w.right g.new q r = subst (λ x. Links x g.new q r) left g.said in
      let all : Links s.left (l ∷ g.new) q row = subst (λ x. Links s.left (x ∷ g.new) q row) (sym w.is) (subst (λ x. Links s.left (record { left = s.left; arrow = w.arrow; at = w.at; right = w.right } ∷ g.new) q x) (sym w.begins) (link_on w.arrow w.at w.right w.refers tail)) in
      record { new = l ∷ g.new; is = g.is ∙ es; said = all; few = subst (λ y. length y ≤ 64) es g.few }

links_inv : (n : ℕ) (s z : Chained) (q row : Row) → size row ≤ n → read z q ≡ repeated chain_turn s row → LinksOn s z q row
links_inv zero s z q row h e =
    elim (repeated_inv chain_turn chain_below s z q row e) [
      | inl m ↦ let t = turn_inv s z true q row m in one_link s z q row t.0 t.1 t.2 t.3
      | inr m ↦ absurd (omega (arith, below_size m.1 row (chain_below s m.0 m.1 row m.2)))
    ]
links_inv (suc n) s z q row h e =
    elim (repeated_inv chain_turn chain_below s z q row e) [
      | inl m ↦ let t = turn_inv s z true q row m in one_link s z q row t.0 t.1 t.2 t.3
      | inr m ↦
          let t = turn_inv s m.0 false m.1 row m.2 in
          more_links s m.0 m.1 row t.0 z q t.1 t.2 (links_inv n m.0 z q m.1 (omega (arith, below_size m.1 row (chain_below s m.0 m.1 row m.2))) m.3)
    ]

-- a chain behind the word of its first reference
pub chain_inv : (k : Kind) (p : Position) (es zs : List Link) (q row whole : Row) → whole ≡ token (word (ref_word k)) p row → read zs q ≡ chain k p es row → (left : Ref) × (ls : List Link) × (r : Row) × Refers left r whole × (zs ≡ es ++ ls) × Links left ls q r × (length (es ++ ls) ≤ 64)
unfolding chain
chain_inv k p es zs q row whole w e =
    let a = after_inv _ (bracketed k p row) e in
    let b = after_inv _ (repeated chain_turn (record { left = a.0; links = es }) a.1) a.3 in
    let l = links_inv (size a.1) (record { left = a.0; links = es }) b.0 b.1 a.1 (omega arith) b.2 in
    let is : zs ≡ b.0.links = cc in
    let past : b.1 ≡ q = cc in
    (a.0, l.new, a.1, refers_by k p a.0 (ref_word k) a.1 row whole w refl a.2, is ∙ l.is, subst (λ r. Links a.0 l.new r a.1) past l.said, l.few)
