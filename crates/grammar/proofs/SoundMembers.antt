-- Attributes that are read stand in the row. Assumes nothing.
use Rattle.std.proofs.Common.{◌≡◌, ℕ, Bool, true, false, ◌&&◌, List, [], ◌∷◌, is_some, Some, None, Ok, codes, Option, sym, refl, ap, ◌∙◌, subst, inl, inr, arith}
use Rattle.std.proofs.lemmas.Bool.{and_parts, false≢true}
use Rattle.values.specs.Rules.{is_content}
use Rattle.fs.specs.Tree.{same}
use Rattle.fs.proofs.Trees.{same_eq}
use Rattle.lexer.specs.Lexing.{Lexeme, word, close_brace, comma, gives}
use Rattle.lexer.specs.Rows.{Row, token, ended, broken}
use Rattle.syntax.specs.declared.attribute.Attribute.{Attribute as Name}
use Rattle.syntax.specs.declared.attribute.Attribute.TheVariants.{Ensure, Content}
use Rattle.syntax.specs.declared.attribute.Want.{Want}
use Rattle.syntax.specs.declared.kind.Kind.{Kind}
use Rattle.syntax.specs.declared.kind.Kind.TheVariants.{File, Package, Service}
use Rattle.syntax.specs.declared.mark.Mark.TheVariants.{Gives}
use Rattle.syntax.specs.Reading.{read, taken}
use Rattle.syntax.specs.Repeating.{Turn}
use Rattle.syntax.specs.Tokens.{word_of, quoted_of, value_of, the_mark}
use Rattle.syntax.proofs.Turns.{Below}
use Rattle.syntax.proofs.Progress.{left_below}
use Rattle.grammar.specs.Declarations.{Given, is_file, named, wanted, with_ensure, ensure_by, content_by, with_value, attribute, closer_of, is_true, last_comma, closing, member}
use Rattle.grammar.specs.Grammar.{Written, ensure_is, content_is, Closes, plain, with_comma}
use Rattle.grammar.proofs.Inversions.{after_inv, or_inv, checked_inv, pick, no_some, no_ok, join, moved, single}
use Rattle.grammar.proofs.Progress.{member_strict}
use Rattle.grammar.proofs.Tokens.{word_inv, quoted_inv, closer_lexeme, closer_inv, word_taken, value_taken, closer_taken, mark_taken}

-- the closing brace behind a comma, or what stays
Last : Bool → Row → Row → Type 0
Last true q row = Written (close_brace ∷ []) q row
Last false q row = row ≡ q

is_true_inv : (o : Option Bool) → is_true o ≡ true → Some true ≡ o
is_true_inv None e = absurd (false≢true e)
is_true_inv (Some b) e = ap Some (sym e)

last_comma_inv : (row : Row) (b : Bool) {q : Row} → read b q ≡ last_comma row → Last b q row
unfolding last_comma Last
last_comma_inv (token l at r) b {q} e =
    elim (pick (is_true (closer_of l)) _ _ e) [
      | inl h ↦
          let x : true ≡ b = cc h.1 in
          let y : r ≡ q = cc h.1 in
          subst (λ c. Last c q (token l at r)) x (moved y (single (ap (λ l. token l at r) (closer_inv l true (is_true_inv _ h.0)))))
      | inr h ↦
          let x : false ≡ b = cc h.1 in
          let y : token l at r ≡ q = cc h.1 in
          subst (λ c. Last c q (token l at r)) x y
    ]
last_comma_inv (ended at) b {q} e =
    let x : false ≡ b = cc in
    let y : ended at ≡ q = cc in
    subst (λ c. Last c q (ended at)) x y
last_comma_inv (broken f) b e = let z : ◌≡◌ {A = ℕ} 0 1 = cc in absurd (omega arith)

-- the closing brace, or a comma before one more
unfoldable pub Closed : Bool → Row → Row → Type 0
Closed true q row = (cs : List Lexeme) × Closes cs × Written cs q row
Closed false q row = Written (comma ∷ []) q row

closed_by : (b : Bool) (q : Row) {r row : Row} → Written (comma ∷ []) r row → Last b q r → Closed b q row
unfolding Last Closed
closed_by true q w l = (_, with_comma, join w l)
closed_by false q w l = moved l w

closing_inv : (row : Row) (b : Bool) {q : Row} → read b q ≡ closing row → Closed b q row
unfolding closing Closed
closing_inv row b {q} e =
    let a = after_inv _ (taken closer_of row) e in
    let t = closer_taken row a.2 in
    elim (pick a.0.value (read true a.1) _ a.3) [
      | inl h ↦
          let x : true ≡ b = cc h.1 in
          let y : a.1 ≡ q = cc h.1 in
          subst (λ c. Closed c q row) x (close_brace ∷ [], plain, moved y (single (t ∙ ap (λ c. token (closer_lexeme c) a.0.at a.1) h.0)))
      | inr h ↦ closed_by b q (single (t ∙ ap (λ c. token (closer_lexeme c) a.0.at a.1) h.0)) (last_comma_inv a.1 b h.1)
    ]

none_is : {A : Type 0} (o : Option A) → is_some o ≡ false → o ≡ None
none_is (Some x) e = absurd (false≢true (sym e))
none_is None e = refl

file_is : (k : Kind) → is_file k ≡ true → k ≡ File
file_is File e = refl
file_is Package e = absurd (false≢true e)
file_is Service e = absurd (false≢true e)

module _ (k : Kind) (g : Given) (w : List ℕ) where
  named_ensure : Some Ensure ≡ named k g w → (w ≡ codes "ensure") × (g.ensure ≡ None)
  unfolding named
  named_ensure e =
      elim (pick (same w (codes "ensure")) _ _ e) [
        | inl h ↦ elim (pick (is_some g.ensure) _ _ h.1) [ inl i ↦ absurd (no_some i.1) | inr i ↦ (same_eq w _ h.0, none_is _ i.0) ]
        | inr h ↦ elim (pick (is_file k && same w (codes "content")) _ _ h.1) [
          | inl i ↦ elim (pick (is_some g.content) _ _ i.1) [ inl j ↦ absurd (no_some j.1) | inr j ↦ let z : ◌≡◌ {A = ℕ} 0 1 = cc j.1 in absurd (omega arith) ]
          | inr i ↦ absurd (no_some i.1)
        ]
      ]

  named_content : Some Content ≡ named k g w → (w ≡ codes "content") × (k ≡ File) × (g.content ≡ None)
  unfolding named
  named_content e =
      elim (pick (same w (codes "ensure")) _ _ e) [
        | inl h ↦ elim (pick (is_some g.ensure) _ _ h.1) [ inl i ↦ absurd (no_some i.1) | inr i ↦ let z : ◌≡◌ {A = ℕ} 0 1 = cc i.1 in absurd (omega arith) ]
        | inr h ↦ elim (pick (is_file k && same w (codes "content")) _ _ h.1) [
          | inl i ↦ let p = and_parts _ _ i.0 in elim (pick (is_some g.content) _ _ i.1) [ inl j ↦ absurd (no_some j.1) | inr j ↦ (same_eq w _ p.1, file_is k p.0, none_is _ j.0) ]
          | inr i ↦ absurd (no_some i.1)
        ]
      ]

-- one attribute: g before it, f with it
pub data Attributed (k : Kind) (g f : Given) (q row : Row) : Type 0 where
  ensured : (w : List ℕ) (v : Want) → g.ensure ≡ None → Some v ≡ wanted k w → f ≡ record { ensure = Some v; content = g.content } → Written (ensure_is w) q row → Attributed k g f q row
  filled : (c : List ℕ) → k ≡ File → g.content ≡ None → is_content c ≡ true → f ≡ record { ensure = g.ensure; content = Some c } → Written (content_is c) q row → Attributed k g f q row

module _ (k : Kind) (g f : Given) where
  with_ensure_inv : (o : Option Want) → Ok f ≡ with_ensure g o → (v : Want) × (Some v ≡ o) × (f ≡ record { ensure = Some v; content = g.content })
  with_ensure_inv None e = absurd (no_ok e)
  with_ensure_inv (Some v) e = (v, refl, cc)

  ensure_inv : (o : Option (List ℕ)) → Ok f ≡ ensure_by k g o → (w : List ℕ) × (v : Want) × (Some w ≡ o) × (Some v ≡ wanted k w) × (f ≡ record { ensure = Some v; content = g.content })
  ensure_inv None e = absurd (no_ok e)
  ensure_inv (Some w) e = let x = with_ensure_inv (wanted k w) e in (w, x.0, refl, x.1, x.2)

  content_inv : (o : Option (List ℕ)) → Ok f ≡ content_by g o → (c : List ℕ) × (Some c ≡ o) × (is_content c ≡ true) × (f ≡ record { ensure = g.ensure; content = Some c })
  content_inv None e = absurd (no_ok e)
  content_inv (Some c) e = elim (pick (is_content c) _ _ e) [ inl h ↦ let x : f ≡ record { ensure = g.ensure; content = Some c } = cc h.1 in (c, refl, h.0, x) | inr h ↦ absurd (no_ok h.1) ]

  module _ (q row : Row) where
    of_name : (n : Name) (w : List ℕ) (l : Lexeme) → Some n ≡ named k g w → Ok f ≡ with_value k g n l → Written (word w ∷ gives ∷ l ∷ []) q row → Attributed k g f q row
    of_name Ensure w l a b x =
        let m = named_ensure k g w a in
        let v = ensure_inv (word_of l) b in
        ensured v.0 v.1 m.1 v.3 v.4 (subst (λ u. Written (word (codes "ensure") ∷ gives ∷ u ∷ []) q row) (word_inv l v.0 v.2) (subst (λ u. Written (word u ∷ gives ∷ l ∷ []) q row) m.0 x))
    of_name Content w l a b x =
        let m = named_content k g w a in
        let v = content_inv (quoted_of l) b in
        filled v.0 m.1 m.2 v.2 v.3 (subst (λ u. Written (word (codes "content") ∷ gives ∷ u ∷ []) q row) (quoted_inv l v.0 v.1) (subst (λ u. Written (word u ∷ gives ∷ l ∷ []) q row) m.0 x))

    attribute_inv : read f q ≡ attribute k g row → Attributed k g f q row
    unfolding attribute
    attribute_inv e =
        let a = after_inv _ (taken word_of row) e in
        let n = or_inv _ _ _ (named k g a.0.value) a.3 in
        let p = after_inv _ (taken (the_mark Gives) a.1) n.2 in
        let v = after_inv _ (taken value_of p.1) p.3 in
        let x = checked_inv _ _ (with_value k g n.0 v.0.value) v.3 in
        let is : x.0 ≡ f = cc in
        let past : v.1 ≡ q = cc in
        let w = join (single (word_taken row a.2)) (join (single (mark_taken a.1 Gives p.2)) (single (value_taken p.1 v.2))) in
        of_name n.0 _ _ n.1 (ap Ok (sym is) ∙ x.1) (moved past w)

-- an attribute, and what stands behind it
pub member_inv : (k : Kind) (g f : Given) (b : Bool) (q row : Row) → read (record { state = f; last = b }) q ≡ member k g row → (r : Row) × Attributed k g f r row × Closed b q r
unfolding member
member_inv k g f b q row e =
    let a = after_inv _ (attribute k g row) e in
    let c = after_inv _ (closing a.1) a.3 in
    let t : ◌≡◌ {A = Turn Given} (record { state = a.0; last = c.0 }) (record { state = f; last = b }) = cc in
    let past : c.1 ≡ q = cc in
    let closed = subst (λ x. Closed c.0 x a.1) past (closing_inv a.1 c.0 c.2) in
    (a.1, subst (λ x. Attributed k g x a.1 row) (ap (λ (x : Turn Given). x.state) t) (attribute_inv k g a.0 a.1 row a.2), subst (λ x. Closed x q a.1) (ap (λ (x : Turn Given). x.last) t) closed)

pub member_below : (k : Kind) (g f : Given) (q row : Row) → read (record { state = f; last = false }) q ≡ member k g row → Below q row
member_below k g f q row e = left_below row (member_strict k g row) e
