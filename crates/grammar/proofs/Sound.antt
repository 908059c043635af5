-- A row that is read is written as the grammar says. Assumes nothing.
use Rattle.std.proofs.Common.{◌≡◌, ℕ, zero, suc, ◌<◌, ◌≤◌, Bool, true, false, List, [], ◌∷◌, ◌++◌, length, Some, None, Ok, Option, sym, refl, ap, ◌∙◌, subst, inl, inr, arith}
use Rattle.std.proofs.lemmas.Bool.{false≢true}
use Rattle.std.specs.Option.{option_map}
use Rattle.lexer.specs.Lexing.{Lexeme, word}
use Rattle.lexer.specs.Rows.{Row, token, ended, broken}
use Rattle.lexer.specs.declared.position.Position.{Position}
use Rattle.syntax.specs.declared.kind.Kind.{Kind}
use Rattle.syntax.specs.Kinds.{kind_word, ref_word, declared_kind, referred_kind}
use Rattle.syntax.specs.Reading.{read, after}
use Rattle.syntax.specs.Repeating.{size, Turn, repeated}
use Rattle.syntax.specs.Tokens.{word_of}
use Rattle.syntax.proofs.Turns.{below_size}
use Rattle.grammar.specs.Documents.{Declared, Document}
use Rattle.grammar.specs.Declarations.{declaration}
use Rattle.grammar.specs.Chains.{room, chain}
use Rattle.grammar.specs.Items.{Start, finish, declares, refers, or_else, start_by, start, known, repeats, counted, admit, item_of, item, nothing_said, document}
use Rattle.grammar.specs.Grammar.{Says, nothing, declared, chained}
use Rattle.grammar.proofs.Inversions.{after_inv, or_inv, checked_inv, pick, no_some, no_ok, repeated_inv}
use Rattle.grammar.proofs.Progress.{item_below}
use Rattle.grammar.proofs.SoundChains.{kind_by_inv, room_inv, chain_inv}
use Rattle.grammar.proofs.SoundDeclarations.{declaration_inv}
use Rattle.grammar.proofs.Tokens.{word_inv}

-- how an item begins, by its first token, which is at p
abbrev Starts : Position → Start → Lexeme → Type 0
Starts p finish l = ⊥
Starts p (declares k) l = l ≡ word (kind_word k)
Starts p (refers k at) l = (l ≡ word (ref_word k)) × (at ≡ p)

mapped_inv : {A B : Type 0} (f : A → B) (o : Option A) {y : B} → Some y ≡ option_map f o → (x : A) × (Some x ≡ o) × (y ≡ f x)
mapped_inv f (Some x) e = (x, refl, cc)
mapped_inv f None e = absurd (no_some e)

module _ (p : Position) (s : Start) where
  starts_word : (w : List ℕ) (o : Option Kind) → o ≡ declared_kind w → Some s ≡ or_else (option_map declares o) (option_map (λ k. refers k p) (referred_kind w)) → Starts p s (word w)
  starts_word w (Some k) d e = let f : declares k ≡ s = cc in subst (λ x. Starts p x (word w)) f (ap word (kind_by_inv kind_word k w d))
  starts_word w None d e =
      let o = mapped_inv (λ k. refers k p) (referred_kind w) e in
      subst (λ x. Starts p x (word w)) (sym o.2) (ap word (kind_by_inv ref_word o.0 w o.1), refl)

  starts_by : (l : Lexeme) (o : Option (List ℕ)) → o ≡ word_of l → Some s ≡ start_by p o → Starts p s l
  starts_by l None d e = absurd (no_some e)
  starts_by l (Some w) d e = subst (λ x. Starts p s x) (sym (word_inv l w d)) (starts_word w (declared_kind w) refl e)

admit_inv : (ns : List (List ℕ)) (ds zs : List Declared) (d : Declared) → Ok zs ≡ admit ns ds d → (known ns d.resource ≡ true) × (repeats d.resource ds ≡ false) × (length ds < 32) × (zs ≡ ds ++ d ∷ [])
admit_inv ns ds zs d e =
    elim (pick (known ns d.resource) _ _ e) [
      | inl h ↦ elim (pick (repeats d.resource ds) _ _ h.1) [
        | inl i ↦ absurd (no_ok i.1)
        | inr i ↦ let r = room_inv 32 ds zs d (counted_inv (room 32 ds d) i.1) in (h.0, i.0, r.0, r.1)
      ]
      | inr h ↦ absurd (no_ok h.1)
    ]
  where
    counted_inv : (o : Option (List Declared)) → Ok zs ≡ counted o → Some zs ≡ o
    counted_inv None f = absurd (no_ok f)
    counted_inv (Some x) f = cc

module _ (ns : List (List ℕ)) where
  -- what is said up to the row, the item brings up to q
  abbrev Brings : Document → Document → Row → Row → Type 0
  Brings m t q row = (whole : Row) → Says ns m row whole → Says ns t q whole

  module _ (m t : Document) (b : Bool) (l : Lexeme) (at : Position) (q r : Row) where
    of_start : (s : Start) → Starts at s l → read (record { state = t; last = b }) q ≡ item_of ns m s r → (b ≡ false) × Brings m t q (token l at r)
    of_start finish x e = absurd x
    of_start (declares k) x e =
        let a = after_inv _ (declaration k r) e in
        let c = checked_inv _ _ (admit ns m.declared a.0) a.3 in
        let w = admit_inv ns m.declared c.0 a.0 c.1 in
        let d = declaration_inv k a.0 a.1 r a.2 in
        let is : ◌≡◌ {A = Turn Document} (record { state = record { declared = c.0; links = m.links }; last = false }) (record { state = t; last = b }) = cc in
        let past : a.1 ≡ q = cc in
        let state : ◌≡◌ {A = Document} (record { declared = m.declared ++ a.0 ∷ []; links = m.links }) t = (λ i. record { declared = sym w.3 i; links = m.links }) ∙ ap (λ (y : Turn Document). y.state) is in
        let begins = x ∙ ap (λ j. word (kind_word j)) (sym d.0) in (
          ap (λ (y : Turn Document). y.last) (sym is),
          λ whole s.
              subst (λ y. Says ns y q whole) state (subst (λ p. Says ns (record { declared = m.declared ++ a.0 ∷ []; links = m.links }) p whole) past
              (declared a.0 (subst (λ y. Says ns m (token y at r) whole) begins s) d.1 w.0 w.1 w.2)),
        )
    of_start (refers k p) x e =
        let a = after_inv _ (chain k p m.links r) e in
        let c = chain_inv k p m.links a.0 a.1 r (token l at r) (λ i. token (x.0 i) (sym x.1 i) r) a.2 in
        let is : ◌≡◌ {A = Turn Document} (record { state = record { declared = m.declared; links = a.0 }; last = false }) (record { state = t; last = b }) = cc in
        let past : a.1 ≡ q = cc in
        let state : ◌≡◌ {A = Document} (record { declared = m.declared; links = m.links ++ c.1 }) t = (λ i. record { declared = m.declared; links = sym c.4 i }) ∙ ap (λ (y : Turn Document). y.state) is in (
          ap (λ (y : Turn Document). y.last) (sym is),
          λ whole s.
              subst (λ y. Says ns y q whole) state (subst (λ p. Says ns (record { declared = m.declared; links = m.links ++ c.1 }) p whole) past
              (chained c.0 c.1 s c.3 c.5 c.6)),
        )

    start_inv : (s : Start) (p : Row) → read s p ≡ start (token l at r) → Starts at s l × (p ≡ r)
    unfolding start
    start_inv s p e =
        let o = or_inv _ _ _ (start_by at (word_of l)) e in
        let x : s ≡ o.0 = cc o.2 in
        let y : p ≡ r = cc o.2 in
        (starts_by at s l (word_of l) refl (ap Some x ∙ o.1), y)

    item_inv : read (record { state = t; last = b }) q ≡ item ns m (token l at r) → (b ≡ false) × Brings m t q (token l at r)
    unfolding item
    item_inv e =
        let a = after_inv (item_of ns m) (start (token l at r)) e in
        let s = start_inv a.0 a.1 a.2 in
        of_start a.0 s.0 (a.3 ∙ ap (item_of ns m a.0) s.1)

  -- what the whole row says, up to its end
  abbrev pub SaidSo : Document → Row → Type 0
  SaidSo z whole = (end : Position) × Says ns z (ended end) whole

  last_inv : (m z : Document) (q row whole : Row) → Says ns m row whole → read (record { state = z; last = true }) q ≡ item ns m row → SaidSo z whole
  unfolding item start after
  last_inv m z q (token l at r) whole s e = absurd (false≢true (sym (item_inv m z true l at q r e).0))
  last_inv m z q (ended at) whole s e =
      let x : ◌≡◌ {A = Turn Document} (record { state = m; last = true }) (record { state = z; last = true }) = cc in
      (at, subst (λ y. Says ns y (ended at) whole) (ap (λ (y : Turn Document). y.state) x) s)
  last_inv m z q (broken f) whole s e = let x : ◌≡◌ {A = ℕ} 0 1 = cc in absurd (omega arith)

  more_inv : (m t : Document) (q row : Row) → read (record { state = t; last = false }) q ≡ item ns m row → Brings m t q row
  more_inv m t q (token l at r) e = (item_inv m t false l at q r e).1
  more_inv m t q (ended at) e = absurd (item_below ns m t q (ended at) e)
  more_inv m t q (broken f) e = absurd (item_below ns m t q (broken f) e)

  items_inv : (n : ℕ) (m z : Document) (q row whole : Row) → size row ≤ n → Says ns m row whole → read z q ≡ repeated (item ns) m row → SaidSo z whole
  items_inv zero m z q row whole k s e =
      elim (repeated_inv (item ns) (item_below ns) m z q row e) [
        | inl x ↦ last_inv m z q row whole s x
        | inr x ↦ absurd (omega (arith, below_size x.1 row (item_below ns m x.0 x.1 row x.2)))
      ]
  items_inv (suc n) m z q row whole k s e =
      elim (repeated_inv (item ns) (item_below ns) m z q row e) [
        | inl x ↦ last_inv m z q row whole s x
        | inr x ↦ items_inv n x.0 z q x.1 whole (omega (arith, below_size x.1 row (item_below ns m x.0 x.1 row x.2))) (more_inv m x.0 x.1 row x.2 whole s) x.3
      ]

  pub sound : (m : Document) (q row : Row) → read m q ≡ document ns row → SaidSo m row
  unfolding document
  sound m q row e = items_inv (size row) nothing_said m q row row (omega arith) nothing e
