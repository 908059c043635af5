-- A declaration that is read is written as the grammar says. Assumes nothing.
use Rattle.std.proofs.Common.{◌≡◌, ℕ, true, false, ◌⊎◌, List, [], ◌∷◌, ◌++◌, Some, None, codes, Option, sym, refl, ap, ◌∙◌, subst, inl, inr}
use Rattle.values.specs.Rules.{is_content}
use Rattle.fs.specs.Tree.{same}
use Rattle.fs.proofs.Trees.{same_eq}
use Rattle.lexer.specs.Lexing.{Lexeme, quoted, open_brace, colon, comma}
use Rattle.lexer.specs.Rows.{Row, token}
use Rattle.syntax.specs.declared.attribute.Want.{Want}
use Rattle.syntax.specs.declared.attribute.Want.TheVariants.{File as AsFile, Directory, Absent, Present, Running}
use Rattle.syntax.specs.declared.kind.Kind.{Kind}
use Rattle.syntax.specs.declared.kind.Kind.TheVariants.{File, Package, Service}
use Rattle.syntax.specs.declared.mark.Mark.TheVariants.{OpenBrace, Colon}
use Rattle.syntax.specs.Reading.{read, Located, taken}
use Rattle.syntax.specs.Repeating.{repeated}
use Rattle.syntax.specs.Tokens.{quoted_of, the_mark}
use Rattle.grammar.specs.Documents.{Resource, kind_of, title_of, Declared}
use Rattle.grammar.specs.Declarations.{title_ok, title_check, Given, none_given, wanted, member, attributes, heading, of_want, made_of, declaration}
use Rattle.grammar.specs.Grammar.{Written, ensure_is, content_is, Attributes, file_first, content_first, is_directory, is_absent, is_present, is_running, Closes, Declares}
use Rattle.grammar.proofs.Inversions.{after_inv, or_inv, checked_inv, pick, no_some, no_ok, join, moved, single, repeated_inv}
use Rattle.grammar.proofs.SoundMembers.{Closed, Attributed, ensured, filled, member_inv, member_below}
use Rattle.grammar.proofs.Tokens.{quoted_taken, mark_taken}

-- no attribute comes behind both
full : {k : Kind} {v : Want} {c : List ℕ} {g f : Given} {q row : Row} → g ≡ record { ensure = Some v; content = Some c } → Attributed k g f q row → ⊥
full e (ensured w u n i h x) = no_some (ap (λ (y : Given). y.ensure) (sym e) ∙ n)
full e (filled d i n j h x) = no_some (ap (λ (y : Given). y.content) (sym e) ∙ n)

none_more : (k : Kind) (v : Want) (c : List ℕ) (g z : Given) (q row : Row) → g ≡ record { ensure = Some v; content = Some c } → read z q ≡ repeated (member k) g row → ⊥
none_more k v c g z q row e h =
    elim (repeated_inv (member k) (member_below k) g z q row h) [
      | inl m ↦ full e (member_inv k g z true q row m).1
      | inr m ↦ full e (member_inv k g m.0 false m.1 row m.2).1
    ]

-- the attributes up to the brace
data Formed (k : Kind) (z : Given) (q row : Row) : Type 0 where
  one_ensure : (w : List ℕ) (v : Want) (cs : List Lexeme) → Some v ≡ wanted k w → z ≡ record { ensure = Some v; content = None } → Closes cs → Written (ensure_is w ++ cs) q row → Formed k z q row
  one_content : (c : List ℕ) → z ≡ record { ensure = None; content = Some c } → Formed k z q row
  both : (w : List ℕ) (v : Want) (c : List ℕ) (cs : List Lexeme) → k ≡ File → Some v ≡ wanted k w → is_content c ≡ true → z ≡ record { ensure = Some v; content = Some c } → Closes cs
      → (Written ((ensure_is w ++ comma ∷ content_is c) ++ cs) q row) ⊎ (Written ((content_is c ++ comma ∷ ensure_is w) ++ cs) q row) → Formed k z q row

given_same : {g : Given} {a b : Option Want} {c d : Option (List ℕ)} → g ≡ record { ensure = a; content = c } → a ≡ b → c ≡ d → g ≡ record { ensure = b; content = d }
given_same e p q = e ∙ (λ i. record { ensure = p i; content = q i })

module _ (k : Kind) (t z : Given) (q row r p : Row) (e : read z q ≡ repeated (member k) t r) (sep : Written (comma ∷ []) r p) where
  after_ensure : (w : List ℕ) (v : Want) → Some v ≡ wanted k w → t ≡ record { ensure = Some v; content = None } → Written (ensure_is w) p row → Formed k z q row
  unfolding Closed
  after_ensure w v i f x =
      elim (repeated_inv (member k) (member_below k) t z q r e) [
        | inl h ↦ let m = member_inv k t z true q r h in elim m.1 [
          | ensured w2 u n i2 f2 x2 ↦ absurd (no_some (ap (λ (y : Given). y.ensure) (sym f) ∙ n))
          | filled c kf n ok f2 x2 ↦ both w v c m.2.0 kf i ok (given_same f2 (ap (λ (y : Given). y.ensure) f) refl) m.2.1 (inl (join (join x (join sep x2)) m.2.2))
        ]
        | inr h ↦ let m = member_inv k t h.0 false h.1 r h.2 in elim m.1 [
          | ensured w2 u n i2 f2 x2 ↦ absurd (no_some (ap (λ (y : Given). y.ensure) (sym f) ∙ n))
          | filled c kf n ok f2 x2 ↦ absurd (none_more k v c h.0 z q h.1 (given_same f2 (ap (λ (y : Given). y.ensure) f) refl) h.3)
        ]
      ]

  after_content : (c : List ℕ) → k ≡ File → is_content c ≡ true → t ≡ record { ensure = None; content = Some c } → Written (content_is c) p row → Formed k z q row
  unfolding Closed
  after_content c kf ok f x =
      elim (repeated_inv (member k) (member_below k) t z q r e) [
        | inl h ↦ let m = member_inv k t z true q r h in elim m.1 [
          | ensured w v n i f2 x2 ↦ both w v c m.2.0 kf i ok (given_same f2 refl (ap (λ (y : Given). y.content) f)) m.2.1 (inr (join (join x (join sep x2)) m.2.2))
          | filled d i n j f2 x2 ↦ absurd (no_some (ap (λ (y : Given). y.content) (sym f) ∙ n))
        ]
        | inr h ↦ let m = member_inv k t h.0 false h.1 r h.2 in elim m.1 [
          | ensured w v n i f2 x2 ↦ absurd (none_more k v c h.0 z q h.1 (given_same f2 refl (ap (λ (y : Given). y.content) f)) h.3)
          | filled d i n j f2 x2 ↦ absurd (no_some (ap (λ (y : Given). y.content) (sym f) ∙ n))
        ]
      ]

attributes_inv : (k : Kind) (z : Given) (q row : Row) → read z q ≡ attributes k row → Formed k z q row
unfolding attributes Closed
attributes_inv k z q row e =
    elim (repeated_inv (member k) (member_below k) none_given z q row e) [
      | inl h ↦ let m = member_inv k none_given z true q row h in elim m.1 [
        | ensured w v n i f x ↦ one_ensure w v m.2.0 i f m.2.1 (join x m.2.2)
        | filled c kf n ok f x ↦ one_content c f
      ]
      | inr h ↦ let m = member_inv k none_given h.0 false h.1 row h.2 in elim m.1 [
        | ensured w v n i f x ↦ after_ensure k h.0 z q row h.1 m.0 h.3 m.2 w v i f x
        | filled c kf n ok f x ↦ after_content k h.0 z q row h.1 m.0 h.3 m.2 c kf ok f x
      ]
    ]

-- the words of `ensure`
data Wanted : Kind → Want → List ℕ → Type 0 where
  wants_file : Wanted File AsFile (codes "file")
  wants_directory : Wanted File Directory (codes "directory")
  wants_absent : Wanted File Absent (codes "absent")
  wants_present : Wanted Package Present (codes "present")
  wants_running : Wanted Service Running (codes "running")

wanted_at : {k : Kind} {u v : Want} {x : List ℕ} (w : List ℕ) → Some v ≡ Some u → same w x ≡ true → Wanted k u x → Wanted k v w
wanted_at {k} {u} {v} {x} w e s h = let f : u ≡ v = cc in subst (λ y. Wanted k y w) f (subst (λ y. Wanted k u y) (sym (same_eq w x s)) h)

wanted_inv : (k : Kind) (v : Want) (w : List ℕ) → Some v ≡ wanted k w → Wanted k v w
unfolding wanted
wanted_inv File v w e =
    elim (pick (same w (codes "file")) _ _ e) [
      | inl h ↦ wanted_at w h.1 h.0 wants_file
      | inr h ↦ elim (pick (same w (codes "directory")) _ _ h.1) [
        | inl i ↦ wanted_at w i.1 i.0 wants_directory
        | inr i ↦ elim (pick (same w (codes "absent")) _ _ i.1) [
          | inl j ↦ wanted_at w j.1 j.0 wants_absent
          | inr j ↦ absurd (no_some j.1)
        ]
      ]
    ]
wanted_inv Package v w e = elim (pick (same w (codes "present")) _ _ e) [ inl h ↦ wanted_at w h.1 h.0 wants_present | inr h ↦ absurd (no_some h.1) ]
wanted_inv Service v w e = elim (pick (same w (codes "running")) _ _ e) [ inl h ↦ wanted_at w h.1 h.0 wants_running | inr h ↦ absurd (no_some h.1) ]

-- a resource of kind k and title t, whose attributes stand in the row
record Spelled (k : Kind) (t : List ℕ) (q row : Row) (d : Resource) : Type 0 where
  kinded : kind_of d ≡ k
  titled : title_of d ≡ t
  xs : List Lexeme
  cs : List Lexeme
  attrs : Attributes d xs
  closed : Closes cs
  spelled : Written (xs ++ cs) q row

module _ (t : List ℕ) (q row : Row) (cs : List Lexeme) (x : Closes cs) where
  spelled_at : (k : Kind) {c d : Resource} → Some d ≡ Some c → Spelled k t q row c → Spelled k t q row d
  spelled_at k {c} {d} e h = let f : c ≡ d = cc in subst (Spelled k t q row) f h

  of_ensure : {k : Kind} {v : Want} {w : List ℕ} (d : Resource) → Wanted k v w → Some d ≡ of_want v k t None → Written (ensure_is w ++ cs) q row → Spelled k t q row d
  of_ensure d wants_file e y = absurd (no_some e)
  of_ensure d wants_directory e y = spelled_at _ e (record { kinded = refl; titled = refl; xs = _; cs = cs; attrs = is_directory; closed = x; spelled = y })
  of_ensure d wants_absent e y = spelled_at _ e (record { kinded = refl; titled = refl; xs = _; cs = cs; attrs = is_absent; closed = x; spelled = y })
  of_ensure d wants_present e y = spelled_at _ e (record { kinded = refl; titled = refl; xs = _; cs = cs; attrs = is_present; closed = x; spelled = y })
  of_ensure d wants_running e y = spelled_at _ e (record { kinded = refl; titled = refl; xs = _; cs = cs; attrs = is_running; closed = x; spelled = y })

  of_both : {k : Kind} {v : Want} {w : List ℕ} (c : List ℕ) (d : Resource) → Wanted k v w → is_content c ≡ true → Some d ≡ of_want v k t (Some c) → (Written ((ensure_is w ++ comma ∷ content_is c) ++ cs) q row) ⊎ (Written ((content_is c ++ comma ∷ ensure_is w) ++ cs) q row) → Spelled k t q row d
  of_both c d wants_file h e (inl y) = spelled_at _ e (record { kinded = refl; titled = refl; xs = _; cs = cs; attrs = file_first h; closed = x; spelled = y })
  of_both c d wants_file h e (inr y) = spelled_at _ e (record { kinded = refl; titled = refl; xs = _; cs = cs; attrs = content_first h; closed = x; spelled = y })
  of_both c d wants_directory h e y = absurd (no_some e)
  of_both c d wants_absent h e y = absurd (no_some e)
  of_both c d wants_present h e y = absurd (no_some e)
  of_both c d wants_running h e y = absurd (no_some e)

formed_inv : (k : Kind) (t : List ℕ) (z : Given) (d : Resource) (q row : Row) → Formed k z q row → Some d ≡ made_of k t z.ensure z.content → Spelled k t q row d
formed_inv k t z d q row (one_ensure w v cs i e c y) m = of_ensure t q row cs c d (wanted_inv k v w i) (m ∙ ap (λ (g : Given). made_of k t g.ensure g.content) e) y
formed_inv k t z d q row (one_content c e) m = absurd (no_some (m ∙ ap (λ (g : Given). made_of k t g.ensure g.content) e))
formed_inv k t z d q row (both w v c cs kf i h e x y) m = of_both t q row cs x c d (wanted_inv k v w i) h (m ∙ ap (λ (g : Given). made_of k t g.ensure g.content) e) y

-- { 'TITLE':
heading_inv : (k : Kind) (row : Row) {t : Located (List ℕ)} {q : Row} → read t q ≡ heading k row → (body : Row) × (title_ok k t.value ≡ true) × Written (open_brace ∷ []) (token (quoted t.value) t.at body) row × Written (colon ∷ []) q body
unfolding heading
heading_inv k row {t} {q} e =
    let a = after_inv _ (taken (the_mark OpenBrace) row) e in
    let b = after_inv _ (taken quoted_of a.1) a.3 in
    let h = checked_inv _ _ (title_check k b.0.value) b.3 in
    let c = after_inv _ (taken (the_mark Colon) b.1) h.2 in
    let is : b.0 ≡ t = cc in
    let past : c.1 ≡ q = cc in
    let ok : title_ok k b.0.value ≡ true = elim (pick (title_ok k b.0.value) _ _ h.1) [ inl i ↦ i.0 | inr i ↦ absurd (no_ok i.1) ] in
    let opens = moved (quoted_taken a.1 b.2) (single (mark_taken row OpenBrace a.2)) in
    (b.1, ap (λ (x : Located (List ℕ)). title_ok k x.value) (sym is) ∙ ok, subst (λ (x : Located (List ℕ)). Written (open_brace ∷ []) (token (quoted x.value) x.at b.1) row) is opens, moved past (single (mark_taken b.1 Colon c.2)))

-- a declaration behind the word of its kind
pub declaration_inv : (k : Kind) (d : Declared) (q row : Row) → read d q ≡ declaration k row → (kind_of d.resource ≡ k) × Declares d q row
unfolding declaration
declaration_inv k d q row e =
    let a = after_inv _ (heading k row) e in
    let b = after_inv _ (attributes k a.1) a.3 in
    let o = or_inv _ _ _ (made_of k a.0.value b.0.ensure b.0.content) b.3 in
    let is : ◌≡◌ {A = Declared} (record { resource = o.0; title = a.0 }) d = cc in
    let past : b.1 ≡ q = cc in
    let h = heading_inv k row a.2 in
    let s = formed_inv k a.0.value b.0 o.0 b.1 a.1 (attributes_inv k b.0 b.1 a.1 b.2) o.1 in
    let ok = (λ i. title_ok (s.kinded i) (s.titled i)) ∙ h.1 in
    let made : Declares (record { resource = o.0; title = a.0 }) b.1 row =
    record { body = h.0; attributes = s.xs; brace = s.cs; opens = h.2; titled = s.titled; ruled = ok; given = s.attrs; closes = s.closed; rest = join h.3 s.spelled } in
    (ap (λ (x : Declared). kind_of x.resource) (sym is) ∙ s.kinded, subst (λ r. Declares d r row) past (subst (λ x. Declares x b.1 row) is made))
