-- A reference names the resource whose number is found, since no kind and title come twice. Assumes nothing.
use Rattle.std.proofs.Common.{◌≡◌, ℕ, ◌+◌, true, false, cond, eqb, List, [], ◌∷◌, ◌++◌, length, is_some, Some, sym, refl, ap, ◌∙◌, subst, inl, inr, arith}
use Rattle.std.proofs.lemmas.Bool.{eqb-true, eq-eqb, and_parts, and_from, cases_Bool, cond-true, cond-false, true≢false}
use Rattle.std.proofs.ByRecursion.{All-push}
use Rattle.std.specs.List.{AllByRecursion as All}
use Rattle.fs.specs.Tree.{same}
use Rattle.fs.proofs.Trees.{same_eq, same_refl}
use Rattle.lexer.specs.Rows.{Row}
use Rattle.syntax.specs.declared.kind.Kind.{Kind}
use Rattle.syntax.specs.declared.kind.Kind.TheVariants.{File, Package, Service}
use Rattle.grammar.specs.Documents.{kind_of, title_of, Declared, Ref, Document, kind_number, same_kind, is_named, number_from, number_of}
use Rattle.grammar.specs.Grammar.{Says, nothing, declared, chained, Names}
use Rattle.grammar.proofs.Inversions.{no_some}

-- the kind of a number
abbrev numbered : ℕ → Kind
numbered n = cond (eqb n 0) File (cond (eqb n 1) Package Service)

numbered_is : (k : Kind) → numbered (kind_number k) ≡ k
numbered_is File = refl
numbered_is Package = refl
numbered_is Service = refl

same_kind_eq : (j k : Kind) → same_kind j k ≡ true → j ≡ k
same_kind_eq j k e = sym (numbered_is j) ∙ ap numbered (eqb-true (kind_number j) (kind_number k) e) ∙ numbered_is k

-- of this kind and title
abbrev Named : Kind → List ℕ → Declared → Type 0
Named k t d = (kind_of d.resource ≡ k) × (title_of d.resource ≡ t)

named_inv : (k : Kind) (t : List ℕ) (d : Declared) → is_named k t d ≡ true → Named k t d
named_inv k t d e =
    let p = and_parts (same_kind (kind_of d.resource) k) (same (title_of d.resource) t) e in
    (same_kind_eq (kind_of d.resource) k p.0, same_eq (title_of d.resource) t p.1)

named_is : (k : Kind) (t : List ℕ) (d : Declared) → Named k t d → is_named k t d ≡ true
named_is k t d e =
    and_from (same_kind (kind_of d.resource) k) (same (title_of d.resource) t) (eq-eqb (kind_number (kind_of d.resource)) (kind_number k) (ap kind_number e.0)) (ap (λ u. same u t) e.1 ∙ same_refl t)

named_not : (k : Kind) (t : List ℕ) (d : Declared) → (Named k t d → ⊥) → is_named k t d ≡ false
named_not k t d n = elim (cases_Bool (is_named k t d)) [ inl e ↦ absurd (n (named_inv k t d e)) | inr e ↦ e ]

-- the resource of a number that is found
record Found (i : ℕ) (k : Kind) (t : List ℕ) (ds : List Declared) (n : ℕ) : Type 0 where
  front : List Declared
  one : Declared
  back : List Declared
  parts : ds ≡ front ++ (one ∷ back)
  number : n ≡ length front + i
  named : Named k t one

module _ (k : Kind) (t : List ℕ) where
  found : (i : ℕ) (ds : List Declared) (n : ℕ) → number_from i k t ds ≡ Some n → Found i k t ds n
  found i [] n e = absurd (no_some (sym e))
  found i (d ∷ ds) n e =
      elim (cases_Bool (is_named k t d)) [
        | inl h ↦
            let f = sym (cond-true _ _ _ h) ∙ e in
            let m : n ≡ i = cc in
            record { front = []; one = d; back = ds; parts = refl; number = omega arith; named = named_inv k t d h }
        | inr h ↦
            let r = found (i + 1) ds n (sym (cond-false _ _ _ h) ∙ e) in
            let m = r.number in
            record { front = d ∷ r.front; one = r.one; back = r.back; parts = ap (λ x. d ∷ x) r.parts; number = omega arith; named = r.named }
      ]

pub number_names : (ds : List Declared) (r : Ref) (n : ℕ) → number_of r.kind r.title ds ≡ Some n → Names ds r n
number_names ds r n e =
    let f = found r.kind r.title 1 ds n e in
    record { front = f.front; one = f.one; back = f.back; parts = f.parts; number = f.number; kinded = f.named.0; titled = f.named.1 }

-- not of the same kind and title
abbrev Differ : Declared → Declared → Type 0
Differ d e = Named (kind_of e.resource) (title_of e.resource) d → ⊥

abbrev pub Apart : List Declared → Type 0
Apart [] = Unit {0}
Apart (d ∷ ds) = All (Differ d) ds × Apart ds

apart_push : (ds : List Declared) (d : Declared) → Apart ds → All (λ e. Differ e d) ds → Apart (ds ++ d ∷ [])
apart_push [] d a h = (tt, tt)
apart_push (e ∷ ds) d a h = (All-push (Differ e) ds d a.0 h.0, apart_push ds d a.1 h.1)

not_repeated : (i : ℕ) (ds : List Declared) (d : Declared) → is_some (number_from i (kind_of d.resource) (title_of d.resource) ds) ≡ false → All (λ e. Differ e d) ds
not_repeated i [] d h = tt
not_repeated i (e ∷ ds) d h =
    let k = kind_of d.resource in
    let t = title_of d.resource in
    elim (cases_Bool (is_named k t e)) [
      | inl x ↦ absurd (true≢false (sym (ap (λ o. is_some o) (cond-true _ _ _ x)) ∙ h))
      | inr x ↦ (λ n. true≢false (sym (named_is k t e n) ∙ x), not_repeated (i + 1) ds d (sym (ap (λ o. is_some o) (cond-false _ _ _ x)) ∙ h))
    ]

pub says_apart : {ns : List (List ℕ)} {m : Document} {q row : Row} → Says ns m q row → Apart m.declared
says_apart nothing = tt
says_apart (declared {m = m} d s w k f h) = apart_push m.declared d (says_apart s) (not_repeated 1 m.declared d f)
says_apart (chained left ls s w l h) = says_apart s

differ_at : (f : Declared) (front : List Declared) (one : Declared) (back : List Declared) → All (Differ f) (front ++ (one ∷ back)) → Differ f one
differ_at f [] one back h = h.0
differ_at f (e ∷ front) one back h = differ_at f front one back h.1

module _ (k : Kind) (t : List ℕ) (one : Declared) (back : List Declared) (named : Named k t one) where
  number_at : (i : ℕ) (front : List Declared) → Apart (front ++ (one ∷ back)) → number_from i k t (front ++ (one ∷ back)) ≡ Some (length front + i)
  number_at i [] a = let e : i ≡ 0 + i = omega arith in cond-true _ _ _ (named_is k t one named) ∙ ap Some e
  number_at i (f ∷ front) a =
      let other : is_named k t f ≡ false = named_not k t f (λ n. differ_at f front one back a.0 (n.0 ∙ sym named.0, n.1 ∙ sym named.1)) in
      let e : length front + (i + 1) ≡ length (f ∷ front) + i = omega arith in
      cond-false _ _ _ other ∙ number_at (i + 1) front a.1 ∙ ap Some e

pub names_number : (ds : List Declared) (r : Ref) (n : ℕ) → Apart ds → Names ds r n → number_of r.kind r.title ds ≡ Some n
names_number ds r n a w =
    ap (number_of r.kind r.title) w.parts ∙ number_at r.kind r.title w.one w.back (w.kinded, w.titled) 1 w.front (subst Apart w.parts a) ∙ ap Some (sym w.number)
