-- The edges that are made of a document's links are those that join them. Assumes nothing.
use Rattle.std.proofs.Common.{◌≡◌, ℕ, true, cond, not, ◌&&◌, List, [], ◌∷◌, Some, None, Ok, Err, Option, Result, sym, refl, ap, ◌∙◌, subst, inl, inr, arith}
use Rattle.std.proofs.lemmas.Bool.{and_parts, not-true, cond-true, false≢true, true≢false}
use Rattle.std.specs.Option.{ok_or}
use Rattle.fs.specs.Manifest as model
use Rattle.syntax.specs.declared.arrow.Arrow.{Arrow}
use Rattle.syntax.specs.declared.arrow.Arrow.TheVariants.{Before, Notifies}
use Rattle.syntax.specs.declared.fault.Ground.TheVariants.{NoResource}
use Rattle.syntax.specs.declared.kind.Kind.{Kind}
use Rattle.syntax.specs.declared.kind.Kind.TheVariants.{File, Package, Service}
use Rattle.syntax.specs.Faults.{fault_at}
use Rattle.grammar.specs.Documents.{Declared, Ref, Link, number_of}
use Rattle.grammar.specs.Manifests.{and_then, is_service, is_notify, may_stand, end_of, edge_between, edge_of, edges_of}
use Rattle.grammar.specs.Grammar.{Names, Joins, Joined, none, more}
use Rattle.grammar.proofs.Inversions.{pick, no_ok}
use Rattle.grammar.proofs.Numbers.{Apart, number_names, names_number}

pub and_then_inv : {X Y E : Type 0} (x : Result X E) (f : X → Result Y E) {y : Y} → and_then x f ≡ Ok y → (a : X) × (x ≡ Ok a) × (f a ≡ Ok y)
and_then_inv (Ok a) f e = (a, refl, e)
and_then_inv (Err g) f e = absurd (no_ok (sym e))

ok_or_inv : {X E : Type 0} (o : Option X) (g : E) {x : X} → ok_or o g ≡ Ok x → o ≡ Some x
ok_or_inv (Some y) g e = cc
ok_or_inv None g e = absurd (no_ok (sym e))

service_is : (k : Kind) → is_service k ≡ true → k ≡ Service
service_is File e = absurd (false≢true e)
service_is Package e = absurd (false≢true e)
service_is Service e = refl

-- the kinds of the ends of `~>`
kinds_inv : (a : Arrow) (j k : Kind) → cond (is_notify a) (not (is_service j) && is_service k) true ≡ true → a ≡ Notifies → (j ≡ Service → ⊥) × (k ≡ Service)
kinds_inv Before j k h e = let z : ◌≡◌ {A = ℕ} 0 1 = cc in absurd (omega arith)
kinds_inv Notifies j k h e =
    let p = and_parts (not (is_service j)) (is_service k) h in
    (λ s. true≢false (sym (ap is_service s) ∙ not-true (is_service j) p.0), service_is k p.1)

kinds_are : (a : Arrow) (j k : Kind) → (a ≡ Notifies → (j ≡ Service → ⊥) × (k ≡ Service)) → cond (is_notify a) (not (is_service j) && is_service k) true ≡ true
kinds_are Before j k h = refl
kinds_are Notifies File k h = ap is_service (h refl).1
kinds_are Notifies Package k h = ap is_service (h refl).1
kinds_are Notifies Service k h = absurd ((h refl).0 refl)

module _ (ds : List Declared) where
  end_inv : (r : Ref) (n : ℕ) → end_of ds r ≡ Ok n → Names ds r n
  end_inv r n e = number_names ds r n (ok_or_inv (number_of r.kind r.title ds) (fault_at r.at NoResource) e)

  edge_inv : (l : Link) (e : model.Edge) → edge_of ds l ≡ Ok e → Joins ds l e
  edge_inv l e h =
      let a = and_then_inv (end_of ds l.left) _ h in
      let b = and_then_inv (end_of ds l.right) _ a.2 in
      elim (pick (may_stand l) _ _ (sym b.2)) [
        | inl i ↦
            let is : ◌≡◌ {A = model.Edge} (record { from = a.0; to = b.0; notify = is_notify l.arrow }) e = cc i.1 in
            subst (Joins ds l) is (record { from = end_inv l.left a.0 a.1; to = end_inv l.right b.0 b.1; notice = refl; right_kinds = kinds_inv l.arrow l.left.kind l.right.kind i.0 })
        | inr i ↦ absurd (no_ok i.1)
      ]

  pub edges_inv : (ls : List Link) (es : List model.Edge) → edges_of ds ls ≡ Ok es → Joined ds ls es
  edges_inv [] es e = let f : [] ≡ es = cc in subst (Joined ds []) f none
  edges_inv (l ∷ ls) es e =
      let a = and_then_inv (edge_of ds l) _ e in
      let b = and_then_inv (edges_of ds ls) _ a.2 in
      let c = b.2 in
      let f : (a.0 ∷ b.0) ≡ es = cc in
      subst (Joined ds (l ∷ ls)) f (more (edge_inv l a.0 a.1) (edges_inv ls b.0 b.1))

  module _ (apart : Apart ds) where
    end_is : (r : Ref) (n : ℕ) → Names ds r n → end_of ds r ≡ Ok n
    end_is r n w = ap (λ o. ok_or o (fault_at r.at NoResource)) (names_number ds r n apart w)

    edge_is : (l : Link) (e : model.Edge) → Joins ds l e → edge_of ds l ≡ Ok e
    edge_is l e j =
        ap (λ x. and_then x (λ i. and_then (end_of ds l.right) (λ k. edge_between l i k))) (end_is l.left e.from j.from)
        ∙ ap (λ x. and_then x (λ k. edge_between l e.from k)) (end_is l.right e.to j.to)
        ∙ cond-true _ _ _ (kinds_are l.arrow l.left.kind l.right.kind j.right_kinds)
        ∙ (λ i. Ok (record { from = e.from; to = e.to; notify = sym j.notice i }))

    pub edges_are : {ls : List Link} {es : List model.Edge} → Joined ds ls es → edges_of ds ls ≡ Ok es
    edges_are none = refl
    edges_are (more {l = l} {ls = ls} {e = e} {es = es} j r) =
        ap (λ x. and_then x (λ e. and_then (edges_of ds ls) (λ es. Ok (e ∷ es)))) (edge_is l e j)
        ∙ ap (λ x. and_then x (λ es. Ok (e ∷ es))) (edges_are r)
