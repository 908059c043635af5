-- A text is read as a manifest exactly where it says it. Assumes nothing.
use Rattle.std.proofs.Common.{◌≡◌, ℕ, ltb, List, length, Ok, sym, refl, ap, ◌∙◌, subst, inl, inr}
use Rattle.std.proofs.lemmas.Bool.{ltb-false, le-ltb, cond-false}
use Rattle.lexer.specs.Rows.{Row, row}
use Rattle.syntax.specs.Reading.{Read, read, refused}
use Rattle.grammar.specs.Documents.{Document}
use Rattle.grammar.specs.Items.{document}
use Rattle.grammar.specs.Manifests.{Manifest, and_then, edges_of, joined, of_document, read_text}
use Rattle.grammar.specs.Grammar.{Said, ReadExactly}
use Rattle.grammar.proofs.Inversions.{pick, no_ok}
use Rattle.grammar.proofs.Complete.{complete}
use Rattle.grammar.proofs.Sound.{sound}
use Rattle.grammar.proofs.Numbers.{says_apart}
use Rattle.grammar.proofs.Edges.{and_then_inv, edges_inv, edges_are}

document_inv : (x : Read Document) (m : Manifest) → of_document x ≡ Ok m → (d : Document) × (q : Row) × (read d q ≡ x) × (joined d ≡ Ok m)
document_inv (read d q) m e = (d, q, refl, e)
document_inv (refused f) m e = absurd (no_ok (sym e))

module _ (ns : List (List ℕ)) (text : List ℕ) (m : Manifest) where
  to : read_text ns text ≡ Ok m → Said ns text m
  to e =
      elim (pick (ltb 8192 (length text)) _ _ (sym e)) [
        | inl h ↦ absurd (no_ok h.1)
        | inr h ↦
            let d = document_inv (document ns (row text)) m (sym h.1) in
            let s = sound ns d.0 d.1 (row text) d.2 in
            let j = and_then_inv (edges_of d.0.declared d.0.links) _ d.3 in
            let k = j.2 in
            let is : ◌≡◌ {A = Manifest} (record { declared = d.0.declared; edges = j.0 }) m = cc in
            let said : Said ns text (record { declared = d.0.declared; edges = j.0 }) =
            record { short = ltb-false 8192 (length text) h.0; links = d.0.links; end = s.0; says = s.1; joined = edges_inv d.0.declared d.0.links j.0 j.1 } in
            subst (Said ns text) is said
      ]

  from : Said ns text m → read_text ns text ≡ Ok m
  from s =
      cond-false _ _ _ (le-ltb 8192 (length text) s.short)
      ∙ ap of_document (complete ns _ s.end (row text) s.says)
      ∙ ap (λ x. and_then x (λ es. Ok (record { declared = m.declared; edges = es }))) (edges_are m.declared (says_apart s.says) s.joined)

pub read_exactly : ReadExactly
read_exactly ns text m = (to ns text m, from ns text m)
