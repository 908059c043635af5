use Rattle.std.proofs.Common.{◌≡◌, ℕ, List, Result, sym, ap, ◌∙◌, subst}
use Rattle.std.specs.Option.{option_map}
use Rattle.lexer.specs.Spots.{Spot}
use Rattle.syntax.specs.Faults.{TextFault}
use Rattle.syntax.specs.declared.kind.Kind.{Kind}
use Rattle.syntax.specs.Reading.{Reads}
use Rattle.syntax.proofs.Readings.{quits, goes, has, lacking, done}
use Rattle.grammar.specs.Documents.{Declared}
use Rattle.grammar.specs.Declarations.{made_of, attributes, declaration}
use Rattle.declarations.specs.Meanings.{resource_of, subject_kind, subject_title, given_of, declared_of}
use Rattle.declarations.specs.declared.given.Given.{Given}
use Rattle.declarations.specs.declared.resource.Subject.{Subject}
use Rattle.declarations.proofs.Titles.{made_titled}
use Rattle.declarations.proofs.declared.next_declaration.Goals as goal

-- a block that was read for the subject, as one for its kind
of_kind : {j k : Kind} {from to : Spot} {r : Result Given TextFault} → j ≡ k → Reads given_of (attributes j) from r to → Reads given_of (attributes k) from r to
of_kind {from} {to} {r} e b = subst (λ j. Reads given_of (attributes j) from r to) e b

-- what is made of the subject, as of its kind and title
made : {k : Kind} {s u : Subject} (g : Given) → s ≡ u → subject_kind u ≡ k → made_of (subject_kind s) (subject_title s) (given_of g).ensure (given_of g).content ≡ made_of k (subject_title u) (given_of g).ensure (given_of g).content
made {u} g e k =
    ap (λ s. made_of (subject_kind s) (subject_title s) (given_of g).ensure (given_of g).content) e
    ∙ ap (λ k. made_of k (subject_title u) (given_of g).ensure (given_of g).content) k

pub returns-in_err-heading : goal.returns-in_err-heading
unfolding declaration
returns-in_err-heading g c = quits _ c.in_err-heading.ensures.reads c.from_residual.ensures.1

pub returns-in_err-given : goal.returns-in_err-given
unfolding declaration
returns-in_err-given g c =
    goes _ c.in_ok-heading.ensures.reads (quits _ (of_kind c.in_ok-heading.ensures.kinded c.in_err-given.ensures.reads) c.from_residual-in_err-given.ensures.1)

pub returns-in_err-resource : goal.returns-in_err-resource
unfolding declaration
returns-in_err-resource g c =
    let k = c.in_ok-heading.ensures.kinded in
    let o = c.in_err-resource.ensures in
    let d = sym (ap (option_map resource_of) o.ok_part) ∙ c.resource.ensures ∙ made c.in_ok-given.given c.in_ok-given.ensures.kept k in
    goes _ c.in_ok-heading.ensures.reads (goes _ (of_kind k c.in_ok-given.ensures.reads) (lacking _ _ d o.value c.at.ensures c.from_residual-in_err-resource.ensures.1))

pub returns : goal.returns
unfolding declaration
returns g c =
    let k = c.in_ok-heading.ensures.kinded in
    let h = c.in_ok-heading.heading in
    let r = c.in_ok-resource.resource in
    let d = sym (ap (option_map resource_of) c.in_ok-resource.ensures.ok_part) ∙ c.resource.ensures ∙ made c.in_ok-given.given c.in_ok-given.ensures.kept k in
    let titled = made_titled c.args.kind (subject_title h.part) _ _ (resource_of r) d in
    let declared : List ℕ → Declared = λ t. record { resource = resource_of r; title = record { value = t; at = h.at } } in
    goes _ c.in_ok-heading.ensures.reads (goes _ (of_kind k c.in_ok-given.ensures.reads) (has _ _ _ d (done declared_of _ (ap declared titled))))
