use Rattle.std.proofs.Common.{rules, ◌≡◌, ℕ, ◌<◌, IfOk, Ok, Err, Result, sym, ◌∙◌, subst}
use Rattle.lexer.specs.declared.position.Position.{Position}
use Rattle.syntax.specs.declared.fault.Ground.{Ground}
use Rattle.syntax.specs.Parts.{value_means}
use Rattle.syntax.proofs.Readings.{quits, goes, has, lacking}
use Rattle.grammar.specs.Declarations.{Given, with_value, attribute}
use Rattle.declarations.specs.Meanings.{Tells, subject_kind, given_of, spare}
use Rattle.declarations.specs.declared.given.Given.{Given as GivenCode}
use Rattle.declarations.proofs.Checks.{located, located_by, ends}
use Rattle.declarations.proofs.Spares.{fewer}
use Rattle.declarations.proofs.block.next_attribute.Goals as goal

-- the answer with its position is one with fewer left, where it is one
less : (r : Result GivenCode Ground) (p : Position) (a : Result Given Ground) (n : ℕ) → Tells given_of a r → ((f : Given) → a ≡ Ok f → spare f < n) → IfOk (located p r) (λ g. spare (given_of g) < n)
less (Ok g) p a n t k = k (given_of g) t
less (Err e) p a n t k = tt

pub returns-in_err-word-clause-reads : goal.returns-in_err-word-clause-reads
unfolding attribute
returns-in_err-word-clause-reads g c = quits _ c.in_err-word.ensures c.from_residual.ensures.1

pub returns-in_err-attribute-clause-reads : goal.returns-in_err-attribute-clause-reads
unfolding attribute
returns-in_err-attribute-clause-reads g c =
    let o = c.in_err-attribute.ensures in
    goes _ c.in_ok-word.ensures (lacking _ _ (sym o.ok_part ∙ c.named.ensures) o.value c.at.ensures c.from_residual-in_err-attribute.ensures.1)

pub returns-in_err-next_mark-clause-reads : goal.returns-in_err-next_mark-clause-reads
unfolding attribute
returns-in_err-next_mark-clause-reads g c =
    let n = sym c.in_ok-attribute.ensures.ok_part ∙ c.named.ensures in
    goes _ c.in_ok-word.ensures (has _ _ _ n (quits _ c.in_err-next_mark.ensures c.from_residual-in_err-next_mark.ensures.1))

pub returns-in_err-value-clause-reads : goal.returns-in_err-value-clause-reads
unfolding attribute
returns-in_err-value-clause-reads g c =
    let n = sym c.in_ok-attribute.ensures.ok_part ∙ c.named.ensures in
    goes _ c.in_ok-word.ensures (has _ _ _ n (goes _ c.in_ok-next_mark.ensures (quits _ c.in_err-value.ensures c.from_residual-in_err-value.ensures.1)))

pub returns-clause-reads : goal.returns-clause-reads
unfolding attribute
returns-clause-reads g c =
    let n = sym c.in_ok-attribute.ensures.ok_part ∙ c.named.ensures in
    let l = located_by c.in_ok-value.value.at c.with.result c.map_err.result c.map_err.ensures.cases (λ g e h. search rules) in
    goes _ c.in_ok-word.ensures (has _ _ _ n (goes _ c.in_ok-next_mark.ensures (goes _ c.in_ok-value.ensures (ends given_of _ _ c.with.result _ c.with.ensures.tells l))))

pub returns-clause-fewer : goal.returns-clause-fewer
returns-clause-fewer g c =
    let n = sym c.in_ok-attribute.ensures.ok_part ∙ c.named.ensures in
    let l = located_by c.in_ok-value.value.at c.with.result c.map_err.result c.map_err.ensures.cases (λ g e h. search rules) in
    let g = given_of c.args.given in
    let k = subject_kind c.args.given.subject in
    let v = value_means c.in_ok-value.value.part in
    let a = c.in_ok-attribute.attribute in
    subst (λ r. IfOk r (λ f. spare (given_of f) < spare g)) (sym l)
    (less c.with.result c.in_ok-value.value.at (with_value k g a v) _ c.with.ensures.tells (λ f. fewer k g f _ a v n))
