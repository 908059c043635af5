use Rattle.std.proofs.Common.{rules, ℕ, List, sym, ap, ◌∙◌}
use Rattle.syntax.proofs.Readings.{quits, goes, done}
use Rattle.grammar.specs.Declarations.{heading}
use Rattle.declarations.specs.Meanings.{subject_title}
use Rattle.declarations.proofs.Checks.{located_by, passes, fails, value_told, title_same}
use Rattle.declarations.proofs.declared.next_heading.Goals as goal

pub returns-in_err-next_mark-clause-reads : goal.returns-in_err-next_mark-clause-reads
unfolding heading
returns-in_err-next_mark-clause-reads g c = quits _ c.in_err-next_mark.ensures c.from_residual.ensures.1

pub returns-in_err-title-clause-reads : goal.returns-in_err-title-clause-reads
unfolding heading
returns-in_err-title-clause-reads g c = goes _ c.in_ok-next_mark.ensures (quits _ c.in_err-title.ensures c.from_residual-in_err-title.ensures.1)

pub returns-in_err-subject-clause-reads : goal.returns-in_err-subject-clause-reads
unfolding heading
returns-in_err-subject-clause-reads g c =
    let l = located_by c.in_ok-title.title.at c.parse.result c.map_err.result c.map_err.ensures.cases (λ g e h. search rules) in
    goes _ c.in_ok-next_mark.ensures (goes _ c.in_ok-title.ensures (fails subject_title _ _ _ c.parse.ensures.tells _ (sym c.in_err-subject.was ∙ l) c.from_residual-in_err-subject.ensures.1))

pub returns-in_err-next_mark-2-clause-reads : goal.returns-in_err-next_mark-2-clause-reads
unfolding heading
returns-in_err-next_mark-2-clause-reads g c =
    let l = located_by c.in_ok-title.title.at c.parse.result c.map_err.result c.map_err.ensures.cases (λ g e h. search rules) in
    goes _ c.in_ok-next_mark.ensures (goes _ c.in_ok-title.ensures (passes subject_title _ _ _ c.parse.ensures.tells _ (sym c.in_ok-subject.was ∙ l) (quits _ c.in_err-next_mark-2.ensures c.from_residual-in_err-next_mark-2.ensures.1)))

pub returns-clause-reads : goal.returns-clause-reads
unfolding heading
returns-clause-reads g c =
    let l = located_by c.in_ok-title.title.at c.parse.result c.map_err.result c.map_err.ensures.cases (λ g e h. search rules) in
    goes _ c.in_ok-next_mark.ensures (goes _ c.in_ok-title.ensures (passes subject_title _ _ _ c.parse.ensures.tells _ (sym c.in_ok-subject.was ∙ l) (goes _ c.in_ok-next_mark-2.ensures (done _ _ (ap (λ (b : List ℕ). record { value = b; at = c.in_ok-title.title.at }) (title_same c.args.kind _ _ (value_told subject_title _ _ c.parse.result c.parse.ensures.tells (sym c.in_ok-subject.was ∙ l))))))))
