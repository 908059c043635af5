use Rattle.std.proofs.Common.{rules, tests, sym, ◌∙◌, eqb}
use Rattle.std.proofs.lemmas.Iterator.Search.{all_from_yields_List}
use Rattle.std.proofs.lemmas.Iterator.Splits.{YieldsList-from_slice_split}
use Rattle.values.specs.Rules.{is_name}
use Rattle.values.proofs.Scan.{path_rest, parts_rest}
use Rattle.values.proofs.rules.is_path.Goals as goal

pub returns : goal.returns
returns c =
    all_from_yields_List is_name _ _ _ c.all.ensures.ran
    (YieldsList-from_slice_split _ (λ b. eqb b 47) _ c.split.ensures.rest c.split.ensures.done c.split.ensures.closure (λ x r q k. search (rules, tests)))
    (λ x b q k. search (rules, tests))
    ∙ parts_rest c.args.s.now c.if-n-lt-PATH_MIN.false
    ∙ sym (path_rest c.args.s.now c.if-n-lt-PATH_MIN.false c.if-n-gt-PATH_MAX.false c.if-s-ne-SLASH.false c.if-s-n-eq-SLASH.false)
