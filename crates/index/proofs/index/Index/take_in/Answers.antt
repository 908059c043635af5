use Rattle.std.proofs.Common.{◌≡◌, not, eqb, length, Ok, sym, ap, refl, ◌∙◌, subst}
use Rattle.records.specs.Entries.{entry_of}
use Rattle.records.specs.Items.{meaning_of}
use Rattle.index.specs.Errors.{Added}
use Rattle.index.specs.Indexes.{index_of}
use Rattle.index.proofs.Adds.{takes, refused, told_entry}
use Rattle.index.proofs.Lookups.{packs_length}
use Rattle.index.proofs.index.Index.take_in.Goals as goal
use Rattle.index.proofs.index.Index.take_in.Goals.{After-parse}

begun : (c : After-parse) → not (eqb (length (index_of c.args.self.now)) 0) ≡ not c.is_empty-begun.result
begun c = ap (λ n. not (eqb n 0)) (packs_length c.args.self.now.packages) ∙ ap not (sym c.is_empty-begun.ensures)

pub returns-in_err-name : goal.returns-in_err-name
returns-in_err-name c =
    let ps = index_of c.args.self.now in
    let b = begun (goal.at.returns-in_err-name c).After-parse in
    refused ps ps refl _ _ (takes ps c.args.next.kind c.args.next.body.now _ b _ c.in_err-name.ensures) c.from_residual.result c.from_residual.ensures.1

pub add_entry-requires : goal.add_entry-requires
add_entry-requires c =
    let ps = index_of c.args.self.now in
    let b = begun (goal.at.add_entry-requires c).After-parse in
    let k = told_entry ps c.args.next.kind c.args.next.body.now _ (entry_of c.in-NewEntry.entry) b (c.in_ok-name.ensures ∙ ap (λ x. Ok (meaning_of x)) c.in-NewEntry.is) in
    record { begun = k.0; outside = k.1 }

pub returns-in-NewPackage : goal.returns-in-NewPackage
returns-in-NewPackage c =
    let ps = index_of c.args.self.now in
    let b = begun (goal.at.returns-in-NewPackage c).After-parse in
    let t = takes ps c.args.next.kind c.args.next.body.now _ b _ (c.in_ok-name.ensures ∙ ap (λ x. Ok (meaning_of x)) c.in-NewPackage.is) in
    subst (λ a. Added ps a c.add_package.result (index_of c.add_package.new.self)) (sym t) c.add_package.ensures

pub returns-in-NewEntry : goal.returns-in-NewEntry
returns-in-NewEntry c =
    let ps = index_of c.args.self.now in
    let b = begun (goal.at.returns-in-NewEntry c).After-parse in
    let t = takes ps c.args.next.kind c.args.next.body.now _ b _ (c.in_ok-name.ensures ∙ ap (λ x. Ok (meaning_of x)) c.in-NewEntry.is) in
    subst (λ a. Added ps a c.add_entry.result (index_of c.add_entry.new.self)) (sym t) c.add_entry.ensures
