use Rattle.std.proofs.Common.{◌≡◌, ◌<◌, false, length, map, is_ok, Ok, vec_items, sym, ap, refl, ◌∙◌, arith}
use Rattle.std.proofs.lemmas.List.{map_push}
use Rattle.values.specs.Texts.{name_text}
use Rattle.fs.specs.Tree.{has}
use Rattle.fs.specs.Package.{entry_paths}
use Rattle.records.specs.Entries.{entry_of, entry_path}
use Rattle.records.specs.Items.{after}
use Rattle.index.specs.Listed.{entries_of}
use Rattle.index.specs.Packages.{pack_of}
use Rattle.index.specs.Reading.{with_entry}
use Rattle.index.proofs.Adds.{refused, wanting, few_entries, apart_entries, outside_entries}
use Rattle.index.proofs.Growth.{admitted, extended_ok}
use Rattle.index.proofs.Lookups.{entries_length, entry_admitted}
use Rattle.index.proofs.packages.Package.add.Goals as goal
use Rattle.index.proofs.packages.Package.add.Goals.{In_ok-admit}

room : (c : In_ok-admit) → (length (entry_paths (entries_of c.args.self.now.entries)) < 16) × (has (entry_path (entry_of c.args.new)) (entry_paths (entries_of c.args.self.now.entries)) ≡ false)
room c = admitted 16 _ _ c.in_ok-admit.field-0 (sym (c.admit.ensures ∙ entry_admitted c.args.self.now.entries _ _ _ _ c.len.ensures c.path.ensures c.lists.ensures) ∙ c.in_ok-admit.was)

pub returns-in_err-admit : goal.returns-in_err-admit
returns-in_err-admit c =
    let p = pack_of c.args.self.now in
    let a = c.admit.ensures ∙ entry_admitted c.args.self.now.entries _ _ _ _ c.len.ensures c.path.ensures c.lists.ensures in
    refused p p refl _ _ (ap (λ r. after r (λ _. Ok (with_entry p (entry_of c.args.new)))) (sym a ∙ c.in_err-admit.was)) c.from_residual.result c.from_residual.ensures.1

pub invariant_of-self : goal.invariant_of-self
invariant_of-self c =
    let p = c.args.self.now in
    let w = c.push.new.self in
    let x = c.args.new in
    let b = is_ok c.push.result in
    let r = room (goal.at.invariant_of-self c).In_ok-admit in
    record {
      few = few_entries p.entries w b x c.push.ensures.items c.push.ensures.len (omega (arith, r.0, entries_length p.entries));
      apart = apart_entries p.entries w b x c.push.ensures.items p.apart r.1;
      outside = outside_entries p.entries w b x c.push.ensures.items p.outside c.requires;
    }

pub returns-in_err-push : goal.returns-in_err-push
returns-in_err-push c =
    let p = c.args.self.now in
    let r = room (goal.at.returns-in_err-push c).In_ok-admit in
    wanting (pack_of p) _ (ap (λ l. (name_text p.name, map entry_of l)) c.in_err-push.ensures.items) _ (ap is_ok (extended_ok (pack_of p) (entry_of c.args.new) r.0 r.1)) c.from_residual-in_err-push.result c.from_residual-in_err-push.ensures.1

pub returns : goal.returns
returns c =
    let p = c.args.self.now in
    let r = room (goal.at.returns c).In_ok-admit in
    extended_ok (pack_of p) (entry_of c.args.new) r.0 r.1
    ∙ ap (λ l. Ok (name_text p.name, l)) (sym (ap (map entry_of) c.in_ok-push.ensures.items ∙ map_push entry_of (vec_items p.entries) c.args.new))
