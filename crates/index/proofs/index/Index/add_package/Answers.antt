use Rattle.std.proofs.Common.{◌≡◌, ◌<◌, true, false, [], ◌∷◌, ◌++◌, length, map, is_ok, Ok, sym, ap, refl, ◌∙◌, arith}
use Rattle.values.specs.Texts.{name_text}
use Rattle.fs.specs.Tree.{has}
use Rattle.records.specs.Items.{after}
use Rattle.index.specs.Indexes.{index_of}
use Rattle.index.specs.Packages.{pack_of}
use Rattle.index.specs.Packs.{names}
use Rattle.index.proofs.Adds.{refused, wanting, few_packages, apart_packages, packs_push}
use Rattle.index.proofs.Growth.{admitted, admit_one}
use Rattle.index.proofs.Lookups.{names_length, package_admitted}
use Rattle.index.proofs.index.Index.add_package.Goals as goal
use Rattle.index.proofs.index.Index.add_package.Goals.{In_ok-admit}

room : (c : In_ok-admit) → (length (names (index_of c.args.self.now)) < 8) × (has (name_text c.args.name) (names (index_of c.args.self.now)) ≡ false)
room c = admitted 8 _ _ c.in_ok-admit.field-0 (sym (c.admit.ensures ∙ package_admitted c.args.self.now.packages _ _ _ _ c.len.ensures c.position.ensures c.is_some.ensures) ∙ c.in_ok-admit.was)

pub returns-in_err-admit : goal.returns-in_err-admit
returns-in_err-admit c =
    let ps = index_of c.args.self.now in
    let a = c.admit.ensures ∙ package_admitted c.args.self.now.packages _ _ _ _ c.len.ensures c.position.ensures c.is_some.ensures in
    refused ps ps refl _ _ (ap (λ r. after r (λ _. Ok (ps ++ (name_text c.args.name, []) ∷ []))) (sym a ∙ c.in_err-admit.was)) c.from_residual.result c.from_residual.ensures.1

pub invariant_of-self : goal.invariant_of-self
invariant_of-self c =
    let i = c.args.self.now in
    let w = c.push.new.self in
    let b = is_ok c.push.result in
    let n = name_text c.args.name in
    let r = room (goal.at.invariant_of-self c).In_ok-admit in
    record {
      few = few_packages i.packages w b c.new.result n c.new.ensures c.push.ensures.len (omega (arith, r.0, names_length i.packages));
      apart = apart_packages i.packages w b c.new.result n c.new.ensures c.push.ensures.items i.apart r.1;
    }

pub returns-in_err-push : goal.returns-in_err-push
returns-in_err-push c =
    let ps = index_of c.args.self.now in
    let n = name_text c.args.name in
    let r = room (goal.at.returns-in_err-push c).In_ok-admit in
    wanting ps _ (ap (map pack_of) c.in_err-push.ensures.items) _ (ap (λ a. is_ok (after a (λ _. Ok (ps ++ (n, []) ∷ [])))) (admit_one 8 n (names ps) r.0 r.1)) c.from_residual-in_err-push.result c.from_residual-in_err-push.ensures.1

pub returns : goal.returns
returns c =
    let i = c.args.self.now in
    let ps = index_of i in
    let n = name_text c.args.name in
    let r = room (goal.at.returns c).In_ok-admit in
    ap (λ a. after a (λ _. Ok (ps ++ (n, []) ∷ []))) (admit_one 8 n (names ps) r.0 r.1)
    ∙ ap Ok (sym (packs_push i.packages c.push.new.self true c.new.result n c.new.ensures c.in_ok-push.ensures.items))
