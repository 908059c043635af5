use Rattle.std.proofs.Common.{◌≡◌, ◌+◌, ◌-◌, length, get_or, vec_items, vec_len, ap, ◌∙◌, arith}
use Rattle.fs.specs.Package.{distinct}
use Rattle.records.specs.Entries.{entry_of}
use Rattle.index.proofs.Adds.{added_last, same_names}
use Rattle.index.proofs.Lookups.{packs_length}
use Rattle.index.proofs.index.Index.add_entry.Goals as goal
use Rattle.index.proofs.index.Index.add_entry.Goals.{After-add}

last : (c : After-add) → c.unwrap.result.now ≡ get_or (vec_items c.args.self.now.packages) (vec_len c.args.self.now.packages - 1) c.unwrap.result.now
last c = rw c.unwrap.ensures at c.last_mut.ensures.value

pub invariant_of-self : goal.invariant_of-self
invariant_of-self c =
    let v = c.args.self.now.packages in
    let n = vec_len v - 1 in
    let long : n + 1 ≡ length (vec_items v) = omega (arith, packs_length v, c.requires.begun, v.ok.0) in
    record {
      few = c.args.self.now.few;
      apart = ap distinct (same_names (vec_items v) n c.unwrap.result.now c.add.new.self long (last (goal.at.invariant_of-self c).After-add) (entry_of c.args.new) c.add.result c.add.ensures) ∙ c.args.self.now.apart;
    }

pub returns : goal.returns
returns c =
    let v = c.args.self.now.packages in
    let n = vec_len v - 1 in
    let long : n + 1 ≡ length (vec_items v) = omega (arith, packs_length v, c.requires.begun, v.ok.0) in
    added_last (vec_items v) n c.unwrap.result.now c.add.new.self long (last (goal.at.returns c).After-add) (entry_of c.args.new) c.add.result c.add.ensures
