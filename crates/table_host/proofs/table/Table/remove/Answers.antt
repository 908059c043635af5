use Rattle.std.proofs.Common.{◌≡◌, ◌+◌, ◌-◌, ◌<◌, true, length, take, is_ok, vec_items, vec_len, vec_capacity, ap, ◌∙◌, arith}
use Rattle.std.specs.List.{insert, remove}
use Rattle.std.proofs.lemmas.Bool.{cond-true}
use Rattle.table_host.proofs.Rows.{freed}
use Rattle.table_host.proofs.table.Table.remove.Goals as goal

pub returns : goal.returns
returns c =
    let t = c.args.self.now in
    let rs = vec_items t.records in
    let n = t.used - 1 in
    let free = c.remove-free.result in
    let rest = c.remove-free.new.self in
    let long : vec_len t.records ≡ length rs = t.records.ok.0 in
    let place : vec_len rest < vec_capacity rest = omega (arith, c.remove-free.ensures.len, c.remove-free.ensures.capacity, t.records.ok.1) in
    let ok : is_ok c.insert.result ≡ true = c.insert.ensures.succeeds place in
    let put : vec_items c.insert.new.self ≡ insert (remove rs c.args.i) n free =
    c.insert.ensures.items ∙ cond-true (is_ok c.insert.result) (insert (vec_items rest) n free) (vec_items rest) ok ∙ ap (λ ys. insert ys n free) c.remove-free.ensures.items in
    let longer : vec_len c.insert.new.self ≡ vec_len rest + 1 = c.insert.ensures.len ∙ cond-true (is_ok c.insert.result) (vec_len rest + 1) (vec_len rest) ok in
    record {
      nodes = ap (take n) put ∙ freed rs t.used c.args.i free (omega arith) c.requires.place;
      used = omega arith;
      within = omega (arith, c.remove-free.ensures.len);
      room = (c.insert.ensures.in_place place).1.0 ∙ c.remove-free.ensures.capacity;
    }
