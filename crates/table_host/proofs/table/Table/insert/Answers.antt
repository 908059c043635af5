use Rattle.std.proofs.Common.{◌≡◌, ◌+◌, ◌<◌, true, length, take, set, is_ok, vec_items, vec_len, vec_capacity, ap, ◌∙◌, arith}
use Rattle.std.specs.List.{insert, remove}
use Rattle.std.proofs.lemmas.Bool.{cond-true}
use Rattle.table_host.proofs.Rows.{reused, grown}
use Rattle.table_host.proofs.table.Table.insert.Goals as goal
use Rattle.table_host.proofs.table.Table.insert.Goals.{then-self-len, else-self-len}

pub returns : goal.returns
returns c =
    let t = c.args.self.now in
    let rs = vec_items t.records in
    let n = t.used in
    let i = c.args.i in
    let r = c.args.record in
    let long : vec_len t.records ≡ length rs = t.records.ok.0 in
    elim c.if-self-len.branch [
      | then-self-len w ↦
          let xs = vec_items w.remove-free.new.self in
          let place : vec_len w.remove-free.new.self < vec_capacity w.remove-free.new.self = omega (arith, w.remove-free.ensures.len, w.remove-free.ensures.capacity, t.records.ok.1) in
          let ok : is_ok w.insert.result ≡ true = w.insert.ensures.succeeds place in
          let put : vec_items w.insert.new.self ≡ insert (remove rs n) i w.remove-free.result =
          w.insert.ensures.items ∙ cond-true (is_ok w.insert.result) (insert xs i w.remove-free.result) xs ok ∙ ap (λ ys. insert ys i w.remove-free.result) w.remove-free.ensures.items in
          let longer : vec_len w.insert.new.self ≡ vec_len w.remove-free.new.self + 1 = w.insert.ensures.len ∙ cond-true (is_ok w.insert.result) (vec_len w.remove-free.new.self + 1) (vec_len w.remove-free.new.self) ok in
          record {
            nodes = ap (λ s. take (s.used + 1) (vec_items s.records)) w.self-is ∙ ap (λ ys. take (n + 1) (set ys i r)) put ∙ reused rs n i w.remove-free.result r (omega arith) c.requires.place;
            used = ap (λ s. s.used + 1) w.self-is;
            within = rw w.self-is (omega (arith, w.remove-free.ensures.len));
            room = ap (λ s. vec_capacity s.records) w.self-is ∙ (w.insert.ensures.in_place place).1.0 ∙ w.remove-free.ensures.capacity;
          }
      | else-self-len w ↦
          let put = w.insert-else-self-len in
          let place : vec_len t.records < vec_capacity t.records = omega arith in
          let ok : is_ok put.result ≡ true = put.ensures.succeeds place in
          let longer : vec_len put.new.self ≡ vec_len t.records + 1 = put.ensures.len ∙ cond-true (is_ok put.result) (vec_len t.records + 1) (vec_len t.records) ok in
          record {
            nodes = ap (λ s. take (s.used + 1) (vec_items s.records)) w.self-is ∙ ap (take (n + 1)) (put.ensures.items ∙ cond-true (is_ok put.result) (insert rs i r) rs ok) ∙ grown rs n i r (omega arith) c.requires.place;
            used = ap (λ s. s.used + 1) w.self-is;
            within = rw w.self-is (omega arith);
            room = ap (λ s. vec_capacity s.records) w.self-is ∙ (put.ensures.in_place place).1.0;
          }
    ]
