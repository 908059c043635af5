use Rattle.std.proofs.Common.{rules, ◌≡◌, [], length, None, vec_items, vec_len, ap, ◌∙◌, sym, subst, true≢false}
use Rattle.fs.specs.Tree.{Rooted}
use Rattle.linked_host.specs.Slots.{tree_from, apart, child_from}
use Rattle.linked_host.specs.Links.{views, linked, same_link}
use Rattle.linked_host.proofs.Fresh.{free, free_tree, free_apart, free_linked, free_head}
use Rattle.linked_host.specs.Scans.{link_same}
use Rattle.linked_host.proofs.linked.LinkedHost.open.Goals as goal

pub invariant_of-result : goal.invariant_of-result
invariant_of-result c =
    let n = c.in_ok-capacity.capacity in
    let e : vec_items c.in_ok-slots.slots ≡ free n = c.in_ok-slots.ensures.items_if_clones_equal (λ y k. search rules) in
    let none : tree_from (views (vec_items c.in_ok-slots.slots)) ≡ [] = ap (λ rs. tree_from (views rs)) e ∙ free_tree n in
    record {
      low = search rules;
      high = search rules;
      few = search rules;
      distinct = ap (λ rs. apart (views rs)) e ∙ free_apart n;
      grounded = subst Rooted (sym none) (λ p h. absurd (true≢false h));
      headed = ap (λ rs. same_link None (child_from (views rs) [] 0)) e ∙ link_same None (child_from (views (free n)) [] 0) (free_head n []);
      chained = ap linked e ∙ free_linked (views (free n)) n (length (free n));
    }

pub returns : goal.returns
returns c =
    let n = c.in_ok-capacity.capacity in
    let e : vec_items c.in_ok-slots.slots ≡ free n = c.in_ok-slots.ensures.items_if_clones_equal (λ y k. search rules) in
    let none : tree_from (views (vec_items c.in_ok-slots.slots)) ≡ [] = ap (λ rs. tree_from (views rs)) e ∙ free_tree n in
    let len : vec_len c.in_ok-slots.slots ≡ c.args.limits.capacity = c.in_ok-slots.ensures.len ∙ c.in_ok-capacity.ensures.1 in
    (c.in_ok-capacity.ensures.0, λ i. record { tree = none i; capacity = len i; allowance = c.args.limits.allowance })
