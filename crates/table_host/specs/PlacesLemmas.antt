-- Where a path stands in a sorted tree, and what a search of a table's records says of it. Assumes nothing.
use Rattle.std.specs.Prelude.{◌≡◌, ℕ, zero, suc, ◌+◌, ◌<◌, ◌≤◌, true, false, cond, List, [], ◌∷◌, ◌++◌, length, get_or, take, drop, Result, Ok, Err, MatchResult, count_by, refl}
use Rattle.std.proofs.Common.{sym, ap, subst, ◌∙◌, true≢false, ⊎_elim, add-one, Ordering, Less, Equal, Greater, nat_cmp, arith}
use Rattle.std.specs.Cmp.Lexicographic.{slice_cmp}
use Rattle.std.specs.List.{insert, remove, AllByRecursion}
use Rattle.std.specs.List.Sorted.{IsBinarySearchResult, IsNonDecreasingBy, IsSearchInRange}
use Rattle.std.specs.Ordering.{ordering_index}
use Rattle.std.proofs.lemmas.List.{drop_more, drop_all, get_or-map, length-map, map-append, take-map, drop-map}
use Rattle.std.proofs.lemmas.List.Recursion.{is_count_by}
use Rattle.std.proofs.lemmas.Bool.{and_from, cases_Bool, cases_eq, cases_lt}
use Rattle.values.specs.Order.{Ordered}
use Rattle.values.proofs.Orders.{order_says}
use Rattle.values.specs.Rules.{all}
use Rattle.values.specs.Texts.{path_text}
use Rattle.fs.specs.Rig.{Rig}
use Rattle.fs.specs.Tree.{Path, Node, nothing, Tree, same, before, parent, at, with_node, without, children, is_nothing, Behind, Sorted}
use Rattle.fs.proofs.Trees.{same_refl, same_no, before_ne, before_trans, before_not_same, behind_none, behind_trans, put_same}
use Rattle.host.specs.Sound.{ruled}
use Rattle.host.proofs.Storing.{ruled_stored}
use Rattle.host.specs.Stores.{node_of}
use Rattle.table_host.specs.Places.{Found, Vacant}
use Rattle.table_host.specs.Records.{tree_of, entry_of}
use Rattle.table_host.specs.declared.record.Record.{Record}

-- ---- the entries before a path

abbrev pub Before : Path → Path × Node → Type 0
Before p e = before e.0 p ≡ true

apart : (p q : Path) → before p q ≡ true → same p q ≡ false
apart p q h = same_no p q (before_ne p q h)

apart_back : (p q : Path) → before q p ≡ true → same p q ≡ false
apart_back p q h = same_no p q (λ e. before_ne q p h (sym e))

not_back : (p q : Path) → before q p ≡ true → before p q ≡ false
not_back p q h = ⊎_elim (λ k. absurd (true≢false (sym (before_trans p q p k h) ∙ before_not_same p))) (λ k. k) (cases_Bool (before p q))

front_at : (p : Path) (i : ℕ) (t : Tree) → AllByRecursion (Before p) (take i t) → at t p ≡ at (drop i t) p
front_at p zero t a = refl
front_at p (suc i) [] a = refl
front_at p (suc i) (e ∷ t) a = ap (λ b. cond b e.1 (at t p)) (apart_back p e.0 a.0) ∙ front_at p i t a.1

front_with : (p : Path) (n : Node) (i : ℕ) (t : Tree) → AllByRecursion (Before p) (take i t) → with_node p n t ≡ take i t ++ with_node p n (drop i t)
front_with p n zero t a = refl
front_with p n (suc i) [] a = refl
front_with p n (suc i) (e ∷ t) a =
    (λ k. cond (apart_back p e.0 a.0 k) ((p, n) ∷ t) (cond (not_back p e.0 a.0 k) ((p, n) ∷ (e ∷ t)) (e ∷ with_node p n t)))
    ∙ ap (λ x. e ∷ x) (front_with p n i t a.1)

front_without : (p : Path) (i : ℕ) (t : Tree) → AllByRecursion (Before p) (take i t) → without p t ≡ take i t ++ without p (drop i t)
front_without p zero t a = refl
front_without p (suc i) [] a = refl
front_without p (suc i) (e ∷ t) a = ap (λ b. cond b (without p t) (e ∷ without p t)) (apart_back p e.0 a.0) ∙ ap (λ x. e ∷ x) (front_without p i t a.1)

sorted_drop : (i : ℕ) (t : Tree) → Sorted t → Sorted (drop i t)
sorted_drop zero t s = s
sorted_drop (suc i) [] s = tt
sorted_drop (suc i) (e ∷ t) s = sorted_drop i t s.2

module _ (t : Tree) (s : Sorted t) (p : Path) (i : ℕ) (front : AllByRecursion (Before p) (take i t)) where
  module _ (within : i < length t) (x : Path × Node) (read : get_or t i (p, nothing) ≡ x) where
    rest : Tree
    rest = drop (i + 1) t

    here : drop i t ≡ x ∷ drop (i + 1) t
    here = drop_more t i (p, nothing) within ∙ ap (λ y. y ∷ drop (i + 1) t) read

    sorted_here : Sorted (x ∷ drop (i + 1) t)
    sorted_here = subst Sorted here (sorted_drop i t s)

    pub found : x.0 ≡ p → Found t p i
    found e =
        let is : same p x.0 ≡ true = ap (same p) e ∙ same_refl p in
        let node : at t p ≡ x.1 = front_at p i t front ∙ ap (λ u. at u p) here ∙ ap (λ b. cond b x.1 (at (drop (i + 1) t) p)) is in
        let gone : without p (drop (i + 1) t) ≡ drop (i + 1) t = put_same p nothing (drop (i + 1) t) sorted_here.2 (ap (at (drop (i + 1) t)) (sym e) ∙ behind_none x.0 (drop (i + 1) t) sorted_here.0) in
        record {
          within = within;
          node = node ∙ ap (λ y. y.1) (sym read);
          some = ap is_nothing node ∙ sorted_here.1;
          gone = front_without p i t front ∙ ap (λ u. take i t ++ without p u) here ∙ ap (λ b. take i t ++ cond b (without p (drop (i + 1) t)) (x ∷ without p (drop (i + 1) t))) is ∙ ap (λ u. take i t ++ u) gone;
        }

    pub vacant : before p x.0 ≡ true → Vacant t p i
    vacant b =
        record {
          within = omega arith;
          none = front_at p i t front ∙ ap (λ u. at u p) here ∙ behind_none p (x ∷ drop (i + 1) t) (b, behind_trans p x.0 (drop (i + 1) t) b sorted_here.0);
          put = λ n.
              front_with p n i t front
              ∙ ap (λ u. take i t ++ with_node p n u) here
              ∙ (λ k. take i t ++ cond (apart p x.0 b k) ((p, n) ∷ drop (i + 1) t) (cond (b k) ((p, n) ∷ (x ∷ drop (i + 1) t)) (x ∷ with_node p n (drop (i + 1) t))))
              ∙ ap (λ u. take i t ++ (p, n) ∷ u) (sym here);
        }

  pub vacant_end : i ≡ length t → Vacant t p i
  vacant_end e =
      let none : drop i t ≡ [] = drop_all i t (omega arith) in
      record {
        within = omega arith;
        none = front_at p i t front ∙ ap (λ u. at u p) none;
        put = λ n. front_with p n i t front ∙ ap (λ u. take i t ++ with_node p n u) none ∙ ap (λ u. take i t ++ (p, n) ∷ u) (sym none);
      }

-- ---- what a binary search by the order of paths answers

abbrev pub order_to : Path → Record → Ordering
order_to p r = slice_cmp nat_cmp (path_text r.path) p

module _ (p : Path) where
  least : (q : Path) → before q p ≡ true → slice_cmp nat_cmp q p ≡ Less
  least q h = by (slice_cmp nat_cmp q p) (order_says q p (slice_cmp nat_cmp q p) refl)
    where
      by : (o : Ordering) → Ordered q p o → o ≡ Less
      by Less k = refl
      by Equal k = absurd (before_ne q p h k)
      by Greater k = absurd (true≢false (sym (before_trans q p q h k) ∙ before_not_same q))

  rising : (a b : Path) → before a b ≡ true → ordering_index (slice_cmp nat_cmp a p) ≤ ordering_index (slice_cmp nat_cmp b p)
  rising a b h = by (slice_cmp nat_cmp b p) (order_says b p (slice_cmp nat_cmp b p) refl)
    where
      top : (o : Ordering) → ordering_index o ≤ 2
      top Less = omega arith
      top Equal = omega arith
      top Greater = omega arith

      by : (o : Ordering) → Ordered b p o → ordering_index (slice_cmp nat_cmp a p) ≤ ordering_index o
      by Less k = let z = ap ordering_index (least a (before_trans a b p h k)) in omega arith
      by Equal k = let z = ap ordering_index (least a (subst (λ q. before a q ≡ true) k h)) in omega arith
      by Greater k = top (slice_cmp nat_cmp a p)

behind_at : (q : Path) (rs : List Record) → Behind q (tree_of rs) → (j : ℕ) (d : Record) → j < length rs → before q (path_text (get_or rs j d).path) ≡ true
behind_at q [] b j d w = absurd (omega arith)
behind_at q (r ∷ rs) b zero d w = b.0
behind_at q (r ∷ rs) b (suc j) d w = behind_at q rs b.1 j d (omega arith)

rise : (rs : List Record) → Sorted (tree_of rs) → (i j : ℕ) (d : Record) → i < j → j < length rs → before (path_text (get_or rs i d).path) (path_text (get_or rs j d).path) ≡ true
rise [] s i j d l w = absurd (omega arith)
rise (r ∷ rs) s i zero d l w = absurd (omega arith)
rise (r ∷ rs) s zero (suc j) d l w = behind_at (path_text r.path) rs s.0 j d (omega arith)
rise (r ∷ rs) s (suc i) (suc j) d l w = rise rs s.2 i j d (omega arith) (omega arith)

never_falls : (rs : List Record) → Sorted (tree_of rs) → (p : Path) → IsNonDecreasingBy (λ r. ordering_index (order_to p r)) rs
never_falls rs s p i j d l w =
    ⊎_elim
    (λ e. let z = ap (λ k. ordering_index (order_to p (get_or rs k d))) e in omega arith)
    (λ n. rising p (path_text (get_or rs i d).path) (path_text (get_or rs j d).path) (rise rs s i j d (omega arith) w))
    (cases_eq i j)

front_before : (p : Path) (rs : List Record) (i : ℕ) → ((k : ℕ) (d : Record) → k < i → before (path_text (get_or rs k d).path) p ≡ true) → AllByRecursion (Before p) (take i (tree_of rs))
front_before p rs zero w = tt
front_before p [] (suc i) w = tt
front_before p (r ∷ rs) (suc i) w = (w 0 r (omega arith), front_before p rs i (λ k d l. w (suc k) d (omega arith)))

pub searched : (rs : List Record) (p : Path) → Sorted (tree_of rs) → (o : Result ℕ ℕ) → IsSearchInRange o (length rs) → IsBinarySearchResult (order_to p) rs o → MatchResult o (Found (tree_of rs) p) (Vacant (tree_of rs) p)
searched [] p s (Ok i) w k = absurd (omega arith)
searched (r ∷ rs) p s (Ok i) w k =
    let all : List Record = r ∷ rs in
    let x : Record = get_or all i r in
    let here : (d : Record) → path_text (get_or all i d).path ≡ p = λ d. order_says (path_text (get_or all i d).path) p Equal (sym (k d)) in
    let front = front_before p all i (λ j d l. subst (λ q. before (path_text (get_or all j d).path) q ≡ true) (here d) (rise all s j i d l w)) in
    found (tree_of all) s p i front (omega (arith, length-map all entry_of)) (entry_of x) (get_or-map entry_of all i r (p, nothing) (omega (arith, length-map all entry_of))) (here r)
searched [] p s (Err i) w k = vacant_end [] tt p i (front_before p [] i (λ j d l. absurd (omega arith))) (omega arith)
searched (r ∷ rs) p s (Err i) w k =
    let all : List Record = r ∷ rs in
    let x : Record = get_or all i r in
    let split = k (never_falls all s p) in
    let front = front_before p all i (λ j d l. order_says (path_text (get_or all j d).path) p Less (sym (split.0 j d (omega arith) l))) in
    ⊎_elim
    (λ l. vacant (tree_of all) s p i front (omega (arith, length-map all entry_of)) (entry_of x) (get_or-map entry_of all i r (p, nothing) (omega (arith, length-map all entry_of))) (order_says (path_text x.path) p Greater (sym (split.1 i r (omega arith) l))))
    (λ l. vacant_end (tree_of all) s p i front (omega (arith, length-map all entry_of)))
    (cases_lt i (length all))

-- ---- how many nodes have a path as their parent

pub children_counted : (rs : List Record) (p : Path) → children (tree_of rs) p ≡ count_by (λ r. same (parent (path_text r.path)) p) rs
children_counted rs p =
    is_count_by (λ l. children (tree_of l) p) (λ r. same (parent (path_text r.path)) p) refl
    (λ r l. let more : suc (children (tree_of l) p) ≡ 1 + children (tree_of l) p = omega arith in ap (λ n. cond (same (parent (path_text r.path)) p) n (children (tree_of l) p)) more)
    rs

-- ---- the tree after an insertion and a removal

tree_inserted : (rs : List Record) (i : ℕ) (r : Record) → tree_of (insert rs i r) ≡ take i (tree_of rs) ++ entry_of r ∷ drop i (tree_of rs)
tree_inserted rs i r = map-append entry_of (take i rs) (r ∷ drop i rs) ∙ (λ k. sym (take-map entry_of i rs) k ++ entry_of r ∷ sym (drop-map entry_of i rs) k)

tree_removed : (rs : List Record) (i : ℕ) → tree_of (remove rs i) ≡ take i (tree_of rs) ++ drop (i + 1) (tree_of rs)
tree_removed rs i =
    map-append entry_of (take i rs) (drop (suc i) rs)
    ∙ (λ k. sym (take-map entry_of i rs) k ++ sym (drop-map entry_of (suc i) rs) k)
    ∙ ap (λ n. take i (tree_of rs) ++ drop n (tree_of rs)) (sym (add-one i))

pub grown : (rs rs' : List Record) (r : Record) (i : ℕ) → Vacant (tree_of rs) (path_text r.path) i → rs' ≡ insert rs i r → tree_of rs' ≡ with_node (path_text r.path) (node_of r.node) (tree_of rs)
grown rs rs' r i v e = ap tree_of e ∙ tree_inserted rs i r ∙ sym (v.put (node_of r.node))

pub shrunk : (rs rs' : List Record) (p : Path) (i : ℕ) → Found (tree_of rs) p i → rs' ≡ remove rs i → tree_of rs' ≡ without p (tree_of rs)
shrunk rs rs' p i f e = ap tree_of e ∙ tree_removed rs i ∙ sym f.gone

-- the rig with another tree
pub with_tree : {t u : Tree} (capacity allowance : ℕ) → t ≡ u → ◌≡◌ {A = Rig} (record { tree = t; capacity = capacity; allowance = allowance }) (record { tree = u; capacity = capacity; allowance = allowance })
with_tree capacity allowance e = λ i. record { tree = e i; capacity = capacity; allowance = allowance }

-- ---- the types of a record's fields keep the rules

pub proper_records : (rs : List Record) → all ruled (tree_of rs) ≡ true
proper_records [] = refl
proper_records (r ∷ rs) = and_from (ruled (entry_of r)) (all ruled (tree_of rs)) (ruled_stored r.path r.node) (proper_records rs)
