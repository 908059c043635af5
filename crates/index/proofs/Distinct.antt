-- Lists without repeats, one more at the end. Assumes nothing.
use Rattle.std.proofs.Common.{◌≡◌, suc, Bool, true, false, not, List, [], ◌∷◌, ◌++◌, length, sym, refl, ap, ◌∙◌}
use Rattle.std.proofs.lemmas.Bool.{and_parts, and_from, or_parts, or_from, not-true, not_from_false, true≢false}
use Rattle.fs.specs.Tree.{Path, same, has}
use Rattle.fs.specs.Manifest.{Entry, dir_entry, file_entry}
use Rattle.fs.specs.Package.{entry_paths, distinct, under_pkg, any_under_pkg}
use Rattle.fs.proofs.Trees.{same_eq, same_refl}
use Rattle.records.specs.Entries.{entry_path}

-- equality of bytes goes both ways
pub other_way : (p q : Path) → same p q ≡ false → same q p ≡ false
other_way p q h = by (same q p) refl
  where
    by : (b : Bool) → same q p ≡ b → b ≡ false
    by true e = absurd (true≢false (sym (same_refl p) ∙ ap (same p) (sym (same_eq q p e)) ∙ h))
    by false e = refl

has_append : (p : Path) (k l : List Path) → has p k ≡ false → has p l ≡ false → has p (k ++ l) ≡ false
has_append p [] l h g = g
has_append p (q ∷ k) l h g = let c = or_parts (same p q) (has p k) h in or_from (same p q) (has p (k ++ l)) c.0 (has_append p k l c.1 g)

pub distinct_push : (l : List Path) (p : Path) → distinct l ≡ true → has p l ≡ false → distinct (l ++ p ∷ []) ≡ true
distinct_push [] p d h = refl
distinct_push (q ∷ l) p d h =
    let e = and_parts (not (has q l)) (distinct l) d in
    let c = or_parts (same p q) (has p l) h in
    and_from (not (has q (l ++ p ∷ []))) (distinct (l ++ p ∷ []))
    (not_from_false _ (has_append q l (p ∷ []) (not-true (has q l) e.0) (or_from (same q p) false (other_way p q c.0) refl)))
    (distinct_push l p e.1 c.1)

-- one that stands behind others without repeats is none of them
pub distinct_new : (l : List Path) (p : Path) (r : List Path) → distinct (l ++ p ∷ r) ≡ true → has p l ≡ false
distinct_new [] p r d = refl
distinct_new (q ∷ l) p r d =
    let e = and_parts (not (has q (l ++ p ∷ r))) (distinct (l ++ p ∷ r)) d in
    or_from (same p q) (has p l) (other_way q p (apart l (not-true _ e.0))) (distinct_new l p r e.1)
  where
    apart : (k : List Path) → has q (k ++ p ∷ r) ≡ false → same q p ≡ false
    apart [] h = (or_parts (same q p) (has q r) h).0
    apart (x ∷ k) h = apart k (or_parts (same q x) (has q (k ++ p ∷ r)) h).1

pub outside_push : (l : List Path) (p : Path) → any_under_pkg l ≡ false → under_pkg p ≡ false → any_under_pkg (l ++ p ∷ []) ≡ false
outside_push [] p h n = or_from (under_pkg p) false n refl
outside_push (q ∷ l) p h n = let c = or_parts (under_pkg q) (any_under_pkg l) h in or_from (under_pkg q) (any_under_pkg (l ++ p ∷ [])) c.0 (outside_push l p c.1 n)

-- the paths of entries, entry by entry
pub paths_cons : (e : Entry) (l : List Entry) → entry_paths (e ∷ l) ≡ entry_path e ∷ entry_paths l
paths_cons (dir_entry p) l = refl
paths_cons (file_entry p c) l = refl

pub paths_append : (k l : List Entry) → entry_paths (k ++ l) ≡ entry_paths k ++ entry_paths l
paths_append [] l = refl
paths_append (dir_entry p ∷ k) l = ap (λ x. p ∷ x) (paths_append k l)
paths_append (file_entry p c ∷ k) l = ap (λ x. p ∷ x) (paths_append k l)

pub paths_push : (k : List Entry) (e : Entry) → entry_paths (k ++ e ∷ []) ≡ entry_paths k ++ entry_path e ∷ []
paths_push k e = paths_append k (e ∷ []) ∙ ap (λ x. entry_paths k ++ x) (paths_cons e [])

pub paths_length : (l : List Entry) → length (entry_paths l) ≡ length l
paths_length [] = refl
paths_length (dir_entry p ∷ l) = ap (λ n. suc n) (paths_length l)
paths_length (file_entry p c ∷ l) = ap (λ n. suc n) (paths_length l)
