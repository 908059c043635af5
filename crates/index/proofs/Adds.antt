-- What an addition leaves. Assumes nothing.
use Rattle.std.proofs.Common.{◌≡◌, ℕ, suc, ◌+◌, ◌<◌, ◌≤◌, Bool, true, false, cond, not, eqb, List, [], ◌∷◌, ◌++◌, map, length, get_or, take, set, is_ok, IsErrAnd, Ok, Err, vec_items, vec_len, Result, Vec, sym, refl, ap, ◌∙◌, arith}
use Rattle.std.specs.declared.alloc.Global.{Global}
use Rattle.std.proofs.lemmas.List.{map_push, set_split, drop_all, take-append-drop, drop_more}
use Rattle.fs.specs.Tree.{has}
use Rattle.fs.specs.Package.{entry_paths, distinct, under_pkg, any_under_pkg}
use Rattle.fs.specs.Manifest as model
use Rattle.fs.specs.Manifest.{dir_entry, file_entry}
use Rattle.records.specs.Entries.{entry_of, entry_path}
use Rattle.records.specs.Items.{after, Meaning, new_entry, meaning}
use Rattle.records.specs.Saying.{Ruled}
use Rattle.records.specs.declared.entry.Entry.{Entry}
use Rattle.records.specs.declared.fault.Ground.{Ground}
use Rattle.records.proofs.Says.{said_exactly}
use Rattle.faults.specs.declared.error.ReadError.{ReadError}
use Rattle.faults.specs.declared.error.ReadError.TheVariants.{Fault, Memory}
use Rattle.index.specs.declared.packages.Package.{Package}
use Rattle.index.specs.Errors.{Added}
use Rattle.index.specs.Listed.{entries_of}
use Rattle.index.specs.Packages.{pack_of, packs_of}
use Rattle.index.specs.Packs.{Pack, names}
use Rattle.index.specs.Reading.{with_entry, extended, grown, taken_in}
use Rattle.index.proofs.Distinct.{distinct_push, outside_push, paths_push}
use Rattle.records.proofs.Says.{same_value, after_taken}
use Rattle.index.proofs.Growth.{grown_entry, begun_some}

-- entries, with one more if the push was taken
module _ (v w : Vec Entry Global) (b : Bool) (x : Entry) (items : vec_items w ≡ cond b (vec_items v ++ x ∷ []) (vec_items v)) where
  entries_after : entries_of w ≡ cond b (entries_of v ++ entry_of x ∷ []) (entries_of v)
  entries_after = ap (map entry_of) items ∙ by b
    where
      by : (a : Bool) → map entry_of (cond a (vec_items v ++ x ∷ []) (vec_items v)) ≡ cond a (entries_of v ++ entry_of x ∷ []) (entries_of v)
      by true = map_push entry_of (vec_items v) x
      by false = refl

  pub few_entries : vec_len w ≡ cond b (vec_len v + 1) (vec_len v) → vec_len v < 16 → vec_len w ≤ 16
  few_entries l h = by b l
    where
      by : (a : Bool) → vec_len w ≡ cond a (vec_len v + 1) (vec_len v) → vec_len w ≤ 16
      by true e = omega arith
      by false e = omega arith

  pub apart_entries : distinct (entry_paths (entries_of v)) ≡ true → has (entry_path (entry_of x)) (entry_paths (entries_of v)) ≡ false → distinct (entry_paths (entries_of w)) ≡ true
  apart_entries d n = ap (λ l. distinct (entry_paths l)) entries_after ∙ by b
    where
      by : (a : Bool) → distinct (entry_paths (cond a (entries_of v ++ entry_of x ∷ []) (entries_of v))) ≡ true
      by true = ap distinct (paths_push (entries_of v) (entry_of x)) ∙ distinct_push (entry_paths (entries_of v)) (entry_path (entry_of x)) d n
      by false = d

  pub outside_entries : any_under_pkg (entry_paths (entries_of v)) ≡ false → under_pkg (entry_path (entry_of x)) ≡ false → any_under_pkg (entry_paths (entries_of w)) ≡ false
  outside_entries d n = ap (λ l. any_under_pkg (entry_paths l)) entries_after ∙ by b
    where
      by : (a : Bool) → any_under_pkg (entry_paths (cond a (entries_of v ++ entry_of x ∷ []) (entries_of v))) ≡ false
      by true = ap any_under_pkg (paths_push (entries_of v) (entry_of x)) ∙ outside_push (entry_paths (entries_of v)) (entry_path (entry_of x)) d n
      by false = d

-- packages, with one more if the push was taken
module _ (v w : Vec Package Global) (b : Bool) (x : Package) (n : List ℕ) (new : pack_of x ≡ (n, [])) where
  pub packs_push : vec_items w ≡ vec_items v ++ x ∷ [] → packs_of w ≡ packs_of v ++ (n, []) ∷ []
  packs_push e = ap (map pack_of) e ∙ map_push pack_of (vec_items v) x ∙ ap (λ p. packs_of v ++ p ∷ []) new

  pub few_packages : vec_len w ≡ cond b (vec_len v + 1) (vec_len v) → vec_len v < 8 → vec_len w ≤ 8
  few_packages l h = by b l
    where
      by : (a : Bool) → vec_len w ≡ cond a (vec_len v + 1) (vec_len v) → vec_len w ≤ 8
      by true e = omega arith
      by false e = omega arith

  pub apart_packages : vec_items w ≡ cond b (vec_items v ++ x ∷ []) (vec_items v) → distinct (names (packs_of v)) ≡ true → has n (names (packs_of v)) ≡ false → distinct (names (packs_of w)) ≡ true
  apart_packages items d a = by b items
    where
      by : (t : Bool) → vec_items w ≡ cond t (vec_items v ++ x ∷ []) (vec_items v) → distinct (names (packs_of w)) ≡ true
      by true e = ap (λ l. distinct (names l)) (packs_push e) ∙ ap distinct (map_push (λ (p : Pack). p.0) (packs_of v) (n, [])) ∙ distinct_push (names (packs_of v)) n d a
      by false e = ap (λ l. distinct (names (map pack_of l))) e ∙ d

-- an addition that is refused, or that lacks memory
module _ {X : Type 0} (x y : X) (same : y ≡ x) (a : Result X Ground) where
  pub refused : (g : Ground) → a ≡ Err g → (res : Result Unit (ReadError Ground)) → IsErrAnd res (λ e. e ≡ Fault g) → Added x a res y
  refused g h (Ok u) z = absurd z
  refused g h (Err (Fault f)) z = let is : f ≡ g = cc in (h ∙ ap Err (sym is), same)
  refused g h (Err Memory) z = absurd (let n : ◌≡◌ {A = ℕ} 0 1 = cc in omega arith)

  pub wanting : is_ok a ≡ true → (res : Result Unit (ReadError Ground)) → IsErrAnd res (λ e. e ≡ Memory) → Added x a res y
  wanting h (Ok u) z = absurd z
  wanting h (Err (Fault f)) z = absurd (let n : ◌≡◌ {A = ℕ} 0 1 = cc in omega arith)
  wanting h (Err Memory) z = (h, same)

-- a value that goes on to a value
ok_after : {X Y : Type 0} (a : Result X Ground) (h : X → Result Y Ground) → ((x : X) → is_ok (h x) ≡ true) → is_ok a ≡ true → is_ok (after a h) ≡ true
ok_after (Ok x) h f e = f x
ok_after (Err g) h f e = e

-- the last of a list, read and written
module _ {X : Type 0} (xs : List X) (n : ℕ) (long : n + 1 ≡ length xs) where
  pub read_last : (x : X) → x ≡ get_or xs n x → xs ≡ take n xs ++ x ∷ []
  read_last x e =
      sym (take-append-drop n xs)
      ∙ ap (λ l. take n xs ++ l) (drop_more xs n x (omega arith) ∙ (λ i. sym e i ∷ drop_all (n + 1) xs (omega arith) i))

  pub write_last : (y : X) → set xs n y ≡ take n xs ++ y ∷ []
  write_last y = set_split xs n y (omega arith) ∙ ap (λ l. take n xs ++ y ∷ l) (drop_all (suc n) xs (omega arith))

-- an entry that is added to the last package
module _ (xs : List Package) (n : ℕ) (x y : Package) (long : n + 1 ≡ length xs) (read : x ≡ get_or xs n x) (e : model.Entry) where
  before : map pack_of xs ≡ map pack_of (take n xs) ++ pack_of x ∷ []
  before = ap (map pack_of) (read_last xs n long x read) ∙ map_push pack_of (take n xs) x

  behind : map pack_of (set xs n y) ≡ map pack_of (take n xs) ++ pack_of y ∷ []
  behind = ap (map pack_of) (write_last xs n long y) ∙ map_push pack_of (take n xs) y

  grows : grown (map pack_of xs) (new_entry e) ≡ after (extended (pack_of x) e) (λ q. Ok (map pack_of (take n xs) ++ q ∷ []))
  grows = ap (λ l. grown l (new_entry e)) before ∙ grown_entry (map pack_of (take n xs)) (pack_of x) e

  pub added_last : (r : Result Unit (ReadError Ground)) → Added (pack_of x) (extended (pack_of x) e) r (pack_of y) → Added (map pack_of xs) (grown (map pack_of xs) (new_entry e)) r (map pack_of (set xs n y))
  added_last (Ok u) h = grows ∙ ap (λ r. after r (λ q. Ok (map pack_of (take n xs) ++ q ∷ []))) h ∙ ap Ok (sym behind)
  added_last (Err (Fault f)) h = (
    grows ∙ ap (λ a. after a (λ q. Ok (map pack_of (take n xs) ++ q ∷ []))) h.0,
    behind ∙ ap (λ q. map pack_of (take n xs) ++ q ∷ []) h.1 ∙ sym before,
  )
  added_last (Err Memory) h = (
    ap is_ok grows ∙ ok_after (extended (pack_of x) e) (λ q. Ok (map pack_of (take n xs) ++ q ∷ [])) (λ q. refl) h.0,
    behind ∙ ap (λ q. map pack_of (take n xs) ++ q ∷ []) h.1 ∙ sym before,
  )

  same_name : (r : Result Unit (ReadError Ground)) → Added (pack_of x) (extended (pack_of x) e) r (pack_of y) → (pack_of y).0 ≡ (pack_of x).0
  same_name (Ok u) h =
      let k = after_taken _ (λ _. Ok (with_entry (pack_of x) e)) (pack_of y) h in
      ap (λ (q : Pack). q.0) (sym (same_value {E = Ground} (with_entry (pack_of x) e) (pack_of y) k.2))
  same_name (Err (Fault f)) h = ap (λ (q : Pack). q.0) h.1
  same_name (Err Memory) h = ap (λ (q : Pack). q.0) h.1

  pub same_names : (r : Result Unit (ReadError Ground)) → Added (pack_of x) (extended (pack_of x) e) r (pack_of y) → names (map pack_of (set xs n y)) ≡ names (map pack_of xs)
  same_names r h =
      ap names behind ∙ map_push (λ (q : Pack). q.0) (map pack_of (take n xs)) (pack_of y)
      ∙ ap (λ l. names (map pack_of (take n xs)) ++ l ∷ []) (same_name r h)
      ∙ sym (map_push (λ (q : Pack). q.0) (map pack_of (take n xs)) (pack_of x)) ∙ ap names (sym before)

-- what a record says is taken in
module _ (ps : List Pack) (kind : ℕ) (body : List ℕ) (b : Bool) (begun : not (eqb (length ps) 0) ≡ b) where
  pub takes : (a : Result Meaning Ground) → meaning b kind body ≡ a → taken_in ps kind body ≡ after a (λ m. grown ps m)
  takes a t = ap (λ r. after r (λ m. grown ps m)) (ap (λ y. meaning y kind body) begun ∙ t)

ruled_outside : (e : model.Entry) → Ruled e → under_pkg (entry_path e) ≡ false
ruled_outside (dir_entry p) h = h.1
ruled_outside (file_entry p c) h = h.1

-- an entry that is told has a package before it, and a path outside `/pkg`
pub told_entry : (ps : List Pack) (kind : ℕ) (body : List ℕ) (b : Bool) (e : model.Entry) → not (eqb (length ps) 0) ≡ b → meaning b kind body ≡ Ok (new_entry e) → (0 < length ps) × (under_pkg (entry_path e) ≡ false)
told_entry ps kind body b e begun h =
    let a = ((said_exactly b kind body (new_entry e)).0 h).1 in
    (begun_some ps (begun ∙ a.0), ruled_outside e a.1)
