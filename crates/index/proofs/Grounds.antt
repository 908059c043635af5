-- A record is refused by its first ground. Assumes nothing.
use Rattle.std.proofs.Common.{◌≡◌, ℕ, Bool, true, false, cond, not, ◌||◌, eqb, ltb, leb, List, [], ◌∷◌, ◌++◌, length, take, drop, Ok, Err, Result, refl}
use Rattle.std.proofs.Math.Option.{Option, some}
use Rattle.values.specs.Rules.{is_name, is_path, is_content}
use Rattle.values.specs.declared.fault.ValueFault.TheVariants.{Malformed, TooLong}
use Rattle.fs.specs.Change.{first_ground}
use Rattle.fs.specs.Manifest.{Entry, dir_entry, file_entry}
use Rattle.fs.specs.Package.{under_pkg}
use Rattle.fs.specs.Tree.{has}
use Rattle.records.specs.Entries.{entry_path}
use Rattle.records.specs.Items.{after, name_check, directory_body, file_body, new_package, new_entry}
use Rattle.records.specs.declared.fault.Ground.{Ground}
use Rattle.records.specs.declared.fault.Ground.TheVariants.{UnknownKind, NoPackage, ShortBody, Value, Reserved, TooMany, Repeated}
use Rattle.index.specs.Packs.{Pack, names}
use Rattle.index.specs.Reading.{with_entry, last_pack, with_last, grown}
use Rattle.index.specs.Refusals.{too_short, file_path, file_content, bad_path, last_paths, refusal, RefusedByFirstGround}

-- the last two grounds
abbrev room : Bool → Bool → Option ℕ
room many again = first_ground ((9, many) ∷ (10, again) ∷ [])

abbrev admission : Bool → Bool → Result Unit Ground
admission many again = cond many (Err TooMany) (cond again (Err Repeated) (Ok tt))

package_room : (ps : List Pack) (n : List ℕ) → refusal (grown ps (new_package n)) ≡ room (leb 8 (length (names ps))) (has n (names ps))
package_room ps n = by (leb 8 (length (names ps))) (has n (names ps))
  where
    by : (y z : Bool) → refusal (after (admission y z) (λ _. Ok (ps ++ (n, []) ∷ []))) ≡ room y z
    by true z = refl
    by false true = refl
    by false false = refl

entry_room : (ps : List Pack) (e : Entry) → refusal (grown ps (new_entry e)) ≡ room (leb 16 (length (last_paths ps))) (has (entry_path e) (last_paths ps))
entry_room ps e = by (leb 16 (length (last_paths ps))) (has (entry_path e) (last_paths ps))
  where
    by : (y z : Bool) → refusal (after (after (admission y z) (λ _. Ok (with_entry (last_pack ps) e))) (λ q. Ok (with_last ps q))) ≡ room y z
    by true z = refl
    by false true = refl
    by false false = refl

module _ (ps : List Pack) (b : List ℕ) where
  of_package : refusal (after (after (name_check b) (λ n. Ok (new_package n))) (λ m. grown ps m)) ≡ first_ground ((7, not (is_name b)) ∷ (9, leb 8 (length (names ps))) ∷ (10, has b (names ps)) ∷ [])
  of_package = by (is_name b)
    where
      by : (x : Bool) → refusal (after (after (cond x (Ok b) (Err (Value Malformed))) (λ n. Ok (new_package n))) (λ m. grown ps m)) ≡ cond (not x) (some 7) (room (leb 8 (length (names ps))) (has b (names ps)))
      by true = package_room ps b
      by false = refl

  of_directory : refusal (after (cond (not (eqb (length ps) 0)) (after (directory_body b) (λ e. Ok (new_entry e))) (Err NoPackage)) (λ m. grown ps m)) ≡ first_ground ((6, eqb (length ps) 0) ∷ (7, bad_path b) ∷ (9, leb 16 (length (last_paths ps))) ∷ (10, has b (last_paths ps)) ∷ [])
  of_directory = by (eqb (length ps) 0) (is_path b) (under_pkg b)
    where
      by : (n x y : Bool) → refusal (after (cond (not n) (after (after (cond x (cond y (Err Reserved) (Ok b)) (Err (Value Malformed))) (λ p. Ok (dir_entry p))) (λ e. Ok (new_entry e))) (Err NoPackage)) (λ m. grown ps m)) ≡ cond n (some 6) (cond (not x || y) (some 7) (room (leb 16 (length (last_paths ps))) (has b (last_paths ps))))
      by true x y = refl
      by false false y = refl
      by false true true = refl
      by false true false = entry_room ps (dir_entry b)

-- behind the test for a package
file_rest : (ps : List Pack) (b : List ℕ) → refusal (after (after (file_body b) (λ e. Ok (new_entry e))) (λ m. grown ps m)) ≡ first_ground ((7, too_short b || bad_path (file_path b)) ∷ (8, not (is_content (file_content b))) ∷ (9, leb 16 (length (last_paths ps))) ∷ (10, has (file_path b) (last_paths ps)) ∷ [])
file_rest ps [] = refl
file_rest ps (n ∷ xs) = by (ltb (length xs) n) (is_path (take n xs)) (under_pkg (take n xs)) (is_content (drop n xs))
  where
    by : (s x y c : Bool) → refusal (after (after (cond s (Err ShortBody) (after (cond x (cond y (Err Reserved) (Ok (take n xs))) (Err (Value Malformed))) (λ q. cond c (Ok (file_entry q (drop n xs))) (Err (Value TooLong))))) (λ e. Ok (new_entry e))) (λ m. grown ps m)) ≡ cond (s || (not x || y)) (some 7) (cond (not c) (some 8) (room (leb 16 (length (last_paths ps))) (has (take n xs) (last_paths ps))))
    by true x y c = refl
    by false false y c = refl
    by false true true c = refl
    by false true false false = refl
    by false true false true = entry_room ps (file_entry (take n xs) (drop n xs))

module _ (ps : List Pack) (b : List ℕ) where
  of_file : refusal (after (cond (not (eqb (length ps) 0)) (after (file_body b) (λ e. Ok (new_entry e))) (Err NoPackage)) (λ m. grown ps m)) ≡ first_ground ((6, eqb (length ps) 0) ∷ (7, too_short b || bad_path (file_path b)) ∷ (8, not (is_content (file_content b))) ∷ (9, leb 16 (length (last_paths ps))) ∷ (10, has (file_path b) (last_paths ps)) ∷ [])
  of_file = by (eqb (length ps) 0)
    where
      by : (n : Bool) → refusal (after (cond (not n) (after (file_body b) (λ e. Ok (new_entry e))) (Err NoPackage)) (λ m. grown ps m)) ≡ cond n (some 6) (first_ground ((7, too_short b || bad_path (file_path b)) ∷ (8, not (is_content (file_content b))) ∷ (9, leb 16 (length (last_paths ps))) ∷ (10, has (file_path b) (last_paths ps)) ∷ []))
      by true = refl
      by false = file_rest ps b

pub refused_by_first_ground : RefusedByFirstGround
refused_by_first_ground ps kind b = by (eqb kind 1) (eqb kind 2) (eqb kind 3)
  where
    by : (k l m : Bool)
        → refusal (after (cond k (after (name_check b) (λ n. Ok (new_package n))) (cond (l || m) (cond (not (eqb (length ps) 0)) (after (cond l (directory_body b) (file_body b)) (λ e. Ok (new_entry e))) (Err NoPackage)) (Err UnknownKind))) (λ x. grown ps x))
        ≡ first_ground (
        (5, cond k false (cond l false (cond m false true)))
        ∷ (6, cond k false (cond l (eqb (length ps) 0) (cond m (eqb (length ps) 0) false)))
        ∷ (7, cond k (not (is_name b)) (cond l (bad_path b) (cond m (too_short b || bad_path (file_path b)) false)))
        ∷ (8, cond k false (cond l false (cond m (not (is_content (file_content b))) false)))
        ∷ (9, cond k (leb 8 (length (names ps))) (cond l (leb 16 (length (last_paths ps))) (cond m (leb 16 (length (last_paths ps))) false)))
        ∷ (10, cond k (has b (names ps)) (cond l (has b (last_paths ps)) (cond m (has (file_path b) (last_paths ps)) false)))
        ∷ [])
    by true l m = of_package ps b
    by false true m = of_directory ps b
    by false false true = of_file ps b
    by false false false = refl
