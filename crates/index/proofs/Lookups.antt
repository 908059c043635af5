-- What looks for a path and for a name. Assumes nothing.
use Rattle.std.proofs.Common.{◌≡◌, ℕ, ◌+◌, Bool, true, false, cond, ◌||◌, List, [], ◌∷◌, map, length, is_some, Some, None, Option, Bor, vec_items, vec_len, Vec, sym, refl, ap, ◌∙◌}
use Rattle.std.specs.List as chain
use Rattle.std.specs.List.{list_any, find}
use Rattle.std.specs.Option.{option_map}
use Rattle.std.specs.declared.alloc.Global.{Global}
use Rattle.std.proofs.lemmas.List.{length-map}
use Rattle.values.specs.Texts.{name_text}
use Rattle.fs.specs.Tree.{Path, same, has}
use Rattle.fs.specs.Package.{entry_paths}
use Rattle.records.specs.Entries.{entry_of, entry_path}
use Rattle.records.specs.declared.entry.Entry.{Entry}
use Rattle.index.specs.declared.packages.Package.{Package}
use Rattle.index.specs.Listed.{entries_of}
use Rattle.index.specs.Lookups.{position_from, found}
use Rattle.index.specs.Packages.{pack_of, packs_of}
use Rattle.index.specs.Packs.{Pack, names}
use Rattle.index.specs.Reading.{admission, admit}
use Rattle.index.proofs.Distinct.{paths_cons, paths_length}

-- how many there are
pub packs_length : (v : Vec Package Global) → length (packs_of v) ≡ vec_len v
packs_length v = length-map (vec_items v) pack_of ∙ sym v.ok.0

pub names_length : (v : Vec Package Global) → length (names (packs_of v)) ≡ vec_len v
names_length v = length-map (packs_of v) (λ (p : Pack). p.0) ∙ packs_length v

pub entries_length : (v : Vec Entry Global) → length (entry_paths (entries_of v)) ≡ vec_len v
entries_length v = paths_length (entries_of v) ∙ length-map (vec_items v) entry_of ∙ sym v.ok.0

-- what the chains that look for a path and for a name find
pub listed_any : (p : Path) (xs : List Entry) → list_any (λ x. same p (entry_path (entry_of x))) xs ≡ has p (entry_paths (map entry_of xs))
listed_any p [] = refl
listed_any p (x ∷ xs) = ap (λ b. same p (entry_path (entry_of x)) || b) (listed_any p xs) ∙ sym (ap (has p) (paths_cons (entry_of x) (map entry_of xs)))

pub named_at : (n : List ℕ) (i : ℕ) (xs : List Package) → chain.position_from (λ x. same n (name_text x.name)) i xs ≡ position_from i n (map pack_of xs)
named_at n i [] = refl
named_at n i (x ∷ xs) = ap (cond (same n (name_text x.name)) (Some i)) (named_at n (i + 1) xs)

found_in : (n : List ℕ) (xs : List Package) → option_map pack_of (find (λ x. same n (name_text x.name)) xs) ≡ found n (map pack_of xs)
found_in n [] = refl
found_in n (x ∷ xs) = by (same n (name_text x.name)) (found_in n xs)
  where
    by : (b : Bool) → option_map pack_of (find (λ y. same n (name_text y.name)) xs) ≡ found n (map pack_of xs) → option_map pack_of (cond b (Some x) (find (λ y. same n (name_text y.name)) xs)) ≡ cond b (Some (pack_of x)) (found n (map pack_of xs))
    by true h = refl
    by false h = h

pub named : (n : List ℕ) (xs : List Package) (o : Option (Bor Package)) → option_map (λ x. x.now) o ≡ find (λ x. same n (name_text x.name)) xs → option_map (λ x. pack_of x.now) o ≡ found n (map pack_of xs)
named n xs o h = packed o ∙ ap (option_map pack_of) h ∙ found_in n xs
  where
    packed : (r : Option (Bor Package)) → option_map (λ x. pack_of x.now) r ≡ option_map pack_of (option_map (λ x. x.now) r)
    packed None = refl
    packed (Some x) = refl

-- a name has a position where it is one of the names
pub position_has : (i : ℕ) (n : List ℕ) (ps : List Pack) → is_some (position_from i n ps) ≡ has n (names ps)
position_has i n [] = refl
position_has i n (p ∷ ps) = by (same n p.0) (position_has (i + 1) n ps)
  where
    by : (b : Bool) → is_some (position_from (i + 1) n ps) ≡ has n (names ps) → is_some (cond b (Some i) (position_from (i + 1) n ps)) ≡ (b || has n (names ps))
    by true h = refl
    by false h = h

-- whether one more is admitted, by what there is
pub entry_admitted : (v : Vec Entry Global) (p q : Path) (n : ℕ) (again : Bool) → n ≡ vec_len v → q ≡ p → again ≡ has q (entry_paths (entries_of v)) → admission 16 n again ≡ admit 16 p (entry_paths (entries_of v))
entry_admitted v p q n again l e h = λ i. admission 16 ((l ∙ sym (entries_length v)) i) ((h ∙ ap (λ x. has x (entry_paths (entries_of v))) e) i)

pub package_admitted : (v : Vec Package Global) (n : ℕ) (x : List ℕ) (at : Option ℕ) (again : Bool) → n ≡ vec_len v → at ≡ position_from 0 x (packs_of v) → again ≡ is_some at → admission 8 n again ≡ admit 8 x (names (packs_of v))
package_admitted v n x at again l e h = λ i. admission 8 ((l ∙ sym (names_length v)) i) ((h ∙ ap is_some e ∙ position_has 0 x (packs_of v)) i)
