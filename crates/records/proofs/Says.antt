-- A record says just what it is written for. Assumes nothing.
use Rattle.std.proofs.Common.{◌≡◌, ℕ, Bool, true, false, cond, ◌||◌, eqb, ltb, List, [], ◌∷◌, ◌++◌, length, take, drop, Ok, Err, Result, sym, refl, ap, ◌∙◌, subst, arith}
use Rattle.std.proofs.lemmas.List.{length-append, length-take-le, take-append-drop, take_at, drop_at}
use Rattle.std.proofs.lemmas.Bool.{cond-true, cond-false, ltb-false, le-ltb, eqb-true}
use Rattle.values.specs.Rules.{is_name, is_path, is_content}
use Rattle.values.specs.declared.fault.ValueFault.TheVariants.{Malformed, TooLong}
use Rattle.fs.specs.Manifest.{Entry, dir_entry, file_entry}
use Rattle.fs.specs.Package.{under_pkg}
use Rattle.records.specs.declared.fault.Ground.{Ground}
use Rattle.records.specs.declared.fault.Ground.TheVariants.{UnknownKind, NoPackage, ShortBody, Value, Reserved}
use Rattle.records.specs.Items.{after, path_check, name_check, directory_body, file_parts, file_body, Meaning, new_package, new_entry, meaning}
use Rattle.records.specs.Saying.{entry_record, record_of, Ruled, Allowed, SaidExactly}

pub not_both : {X E : Type 0} (e : E) (x : X) → ◌≡◌ {A = Result X E} (Err e) (Ok x) → ⊥
not_both e x h = let z : ◌≡◌ {A = ℕ} 0 1 = cc in omega arith

pub same_value : {X E : Type 0} (x y : X) → ◌≡◌ {A = Result X E} (Ok x) (Ok y) → x ≡ y
same_value x y h = cc

-- the checks, passed
path_taken : (p q : List ℕ) → path_check p ≡ Ok q → (is_path p ≡ true) × (under_pkg p ≡ false) × (p ≡ q)
path_taken p q h = by (is_path p) (under_pkg p) refl refl h
  where
    by : (a b : Bool) → is_path p ≡ a → under_pkg p ≡ b → cond a (cond b (Err Reserved) (Ok p)) (Err (Value Malformed)) ≡ Ok q → (is_path p ≡ true) × (under_pkg p ≡ false) × (p ≡ q)
    by true true x y e = absurd (not_both Reserved q e)
    by true false x y e = (x, y, same_value {E = Ground} p q e)
    by false b x y e = absurd (not_both (Value Malformed) q e)

path_takes : (p : List ℕ) → is_path p ≡ true → under_pkg p ≡ false → path_check p ≡ Ok p
path_takes p h n = cond-true _ _ _ h ∙ cond-false _ _ _ n

-- an answer that goes on
pub after_taken : {X Y E : Type 0} (r : Result X E) (f : X → Result Y E) (y : Y) → after r f ≡ Ok y → (x : X) × (r ≡ Ok x) × (f x ≡ Ok y)
after_taken (Ok x) f y h = (x, refl, h)
after_taken (Err g) f y h = absurd (not_both g y h)

directory_taken : (b : List ℕ) (e : Entry) → directory_body b ≡ Ok e → ((2, b) ≡ entry_record e) × Ruled e
directory_taken b e h =
    let k = after_taken (path_check b) (λ p. Ok (dir_entry p)) e h in
    let c = path_taken b k.0 k.1 in
    let is : dir_entry b ≡ e = ap dir_entry c.2 ∙ same_value {E = Ground} (dir_entry k.0) e k.2 in
    subst (λ x. ((2, b) ≡ entry_record x) × Ruled x) is (refl, (c.0, c.1))

parts_taken : (p c : List ℕ) (e : Entry) → file_parts p c ≡ Ok e → (e ≡ file_entry p c) × Ruled (file_entry p c)
parts_taken p c e h =
    let k = after_taken (path_check p) (λ q. cond (is_content c) (Ok (file_entry q c)) (Err (Value TooLong))) e h in
    let t = path_taken p k.0 k.1 in
    by (is_content c) refl k.0 t.2 t.0 t.1 k.2
  where
    by : (a : Bool) → is_content c ≡ a → (q : List ℕ) → p ≡ q → is_path p ≡ true → under_pkg p ≡ false → cond a (Ok (file_entry q c)) (Err (Value TooLong)) ≡ Ok e → (e ≡ file_entry p c) × Ruled (file_entry p c)
    by true x q s r n z = (sym (same_value {E = Ground} (file_entry q c) e z) ∙ ap (λ y. file_entry y c) (sym s), (r, n, x))
    by false x q s r n z = absurd (not_both (Value TooLong) e z)

file_taken : (b : List ℕ) (e : Entry) → file_body b ≡ Ok e → ((3, b) ≡ entry_record e) × Ruled e
file_taken [] e h = absurd (not_both ShortBody e h)
file_taken (n ∷ xs) e h = by (ltb (length xs) n) refl h
  where
    by : (a : Bool) → ltb (length xs) n ≡ a → cond a (Err ShortBody) (file_parts (take n xs) (drop n xs)) ≡ Ok e → ((3, n ∷ xs) ≡ entry_record e) × Ruled e
    by true x z = absurd (not_both ShortBody e z)
    by false x z =
        let k = parts_taken (take n xs) (drop n xs) e z in
        let long : n ≡ length (take n xs) = sym (length-take-le n xs (ltb-false (length xs) n x)) in
        let whole : (3, n ∷ xs) ≡ entry_record (file_entry (take n xs) (drop n xs)) = λ i. (3, long i ∷ sym (take-append-drop n xs) i) in
        subst (λ y. ((3, n ∷ xs) ≡ entry_record y) × Ruled y) (sym k.0) (whole, k.1)

-- the kinds, told apart
said : (begun : Bool) (kind : ℕ) (b : List ℕ) (m : Meaning) → meaning begun kind b ≡ Ok m → ((kind, b) ≡ record_of m) × Allowed begun m
said begun kind b m h = by (eqb kind 1) (eqb kind 2) (eqb kind 3) begun refl refl refl refl h
  where
    named : kind ≡ 1 → after (name_check b) (λ n. Ok (new_package n)) ≡ Ok m → ((kind, b) ≡ record_of m) × Allowed begun m
    named k z = pick (is_name b) refl z
      where
        pick : (a : Bool) → is_name b ≡ a → after (cond a (Ok b) (Err (Value Malformed))) (λ n. Ok (new_package n)) ≡ Ok m → ((kind, b) ≡ record_of m) × Allowed begun m
        pick true x y = subst (λ w. ((kind, b) ≡ record_of w) × Allowed begun w) (same_value {E = Ground} (new_package b) m y) ((λ i. (k i, b)), x)
        pick false x y = absurd (not_both (Value Malformed) m y)

    listed : (r : Result Entry Ground) (l : ℕ) → kind ≡ l → ((e : Entry) → r ≡ Ok e → ((l, b) ≡ entry_record e) × Ruled e) → begun ≡ true → after r (λ e. Ok (new_entry e)) ≡ Ok m → ((kind, b) ≡ record_of m) × Allowed begun m
    listed r l k f t z =
        let s = after_taken r (λ e. Ok (new_entry e)) m z in
        let g = f s.0 s.1 in
        subst (λ w. ((kind, b) ≡ record_of w) × Allowed begun w) (same_value {E = Ground} (new_entry s.0) m s.2) ((λ i. (k i, b)) ∙ g.0, (t, g.1))

    by : (a c d f : Bool) → eqb kind 1 ≡ a → eqb kind 2 ≡ c → eqb kind 3 ≡ d → begun ≡ f
        → cond a (after (name_check b) (λ n. Ok (new_package n))) (cond (c || d) (cond f (after (cond c (directory_body b) (file_body b)) (λ e. Ok (new_entry e))) (Err NoPackage)) (Err UnknownKind)) ≡ Ok m
        → ((kind, b) ≡ record_of m) × Allowed begun m
    by true c d f x y w t z = named (eqb-true kind 1 x) z
    by false true d true x y w t z = listed (directory_body b) 2 (eqb-true kind 2 y) (directory_taken b) t z
    by false true d false x y w t z = absurd (not_both NoPackage m z)
    by false false true true x y w t z = listed (file_body b) 3 (eqb-true kind 3 w) (file_taken b) t z
    by false false true false x y w t z = absurd (not_both NoPackage m z)
    by false false false f x y w t z = absurd (not_both UnknownKind m z)

-- what is allowed is taken as it is written
pub says : (begun : Bool) (m : Meaning) → Allowed begun m → meaning begun (record_of m).0 (record_of m).1 ≡ Ok m
says begun (new_package n) h = ap (λ r. after r (λ x. Ok (new_package x))) (cond-true (is_name n) (Ok n) (Err (Value Malformed)) h)
says begun (new_entry (dir_entry p)) h =
    cond-true begun _ _ h.0
    ∙ ap (λ r. after (after r (λ q. Ok (dir_entry q))) (λ e. Ok (new_entry e))) (path_takes p h.1.0 h.1.1)
says begun (new_entry (file_entry p c)) h =
    let long = length-append p c in
    cond-true begun _ _ h.0
    ∙ ap (λ r. after r (λ e. Ok (new_entry e))) (
    cond-false _ _ _ (le-ltb (length (p ++ c)) (length p) (omega arith))
    ∙ (λ i. file_parts (take_at p c (length p) refl i) (drop_at p c (length p) refl i))
    ∙ ap (λ r. after r (λ q. cond (is_content c) (Ok (file_entry q c)) (Err (Value TooLong)))) (path_takes p h.1.0 h.1.1)
    ∙ cond-true _ _ _ h.1.2)

pub said_exactly : SaidExactly
said_exactly begun kind b m = (said begun kind b m, (λ h. ap (λ r. meaning begun r.0 r.1) h.0 ∙ says begun m h.1))
