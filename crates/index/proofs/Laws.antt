-- Just the bytes that spell an index are read. Assumes nothing.
use Rattle.std.proofs.Common.{◌≡◌, ℕ, ◌+◌, ◌<◌, Bool, true, false, cond, not, eqb, ltb, List, [], ◌∷◌, ◌++◌, map, length, Ok, Err, Result, sym, refl, ap, ◌∙◌, subst, arith}
use Rattle.std.specs.List.{AllByRecursion}
use Rattle.std.proofs.ByRecursion.{All-push}
use Rattle.std.proofs.lemmas.List.{append-nil, append_assoc, length-append, length_push, length-map, map-append, map_push}
use Rattle.std.proofs.lemmas.Bool.{cond-false, ltb-false, le-ltb}
use Rattle.values.specs.Rules.{is_name}
use Rattle.fs.specs.Tree.{has}
use Rattle.fs.specs.Manifest.{Entry}
use Rattle.fs.specs.Package.{entry_paths, distinct}
use Rattle.records.specs.Entries.{entry_path}
use Rattle.faults.specs.Faults.{fault_at}
use Rattle.records.specs.Faults.{located, IndexFault}
use Rattle.records.specs.Items.{after, Meaning, new_package, new_entry, meaning}
use Rattle.records.specs.Rows.{Row, ended, broken, next, row_from}
use Rattle.records.specs.Saying.{entry_record, record_of, Ruled, Allowed}
use Rattle.records.specs.Spelling.{Spells, row_of}
use Rattle.records.specs.declared.fault.Ground.{Ground}
use Rattle.records.specs.declared.fault.Ground.TheVariants.{IndexTooLong, PastEnd}
use Rattle.records.proofs.Says.{not_both, says, said_exactly}
use Rattle.records.proofs.Splits.{whole, contents, split_spelled, spelled_split}
use Rattle.index.specs.Packs.{Pack, names}
use Rattle.index.specs.Reading.{admit, with_entry, extended, grown, taken_in, read_row, read_bytes}
use Rattle.index.specs.Law.{pack_records, index_records, LegalPack, Legal, Written, ReadExactly}
use Rattle.index.proofs.Distinct.{distinct_push, distinct_new, paths_cons, paths_append, paths_push, paths_length}
use Rattle.records.proofs.Says.{same_value, after_taken}
use Rattle.index.proofs.Growth.{admitted, admit_one, split_last, grown_entry, extended_ok, begun_is, begun_some}

-- the records of packages, with one more behind
records_append : (ps qs : List Pack) → index_records (ps ++ qs) ≡ index_records ps ++ index_records qs
records_append [] qs = refl
records_append (p ∷ ps) qs = ap (λ l. pack_records p ++ l) (records_append ps qs) ∙ sym (append_assoc (pack_records p) (index_records ps) (index_records qs))

records_push : (ps : List Pack) (p : Pack) → index_records (ps ++ p ∷ []) ≡ index_records ps ++ pack_records p
records_push ps p = records_append ps (p ∷ []) ∙ ap (λ l. index_records ps ++ l) (append-nil (pack_records p))

records_entry : (front : List Pack) (p : Pack) (e : Entry) → index_records (front ++ with_entry p e ∷ []) ≡ index_records (front ++ p ∷ []) ++ entry_record e ∷ []
records_entry front p e =
    records_push front (with_entry p e)
    ∙ ap (λ l. index_records front ++ (1, p.0) ∷ l) (map_push entry_record p.1 e)
    ∙ sym (append_assoc (index_records front) (pack_records p) (entry_record e ∷ []))
    ∙ ap (λ l. l ++ entry_record e ∷ []) (sym (records_push front p))

-- what is legal, stays so
legal_package : (ps : List Pack) (n : List ℕ) → Legal ps → is_name n ≡ true → length (names ps) < 8 → has n (names ps) ≡ false → Legal (ps ++ (n, []) ∷ [])
legal_package ps n l named few new =
    let many = length-map ps (λ (p : Pack). p.0) in
    let long = length_push ps (n, []) in
    record {
      few = omega arith;
      apart = ap distinct (map_push (λ (p : Pack). p.0) ps (n, [])) ∙ distinct_push (names ps) n l.apart new;
      each = All-push LegalPack ps (n, []) l.each (record { named = named; few = omega arith; apart = refl; ruled = tt });
    }

all_front : {X : Type 0} (P : X → Type 0) (xs : List X) (y : X) → AllByRecursion P (xs ++ y ∷ []) → AllByRecursion P xs × P y
all_front P [] y h = (tt, h.0)
all_front P (x ∷ xs) y h = let k = all_front P xs y h.1 in ((h.0, k.0), k.1)

legal_entry : (front : List Pack) (p : Pack) (e : Entry) → Legal (front ++ p ∷ []) → Ruled e → length (entry_paths p.1) < 16 → has (entry_path e) (entry_paths p.1) ≡ false → Legal (front ++ with_entry p e ∷ [])
legal_entry front p e l ruled few new =
    let many = paths_length p.1 in
    let long = length_push p.1 e in
    let k = all_front LegalPack front p l.each in
    let old = k.1 in
    let same_names : names (front ++ with_entry p e ∷ []) ≡ names (front ++ p ∷ []) = map_push (λ (q : Pack). q.0) front (with_entry p e) ∙ sym (map_push (λ (q : Pack). q.0) front p) in
    let sizes = length_push front (with_entry p e) in
    let size = length_push front p in
    let most = l.few in
    record {
      few = omega arith;
      apart = ap distinct same_names ∙ l.apart;
      each = All-push LegalPack front (with_entry p e) k.0 (record {
        named = old.named;
        few = omega arith;
        apart = ap distinct (paths_push p.1 e) ∙ distinct_push (entry_paths p.1) (entry_path e) old.apart new;
        ruled = All-push Ruled p.1 e old.ruled ruled;
      });
    }

-- a record that is taken: the packages have just that record more, and are legal
abbrev pub Gained : List Pack → ℕ × List ℕ → List Pack → Type 0
Gained ps r qs = (index_records qs ≡ index_records ps ++ r ∷ []) × Legal qs

gained_package : (ps : List Pack) (n : List ℕ) (qs : List Pack) → Legal ps → is_name n ≡ true → grown ps (new_package n) ≡ Ok qs → Gained ps (1, n) qs
gained_package ps n qs l named h =
    let k = after_taken (admit 8 n (names ps)) (λ _. Ok (ps ++ (n, []) ∷ [])) qs h in
    let a = admitted 8 n (names ps) k.0 k.1 in
    subst (Gained ps (1, n)) (same_value {E = Ground} (ps ++ (n, []) ∷ []) qs k.2) (records_push ps (n, []), legal_package ps n l named a.0 a.1)

gained_entry : (ps : List Pack) (e : Entry) (qs : List Pack) → Legal ps → 0 < length ps → Ruled e → grown ps (new_entry e) ≡ Ok qs → Gained ps (entry_record e) qs
gained_entry ps e qs l some ruled h = let k = split_last ps some in at k.0 k.1 k.2
  where
    at : (front : List Pack) (p : Pack) → ps ≡ front ++ p ∷ [] → Gained ps (entry_record e) qs
    at front p s =
        let h' : after (extended p e) (λ q. Ok (front ++ q ∷ [])) ≡ Ok qs = sym (ap (λ x. grown x (new_entry e)) s ∙ grown_entry front p e) ∙ h in
        let k = after_taken (extended p e) (λ q. Ok (front ++ q ∷ [])) qs h' in
        let j = after_taken (admit 16 (entry_path e) (entry_paths p.1)) (λ _. Ok (with_entry p e)) k.0 k.1 in
        let a = admitted 16 (entry_path e) (entry_paths p.1) j.0 j.1 in
        let is : front ++ with_entry p e ∷ [] ≡ qs = ap (λ q. front ++ q ∷ []) (same_value {E = Ground} (with_entry p e) k.0 j.2) ∙ same_value {E = Ground} (front ++ k.0 ∷ []) qs k.2 in
        let done : Gained (front ++ p ∷ []) (entry_record e) (front ++ with_entry p e ∷ []) = (records_entry front p e, legal_entry front p e (subst Legal s l) ruled a.0 a.1) in
        subst (λ x. Gained x (entry_record e) qs) (sym s) (subst (Gained (front ++ p ∷ []) (entry_record e)) is done)

pub gained : (ps : List Pack) (kind : ℕ) (body : List ℕ) (qs : List Pack) → Legal ps → taken_in ps kind body ≡ Ok qs → Gained ps (kind, body) qs
gained ps kind body qs l h =
    let k = after_taken (meaning (not (eqb (length ps) 0)) kind body) (λ m. grown ps m) qs h in
    let s = (said_exactly (not (eqb (length ps) 0)) kind body k.0).0 k.1 in
    subst (λ r. Gained ps r qs) (sym s.0) (by k.0 s.1 k.2)
  where
    by : (m : Meaning) → Allowed (not (eqb (length ps) 0)) m → grown ps m ≡ Ok qs → Gained ps (record_of m) qs
    by (new_package n) a g = gained_package ps n qs l a g
    by (new_entry e) a g = gained_entry ps e qs l (begun_some ps a.0) a.1 g

located_taken : {X : Type 0} (p : ℕ) (r : Result X Ground) (x : X) → located p r ≡ Ok x → r ≡ Ok x
located_taken p (Ok y) x h = ap Ok (same_value {E = IndexFault} y x h)
located_taken p (Err g) x h = absurd (not_both (fault_at p g) x h)

-- what is read is legal, and has the records of the row
read_sound : (r : Row) (qs ps : List Pack) → Legal qs → read_row qs r ≡ Ok ps → (whole r ≡ true) × (index_records ps ≡ index_records qs ++ contents r) × Legal ps
read_sound ended qs ps l h =
    let is = same_value {E = IndexFault} qs ps h in
    (refl, ap index_records (sym is) ∙ sym (append-nil (index_records qs)), subst Legal is l)
read_sound (broken p) qs ps l h = absurd (not_both (fault_at p PastEnd) ps h)
read_sound (next p kind body r) qs ps l h =
    let k = after_taken (located p (taken_in qs kind body)) (λ xs. read_row xs r) ps h in
    let g = gained qs kind body k.0 l (located_taken p (taken_in qs kind body) k.0 k.1) in
    let more = read_sound r k.0 ps g.1 k.2 in
    (more.0, more.1 ∙ ap (λ x. x ++ contents r) g.0 ∙ append_assoc (index_records qs) ((kind, body) ∷ []) (contents r), more.2)

-- records are read as packages, from any place on
abbrev Reads : List Pack → List (ℕ × List ℕ) → List Pack → Type 0
Reads ps rs qs = (p : ℕ) → read_row ps (row_of p rs) ≡ Ok qs

reads_more : (ps xs qs : List Pack) (r : ℕ × List ℕ) (rs : List (ℕ × List ℕ)) → taken_in ps r.0 r.1 ≡ Ok xs → Reads xs rs qs → Reads ps (r ∷ rs) qs
reads_more ps xs qs r rs t h p = ap (λ a. after (located p a) (λ ys. read_row ys (row_of (p + 4 + length r.1) rs))) t ∙ h (p + 4 + length r.1)

-- an allowed meaning is taken in as it is written
takes : (ps : List Pack) (m : Meaning) → Allowed (not (eqb (length ps) 0)) m → taken_in ps (record_of m).0 (record_of m).1 ≡ grown ps m
takes ps m a = ap (λ r. after r (λ x. grown ps x)) (says (not (eqb (length ps) 0)) m a)

module _ (front : List Pack) (n : List ℕ) where
  entry_step : (ds es : List Entry) (e : Entry) → LegalPack (n, ds ++ e ∷ es) → taken_in (front ++ (n, ds) ∷ []) (entry_record e).0 (entry_record e).1 ≡ Ok (front ++ (n, ds ++ e ∷ []) ∷ [])
  entry_step ds es e l =
      let long = length-append ds (e ∷ es) in
      let most = l.few in
      let many = paths_length ds in
      let size = length_push front (n, ds) in
      let all_paths : entry_paths (ds ++ e ∷ es) ≡ entry_paths ds ++ entry_path e ∷ entry_paths es = paths_append ds (e ∷ es) ∙ ap (λ x. entry_paths ds ++ x) (paths_cons e es) in
      let new = distinct_new (entry_paths ds) (entry_path e) (entry_paths es) (sym (ap distinct all_paths) ∙ l.apart) in
      takes (front ++ (n, ds) ∷ []) (new_entry e) (begun_is (front ++ (n, ds) ∷ []) (omega arith), listed ds es e l.ruled)
      ∙ grown_entry front (n, ds) e
      ∙ ap (λ r. after r (λ q. Ok (front ++ q ∷ []))) (extended_ok (n, ds) e (omega arith) new)
    where
      listed : (xs ys : List Entry) (x : Entry) → AllByRecursion Ruled (xs ++ x ∷ ys) → Ruled x
      listed [] ys x h = h.0
      listed (z ∷ xs) ys x h = listed xs ys x h.1

  entries_read : (es ds : List Entry) (rs : List (ℕ × List ℕ)) (qs : List Pack) → LegalPack (n, ds ++ es) → Reads (front ++ (n, ds ++ es) ∷ []) rs qs → Reads (front ++ (n, ds) ∷ []) (map entry_record es ++ rs) qs
  entries_read [] ds rs qs l h = subst (λ x. Reads (front ++ (n, x) ∷ []) rs qs) (append-nil ds) h
  entries_read (e ∷ es) ds rs qs l h =
      let same-list = append_assoc ds (e ∷ []) es in
      reads_more (front ++ (n, ds) ∷ []) (front ++ (n, ds ++ e ∷ []) ∷ []) qs (entry_record e) (map entry_record es ++ rs) (entry_step ds es e l)
      (entries_read es (ds ++ e ∷ []) rs qs (subst (λ x. LegalPack (n, x)) (sym same-list) l) (subst (λ x. Reads (front ++ (n, x) ∷ []) rs qs) (sym same-list) h))

legal_here : (front : List Pack) (p : Pack) (ps : List Pack) → Legal (front ++ p ∷ ps) → LegalPack p
legal_here front p ps l = here front l.each
  where
    here : (xs : List Pack) → AllByRecursion LegalPack (xs ++ p ∷ ps) → LegalPack p
    here [] h = h.0
    here (x ∷ xs) h = here xs h.1

package_step : (front : List Pack) (p : Pack) (ps : List Pack) → Legal (front ++ p ∷ ps) → taken_in front 1 p.0 ≡ Ok (front ++ (p.0, []) ∷ [])
package_step front p ps l =
    let long = length-append front (p ∷ ps) in
    let most = l.few in
    let many = length-map front (λ (q : Pack). q.0) in
    let all_names : names (front ++ p ∷ ps) ≡ names front ++ p.0 ∷ names ps = map-append (λ (q : Pack). q.0) front (p ∷ ps) in
    let new = distinct_new (names front) p.0 (names ps) (sym (ap distinct all_names) ∙ l.apart) in
    takes front (new_package p.0) (legal_here front p ps l).named
    ∙ ap (λ r. after r (λ _. Ok (front ++ (p.0, []) ∷ []))) (admit_one 8 p.0 (names front) (omega arith) new)

-- every legal index is read from its records
packs_read : (ps front : List Pack) → Legal (front ++ ps) → Reads front (index_records ps) (front ++ ps)
packs_read [] front l k = ap Ok (sym (append-nil front))
packs_read (p ∷ ps) front l k =
    let same-list = append_assoc front (p ∷ []) ps in
    let rest : Reads (front ++ p ∷ []) (index_records ps) (front ++ p ∷ ps) = subst (λ x. Reads (front ++ p ∷ []) (index_records ps) x) same-list (packs_read ps (front ++ p ∷ []) (subst Legal (sym same-list) l)) in
    reads_more front (front ++ (p.0, []) ∷ []) (front ++ p ∷ ps) (1, p.0) (map entry_record p.1 ++ index_records ps) (package_step front p ps l)
    (entries_read front p.0 p.1 [] (index_records ps) (front ++ p ∷ ps) (legal_here front p ps l) rest) k

pub read_exactly : ReadExactly
read_exactly bytes ps = (there, back)
  where
    there : read_bytes bytes ≡ Ok ps → Written bytes ps
    there h = by (ltb 16384 (length bytes)) refl h
      where
        by : (b : Bool) → ltb 16384 (length bytes) ≡ b → cond b (Err (fault_at 0 IndexTooLong)) (read_row [] (row_from bytes 0)) ≡ Ok ps → Written bytes ps
        by true t e = absurd (not_both (fault_at 0 IndexTooLong) ps e)
        by false t e =
            let s = read_sound (row_from bytes 0) [] ps (record { few = omega arith; apart = refl; each = tt }) e in
            record {
              short = ltb-false 16384 (length bytes) t;
              spells = subst (λ rs. Spells rs bytes) (sym s.1) (spelled_split (row_from bytes 0) bytes 0 refl s.0);
              legal = s.2;
            }

    back : Written bytes ps → read_bytes bytes ≡ Ok ps
    back w =
        cond-false _ _ _ (le-ltb 16384 (length bytes) w.short)
        ∙ ap (read_row []) (split_spelled (index_records ps) bytes 0 w.spells)
        ∙ packs_read ps [] w.legal 0
