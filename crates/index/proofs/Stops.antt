-- Reading stops at the first record that is at fault. Assumes nothing.
use Rattle.std.proofs.Common.{◌≡◌, ℕ, ◌+◌, ◌<◌, Bool, true, false, cond, ltb, ◌⊎◌, List, [], ◌∷◌, ◌++◌, length, Ok, Err, Result, sym, refl, ap, ◌∙◌, subst, inl, inr, arith}
use Rattle.std.proofs.lemmas.List.{append-nil, append_assoc, length-append}
use Rattle.std.proofs.lemmas.Bool.{ltb-true, ltb-false}
use Rattle.faults.specs.Faults.{fault_at}
use Rattle.records.specs.Faults.{ground_number, located, IndexFault}
use Rattle.records.specs.Items.{after}
use Rattle.records.specs.Rows.{Row, ended, broken, next, row, row_from}
use Rattle.records.specs.Spelling.{Begins, Spells}
use Rattle.records.specs.declared.fault.Ground.{Ground}
use Rattle.records.specs.declared.fault.Ground.TheVariants.{IndexTooLong, PastEnd}
use Rattle.records.proofs.Says.{not_both}
use Rattle.records.proofs.Splits.{row_begins, row_cut}
use Rattle.index.specs.Law.{index_records, Legal}
use Rattle.index.specs.Packs.{Pack}
use Rattle.index.specs.Reading.{taken_in, read_row}
use Rattle.index.specs.Refusals.{refusal, Faulty, Stopped, RefusedAtFirstFault}
use Rattle.index.proofs.Grounds.{refused_by_first_ground}
use Rattle.index.proofs.Laws.{gained}

same_fault : {X : Type 0} (f g : IndexFault) → ◌≡◌ {A = Result X IndexFault} (Err f) (Err g) → f ≡ g
same_fault f g h = cc

-- from packages qs on, the reading of the bytes bs at p stops behind `done`
record Stop (qs : List Pack) (bs : List ℕ) (p : ℕ) (f : IndexFault) : Type 0 where
  front : List ℕ
  rest : List ℕ
  done : List (ℕ × List ℕ)
  packs : List Pack
  parts : bs ≡ front ++ rest
  place : f.at ≡ p + length front
  spells : Spells done front
  grew : index_records packs ≡ index_records qs ++ done
  legal : Legal packs
  faulty : Faulty packs rest (ground_number f.ground)

-- at once
at_once : (qs : List Pack) (bs : List ℕ) (p q : ℕ) (g : Ground) (f : IndexFault) → q ≡ p → Legal qs → fault_at q g ≡ f → Faulty qs bs (ground_number g) → Stop qs bs p f
at_once qs bs p q g f s l e w = record {
  front = [];
  rest = bs;
  done = [];
  packs = qs;
  parts = refl;
  place = sym (ap (λ (x : IndexFault). x.at) e) ∙ here;
  spells = refl;
  grew = sym (append-nil (index_records qs));
  legal = l;
  faulty = subst (λ (x : IndexFault). Faulty qs bs (ground_number x.ground)) e w;
}
  where
    here : q ≡ p + 0
    here = omega arith

-- behind one record more
later : (qs xs : List Pack) (k : ℕ) (body bs rest : List ℕ) (p : ℕ) (f : IndexFault) → Begins k body bs rest → index_records xs ≡ index_records qs ++ (k, body) ∷ [] → Stop xs rest (p + 4 + length body) f → Stop qs bs p f
later qs xs k body bs rest p f b g s =
    let header = λ (l : List ℕ). b.size_low ∷ b.size_high ∷ b.kind_low ∷ b.kind_high ∷ l in
    let long = length-append body s.front in
    let far = s.place in
    record {
      front = b.size_low ∷ b.size_high ∷ b.kind_low ∷ b.kind_high ∷ (body ++ s.front);
      rest = s.rest;
      done = (k, body) ∷ s.done;
      packs = s.packs;
      parts = b.bytes ∙ ap header (ap (λ l. body ++ l) s.parts ∙ sym (append_assoc body s.front s.rest));
      place = omega arith;
      spells = (s.front, record { size_low = b.size_low; size_high = b.size_high; kind_low = b.kind_low; kind_high = b.kind_high; bytes = refl; size = b.size; kind = b.kind }, s.spells);
      grew = s.grew ∙ ap (λ l. l ++ s.done) g ∙ append_assoc (index_records qs) ((k, body) ∷ []) s.done;
      legal = s.legal;
      faulty = s.faulty;
    }

stop : (r : Row) (qs : List Pack) (bs : List ℕ) (p : ℕ) (f : IndexFault) → row 0 p bs ≡ r → Legal qs → read_row qs r ≡ Err f → Stop qs bs p f
stop ended qs bs p f e l h = absurd (not_both f qs (sym h))
stop (broken q) qs bs p f e l h =
    let k = row_cut bs p q e in
    at_once qs bs p q PastEnd f k.0 l (same_fault {X = List Pack} (fault_at q PastEnd) f h) (inl (k.1, refl))
stop (next q k body r) qs bs p f e l h =
    let b = row_begins bs p q k body r e in
    by b.0 b.1.0 b.1.1 (λ xs m t. stop r xs b.1.0 (p + 4 + length body) f b.1.2 m t) (taken_in qs k body) refl h
  where
    by : q ≡ p → (rest : List ℕ) → Begins k body bs rest → ((xs : List Pack) → Legal xs → read_row xs r ≡ Err f → Stop xs rest (p + 4 + length body) f) → (a : Result (List Pack) Ground) → taken_in qs k body ≡ a → after (located q a) (λ xs. read_row xs r) ≡ Err f → Stop qs bs p f
    by s rest b more (Ok xs) t z = let g = gained qs k body xs l t in later qs xs k body bs rest p f b g.0 (more xs g.1 z)
    by s rest b more (Err g) t z =
        at_once qs bs p q g f s l (same_fault {X = List Pack} (fault_at q g) f z) (inr (k, body, rest, b, sym (refused_by_first_ground qs k body) ∙ ap refusal t))

pub refused_at_first_fault : RefusedAtFirstFault
refused_at_first_fault bytes f h = by (ltb 16384 (length bytes)) refl h
  where
    by : (b : Bool) → ltb 16384 (length bytes) ≡ b → cond b (Err (fault_at 0 IndexTooLong)) (read_row [] (row_from bytes 0)) ≡ Err f → ((16384 < length bytes) × (f ≡ fault_at 0 IndexTooLong)) ⊎ Stopped bytes f
    by true t e = inl (ltb-true 16384 (length bytes) t, sym (same_fault {X = List Pack} (fault_at 0 IndexTooLong) f e))
    by false t e =
        let s = stop (row_from bytes 0) [] bytes 0 f refl (record { few = omega arith; apart = refl; each = tt }) e in
        let most = ltb-false 16384 (length bytes) t in
        let long = length-append s.front s.rest in
        let all : length bytes ≡ length (s.front ++ s.rest) = ap length s.parts in
        let far = s.place in
        inr (record {
          short = most;
          front = s.front;
          rest = s.rest;
          packs = s.packs;
          parts = s.parts;
          place = omega arith;
          before = record { short = omega arith; spells = subst (λ rs. Spells rs s.front) (sym s.grew) s.spells; legal = s.legal };
          faulty = s.faulty;
        })
