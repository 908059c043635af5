-- The loop that reads an index, one record on. Assumes nothing.
use Rattle.std.proofs.Common.{◌≡◌, ℕ, ◌≤◌, true, ◌⊎◌, List, [], length, is_ok, IsErrAnd, MatchResult, Ok, Err, Result, sym, ap, subst, ◌∙◌, inl, inr, arith}
use Rattle.std.proofs.lemmas.Bool.{cond-false, le-ltb}
use Rattle.faults.specs.declared.error.ReadError.{ReadError}
use Rattle.faults.specs.declared.error.ReadError.TheVariants.{Fault, Memory}
use Rattle.records.specs.Faults.{located, IndexFault}
use Rattle.records.specs.Items.{after}
use Rattle.records.specs.Rows.{Row, next, row_from}
use Rattle.records.specs.declared.fault.Ground.{Ground}
use Rattle.records.proofs.Says.{not_both}
use Rattle.index.specs.declared.index.Index.{Index}
use Rattle.index.specs.Answers.{begins_well, Answers}
use Rattle.index.specs.Errors.{error_at, Added}
use Rattle.index.specs.Packs.{Pack}
use Rattle.index.specs.Reading.{taken_in, read_row}

-- the reading of a whole row has not begun, or the first record was taken
abbrev pub Begun : Row → Row → List Pack → Type 0
Begun whole left ps = ((ps ≡ []) × (left ≡ whole)) ⊎ (begins_well whole ≡ true)

-- an addition that is taken
pub added_ok : {X : Type 0} (x y : X) (a : Result X Ground) (r : Result Unit (ReadError Ground)) → Added x a r y → true ≡ is_ok r → a ≡ Ok y
added_ok x y a (Ok u) h e = h
added_ok x y a (Err z) h e = absurd (let n : ◌≡◌ {A = ℕ} 0 1 = cc in omega arith)

module _ (whole left rest : Row) (ps : List Pack) (p kind : ℕ) (body : List ℕ) (h : left ≡ next p kind body rest) where
  -- a record that is taken
  pub reads_on : (qs : List Pack) → taken_in ps kind body ≡ Ok qs → read_row qs rest ≡ read_row ps left
  reads_on qs t = sym (ap (read_row ps) h ∙ ap (λ a. after (located p a) (λ xs. read_row xs rest)) t)

  pub begins : Begun whole left ps → is_ok (taken_in ps kind body) ≡ true → begins_well whole ≡ true
  begins (inl k) t = ap begins_well (sym k.1 ∙ h) ∙ ap (λ xs. is_ok (taken_in xs kind body)) (sym k.0) ∙ t
  begins (inr w) t = w

-- a record that is not
module _ (bytes : List ℕ) (left rest : Row) (ps : List Pack) (p kind : ℕ) (body : List ℕ) (h : left ≡ next p kind body rest) (short : length bytes ≤ 16384) (reads : read_row ps left ≡ read_row [] (row_from bytes 0)) (begun : Begun (row_from bytes 0) left ps) where
  stopped : (e : ReadError Ground) (qs : List Pack) (x : Result Index (ReadError IndexFault)) → Added ps (taken_in ps kind body) (Err e) qs → IsErrAnd x (λ y. y ≡ error_at p e) → Answers bytes x
  stopped e qs (Ok i) a z = absurd z
  stopped (Fault g) qs (Err (Fault f)) a z =
      let same_fault : Err f ≡ located {X = List Pack} p (Err g) = cc in
      cond-false _ _ _ (le-ltb 16384 (length bytes) short) ∙ sym reads ∙ ap (read_row ps) h ∙ ap (λ r. after (located p r) (λ xs. read_row xs rest)) a.0 ∙ ap (λ r. after r (λ xs. read_row xs rest)) (sym same_fault)
  stopped (Fault g) qs (Err Memory) a z = absurd (let n : ◌≡◌ {A = ℕ} 0 1 = cc in omega arith)
  stopped Memory qs (Err (Fault g)) a z = absurd (let n : ◌≡◌ {A = ℕ} 0 1 = cc in omega arith)
  stopped Memory qs (Err Memory) a z = (short, begins (row_from bytes 0) left rest ps p kind body h begun a.0)

  -- r is what was answered, and m what stands for it with the place
  pub stops : (r : Result Unit (ReadError Ground)) (qs : List Pack) (m : Result Unit (ReadError IndexFault)) (x : Result Index (ReadError IndexFault)) → Added ps (taken_in ps kind body) r qs
      → MatchResult r (λ u. m ≡ Ok u) (λ e. m ≡ Err (error_at p e)) → (e : ReadError IndexFault) → m ≡ Err e → IsErrAnd x (λ y. y ≡ e) → Answers bytes x
  stops (Ok u) qs m x a k e w z = absurd (not_both e u (sym w ∙ k))
  stops (Err g) qs m x a k e w z =
      let same_error : e ≡ error_at p g = cc in
      stopped g qs x a (subst (λ y. IsErrAnd x (λ v. v ≡ y)) same_error z)
