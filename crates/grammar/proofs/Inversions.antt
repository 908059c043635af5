-- What a reading took from its row, where it was not refused. Assumes nothing.
use Rattle.std.proofs.Common.{◌≡◌, ℕ, Bool, true, false, cond, ◌⊎◌, List, [], ◌∷◌, ◌++◌, Some, None, Ok, Err, Option, Result, sym, refl, ap, ◌∙◌, subst, inl, inr, arith}
use Rattle.lexer.specs.Lexing.{Lexeme}
use Rattle.lexer.specs.Rows.{Row, token, ended, broken}
use Rattle.lexer.specs.declared.position.Position.{Position}
use Rattle.syntax.specs.declared.fault.Ground.{Ground}
use Rattle.syntax.specs.Reading.{Read, read, refused, after, or_refuse, checked, Located, taken}
use Rattle.syntax.specs.Repeating.{Turn, repeated}
use Rattle.syntax.proofs.Turns.{Below, turn_more, turn_last, turn_fault}
use Rattle.grammar.specs.Grammar.{Written, written, on}

pub after_inv : {A B : Type 0} (k : A → Row → Read B) (m : Read A) {y : B} {q : Row} → read y q ≡ after m k → (x : A) × (r : Row) × (read x r ≡ m) × (read y q ≡ k x r)
unfolding after
after_inv k (read x r) e = (x, r, refl, e)
after_inv k (refused f) e = let z : ◌≡◌ {A = ℕ} 0 1 = cc in absurd (omega arith)

pub or_inv : {A B : Type 0} (why : Ground) (at : Position) (k : A → Read B) (o : Option A) {y : B} {q : Row} → read y q ≡ or_refuse o why at k → (x : A) × (Some x ≡ o) × (read y q ≡ k x)
unfolding or_refuse
or_inv why at k (Some x) e = (x, refl, e)
or_inv why at k None e = let z : ◌≡◌ {A = ℕ} 0 1 = cc in absurd (omega arith)

pub checked_inv : {A B : Type 0} (at : Position) (k : A → Read B) (o : Result A Ground) {y : B} {q : Row} → read y q ≡ checked o at k → (x : A) × (Ok x ≡ o) × (read y q ≡ k x)
unfolding checked
checked_inv at k (Ok x) e = (x, refl, e)
checked_inv at k (Err g) e = let z : ◌≡◌ {A = ℕ} 0 1 = cc in absurd (omega arith)

-- the branch of a test
pub pick : {A : Type 0} (c : Bool) (m n : A) {y : A} → y ≡ cond c m n → ((c ≡ true) × (y ≡ m)) ⊎ ((c ≡ false) × (y ≡ n))
pick true m n e = inl (refl, e)
pick false m n e = inr (refl, e)

pub no_some : {A : Type 0} {x : A} → Some x ≡ None → ⊥
no_some e = let z : ◌≡◌ {A = ℕ} 0 1 = cc in omega arith

pub no_ok : {A E : Type 0} {x : A} {g : E} → Ok x ≡ Err g → ⊥
no_ok e = let z : ◌≡◌ {A = ℕ} 0 1 = cc in omega arith

-- parts of what was written
pub join : {ls ds : List Lexeme} {q r row : Row} → Written ls r row → Written ds q r → Written (ls ++ ds) q row
join written v = v
join (on w) v = on (join w v)

pub moved : {ls : List Lexeme} {p q row : Row} → p ≡ q → Written ls p row → Written ls q row
moved {ls} {row = row} e w = subst (λ r. Written ls r row) e w

pub single : {l : Lexeme} {at : Position} {q row : Row} → row ≡ token l at q → Written (l ∷ []) q row
single {l} {q = q} e = subst (λ r. Written (l ∷ []) q r) (sym e) (on written)

-- a token
pub taken_inv : {A : Type 0} (f : Lexeme → Option A) (row : Row) {x : Located A} {q : Row} → read x q ≡ taken f row → (l : Lexeme) × (Some x.value ≡ f l) × (row ≡ token l x.at q)
unfolding taken
taken_inv {A} f (token l at r) {x} {q} e =
    let o = or_inv _ _ _ (f l) e in
    let same : ◌≡◌ {A = Located A} x (record { value = o.0; at = at }) = cc o.2 in
    let past : r ≡ q = cc o.2 in
    (l, ap (λ (y : Located A). Some y.value) same ∙ o.1, (λ i. token l (sym same i).at (past i)))
taken_inv f (ended at) e = let z : ◌≡◌ {A = ℕ} 0 1 = cc in absurd (omega arith)
taken_inv f (broken b) e = let z : ◌≡◌ {A = ℕ} 0 1 = cc in absurd (omega arith)

-- a token, where g spells what f reads
pub spelled_token : {A : Type 0} (f : Lexeme → Option A) (g : A → Lexeme) → ((l : Lexeme) (a : A) → Some a ≡ f l → l ≡ g a) → (row : Row) {x : Located A} {q : Row} → read x q ≡ taken f row → row ≡ token (g x.value) x.at q
spelled_token f g h row {x} {q} e = let t = taken_inv f row e in t.2 ∙ ap (λ l. token l x.at q) (h t.0 x.value t.1)

-- the turns of a step that takes a token unless it is the last
module _ {S : Type 0} (step : S → Row → Read (Turn S)) (below : (s t : S) (q row : Row) → read (record { state = t; last = false }) q ≡ step s row → Below q row) (s z : S) (q row : Row) where
  abbrev pub Turned : Type 0
  Turned = (read (record { state = z; last = true }) q ≡ step s row) ⊎ ((t : S) × (r : Row) × (read (record { state = t; last = false }) r ≡ step s row) × (read z q ≡ repeated step t r))

  module _ (e : read z q ≡ repeated step s row) where
    by_last : (t : Turn S) (r : Row) (b : Bool) → t.last ≡ b → read t r ≡ step s row → Turned
    by_last t r true l h =
        let j = (λ i. read (record { state = t.state; last = sym l i }) r) ∙ h in
        let w = e ∙ turn_last step s row r j in
        let a : z ≡ t.state = cc in
        let b : q ≡ r = cc in
        inl ((λ i. read (record { state = a i; last = true }) (b i)) ∙ j)
    by_last t r false l h =
        let j = (λ i. read (record { state = t.state; last = sym l i }) r) ∙ h in
        inr (t.state, r, j, e ∙ turn_more step s row r j (below s t.state r row j))

    by_step : (m : Read (Turn S)) → m ≡ step s row → Turned
    by_step (refused f) h = let w = turn_fault step s row h in let n : ◌≡◌ {A = ℕ} 0 1 = cc in absurd (omega arith)
    by_step (read t r) h = by_last t r t.last refl h

    pub repeated_inv : Turned
    repeated_inv = by_step (step s row) refl
