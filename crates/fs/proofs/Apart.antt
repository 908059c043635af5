-- Two lists of steps whose footprints are apart commute. The context C is a list of paths that are known to be directories. Assumes nothing.
use Rattle.std.proofs.Common.{◌≡◌, Bool, true, false, cond, ◌||◌, ◌⊎◌, List, [], ◌∷◌, ◌++◌, sym, refl, ap, ◌∙◌, inl, inr}
use mathlib.Core.Bool.{false≢true}
use Rattle.std.proofs.lemmas.Bool.{or_cases, or_left, or_right}
use Rattle.fs.specs.Tree.{Path, same, has, parent, directory, Tree, at}
use Rattle.fs.specs.Manifest.{Step, ensure_dir, ensure_file, ensure_absent}
use Rattle.fs.specs.Footprint.{step_writes, step_makes_dirs, step_reads_below, step_reads, unless_made, writes, makes_dirs, reads_below, reads}
use Rattle.fs.proofs.Trees.{same_refl, same_eq}
use Rattle.fs.proofs.Steps.{path}

abbrev pub In : Path → List Path → Type 0
In p l = has p l ≡ true

pub in_here : (p : Path) (l : List Path) → In p (p ∷ l)
in_here p l = or_left (same p p) (has p l) (same_refl p)

pub in_there : (p q : Path) (l : List Path) → In p l → In p (q ∷ l)
in_there p q l h = or_right (same p q) (has p l) h

pub in_cons : (p q : Path) (l : List Path) → In p (q ∷ l) → (p ≡ q) ⊎ In p l
in_cons p q l h = by (or_cases (same p q) (has p l) h)
  where
    by : (same p q ≡ true) ⊎ In p l → (p ≡ q) ⊎ In p l
    by (inl e) = inl (same_eq p q e)
    by (inr e) = inr e

pub in_left : (p : Path) (k l : List Path) → In p k → In p (k ++ l)
in_left p [] l h = absurd (false≢true h)
in_left p (q ∷ k) l h = by (or_cases (same p q) (has p k) h) (in_left p k l)
  where
    by : (same p q ≡ true) ⊎ In p k → (In p k → In p (k ++ l)) → In p (q ∷ (k ++ l))
    by (inl e) ih = or_left (same p q) (has p (k ++ l)) e
    by (inr e) ih = or_right (same p q) (has p (k ++ l)) (ih e)

pub in_right : (p : Path) (k l : List Path) → In p l → In p (k ++ l)
in_right p [] l h = h
in_right p (q ∷ k) l h = in_there p q (k ++ l) (in_right p k l h)

pub in_append : (p : Path) (k l : List Path) → In p (k ++ l) → In p k ⊎ In p l
in_append p [] l h = inr h
in_append p (q ∷ k) l h = by (or_cases (same p q) (has p (k ++ l)) h) (in_append p k l)
  where
    deep : In p k ⊎ In p l → In p (q ∷ k) ⊎ In p l
    deep (inl e) = inl (in_there p q k e)
    deep (inr e) = inr e

    by : (same p q ≡ true) ⊎ In p (k ++ l) → (In p (k ++ l) → In p k ⊎ In p l) → In p (q ∷ k) ⊎ In p l
    by (inl e) ih = inl (or_left (same p q) (has p k) e)
    by (inr e) ih = deep (ih e)

-- where the right list is empty
pub in_only : (p : Path) (k : List Path) → In p (k ++ []) → In p k
in_only p k h = by (in_append p k [] h)
  where
    by : In p k ⊎ In p [] → In p k
    by (inl e) = e
    by (inr e) = absurd (false≢true e)

abbrev pub paths : List Step → List Path
paths [] = []
paths (s ∷ l) = path s ∷ paths l

-- the paths of the context are directories
abbrev pub Context : List Path → Tree → Type 0
Context C t = (p : Path) → In p C → at t p ≡ directory

pub record Apart (C : List Path) (xs ys : List Step) : Type 0 where
  pub written : (p : Path) → In p (writes xs) → In p (paths ys) → ⊥
  pub written' : (p : Path) → In p (writes ys) → In p (paths xs) → ⊥
  pub read : (p : Path) → In p (paths ys) → In p (reads C xs) → ⊥
  pub read' : (p : Path) → In p (paths xs) → In p (reads C ys) → ⊥
  pub beneath : (p : Path) → In p (paths ys) → In (parent p) (reads_below xs) → ⊥
  pub beneath' : (p : Path) → In p (paths xs) → In (parent p) (reads_below ys) → ⊥
  pub keeps : (p : Path) → In p (reads_below xs) → In p C → ⊥
  pub keeps' : (p : Path) → In p (reads_below ys) → In p C → ⊥
  pub own : (p : Path) → In p (reads_below xs) → In p (makes_dirs xs) → ⊥
  pub own' : (p : Path) → In p (reads_below ys) → In p (makes_dirs ys) → ⊥

pub apart_sym : {C : List Path} {xs ys : List Step} → Apart C xs ys → Apart C ys xs
apart_sym a =
    record { written = a.written'; written' = a.written; read = a.read'; read' = a.read; beneath = a.beneath'; beneath' = a.beneath; keeps = a.keeps'; keeps' = a.keeps; own = a.own'; own' = a.own }

pub apart_head : (C : List Path) (x : Step) (xs ys : List Step) → Apart C (x ∷ xs) ys → Apart C (x ∷ []) ys
apart_head C x xs ys a = record {
  written = λ p h k. a.written p (in_left p (step_writes x) (writes xs) (in_only p (step_writes x) h)) k;
  written' = λ p h k. a.written' p h (in_left p (path x ∷ []) (paths xs) k);
  read = λ p h k. a.read p h (in_left p (step_reads C x) (reads (step_makes_dirs x ++ C) xs) (in_only p (step_reads C x) k));
  read' = λ p h k. a.read' p (in_left p (path x ∷ []) (paths xs) h) k;
  beneath = λ p h k. a.beneath p h (in_left (parent p) (step_reads_below x) (reads_below xs) (in_only (parent p) (step_reads_below x) k));
  beneath' = λ p h k. a.beneath' p (in_left p (path x ∷ []) (paths xs) h) k;
  keeps = λ p h k. a.keeps p (in_left p (step_reads_below x) (reads_below xs) (in_only p (step_reads_below x) h)) k;
  keeps' = a.keeps';
  own = λ p h k. a.own p (in_left p (step_reads_below x) (reads_below xs) (in_only p (step_reads_below x) h)) (in_left p (step_makes_dirs x) (makes_dirs xs) (in_only p (step_makes_dirs x) k));
  own' = a.own';
}

-- a larger context reads less
reads_less : (ys : List Step) (C E : List Path) → ((p : Path) → In p C → In p E) → (p : Path) → In p (reads E ys) → In p (reads C ys)
reads_less [] C E sub p h = h
reads_less (y ∷ ys) C E sub p h = by (in_append p (step_reads E y) (reads (step_makes_dirs y ++ E) ys) h) (reads_less ys (step_makes_dirs y ++ C) (step_makes_dirs y ++ E) grown p)
  where
    grown : (q : Path) → In q (step_makes_dirs y ++ C) → In q (step_makes_dirs y ++ E)
    grown q k = split (in_append q (step_makes_dirs y) C k)
      where
        split : In q (step_makes_dirs y) ⊎ In q C → In q (step_makes_dirs y ++ E)
        split (inl e) = in_left q (step_makes_dirs y) E e
        split (inr e) = in_right q (step_makes_dirs y) E (sub q e)

    less : (q : Path) → In p (unless_made E q) → In p (unless_made C q)
    less q k = go (same q []) (has q E) (has q C) (sub q) k
      where
        go : (r e c : Bool) → (c ≡ true → e ≡ true) → In p (cond (r || e) [] (q ∷ [])) → In p (cond (r || c) [] (q ∷ []))
        go true e c i l = l
        go false true c i l = absurd (false≢true l)
        go false false true i l = absurd (false≢true (i refl))
        go false false false i l = l

    first : (z : Step) → In p (step_reads E z) → In p (step_reads C z)
    first (ensure_dir q) k = less (parent q) k
    first (ensure_file q c) k = less (parent q) k
    first (ensure_absent q) k = k

    by : In p (step_reads E y) ⊎ In p (reads (step_makes_dirs y ++ E) ys) → (In p (reads (step_makes_dirs y ++ E) ys) → In p (reads (step_makes_dirs y ++ C) ys)) → In p (reads C (y ∷ ys))
    by (inl k) ih = in_left p (step_reads C y) (reads (step_makes_dirs y ++ C) ys) (first y k)
    by (inr k) ih = in_right p (step_reads C y) (reads (step_makes_dirs y ++ C) ys) (ih k)

pub below_writes : (ys : List Step) (p : Path) → In p (reads_below ys) → In p (writes ys)
below_writes [] p h = h
below_writes (ensure_dir q ∷ ys) p h = below_writes ys p h
below_writes (ensure_file q c ∷ ys) p h = in_there p q (writes ys) (below_writes ys p h)
below_writes (ensure_absent q ∷ ys) p h = by (in_cons p q (reads_below ys) h) (below_writes ys p)
  where
    by : (p ≡ q) ⊎ In p (reads_below ys) → (In p (reads_below ys) → In p (writes ys)) → In p (q ∷ writes ys)
    by (inl e) ih = or_left (same p q) (has p (writes ys)) (ap (same p) (sym e) ∙ same_refl p)
    by (inr e) ih = in_there p q (writes ys) (ih e)

makes_path : (x : Step) (p : Path) → In p (step_makes_dirs x) → In p (path x ∷ [])
makes_path (ensure_dir q) p h = h
makes_path (ensure_file q c) p h = absurd (false≢true h)
makes_path (ensure_absent q) p h = absurd (false≢true h)

pub apart_tail : (C : List Path) (x : Step) (xs ys : List Step) → Apart C (x ∷ xs) ys → Apart (step_makes_dirs x ++ C) xs ys
apart_tail C x xs ys a = record {
  written = λ p h k. a.written p (in_right p (step_writes x) (writes xs) h) k;
  written' = λ p h k. a.written' p h (in_there p (path x) (paths xs) k);
  read = λ p h k. a.read p h (in_right p (step_reads C x) (reads (step_makes_dirs x ++ C) xs) k);
  read' = λ p h k. a.read' p (in_there p (path x) (paths xs) h) (reads_less ys C (step_makes_dirs x ++ C) (λ q e. in_right q (step_makes_dirs x) C e) p k);
  beneath = λ p h k. a.beneath p h (in_right (parent p) (step_reads_below x) (reads_below xs) k);
  beneath' = λ p h k. a.beneath' p (in_there p (path x) (paths xs) h) k;
  keeps = λ p h k. kept p h (in_append p (step_makes_dirs x) C k);
  keeps' = λ p h k. kept' p h (in_append p (step_makes_dirs x) C k);
  own = λ p h k. a.own p (in_right p (step_reads_below x) (reads_below xs) h) (in_right p (step_makes_dirs x) (makes_dirs xs) k);
  own' = a.own';
}
  where
    kept : (p : Path) → In p (reads_below xs) → In p (step_makes_dirs x) ⊎ In p C → ⊥
    kept p h (inl e) = a.own p (in_right p (step_reads_below x) (reads_below xs) h) (in_left p (step_makes_dirs x) (makes_dirs xs) e)
    kept p h (inr e) = a.keeps p (in_right p (step_reads_below x) (reads_below xs) h) e

    kept' : (p : Path) → In p (reads_below ys) → In p (step_makes_dirs x) ⊎ In p C → ⊥
    kept' p h (inl e) = a.written' p (below_writes ys p h) (in_left p (path x ∷ []) (paths xs) (makes_path x p e))
    kept' p h (inr e) = a.keeps' p h e
