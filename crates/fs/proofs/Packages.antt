-- Entries at distinct paths outside `/pkg` make a proper package. Assumes nothing.
use Rattle.std.proofs.Common.{◌≡◌, ℕ, Bool, true, false, not, ◌||◌, List, [], ◌∷◌, ◌++◌, sym, refl, ap, ◌∙◌, true≢false}
use Rattle.std.proofs.lemmas.Bool.{and_parts, and_from, or_parts, or_from, not-true, not_from_false}
use Rattle.fs.specs.Tree.{Path, same, has}
use Rattle.fs.specs.Manifest.{pkg, marker}
use Rattle.fs.specs.Package.{entry_paths, distinct, starts, under_pkg, any_under_pkg, ProperlyPacked}
use Rattle.fs.proofs.Trees.{same_eq}

has_append : (p : Path) (k l : List Path) → has p k ≡ false → has p l ≡ false → has p (k ++ l) ≡ false
has_append p [] l h g = g
has_append p (q ∷ k) l h g = let c = or_parts (same p q) (has p k) h in or_from (same p q) (has p (k ++ l)) c.0 (has_append p k l c.1 g)

-- distinct paths that are not under `/pkg` stay so with `/pkg` and the marker
packed : (name : List ℕ) (l : List Path) → distinct l ≡ true → any_under_pkg l ≡ false → distinct (l ++ (pkg ∷ (marker name ∷ []))) ≡ true
packed name [] d n = refl
packed name (p ∷ l) d n =
    and_from (not (has p (l ++ (pkg ∷ (marker name ∷ []))))) (distinct (l ++ (pkg ∷ (marker name ∷ []))))
    (not_from_false (has p (l ++ (pkg ∷ (marker name ∷ [])))) (has_append p l (pkg ∷ (marker name ∷ [])) (not-true (has p l) e.0) (or_from (same p pkg) (same p (marker name) || false) u.0 (or_from (same p (marker name)) false (by (same p (marker name)) refl) refl))))
    (packed name l e.1 c.1)
  where
    e : (not (has p l) ≡ true) × (distinct l ≡ true)
    e = and_parts (not (has p l)) (distinct l) d

    c : (under_pkg p ≡ false) × (any_under_pkg l ≡ false)
    c = or_parts (under_pkg p) (any_under_pkg l) n

    u : (same p pkg ≡ false) × (starts (marker []) p ≡ false)
    u = or_parts (same p pkg) (starts (marker []) p) c.0

    by : (b : Bool) → same p (marker name) ≡ b → b ≡ false
    by true h = absurd (true≢false (ap (starts (marker [])) (sym (same_eq p (marker name) h)) ∙ u.1))
    by false h = refl

pub properly_packed : ProperlyPacked
properly_packed name l d n = packed name (entry_paths l) d n
