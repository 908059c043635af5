-- That equality and byte order of texts keep the laws that comparisons owe. Assumes nothing.
use Rattle.std.proofs.Common.{◌≡◌, List, ℕ, Decides, nat_cmp, sym, ap, ◌∙◌}
use Rattle.std.specs.Cmp.{IsEquivalence, IsPartialEquivalence, IsPartialOrder, decided, on_equiv, partial_equiv_from_equiv, po}
use Rattle.std.specs.Cmp.Lexicographic.{slice_cmp, on_texts}
use Rattle.std.specs.Ordering.{is_eq, on}
use Rattle.std.specs.declared.option.Option.TheVariants.{Some}
use Rattle.std.specs.Str.{bytes_eq}
use Rattle.std.proofs.lemmas.Bool.Decides.{same_from_decides}
use Rattle.std.proofs.lemmas.Map.Text.{is_eq-slice_cmp}
use Rattle.std.proofs.lemmas.Slice.Eq.{bytes_eq-Decides}
use Rattle.fs.specs.Tree.{same}
use Rattle.fs.proofs.Trees.{same_eq, same_refl}

pub same_decides : (a b : List ℕ) → Decides (same a b) (a ≡ b)
same_decides a b = (same_eq a b, λ e. ap (same a) (sym e) ∙ same_refl a)

-- what `==` on bytes answers
pub same_is : (a b : List ℕ) → same a b ≡ bytes_eq a b
same_is a b = same_from_decides (same a b) (bytes_eq a b) (same_decides a b) (bytes_eq-Decides a b)

-- equal texts are those that byte order does not tell apart
pub same_ties : (a b : List ℕ) → same a b ≡ is_eq (slice_cmp nat_cmp a b)
same_ties a b = same_is a b ∙ sym (is_eq-slice_cmp a b)

-- values that are compared by a text
module _ {K : Type 0} (text : K → List ℕ) where
  pub texts_equiv : IsEquivalence (on text same)
  texts_equiv = on_equiv text (decided same same_decides)

  pub texts_per : IsPartialEquivalence (on text same)
  texts_per = partial_equiv_from_equiv texts_equiv

  pub texts_tie : (x y : K) → same (text x) (text y) ≡ is_eq (slice_cmp nat_cmp (text x) (text y))
  texts_tie x y = same_ties (text x) (text y)

  pub texts_order : IsPartialOrder (on text same) (λ x y. Some (on text (slice_cmp nat_cmp) x y))
  texts_order = po (on_texts text) texts_tie
