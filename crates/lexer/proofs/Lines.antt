-- Lines, some bytes on.
use Rattle.std.proofs.Common.{◌≡◌, ℕ, zero, suc, ◌+◌, ◌^◌, ◌<◌, ◌≤◌, Bool, true, false, ◌==◌, cond, eqb, List, [], ◌∷◌, length, get_or, take, drop, refl, ap, ◌∙◌, arith, length-take}
use Rattle.std.proofs.Math.Seq.{take-add}
use Rattle.std.proofs.lemmas.List.Recursion.{is_sum_by}
use Rattle.std.proofs.lemmas.List.Sums.{prefix_len_stops, sum_by-append, sum_by_more, count_by-le-length}
use Rattle.std.specs.List.{count_by, prefix_len}
use Rattle.lexer.specs.declared.position.Position.{Position}
use Rattle.lexer.specs.Bytes.{letter, plain, in_line, line_ends, start, Stands}

pub lines_counted : (xs : List ℕ) → line_ends xs ≡ count_by (λ b. b == 10) xs
unfolding line_ends
lines_counted xs = is_sum_by line_ends (λ b. cond (eqb b 10) 1 0) refl (λ _ _. refl) xs

pub line_below : (xs : List ℕ) (p : ℕ) → line_ends (take p xs) ≤ p
line_below xs p = omega (arith, lines_counted (take p xs), count_by-le-length (λ b. b == 10) (take p xs), length-take p xs)

lines_past : (xs : List ℕ) (p n : ℕ) → line_ends (take (p + n) xs) ≡ line_ends (take p xs) + line_ends (take n (drop p xs))
lines_past xs p n =
    let a = lines_counted (take p xs) in
    let b = lines_counted (take n (drop p xs)) in
    let s = sum_by-append (λ b. cond (eqb b 10) 1 0) (take p xs) (take n (drop p xs)) in
    ap line_ends (take-add p n xs) ∙ lines_counted _ ∙ omega arith

pub line_more : (xs : List ℕ) (p : ℕ) → p < length xs → line_ends (take (p + 1) xs) ≡ line_ends (take p xs) + cond (eqb (get_or xs p 0) 10) 1 0
line_more xs p h = lines_counted _ ∙ omega (arith, sum_by_more (λ b. cond (eqb b 10) 1 0) xs p 0 h, lines_counted (take p xs))

-- no line ends within a line
pub lines_within : (xs : List ℕ) (n : ℕ) → n ≤ prefix_len in_line xs → line_ends (take n xs) ≡ 0
unfolding line_ends
lines_within xs zero h = refl
lines_within [] (suc n) h = refl
lines_within (x ∷ xs) (suc n) h = let r = lines_within xs n in grind arith

-- bytes that keep a rule which excludes LF stay in a line
kept_in_line : (rule : ℕ → Bool) → rule 10 ≡ false → (xs : List ℕ) → prefix_len rule xs ≤ prefix_len in_line xs
kept_in_line rule f [] = omega arith
kept_in_line rule f (x ∷ xs) = let r = kept_in_line rule f xs in grind arith

pub letters_in_line : (xs : List ℕ) → prefix_len letter xs ≤ prefix_len in_line xs
letters_in_line xs = kept_in_line letter refl xs

pub plain_in_line : (xs : List ℕ) → prefix_len plain xs ≤ prefix_len in_line xs
plain_in_line xs = kept_in_line plain refl xs

-- and so does a byte past them that ends no line
pub kept_more : (xs : List ℕ) (n : ℕ) → n ≤ prefix_len in_line xs → n < length xs → in_line (get_or xs n 0) ≡ true → n < prefix_len in_line xs
kept_more xs n k h t = let e = prefix_len_stops in_line xs 0 in grind arith

pub same_position : (a b : Position) → a.place ≡ b.place → a.line ≡ b.line → a ≡ b
same_position a b p l = λ i. record { place = p i; line = l i }

pub start_stands : (text : List ℕ) → length text < 2 ^ 32 → Stands text start
unfolding line_ends
start_stands text h = record { right = refl; within = omega arith; short = h }

-- n bytes on
pub stands_past : (text : List ℕ) (at next : Position) (n : ℕ) → Stands text at → at.place + n ≤ length text → next.place ≡ at.place + n → next.line ≡ at.line + line_ends (take n (drop at.place text)) → Stands text next
stands_past text at next n s h p l =
    let was = ap (λ (a : Position). a.line) s.right in
    let there = ap (λ n. line_ends (take n text)) p in
    record {
      right = same_position _ _ refl (omega (arith, lines_past text at.place n));
      within = omega arith;
      short = s.short;
    }

-- one byte on
pub stands_more : (text : List ℕ) (at next : Position) → Stands text at → at.place < length text → next.place ≡ at.place + 1 → next.line ≡ at.line + cond (eqb (get_or text at.place 0) 10) 1 0 → Stands text next
stands_more text at next s h p l = stands_past text at next 1 s (omega arith) p (omega (arith, line_more text at.place h, lines_past text at.place 1))

pub line_fits : (text : List ℕ) (at : Position) → Stands text at → at.line < 2 ^ 33
line_fits text at s =
    omega (arith, ap (λ (a : Position). a.line) s.right, line_below text at.place, s.within, s.short)

-- the same some bytes on
pub line_fits_past : (text : List ℕ) (at : Position) (n : ℕ) → Stands text at → at.place + n ≤ length text → at.line + line_ends (take n (drop at.place text)) < 2 ^ 34
line_fits_past text at n s h = omega (arith, line_fits text at s, line_below (drop at.place text) n, s.short)
