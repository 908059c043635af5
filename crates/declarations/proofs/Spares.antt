-- An attribute that is taken was not given before. Assumes nothing.
use Rattle.std.proofs.Common.{◌≡◌, ℕ, ◌+◌, ◌<◌, Bool, true, false, cond, ◌&&◌, List, is_some, Some, None, Ok, Err, codes, Option, Result, refl, ap, arith}
use Rattle.values.specs.Rules.{is_content}
use Rattle.values.specs.declared.fault.ValueFault.TheVariants.{TooLong}
use Rattle.fs.specs.Tree.{same}
use Rattle.lexer.specs.Lexing.{Lexeme}
use Rattle.syntax.specs.declared.attribute.Attribute.{Attribute}
use Rattle.syntax.specs.declared.attribute.Attribute.TheVariants.{Ensure, Content}
use Rattle.syntax.specs.declared.attribute.Want.{Want}
use Rattle.syntax.specs.declared.fault.Ground.{Ground}
use Rattle.syntax.specs.declared.fault.Ground.TheVariants.{Value}
use Rattle.syntax.specs.declared.kind.Kind.{Kind}
use Rattle.syntax.specs.Tokens.{word_of, quoted_of}
use Rattle.grammar.specs.Declarations.{Given, is_file, named, wanted, with_ensure, ensure_by, content_by, with_value}
use Rattle.declarations.specs.Meanings.{spare}

abbrev Free : Attribute → Bool → Bool → Type 0
Free Ensure e c = e ≡ false
Free Content e c = c ≡ false

free_by : (n : Attribute) (a e b c : Bool) → Some n ≡ cond a (cond e None (Some Ensure)) (cond b (cond c None (Some Content)) None) → Free n e c
free_by n true true b c h = let z : ◌≡◌ {A = ℕ} 0 1 = cc in absurd (omega arith)
free_by Ensure true false b c h = refl
free_by Content true false b c h = let z : ◌≡◌ {A = ℕ} 0 1 = cc in absurd (omega arith)
free_by n false e false c h = let z : ◌≡◌ {A = ℕ} 0 1 = cc in absurd (omega arith)
free_by n false e true true h = let z : ◌≡◌ {A = ℕ} 0 1 = cc in absurd (omega arith)
free_by Ensure false e true false h = let z : ◌≡◌ {A = ℕ} 0 1 = cc in absurd (omega arith)
free_by Content false e true false h = refl

named_free : (k : Kind) (g : Given) (w : List ℕ) (n : Attribute) → Some n ≡ named k g w → Free n (is_some g.ensure) (is_some g.content)
unfolding named
named_free k g w n h = free_by n (same w (codes "ensure")) (is_some g.ensure) (is_file k && same w (codes "content")) (is_some g.content) h

abbrev count : Bool → Bool → ℕ
count e c = cond e 0 1 + cond c 0 1

fewer_ensure : (g f : Given) (o : Option Want) → is_some g.ensure ≡ false → with_ensure g o ≡ Ok f → spare f < spare g
fewer_ensure g f None h e = let z : ◌≡◌ {A = ℕ} 0 1 = cc in absurd (omega arith)
fewer_ensure g f (Some v) h e =
    let same_given : ◌≡◌ {A = Given} f (record { ensure = Some v; content = g.content }) = cc in
    let left : spare f ≡ count true (is_some g.content) = ap spare same_given in
    let right : spare g ≡ count false (is_some g.content) = ap (λ b. count b (is_some g.content)) h in
    omega arith

fewer_by_ensure : (k : Kind) (g f : Given) (o : Option (List ℕ)) → is_some g.ensure ≡ false → ensure_by k g o ≡ Ok f → spare f < spare g
fewer_by_ensure k g f None h e = let z : ◌≡◌ {A = ℕ} 0 1 = cc in absurd (omega arith)
fewer_by_ensure k g f (Some w) h e = fewer_ensure g f (wanted k w) h e

fewer_content : (g f : Given) (c : List ℕ) (b : Bool) → is_some g.content ≡ false → ◌≡◌ {A = Result Given Ground} (cond b (Ok (record { ensure = g.ensure; content = Some c })) (Err (Value TooLong))) (Ok f) → spare f < spare g
fewer_content g f c true h e =
    let same_given : ◌≡◌ {A = Given} f (record { ensure = g.ensure; content = Some c }) = cc in
    let left : spare f ≡ count (is_some g.ensure) true = ap spare same_given in
    let right : spare g ≡ count (is_some g.ensure) false = ap (λ b. count (is_some g.ensure) b) h in
    omega arith
fewer_content g f c false h e = let z : ◌≡◌ {A = ℕ} 0 1 = cc in absurd (omega arith)

fewer_by_content : (g f : Given) (o : Option (List ℕ)) → is_some g.content ≡ false → content_by g o ≡ Ok f → spare f < spare g
fewer_by_content g f None h e = let z : ◌≡◌ {A = ℕ} 0 1 = cc in absurd (omega arith)
fewer_by_content g f (Some c) h e = fewer_content g f c (is_content c) h e

-- so one attribute less is left
pub fewer : (k : Kind) (g f : Given) (w : List ℕ) (n : Attribute) (l : Lexeme) → Some n ≡ named k g w → with_value k g n l ≡ Ok f → spare f < spare g
fewer k g f w Ensure l h e = fewer_by_ensure k g f (word_of l) (named_free k g w Ensure h) e
fewer k g f w Content l h e = fewer_by_content g f (quoted_of l) (named_free k g w Content h) e
