-- A resource has the title that it was declared with. Assumes nothing.
use Rattle.std.proofs.Common.{◌≡◌, ℕ, List, Some, None, Option, ap, arith}
use Rattle.syntax.specs.declared.attribute.Want.{Want}
use Rattle.syntax.specs.declared.attribute.Want.TheVariants.{File as AsFile, Directory, Absent, Present, Running}
use Rattle.syntax.specs.declared.kind.Kind.{Kind}
use Rattle.syntax.specs.declared.kind.Kind.TheVariants.{File, Package, Service}
use Rattle.grammar.specs.Documents.{Resource, title_of}
use Rattle.grammar.specs.Declarations.{for_file, for_package, for_service, of_want, made_of}

no_resource : {d : Resource} → Some d ≡ None → ⊥
no_resource e = let z : ◌≡◌ {A = ℕ} 0 1 = cc in omega arith

of_file : (k : Kind) (x d : Resource) → Some d ≡ for_file k x → d ≡ x
of_file File x d e = cc
of_file Package x d e = absurd (no_resource e)
of_file Service x d e = absurd (no_resource e)

of_package : (k : Kind) (x d : Resource) → Some d ≡ for_package k x → d ≡ x
of_package File x d e = absurd (no_resource e)
of_package Package x d e = cc
of_package Service x d e = absurd (no_resource e)

of_service : (k : Kind) (x d : Resource) → Some d ≡ for_service k x → d ≡ x
of_service File x d e = absurd (no_resource e)
of_service Package x d e = absurd (no_resource e)
of_service Service x d e = cc

of_titled : (w : Want) (k : Kind) (t : List ℕ) (c : Option (List ℕ)) (d : Resource) → Some d ≡ of_want w k t c → title_of d ≡ t
of_titled AsFile k t None d e = absurd (no_resource e)
of_titled AsFile k t (Some c) d e = ap title_of (of_file k _ d e)
of_titled Directory k t None d e = ap title_of (of_file k _ d e)
of_titled Directory k t (Some c) d e = absurd (no_resource e)
of_titled Absent k t None d e = ap title_of (of_file k _ d e)
of_titled Absent k t (Some c) d e = absurd (no_resource e)
of_titled Present k t None d e = ap title_of (of_package k _ d e)
of_titled Present k t (Some c) d e = absurd (no_resource e)
of_titled Running k t None d e = ap title_of (of_service k _ d e)
of_titled Running k t (Some c) d e = absurd (no_resource e)

pub made_titled : (k : Kind) (t : List ℕ) (w : Option Want) (c : Option (List ℕ)) (d : Resource) → Some d ≡ made_of k t w c → title_of d ≡ t
made_titled k t None c d e = absurd (no_resource e)
made_titled k t (Some w) c d e = of_titled w k t c d e
