-- What the values of the code mean. Assumes nothing.
use Rattle.std.specs.Prelude.{◌≡◌, ℕ, ◌+◌, cond, List, is_some, Ok, Err, Result}
use Rattle.std.specs.Option.{option_map}
use Rattle.values.specs.Texts.{path_text, name_text, content_text}
use Rattle.lexer.specs.declared.placed.Placed.{Placed}
use Rattle.syntax.specs.declared.kind.Kind.{Kind}
use Rattle.syntax.specs.declared.kind.Kind.TheVariants.{File, Package, Service}
use Rattle.syntax.specs.Parts.{placed_as}
use Rattle.grammar.specs.Documents as doc
use Rattle.grammar.specs.Declarations as reading
use Rattle.declarations.specs.declared.given.Given.{Given}
use Rattle.declarations.specs.declared.resource.Resource.{Resource}
use Rattle.declarations.specs.declared.resource.Resource.TheVariants.{Put, Directory, Absent, Package as APackage, Service as AService}
use Rattle.declarations.specs.declared.resource.Subject.{Subject}
use Rattle.declarations.specs.declared.resource.Subject.TheVariants.{File as OfFile, Package as OfPackage, Service as OfService}

-- a result tells an answer: the same refusal, or a value that means the answer's
abbrev pub Tells : {X Y E : Type 0} → (X → Y) → Result Y E → Result X E → Type 0
Tells f a (Ok x) = a ≡ Ok (f x)
Tells f a (Err e) = a ≡ Err e

abbrev pub resource_of : Resource → doc.Resource
resource_of (Put p c) = doc.put (path_text p) (content_text c)
resource_of (Directory p) = doc.directory (path_text p)
resource_of (Absent p) = doc.absent (path_text p)
resource_of (APackage n) = doc.a_package (name_text n)
resource_of (AService n) = doc.a_service (name_text n)

abbrev pub subject_kind : Subject → Kind
subject_kind (OfFile p) = File
subject_kind (OfPackage n) = Package
subject_kind (OfService n) = Service

abbrev pub subject_title : Subject → List ℕ
subject_title (OfFile p) = path_text p
subject_title (OfPackage n) = name_text n
subject_title (OfService n) = name_text n

abbrev pub given_of : Given → reading.Given
given_of g = record { ensure = g.ensure; content = option_map content_text g.content }

-- how many attributes are not given
abbrev pub spare : reading.Given → ℕ
spare g = cond (is_some g.ensure) 0 1 + cond (is_some g.content) 0 1

abbrev pub declared_of : Placed Resource → doc.Declared
declared_of d = record { resource = resource_of d.part; title = placed_as (λ r. doc.title_of (resource_of r)) d }
