-- What a manifest's text says: resources by their titles, and links between references. Assumes nothing.
use Rattle.std.specs.Prelude.{ℕ, ◌+◌, Bool, cond, ◌&&◌, List, [], ◌∷◌, Some, None, Option, ◌==◌}
use Rattle.fs.specs.Tree.{same}
use Rattle.lexer.specs.declared.position.Position.{Position}
use Rattle.syntax.specs.declared.arrow.Arrow.{Arrow}
use Rattle.syntax.specs.declared.kind.Kind.{Kind}
use Rattle.syntax.specs.declared.kind.Kind.TheVariants.{File, Package, Service}
use Rattle.syntax.specs.Reading.{Located}

-- a path and a content, a path, or a name
pub data Resource : Type 0 where
  put : List ℕ → List ℕ → Resource
  directory : List ℕ → Resource
  absent : List ℕ → Resource
  a_package : List ℕ → Resource
  a_service : List ℕ → Resource

abbrev pub kind_of : Resource → Kind
kind_of (put t c) = File
kind_of (directory t) = File
kind_of (absent t) = File
kind_of (a_package t) = Package
kind_of (a_service t) = Service

abbrev pub title_of : Resource → List ℕ
title_of (put t c) = t
title_of (directory t) = t
title_of (absent t) = t
title_of (a_package t) = t
title_of (a_service t) = t

-- a resource, with its title as it stands in the text
pub record Declared : Type 0 where
  pub resource : Resource
  pub title : Located (List ℕ)

-- a reference, with the position of its first byte
pub record Ref : Type 0 where
  pub kind : Kind
  pub title : List ℕ
  pub at : Position

-- two references and the arrow between them, with its position
pub record Link : Type 0 where
  pub left : Ref
  pub arrow : Arrow
  pub at : Position
  pub right : Ref

pub record Document : Type 0 where
  pub declared : List Declared
  pub links : List Link

abbrev pub kind_number : Kind → ℕ
kind_number File = 0
kind_number Package = 1
kind_number Service = 2

abbrev pub same_kind : Kind → Kind → Bool
same_kind j k = kind_number j == kind_number k

-- has the resource this kind and title
abbrev pub is_named : Kind → List ℕ → Declared → Bool
is_named k t d = same_kind (kind_of d.resource) k && same (title_of d.resource) t

-- the number of the first resource of this kind and title, where the first of the list has the number i
abbrev pub number_from : ℕ → Kind → List ℕ → List Declared → Option ℕ
number_from i k t [] = None
number_from i k t (d ∷ ds) = cond (is_named k t d) (Some i) (number_from (i + 1) k t ds)

-- resources are numbered from 1
abbrev pub number_of : Kind → List ℕ → List Declared → Option ℕ
number_of k t ds = number_from 1 k t ds
