-- Declarations and chains up to the end of the text. Assumes nothing.
use Rattle.std.specs.Prelude.{ℕ, Bool, true, false, cond, List, [], is_some, Some, None, Ok, Err, Option, Result}
use Rattle.std.specs.Option.{option_map}
use Rattle.fs.specs.Tree.{has}
use Rattle.lexer.specs.Rows.{Row, token, ended, broken}
use Rattle.lexer.specs.declared.position.Position.{Position}
use Rattle.syntax.specs.declared.fault.Ground.{Ground}
use Rattle.syntax.specs.declared.fault.Ground.TheVariants.{Unexpected, NotInIndex, Repeated, TooMany}
use Rattle.syntax.specs.declared.kind.Kind.{Kind}
use Rattle.syntax.specs.Faults.{no_token}
use Rattle.syntax.specs.Kinds.{declared_kind, referred_kind}
use Rattle.syntax.specs.Reading.{Read, read, refused, after, or_refuse, checked}
use Rattle.syntax.specs.Repeating.{Turn, repeated}
use Rattle.syntax.specs.Tokens.{word_of}
use Rattle.grammar.specs.Documents.{Resource, put, directory, absent, a_package, a_service, kind_of, title_of, Declared, Document, number_of}
use Rattle.grammar.specs.Declarations.{declaration}
use Rattle.grammar.specs.Chains.{room, chain}

-- how an item begins; a reference has the position of its first byte; the end is no item
pub data Start : Type 0 where
  finish : Start
  declares : Kind → Start
  refers : Kind → Position → Start

abbrev pub or_else : {A : Type 0} → Option A → Option A → Option A
or_else (Some x) o = Some x
or_else None o = o

abbrev pub start_by : Position → Option (List ℕ) → Option Start
start_by p None = None
start_by p (Some w) = or_else (option_map declares (declared_kind w)) (option_map (λ k. refers k p) (referred_kind w))

unfoldable pub start : Row → Read Start
start (token l at r) = or_refuse (start_by at (word_of l)) Unexpected at (λ s. read s r)
start (ended at) = read finish (ended at)
start (broken b) = refused (no_token b)

-- is a package one of these names
abbrev pub known : List (List ℕ) → Resource → Bool
known ns (put t c) = true
known ns (directory t) = true
known ns (absent t) = true
known ns (a_package t) = has t ns
known ns (a_service t) = true

-- did kind and title come before
abbrev pub repeats : Resource → List Declared → Bool
repeats d ds = is_some (number_of (kind_of d) (title_of d) ds)

abbrev pub counted : Option (List Declared) → Result (List Declared) Ground
counted None = Err TooMany
counted (Some ds) = Ok ds

-- the resources with one more, where the index has the packages `ns`
abbrev pub admit : List (List ℕ) → List Declared → Declared → Result (List Declared) Ground
admit ns ds d = cond (known ns d.resource) (cond (repeats d.resource ds) (Err Repeated) (counted (room 32 ds d))) (Err NotInIndex)

abbrev pub item_of : List (List ℕ) → Document → Start → Row → Read (Turn Document)
item_of ns m finish r = read (record { state = m; last = true }) r
item_of ns m (declares k) r =
    after (declaration k r) (λ d r.
    checked (admit ns m.declared d) d.title.at (λ ds.
    read (record { state = record { declared = ds; links = m.links }; last = false }) r))
item_of ns m (refers k p) r =
    after (chain k p m.links r) (λ ls r.
    read (record { state = record { declared = m.declared; links = ls }; last = false }) r)

-- an item, or the end
unfoldable pub item : List (List ℕ) → Document → Row → Read (Turn Document)
item ns m row = after (start row) (item_of ns m)

abbrev pub nothing_said : Document
nothing_said = record { declared = []; links = [] }

unfoldable pub document : List (List ℕ) → Row → Read Document
document ns row = repeated (item ns) nothing_said row
