-- KIND { 'TITLE': ATTRIBUTE => VALUE, .. }, read off a row of tokens. Assumes nothing.
use Rattle.std.specs.Prelude.{ℕ, Bool, true, false, cond, ◌&&◌, List, is_some, Some, None, Ok, Err, codes, Option, Result}
use Rattle.values.specs.Rules.{is_path, is_name, is_content}
use Rattle.values.specs.declared.fault.ValueFault.TheVariants.{Malformed, TooLong}
use Rattle.fs.specs.Tree.{same}
use Rattle.lexer.specs.Lexing.{Lexeme, word, quoted, open_brace, close_brace, open_bracket, close_bracket, colon, comma, gives, before, notifies}
use Rattle.lexer.specs.Rows.{Row, token, ended, broken}
use Rattle.syntax.specs.declared.attribute.Attribute.{Attribute as Name}
use Rattle.syntax.specs.declared.attribute.Attribute.TheVariants.{Ensure, Content}
use Rattle.syntax.specs.declared.attribute.Want.{Want}
use Rattle.syntax.specs.declared.attribute.Want.TheVariants.{File as AsFile, Directory, Absent, Present, Running}
use Rattle.syntax.specs.declared.fault.Ground.{Ground}
use Rattle.syntax.specs.declared.fault.Ground.TheVariants.{Value, Attribute, NotAllowed, Incomplete}
use Rattle.syntax.specs.declared.kind.Kind.{Kind}
use Rattle.syntax.specs.declared.kind.Kind.TheVariants.{File, Package, Service}
use Rattle.syntax.specs.declared.mark.Mark.TheVariants.{OpenBrace, Colon, Gives}
use Rattle.syntax.specs.Faults.{no_token}
use Rattle.syntax.specs.Reading.{Read, read, refused, after, or_refuse, checked, Located, taken}
use Rattle.syntax.specs.Repeating.{Turn, repeated}
use Rattle.syntax.specs.Tokens.{word_of, quoted_of, value_of, the_mark}
use Rattle.grammar.specs.Documents.{Resource, put, directory, absent, a_package, a_service, Declared}

-- a file's title is a path, any other a name
abbrev pub title_ok : Kind → List ℕ → Bool
title_ok File t = is_path t
title_ok Package t = is_name t
title_ok Service t = is_name t

abbrev pub title_check : Kind → List ℕ → Result (List ℕ) Ground
title_check k t = cond (title_ok k t) (Ok t) (Err (Value Malformed))

-- the attributes so far
pub record Given : Type 0 where
  pub ensure : Option Want
  pub content : Option (List ℕ)

abbrev pub none_given : Given
none_given = record { ensure = None; content = None }

abbrev pub is_file : Kind → Bool
is_file File = true
is_file Package = false
is_file Service = false

-- an attribute of the kind that was not given yet
unfoldable pub named : Kind → Given → List ℕ → Option Name
named k g w =
    cond (same w (codes "ensure")) (cond (is_some g.ensure) None (Some Ensure))
    (cond (is_file k && same w (codes "content")) (cond (is_some g.content) None (Some Content)) None)

-- what a word has a resource of this kind be
unfoldable pub wanted : Kind → List ℕ → Option Want
wanted File w =
    cond (same w (codes "file")) (Some AsFile)
    (cond (same w (codes "directory")) (Some Directory)
    (cond (same w (codes "absent")) (Some Absent) None))
wanted Package w = cond (same w (codes "present")) (Some Present) None
wanted Service w = cond (same w (codes "running")) (Some Running) None

-- `ensure` is given a word that the kind has, `content` a quoted text that is a content
abbrev pub with_ensure : Given → Option Want → Result Given Ground
with_ensure g None = Err NotAllowed
with_ensure g (Some v) = Ok (record { ensure = Some v; content = g.content })

abbrev pub ensure_by : Kind → Given → Option (List ℕ) → Result Given Ground
ensure_by k g None = Err NotAllowed
ensure_by k g (Some w) = with_ensure g (wanted k w)

abbrev pub content_by : Given → Option (List ℕ) → Result Given Ground
content_by g None = Err NotAllowed
content_by g (Some c) = cond (is_content c) (Ok (record { ensure = g.ensure; content = Some c })) (Err (Value TooLong))

-- the attributes with one more
abbrev pub with_value : Kind → Given → Name → Lexeme → Result Given Ground
with_value k g Ensure l = ensure_by k g (word_of l)
with_value k g Content l = content_by g (quoted_of l)

unfoldable pub attribute : Kind → Given → Row → Read Given
attribute k g row =
    after (taken word_of row) (λ w r.
    or_refuse (named k g w.value) Attribute w.at (λ n.
    after (taken (the_mark Gives) r) (λ _ r.
    after (taken value_of r) (λ v r.
    checked (with_value k g n v.value) v.at (λ g. read g r)))))

-- `}` closes, `,` does not
abbrev pub closer_of : Lexeme → Option Bool
closer_of (word w) = None
closer_of (quoted q) = None
closer_of open_brace = None
closer_of close_brace = Some true
closer_of open_bracket = None
closer_of close_bracket = None
closer_of colon = None
closer_of comma = Some false
closer_of gives = None
closer_of before = None
closer_of notifies = None

abbrev pub is_true : Option Bool → Bool
is_true None = false
is_true (Some b) = b

-- behind a comma: a brace that closes, or what stays to be read
unfoldable pub last_comma : Row → Read Bool
last_comma (token l at r) = cond (is_true (closer_of l)) (read true r) (read false (token l at r))
last_comma (ended at) = read false (ended at)
last_comma (broken b) = refused (no_token b)

-- `,` or `}` or both: whether the brace was closed
unfoldable pub closing : Row → Read Bool
closing row = after (taken closer_of row) (λ t r. cond t.value (read true r) (last_comma r))

-- an attribute, and whether it is the last
unfoldable pub member : Kind → Given → Row → Read (Turn Given)
member k g row =
    after (attribute k g row) (λ g r.
    after (closing r) (λ c r.
    read (record { state = g; last = c }) r))

-- the attributes up to the brace
unfoldable pub attributes : Kind → Row → Read Given
attributes k row = repeated (member k) none_given row

-- { 'TITLE':
unfoldable pub heading : Kind → Row → Read (Located (List ℕ))
heading k row =
    after (taken (the_mark OpenBrace) row) (λ _ r.
    after (taken quoted_of r) (λ t r.
    checked (title_check k t.value) t.at (λ _.
    after (taken (the_mark Colon) r) (λ _ r.
    read t r))))

-- a resource for one kind only
abbrev pub for_file : Kind → Resource → Option Resource
for_file File d = Some d
for_file Package d = None
for_file Service d = None

abbrev pub for_package : Kind → Resource → Option Resource
for_package File d = None
for_package Package d = Some d
for_package Service d = None

abbrev pub for_service : Kind → Resource → Option Resource
for_service File d = None
for_service Package d = None
for_service Service d = Some d

-- `content` exactly with a file
abbrev pub of_want : Want → Kind → List ℕ → Option (List ℕ) → Option Resource
of_want AsFile k t None = None
of_want AsFile k t (Some c) = for_file k (put t c)
of_want Directory k t None = for_file k (directory t)
of_want Directory k t (Some c) = None
of_want Absent k t None = for_file k (absent t)
of_want Absent k t (Some c) = None
of_want Present k t None = for_package k (a_package t)
of_want Present k t (Some c) = None
of_want Running k t None = for_service k (a_service t)
of_want Running k t (Some c) = None

abbrev pub made_of : Kind → List ℕ → Option Want → Option (List ℕ) → Option Resource
made_of k t None c = None
made_of k t (Some w) c = of_want w k t c

-- what stands past the word of the kind
unfoldable pub declaration : Kind → Row → Read Declared
declaration k row =
    after (heading k row) (λ t r.
    after (attributes k r) (λ g r.
    or_refuse (made_of k t.value g.ensure g.content) Incomplete t.at (λ d.
    read (record { resource = d; title = t }) r)))
