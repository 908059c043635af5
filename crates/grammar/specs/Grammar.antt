-- The grammar of manifests, with no reader: which rows of tokens say what, and what is kept besides. Assumes nothing.
use Rattle.std.specs.Prelude.{◌≡◌, ℕ, ◌+◌, ◌<◌, ◌≤◌, true, false, ◌↔◌, List, [], ◌∷◌, ◌++◌, length, Ok, codes, ◌≢◌}
use Rattle.values.specs.Rules.{is_content}
use Rattle.fs.specs.Manifest as model
use Rattle.lexer.specs.Lexing.{Lexeme, word, quoted, open_brace, close_brace, open_bracket, close_bracket, colon, comma, gives, before, notifies}
use Rattle.lexer.specs.Rows.{Row, token, ended, row}
use Rattle.lexer.specs.declared.position.Position.{Position}
use Rattle.syntax.specs.declared.arrow.Arrow.{Arrow}
use Rattle.syntax.specs.declared.arrow.Arrow.TheVariants.{Before, Notifies}
use Rattle.syntax.specs.declared.kind.Kind.TheVariants.{Service}
use Rattle.syntax.specs.Kinds.{kind_word, ref_word}
use Rattle.grammar.specs.Documents.{Resource, put, directory, absent, a_package, a_service, kind_of, title_of, Declared, Ref, Link, Document}
use Rattle.grammar.specs.Declarations.{title_ok}
use Rattle.grammar.specs.Items.{known, repeats, nothing_said}
use Rattle.grammar.specs.Manifests.{Manifest, is_notify, read_text}

-- a row that begins with these tokens and goes on as q
pub data Written : List Lexeme → Row → Row → Type 0 where
  written : {q : Row} → Written [] q q
  on : {l : Lexeme} {ls : List Lexeme} {at : Position} {q r : Row} → Written ls q r → Written (l ∷ ls) q (token l at r)

abbrev pub ensure_is : List ℕ → List Lexeme
ensure_is w = word (codes "ensure") ∷ gives ∷ word w ∷ []

abbrev pub content_is : List ℕ → List Lexeme
content_is c = word (codes "content") ∷ gives ∷ quoted c ∷ []

-- the attributes of a resource
pub data Attributes : Resource → List Lexeme → Type 0 where
  file_first : {t c : List ℕ} → is_content c ≡ true → Attributes (put t c) (ensure_is (codes "file") ++ comma ∷ content_is c)
  content_first : {t c : List ℕ} → is_content c ≡ true → Attributes (put t c) (content_is c ++ comma ∷ ensure_is (codes "file"))
  is_directory : {t : List ℕ} → Attributes (directory t) (ensure_is (codes "directory"))
  is_absent : {t : List ℕ} → Attributes (absent t) (ensure_is (codes "absent"))
  is_present : {t : List ℕ} → Attributes (a_package t) (ensure_is (codes "present"))
  is_running : {t : List ℕ} → Attributes (a_service t) (ensure_is (codes "running"))

-- the closing brace, with a comma or none before it
pub data Closes : List Lexeme → Type 0 where
  plain : Closes (close_brace ∷ [])
  with_comma : Closes (comma ∷ close_brace ∷ [])

-- past the word of its kind, the row declares d, up to q
pub record Declares (d : Declared) (q row : Row) : Type 0 where
  pub body : Row
  pub attributes : List Lexeme
  pub brace : List Lexeme
  pub opens : Written (open_brace ∷ []) (token (quoted d.title.value) d.title.at body) row
  pub titled : title_of d.resource ≡ d.title.value
  pub ruled : title_ok (kind_of d.resource) (title_of d.resource) ≡ true
  pub given : Attributes d.resource attributes
  pub closes : Closes brace
  pub rest : Written (colon ∷ (attributes ++ brace)) q body

-- the row begins with a reference, up to q
pub record Refers (r : Ref) (q row : Row) : Type 0 where
  pub brackets : Row
  pub begins : row ≡ token (word (ref_word r.kind)) r.at brackets
  pub rest : Written (open_bracket ∷ quoted r.title ∷ close_bracket ∷ []) q brackets

abbrev pub arrow_lexeme : Arrow → Lexeme
arrow_lexeme Before = before
arrow_lexeme Notifies = notifies

-- behind a reference, the row links it with one or more others, each with the one before it, up to q
pub data Links : Ref → List Link → Row → Row → Type 0 where
  last_link : {left : Ref} (a : Arrow) (at : Position) (right : Ref) {q r : Row} → Refers right q r → Links left (record { left = left; arrow = a; at = at; right = right } ∷ []) q (token (arrow_lexeme a) at r)
  link_on : {left : Ref} (a : Arrow) (at : Position) (right : Ref) {ls : List Link} {p q r : Row} → Refers right p r → Links right ls q p → Links left (record { left = left; arrow = a; at = at; right = right } ∷ ls) q (token (arrow_lexeme a) at r)

-- from `row` up to q stand declarations and chains, which say m, where the index has the packages `ns`: each package is one of them,
-- no kind and title come twice, and there are at most 32 resources and 64 links
pub data Says (ns : List (List ℕ)) : Document → Row → Row → Type 0 where
  nothing : {row : Row} → Says ns nothing_said row row
  declared : {m : Document} (d : Declared) {at : Position} {q r row : Row} → Says ns m (token (word (kind_word (kind_of d.resource))) at r) row → Declares d q r → known ns d.resource ≡ true → repeats d.resource m.declared ≡ false → length m.declared < 32 → Says ns (record { declared = m.declared ++ d ∷ []; links = m.links }) q row
  chained : {m : Document} (left : Ref) (ls : List Link) {p q r row : Row} → Says ns m p row → Refers left r p → Links left ls q r → length (m.links ++ ls) ≤ 64 → Says ns (record { declared = m.declared; links = m.links ++ ls }) q row

-- the reference names the resource of the number n
pub record Names (ds : List Declared) (r : Ref) (n : ℕ) : Type 0 where
  pub front : List Declared
  pub one : Declared
  pub back : List Declared
  pub parts : ds ≡ front ++ (one ∷ back)
  pub number : n ≡ length front + 1
  pub kinded : kind_of one.resource ≡ r.kind
  pub titled : title_of one.resource ≡ r.title

-- the edge joins what the link's references name; only a service is notified, and never by a service
pub record Joins (ds : List Declared) (l : Link) (e : model.Edge) : Type 0 where
  pub from : Names ds l.left e.from
  pub to : Names ds l.right e.to
  pub notice : e.notify ≡ is_notify l.arrow
  pub right_kinds : l.arrow ≡ Notifies → (l.left.kind ≢ Service) × (l.right.kind ≡ Service)

-- an edge for each link, in their order
pub data Joined : List Declared → List Link → List model.Edge → Type 0 where
  none : {ds : List Declared} → Joined ds [] []
  more : {ds : List Declared} {l : Link} {ls : List Link} {e : model.Edge} {es : List model.Edge} → Joins ds l e → Joined ds ls es → Joined ds (l ∷ ls) (e ∷ es)

-- the text is not too long, its tokens are declarations and chains that say the resources and some links, and the edges join those
pub record Said (ns : List (List ℕ)) (text : List ℕ) (m : Manifest) : Type 0 where
  pub short : length text ≤ 8192
  pub links : List Link
  pub end : Position
  pub says : Says ns (record { declared = m.declared; links = links }) (ended end) (row text)
  pub joined : Joined m.declared links m.edges

-- a text is read as m exactly where it says m
abbrev pub ReadExactly : Type 0
ReadExactly = (ns : List (List ℕ)) (text : List ℕ) (m : Manifest) → (read_text ns text ≡ Ok m) ↔ Said ns text m
