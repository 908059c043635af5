-- A declaration that is written as the grammar says is read so. Assumes nothing.
use Rattle.std.proofs.Common.{◌≡◌, ℕ, true, false, List, [], ◌∷◌, ◌++◌, Some, None, codes, Option, sym, refl, ap, ◌∙◌}
use Rattle.values.specs.Rules.{is_content}
use Rattle.lexer.specs.Lexing.{Lexeme, word, quoted, open_brace, colon, comma, gives}
use Rattle.lexer.specs.Rows.{Row, token}
use Rattle.lexer.specs.declared.position.Position.{Position}
use Rattle.syntax.specs.declared.attribute.Want.{Want}
use Rattle.syntax.specs.declared.attribute.Want.TheVariants.{File as AsFile, Directory, Absent, Present, Running}
use Rattle.syntax.specs.declared.kind.Kind.{Kind}
use Rattle.syntax.specs.declared.kind.Kind.TheVariants.{File, Package, Service}
use Rattle.syntax.specs.Reading.{read, after, or_refuse, checked, Located, taken}
use Rattle.syntax.specs.Repeating.{repeated}
use Rattle.syntax.proofs.Steps.{then, there}
use Rattle.syntax.proofs.Turns.{turn_more, turn_last}
use Rattle.syntax.proofs.Progress.{left_below}
use Rattle.grammar.specs.Documents.{Resource, put, directory, absent, a_package, a_service, kind_of, title_of, Declared}
use Rattle.grammar.specs.Declarations.{title_ok, Given, none_given, named, wanted, attribute, last_comma, closing, member, attributes, heading, made_of, declaration}
use Rattle.grammar.specs.Grammar.{Written, written, on, Attributes, file_first, content_first, is_directory, is_absent, is_present, is_running, Closes, plain, with_comma, Declares}
use Rattle.grammar.proofs.Progress.{member_strict}

closes : {cs : List Lexeme} {q row : Row} → Closes cs → Written cs q row → read true q ≡ closing row
unfolding closing last_comma taken after or_refuse
closes plain (on written) = refl
closes with_comma (on (on written)) = refl

-- one attribute
ensures : (k : Kind) (o : Option (List ℕ)) (w : List ℕ) (v : Want) (a b c : Position) (r : Row) → wanted k w ≡ Some v → read (record { ensure = Some v; content = o }) r ≡ attribute k (record { ensure = None; content = o }) (token (word (codes "ensure")) a (token gives b (token (word w) c r)))
unfolding attribute taken after or_refuse checked named
ensures k o w v a b c r n = rw n refl

contents : (o : Option Want) (w : List ℕ) (a b c : Position) (r : Row) → is_content w ≡ true → read (record { ensure = o; content = Some w }) r ≡ attribute File (record { ensure = o; content = None }) (token (word (codes "content")) a (token gives b (token (quoted w) c r)))
unfolding attribute taken after or_refuse checked named
contents o w a b c r h = rw h refl

-- the last attribute, and one before it
module _ (k : Kind) (g : Given) (row : Row) where
  lasts : {f : Given} {cs : List Lexeme} {q r : Row} → read f r ≡ attribute k g row → Closes cs → Written cs q r → repeated (member k) g row ≡ read f q
  unfolding member
  lasts {q = q} e c w = turn_last (member k) g row q (then _ e (then _ (closes c w) refl))

  comma_goes_on : (a b : Position) (w : List ℕ) (s : Row) → read false (token (word w) b s) ≡ closing (token comma a (token (word w) b s))
  unfolding closing last_comma taken after or_refuse
  comma_goes_on a b w s = refl

  firsts : {f : Given} {a b : Position} {w : List ℕ} {s : Row} → read f (token comma a (token (word w) b s)) ≡ attribute k g row → repeated (member k) g row ≡ repeated (member k) f (token (word w) b s)
  unfolding member
  firsts {f} {a} {b} {w} {s} e =
      let t : read (record { state = f; last = false }) (token (word w) b s) ≡ member k g row = then _ e (then _ (comma_goes_on a b w s) refl) in
      turn_more (member k) g row _ t (left_below row (member_strict k g row) t)

-- the attributes that say the resource
given_by : Resource → Given
given_by (put t c) = record { ensure = Some AsFile; content = Some c }
given_by (directory t) = record { ensure = Some Directory; content = None }
given_by (absent t) = record { ensure = Some Absent; content = None }
given_by (a_package t) = record { ensure = Some Present; content = None }
given_by (a_service t) = record { ensure = Some Running; content = None }

attributes_read : {d : Resource} {xs cs : List Lexeme} {q row : Row} → Attributes d xs → Closes cs → Written (xs ++ cs) q row → read (given_by d) q ≡ attributes (kind_of d) row
unfolding attributes given_by wanted
attributes_read is_directory c (on (on (on w))) = sym (lasts File none_given _ (ensures File None (codes "directory") Directory _ _ _ _ refl) c w)
attributes_read is_absent c (on (on (on w))) = sym (lasts File none_given _ (ensures File None (codes "absent") Absent _ _ _ _ refl) c w)
attributes_read is_present c (on (on (on w))) = sym (lasts Package none_given _ (ensures Package None (codes "present") Present _ _ _ _ refl) c w)
attributes_read is_running c (on (on (on w))) = sym (lasts Service none_given _ (ensures Service None (codes "running") Running _ _ _ _ refl) c w)
attributes_read (file_first h) c (on (on (on (on (on (on (on w))))))) =
    sym (firsts File none_given _ (ensures File None (codes "file") AsFile _ _ _ _ refl) ∙ lasts File (record { ensure = Some AsFile; content = None }) _ (contents _ _ _ _ _ _ h) c w)
attributes_read (content_first {c = x} h) c (on (on (on (on (on (on (on w))))))) =
    sym (firsts File none_given _ (contents _ _ _ _ _ _ h) ∙ lasts File (record { ensure = None; content = Some x }) _ (ensures File _ (codes "file") AsFile _ _ _ _ refl) c w)

-- { 'TITLE':
heading_read : (k : Kind) (t : Located (List ℕ)) (r : Row) {body row : Row} → title_ok k t.value ≡ true → Written (open_brace ∷ []) (token (quoted t.value) t.at body) row → Written (colon ∷ []) r body → read t r ≡ heading k row
unfolding heading taken after or_refuse checked
heading_read k t r h (on written) (on written) = rw h refl

made : (d : Resource) → Some d ≡ made_of (kind_of d) (title_of d) (given_by d).ensure (given_by d).content
unfolding given_by
made (put t c) = refl
made (directory t) = refl
made (absent t) = refl
made (a_package t) = refl
made (a_service t) = refl

split : {l : Lexeme} {ds : List Lexeme} {q row : Row} → Written (l ∷ ds) q row → (r : Row) × Written (l ∷ []) r row × Written ds q r
split (on w) = (_, on written, w)

-- a declaration behind the word of its kind
pub declaration_read : {d : Declared} {q row : Row} → Declares d q row → read d q ≡ declaration (kind_of d.resource) row
unfolding declaration
declaration_read {d} {q} w =
    let k = kind_of d.resource in
    let s = split w.rest in
    let ok = ap (title_ok k) (sym w.titled) ∙ w.ruled in
    let m = made d.resource ∙ ap (λ t. made_of k t (given_by d.resource).ensure (given_by d.resource).content) w.titled in
    then _ (heading_read k d.title s.0 ok w.opens s.1) (then _ (attributes_read w.given w.closes s.2) (there _ _ _ m refl))
