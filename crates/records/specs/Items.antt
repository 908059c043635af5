-- What a record says, or why it is refused. Assumes nothing.
use Rattle.std.specs.Prelude.{◌≡◌, ℕ, Bool, cond, ◌||◌, List, [], ◌∷◌, length, take, drop, Ok, Err, Result, ◌==◌, nat_lt}
use Rattle.values.specs.declared.fault.ValueFault.TheVariants.{Malformed, TooLong}
use Rattle.values.specs.Rules.{is_name, is_path, is_content}
use Rattle.values.specs.Texts.{name_text}
use Rattle.fs.specs.Tree.{Path}
use Rattle.fs.specs.Manifest.{Entry, dir_entry, file_entry}
use Rattle.fs.specs.Package.{under_pkg}
use Rattle.records.specs.declared.fault.Ground.{Ground}
use Rattle.records.specs.declared.fault.Ground.TheVariants.{UnknownKind, NoPackage, ShortBody, Value, Reserved}
use Rattle.records.specs.declared.item.Item.{Item}
use Rattle.records.specs.declared.item.Item.TheVariants.{NewPackage, NewEntry}
use Rattle.records.specs.Entries.{entry_of}

-- a result tells an answer: the same refusal, or a value that means the answer's
abbrev pub Tells : {X Y E : Type 0} → (X → Y) → Result Y E → Result X E → Type 0
Tells f a (Ok x) = a ≡ Ok (f x)
Tells f a (Err e) = a ≡ Err e

-- go on with the value of an answer
abbrev pub after : {X Y E : Type 0} → Result X E → (X → Result Y E) → Result Y E
after (Ok x) f = f x
after (Err e) f = Err e

-- a package begins, or one more entry of the package at hand
pub data Meaning : Type 0 where
  new_package : List ℕ → Meaning
  new_entry : Entry → Meaning

abbrev pub meaning_of : Item → Meaning
meaning_of (NewPackage n) = new_package (name_text n)
meaning_of (NewEntry e) = new_entry (entry_of e)

abbrev pub name_check : List ℕ → Result (List ℕ) Ground
name_check n = cond (is_name n) (Ok n) (Err (Value Malformed))

abbrev pub path_check : List ℕ → Result Path Ground
path_check p = cond (is_path p) (cond (under_pkg p) (Err Reserved) (Ok p)) (Err (Value Malformed))

abbrev pub directory_body : List ℕ → Result Entry Ground
directory_body b = after (path_check b) (λ p. Ok (dir_entry p))

-- the content is looked at behind the path
abbrev pub file_parts : List ℕ → List ℕ → Result Entry Ground
file_parts p c = after (path_check p) (λ q. cond (is_content c) (Ok (file_entry q c)) (Err (Value TooLong)))

-- a byte with the path's length, the path, and the content
abbrev pub file_body : List ℕ → Result Entry Ground
file_body [] = Err ShortBody
file_body (n ∷ b) = cond (nat_lt (length b) n) (Err ShortBody) (file_parts (take n b) (drop n b))

abbrev pub entry_body : ℕ → List ℕ → Result Entry Ground
entry_body kind b = cond (kind == 2) (directory_body b) (file_body b)

-- what a record of this kind and body says; `begun` tells whether a package came before
abbrev pub meaning : Bool → ℕ → List ℕ → Result Meaning Ground
meaning begun kind b =
    cond (kind == 1) (after (name_check b) (λ n. Ok (new_package n)))
    (cond (kind == 2 || kind == 3) (cond begun (after (entry_body kind b) (λ e. Ok (new_entry e))) (Err NoPackage))
    (Err UnknownKind))
