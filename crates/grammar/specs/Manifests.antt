-- What a text is read as: resources numbered from 1, and edges between their numbers; or its first fault. Assumes nothing.
use Rattle.std.specs.Prelude.{ℕ, Bool, true, false, cond, not, ◌&&◌, List, [], ◌∷◌, length, Ok, Err, Result, nat_lt}
use Rattle.std.specs.Option.{ok_or}
use Rattle.fs.specs.Manifest as model
use Rattle.lexer.specs.Bytes.{start}
use Rattle.lexer.specs.Rows.{row}
use Rattle.syntax.specs.declared.arrow.Arrow.{Arrow}
use Rattle.syntax.specs.declared.arrow.Arrow.TheVariants.{Before, Notifies}
use Rattle.syntax.specs.declared.fault.Ground.TheVariants.{TextTooLong, NoResource, NoNotice}
use Rattle.syntax.specs.declared.kind.Kind.{Kind}
use Rattle.syntax.specs.declared.kind.Kind.TheVariants.{File, Package, Service}
use Rattle.syntax.specs.Faults.{TextFault, fault_at}
use Rattle.syntax.specs.Reading.{Read, read, refused}
use Rattle.grammar.specs.Documents.{Declared, Ref, Link, Document, number_of}
use Rattle.grammar.specs.Items.{document}

pub record Manifest : Type 0 where
  pub declared : List Declared
  pub edges : List model.Edge

-- go on with the value of an answer
abbrev pub and_then : {X Y E : Type 0} → Result X E → (X → Result Y E) → Result Y E
and_then (Ok x) f = f x
and_then (Err e) f = Err e

abbrev pub is_service : Kind → Bool
is_service File = false
is_service Package = false
is_service Service = true

abbrev pub is_notify : Arrow → Bool
is_notify Before = false
is_notify Notifies = true

-- only a service is notified, and never by a service
abbrev pub may_stand : Link → Bool
may_stand l = cond (is_notify l.arrow) (not (is_service l.left.kind) && is_service l.right.kind) true

-- the number of the resource that a reference names
abbrev pub end_of : List Declared → Ref → Result ℕ TextFault
end_of ds r = ok_or (number_of r.kind r.title ds) (fault_at r.at NoResource)

abbrev pub edge_between : Link → ℕ → ℕ → Result model.Edge TextFault
edge_between l i j = cond (may_stand l) (Ok (record { from = i; to = j; notify = is_notify l.arrow })) (Err (fault_at l.at NoNotice))

-- the left end is looked for first
abbrev pub edge_of : List Declared → Link → Result model.Edge TextFault
edge_of ds l = and_then (end_of ds l.left) (λ i. and_then (end_of ds l.right) (λ j. edge_between l i j))

abbrev pub edges_of : List Declared → List Link → Result (List model.Edge) TextFault
edges_of ds [] = Ok []
edges_of ds (l ∷ ls) = and_then (edge_of ds l) (λ e. and_then (edges_of ds ls) (λ es. Ok (e ∷ es)))

-- references are looked up once the whole text is read
abbrev pub joined : Document → Result Manifest TextFault
joined m = and_then (edges_of m.declared m.links) (λ es. Ok (record { declared = m.declared; edges = es }))

abbrev pub of_document : Read Document → Result Manifest TextFault
of_document (read m q) = joined m
of_document (refused f) = Err f

-- what a text is read as, where the index has the packages `ns`
abbrev pub read_text : List (List ℕ) → List ℕ → Result Manifest TextFault
read_text ns text = cond (nat_lt 8192 (length text)) (Err (fault_at start TextTooLong)) (of_document (document ns (row text)))
