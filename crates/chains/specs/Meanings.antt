-- What the values of the code mean. Assumes nothing.
use Rattle.grammar.specs.Documents as doc
use Rattle.chains.specs.declared.chain.Link.{Link}
use Rattle.chains.specs.declared.reference.Ref.{Ref}

abbrev pub ref_of : Ref → doc.Ref
ref_of r = record { kind = r.kind; title = r.title.now; at = r.at }

abbrev pub link_of : Link → doc.Link
link_of l = record { left = ref_of l.left; arrow = l.arrow.part; at = l.arrow.at; right = ref_of l.right }
