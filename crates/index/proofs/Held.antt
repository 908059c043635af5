-- What an index keeps, out of its ghost fields and those of what it holds. Assumes nothing.
use Rattle.std.proofs.Common.{◌≡◌, false, List, [], ◌∷◌, map, vec_items, arith}
use Rattle.std.specs.List.{AllByRecursion}
use Rattle.std.proofs.lemmas.List.{length-map}
use Rattle.std.proofs.lemmas.Bool.{or_parts}
use Rattle.fs.specs.Package.{entry_paths, under_pkg, any_under_pkg}
use Rattle.fs.proofs.Packages.{properly_packed}
use Rattle.values.specs.Texts.{path_text}
use Rattle.records.specs.Entries.{entry_of}
use Rattle.records.specs.Saying.{Ruled}
use Rattle.records.specs.declared.entry.Entry.{Entry}
use Rattle.records.specs.declared.entry.Entry.TheVariants.{Directory, File}
use Rattle.index.specs.declared.packages.Package.{Package}
use Rattle.index.specs.Law.{LegalPack, HeldLegally, ProperlyHeld}
use Rattle.index.specs.Packages.{pack_of}

ruled_entries : (es : List Entry) → any_under_pkg (entry_paths (map entry_of es)) ≡ false → AllByRecursion Ruled (map entry_of es)
ruled_entries [] h = tt
ruled_entries (Directory p ∷ es) h = let c = or_parts (under_pkg (path_text p)) (any_under_pkg (entry_paths (map entry_of es))) h in ((p.ruled, c.0), ruled_entries es c.1)
ruled_entries (File p x ∷ es) h = let c = or_parts (under_pkg (path_text p)) (any_under_pkg (entry_paths (map entry_of es))) h in ((p.ruled, c.0, x.ruled), ruled_entries es c.1)

pub legal_package : (p : Package) → LegalPack (pack_of p)
legal_package p =
    let many = length-map (vec_items p.entries) entry_of in
    let long = p.entries.ok.0 in
    let most = p.few in
    record { named = p.name.ruled; few = omega arith; apart = p.apart; ruled = ruled_entries (vec_items p.entries) p.outside }

legal_packages : (ps : List Package) → AllByRecursion LegalPack (map pack_of ps)
legal_packages [] = tt
legal_packages (p ∷ ps) = (legal_package p, legal_packages ps)

pub held_legally : HeldLegally
held_legally i =
    let many = length-map (vec_items i.packages) pack_of in
    let long = i.packages.ok.0 in
    let most = i.few in
    record { few = omega arith; apart = i.apart; each = legal_packages (vec_items i.packages) }

pub properly_held : ProperlyHeld
properly_held p = properly_packed (pack_of p).0 (pack_of p).1 p.apart p.outside
