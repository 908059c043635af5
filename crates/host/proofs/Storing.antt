-- What a host stores of a node is by the rules, and trees of such nodes stay so. Assumes nothing.
use Rattle.std.proofs.Common.{◌≡◌, Bool, true, false, cond, [], ◌∷◌, refl}
use Rattle.std.proofs.lemmas.Bool.{and_parts, and_from}
use Rattle.values.specs.Rules.{all, is_path}
use Rattle.values.specs.Texts.{path_text}
use Rattle.values.specs.Texts.{Path as Text}
use Rattle.fs.specs.Tree.{Path, Node, Tree, same, before, with_node, is_nothing}
use Rattle.host.specs.Sound.{fits_node, ruled}
use Rattle.host.specs.Stores.{node_of}
use Rattle.host.specs.declared.stored.Stored.{Stored}
use Rattle.host.specs.declared.stored.Stored.TheVariants.{Directory, File}

pub some_stored : (n : Stored) → is_nothing (node_of n) ≡ false
some_stored Directory = refl
some_stored (File c) = refl

fits_stored : (n : Stored) → fits_node (node_of n) ≡ true
fits_stored Directory = refl
fits_stored (File c) = c.ruled

-- by the rules in the types
pub ruled_stored : (p : Text) (n : Stored) → ruled (path_text p, node_of n) ≡ true
ruled_stored p n = and_from (is_path (path_text p)) (fits_node (node_of n)) p.ruled (fits_stored n)

-- a test that every entry of a tree passes, and a new one
pub all_with : (f : Path × Node → Bool) (p : Path) (n : Node) (t : Tree) → f (p, n) ≡ true → all f t ≡ true → all f (with_node p n t) ≡ true
all_with f p n [] h a = and_from (f (p, n)) true h refl
all_with f p n (e ∷ t) h a = let k = and_parts (f e) (all f t) a in by (same p e.0) (before p e.0) k.0 k.1 (all_with f p n t h k.1)
  where
    by : (b c : Bool) → f e ≡ true → all f t ≡ true → all f (with_node p n t) ≡ true → all f (cond b ((p, n) ∷ t) (cond c ((p, n) ∷ (e ∷ t)) (e ∷ with_node p n t))) ≡ true
    by true c x y ih = and_from (f (p, n)) (all f t) h y
    by false true x y ih = and_from (f (p, n)) (all f (e ∷ t)) h a
    by false false x y ih = and_from (f e) (all f (with_node p n t)) x ih
