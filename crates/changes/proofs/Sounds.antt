-- A change that is taken leaves a sound rig. Assumes nothing.
use Rattle.std.proofs.Common.{◌≡◌, ◌+◌, ◌<◌, ◌≤◌, Bool, true, false, cond, List, [], ◌∷◌, length, sym, refl, subst, true≢false, arith}
use Rattle.std.specs.List.{AllByRecursion}
use Rattle.std.proofs.lemmas.Bool.{and_parts, and_from}
use Rattle.values.specs.Rules.{all, is_path, is_content}
use Rattle.values.specs.Texts.{path_text, content_text}
use Rattle.fs.specs.Change.{Change, made_dir, made_file, removed, change, altered, leaves, makes, call, calls}
use Rattle.fs.specs.Rig.{Rig, taken}
use Rattle.fs.specs.Tree.{Path, Node, directory, file, Tree, same, without, Sorted}
use Rattle.fs.proofs.Calls.{Fits, taken_eq, taken_fits, calls_parts, sorted_change, rooted_change}
use Rattle.changes.specs.Changes.{change_of}
use Rattle.changes.specs.Counts.{counted, births, deaths}
use Rattle.host.specs.Sound.{Sound, ruled}
use Rattle.host.proofs.Storing.{all_with}
use Rattle.changes.specs.declared.change.Change as held
use Rattle.changes.specs.declared.change.Change.TheVariants.{Mkdir, Creat, Rm}
use Rattle.changes.proofs.Counts.{length_counted, counted_change}

-- a change that makes a node makes one by the rules
abbrev pub Ruled : Change → Type 0
Ruled c = makes c ≡ true → ruled (altered c, leaves c) ≡ true

pub change_ruled : (c : held.Change) → Ruled (change_of c)
change_ruled (Mkdir p) m = and_from (is_path (path_text p)) true p.ruled refl
change_ruled (Creat p x) m = and_from (is_path (path_text p)) (is_content (content_text x)) p.ruled x.ruled
change_ruled (Rm p) m = absurd (true≢false (sym m))

all_without : (f : Path × Node → Bool) (p : Path) (t : Tree) → all f t ≡ true → all f (without p t) ≡ true
all_without f p [] a = refl
all_without f p (e ∷ t) a = let k = and_parts (f e) (all f t) a in by (same p e.0) k.0 (all_without f p t k.1)
  where
    by : (b : Bool) → f e ≡ true → all f (without p t) ≡ true → all f (cond b (without p t) (e ∷ without p t)) ≡ true
    by true x ih = ih
    by false x ih = and_from (f e) (all f (without p t)) x ih

proper_change : (c : Change) (t : Tree) → Ruled c → all ruled t ≡ true → all ruled (change c t) ≡ true
proper_change (made_dir p) t r a = all_with ruled p directory t (r refl) a
proper_change (made_file p x) t r a = all_with ruled p (file x) t (r refl) a
proper_change (removed p) t r a = all_without ruled p t a

length_change : (c : Change) (g : Rig) → Fits c g → Sorted g.tree → length g.tree ≤ g.capacity → length (change c g.tree) ≤ g.capacity
length_change c g f s h = by c f.roomy (counted_change (λ _. true) c g.tree s f.allowed)
  where
    by : (x : Change) → (makes x ≡ true → length g.tree < g.capacity) → counted (λ _. true) (change c g.tree) + deaths (λ _. true) (x ∷ []) ≡ counted (λ _. true) g.tree + births (λ _. true) (x ∷ []) → length (change c g.tree) ≤ g.capacity
    by (made_dir p) r e = let k = r refl in omega (arith, length_counted (change c g.tree), length_counted g.tree)
    by (made_file p x) r e = let k = r refl in omega (arith, length_counted (change c g.tree), length_counted g.tree)
    by (removed p) r e = omega (arith, length_counted (change c g.tree), length_counted g.tree)

pub sound_call : (c : Change) (g h : Rig) → Ruled c → Sound g → call c g ≡ taken h → Sound h
sound_call c g h r s e =
    let k = taken_fits c g h e in
    subst Sound (sym k.1) (record {
      sorted = sorted_change c g.tree s.sorted;
      rooted = rooted_change c g.tree k.0.allowed s.rooted;
      proper = proper_change c g.tree r s.proper;
      fits = length_change c g k.0 s.sorted s.fits;
      low = s.low;
      high = s.high;
      few = omega (arith, s.few);
    })

pub sound_calls : (l : List Change) (g h : Rig) → AllByRecursion Ruled l → Sound g → calls l g ≡ taken h → Sound h
sound_calls [] g h r s e = subst Sound (taken_eq e) s
sound_calls (c ∷ l) g h r s e = let k = calls_parts c l g h e in sound_calls l k.0 h r.1 (sound_call c g k.0 r.0 s k.1) k.2
