-- One change of a log, read at its place. Assumes nothing.
use Rattle.std.proofs.Common.{◌≡◌, ℕ, ◌+◌, ◌<◌, Bool, true, false, cond, not, ◌&&◌, List, [], ◌∷◌, ◌++◌, map, reverse, length, get_or, take, vec_items, vec_len, Some, None, Option, MatchOption, sym, refl, ap, subst, ◌∙◌, arith}
use Rattle.std.specs.List.{find}
use Rattle.std.proofs.lemmas.List.{take_more, get_or-map, length-map, reverse-append, reverse-reverse, map_push}
use Rattle.fs.specs.Change.{Change, made_dir, made_file, removed, change, made, altered, leaves, makes}
use Rattle.fs.specs.Tree.{Path, nothing, directory, file, Tree, same, at}
use Rattle.fs.proofs.Traces.{made_append}
use Rattle.fs.proofs.Trees.{at_put}
use Rattle.changes.specs.Changes.{change_of}
use Rattle.changes.specs.Counts.{births, deaths}
use Rattle.changes.proofs.Counts.{births_more, deaths_more}
use Rattle.changes.specs.declared.change.Change as value
use Rattle.changes.specs.Logs.{changes}
use Rattle.changes.specs.declared.log.Log.{Log}

pub changes_length : (l : Log) → length (changes l) ≡ vec_len l.held
changes_length l = omega (arith, length-map (vec_items l.held) change_of, l.held.ok.0)

pub at_change : (c : Change) (t : Tree) (q : Path) → at (change c t) q ≡ cond (same q (altered c)) (leaves c) (at t q)
at_change (made_dir p) t q = at_put p directory t q
at_change (made_file p x) t q = at_put p (file x) t q
at_change (removed p) t q = at_put p nothing t q

module _ (f : Path → Bool) where
  pub births_push : (l : List Change) (c : Change) → births f (l ++ c ∷ []) ≡ births f l + births f (c ∷ [])
  births_push [] c = omega arith
  births_push (x ∷ l) c = let rest = births_push l c in omega (arith, births_more f x (l ++ c ∷ []), births_more f x l)

  pub deaths_push : (l : List Change) (c : Change) → deaths f (l ++ c ∷ []) ≡ deaths f l + deaths f (c ∷ [])
  deaths_push [] c = omega arith
  deaths_push (x ∷ l) c = let rest = deaths_push l c in omega (arith, deaths_more f x (l ++ c ∷ []), deaths_more f x l)

module _ (held : List value.Change) (n : ℕ) (c : value.Change) (within : n < length held) (read : c ≡ get_or held n c) where
  pub read_change : (d : Change) → get_or (map change_of held) n d ≡ change_of c
  read_change d = get_or-map change_of held n c d within ∙ ap change_of (sym read)

  pub front : take (n + 1) (map change_of held) ≡ take n (map change_of held) ++ change_of c ∷ []
  front = take_more (map change_of held) n (change_of c) (simp length-map within) ∙ ap (λ x. take n (map change_of held) ++ x ∷ []) (read_change (change_of c))

  pub made_front : (t : Tree) → made (take (n + 1) (map change_of held)) t ≡ change (change_of c) (made (take n (map change_of held)) t)
  made_front t = ap (λ l. made l t) front ∙ made_append (take n (map change_of held)) (change_of c ∷ []) t

  pub at_front : (t : Tree) (q : Path) → at (made (take (n + 1) (map change_of held)) t) q ≡ cond (same q (altered (change_of c))) (leaves (change_of c)) (at (made (take n (map change_of held)) t) q)
  at_front t q = ap (λ u. at u q) (made_front t) ∙ at_change (change_of c) (made (take n (map change_of held)) t) q

abbrev pub one : Bool → ℕ
one b = cond b 1 0

one_both : (m b : Bool) → one (m && b) ≡ cond b (one m) 0
one_both true b = refl
one_both false true = refl
one_both false false = refl

-- one change more, by whether it is to be counted and whether it makes a node
module _ (f : Path → Bool) (held : List value.Change) (n : ℕ) (c : value.Change) (within : n < length held) (read : c ≡ get_or held n c) where
  pub counts_next : (lies new : Bool) → f (altered (change_of c)) ≡ lies → makes (change_of c) ≡ new
      → (births f (take (n + 1) (map change_of held)) ≡ births f (take n (map change_of held)) + cond lies (one new) 0)
      × (deaths f (take (n + 1) (map change_of held)) ≡ deaths f (take n (map change_of held)) + cond lies (one (not new)) 0)
  counts_next lies new e d =
      let so_far = take n (map change_of held) in
      let next = front held n c within read in (
        ap (births f) next ∙ births_push f so_far (change_of c) ∙ ap (λ k. births f so_far + k) ((λ k. one (d k && e k)) ∙ one_both new lies),
        ap (deaths f) next ∙ deaths_push f so_far (change_of c) ∙ ap (λ k. deaths f so_far + k) ((λ k. one (not (d k) && e k)) ∙ one_both (not new) lies),
      )

module _ (p : Path) (t : Tree) where
  -- the last change of a list, the first of the list reversed
  last : (c : value.Change) (l : List value.Change)
      → at (made (map change_of (reverse (c ∷ l))) t) p
      ≡ cond (same p (altered (change_of c))) (leaves (change_of c)) (at (made (map change_of (reverse l)) t) p)
  last c l =
      ap (λ m. at (made (map change_of m) t) p) (reverse-append (c ∷ []) l)
      ∙ ap (λ m. at (made m t) p) (map_push change_of (reverse l) c)
      ∙ ap (λ u. at u p) (made_append (map change_of (reverse l)) (change_of c ∷ []) t)
      ∙ at_change (change_of c) (made (map change_of (reverse l)) t) p

abbrev pub alters : Path → value.Change → Bool
alters p c = same p (altered (change_of c))

-- what stands at p after the changes of a list, by the latest that alters p
Told : Path → List value.Change → Option value.Change → Type 0
Told p l o = MatchOption o ((t : Tree) → at (made (map change_of l) t) p ≡ at t p) (λ c. (t : Tree) → at (made (map change_of l) t) p ≡ leaves (change_of c))

told : (p : Path) (l : List value.Change) → Told p (reverse l) (find (alters p) l)
unfolding Told
told p [] = λ t. refl
told p (c ∷ l) = by (alters p c) (find (alters p) l) (λ t. last p t c l) (told p l)
  where
    by : (b : Bool) (o : Option value.Change)
        → ((t : Tree) → at (made (map change_of (reverse (c ∷ l))) t) p ≡ cond b (leaves (change_of c)) (at (made (map change_of (reverse l)) t) p))
        → Told p (reverse l) o → Told p (reverse (c ∷ l)) (cond b (Some c) o)
    by true o k h = k
    by false None k h = λ t. k t ∙ h t
    by false (Some d) k h = λ t. k t ∙ h t

pub latest : (p : Path) (l : List value.Change) (o : Option value.Change) → o ≡ find (alters p) (reverse l)
    → MatchOption o ((t : Tree) → at (made (map change_of l) t) p ≡ at t p) (λ c. (t : Tree) → at (made (map change_of l) t) p ≡ leaves (change_of c))
unfolding Told
latest p l o e = subst (λ m. Told p m o) (reverse-reverse l) (subst (Told p (reverse (reverse l))) (sym e) (told p (reverse l)))
