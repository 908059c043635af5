-- Which bytes are a name, a path and a content. Assumes nothing.
use Rattle.std.specs.Prelude.{◌≡◌, ℕ, ◌-◌, ◌≤◌, Bool, true, cond, not, ◌&&◌, ◌||◌, ◌↔◌, List, [], ◌∷◌, ◌++◌, length, drop, codes, ◌==◌, nat_le, slice_index}
use Rattle.std.specs.List.{list_all}
use Rattle.fs.specs.Tree.{same}

abbrev pub all : {X : Type 0} → (X → Bool) → List X → Bool
all = list_all

-- a-z 0-9 . _ -
abbrev pub name_byte : ℕ → Bool
name_byte b = (nat_le 97 b && nat_le b 122) || (nat_le 48 b && nat_le b 57) || b == 46 || b == 95 || b == 45

abbrev pub is_name : List ℕ → Bool
is_name c = nat_le 1 (length c) && nat_le (length c) 16 && not (same c (codes ".")) && not (same c (codes "..")) && all name_byte c

-- the parts between the slashes; `part` is what has been read of the part at hand
abbrev pub parts_from : List ℕ → List ℕ → List (List ℕ)
parts_from part [] = part ∷ []
parts_from part (b ∷ bs) = cond (b == 47) (part ∷ parts_from [] bs) (parts_from (part ++ b ∷ []) bs)

abbrev pub components : List ℕ → List (List ℕ)
components bs = parts_from [] bs

abbrev pub is_path : List ℕ → Bool
is_path bs = nat_le 2 (length bs) && nat_le (length bs) 48 && slice_index bs 0 == 47 && not (slice_index bs (length bs - 1) == 47) && all is_name (components (drop 1 bs))

abbrev pub is_content : List ℕ → Bool
is_content c = nat_le (length c) 64

-- names, each behind a slash
abbrev pub spelled : List (List ℕ) → List ℕ
spelled [] = []
spelled (c ∷ cs) = 47 ∷ (c ++ spelled cs)

-- these names, at least one, spell these bytes, which are few enough
pub record Spells (bs : List ℕ) (cs : List (List ℕ)) : Type 0 where
  pub bytes : bs ≡ spelled cs
  pub some : 1 ≤ length cs
  pub short : length bs ≤ 48
  pub names : all is_name cs ≡ true

-- a path is one name or more, each behind a slash, 48 bytes at most
abbrev pub PathsAreNames : Type 0
PathsAreNames = (bs : List ℕ) → (is_path bs ≡ true) ↔ ((cs : List (List ℕ)) × Spells bs cs)
