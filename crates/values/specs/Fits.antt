-- What a rule allows is short. Assumes nothing.
use Rattle.std.specs.Prelude.{◌≡◌, ℕ, ◌≤◌, true, List, length}
use Rattle.std.proofs.lemmas.Bool.{and_parts, leb-true}
use Rattle.values.specs.Rules.{is_path, is_name, is_content}

pub path_fits : (t : List ℕ) → is_path t ≡ true → length t ≤ 48
path_fits t h = leb-true (length t) 48 (and_parts _ _ (and_parts _ _ (and_parts _ _ (and_parts _ _ h).0).0).0).1

pub name_fits : (t : List ℕ) → is_name t ≡ true → length t ≤ 16
name_fits t h = leb-true (length t) 16 (and_parts _ _ (and_parts _ _ (and_parts _ _ (and_parts _ _ h).0).0).0).1

pub content_fits : (t : List ℕ) → is_content t ≡ true → length t ≤ 64
content_fits t h = leb-true (length t) 64 h
