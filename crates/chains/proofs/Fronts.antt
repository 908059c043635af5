-- A list that stands in front of another, and stays there. Assumes nothing.
use Rattle.std.proofs.Common.{◌≡◌, ◌≤◌, List, ◌++◌, length, take, ap, ◌∙◌, arith}
use Rattle.std.proofs.lemmas.List.{length-take, take-append-le}

pub front_more : {A : Type 0} (old xs ys zs : List A) → zs ≡ xs ++ ys → take (length old) xs ≡ old → take (length old) zs ≡ old
front_more old xs ys zs e h =
    let long : length old ≤ length xs = omega (arith, length-take (length old) xs, ap length h) in
    ap (take (length old)) e ∙ take-append-le (length old) xs ys long ∙ h
