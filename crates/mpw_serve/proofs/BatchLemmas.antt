-- Jobs that are done in batches, one batch after another.
use Rattle.std.proofs.Common.{◌≡◌, ℕ, ◌+◌, ◌-◌, ◌≤◌, List, ◌++◌, map, take, slice_range, sym, ap, ◌∙◌, arith}
use Rattle.std.proofs.lemmas.List.{map-append}
use lib.Seq.{take-add}

-- the results of a front, and of the batch after it, are the results of the longer front
pub front_grows : {X Y : Type 0} (f : X → Y) (xs more : List X) (ys : List Y) (from to : ℕ)
    → from ≤ to → map f xs ≡ take from ys → map f more ≡ slice_range ys from to
    → map f (xs ++ more) ≡ take to ys
front_grows f xs more ys from to le before batch =
    let whole : from + (to - from) ≡ to = omega arith in
    map-append f xs more ∙ ap (λ l. l ++ map f more) before ∙ ap (λ l. take from ys ++ l) batch
    ∙ sym (take-add from (to - from) ys) ∙ ap (λ n. take n ys) whole
