-- The first of some names in alphabetical order, one more each turn.
use Rattle.std.proofs.Common.{ℕ, ◌+◌, ◌<◌, List, [], ◌∷◌, ◌++◌, length, take, get_or, append-nil, Option, None, Some}
use Rattle.std.specs.List.{filter_map, cons_option}
use Rattle.std.proofs.lemmas.List.{take_more}
use Rattle.std.proofs.lemmas.List.Elements.{filter_map-append}
use Rattle.mpw_geom.specs.Least.{lesser, IsLeast}
use Rattle.mpw_geom.proofs.LeastLemmas.{least-push}

abbrev Name : Type 0
Name = List ℕ

least-option : (ns : List Name) (a o : Option Name) → IsLeast ns o
    → IsLeast (ns ++ cons_option a []) (lesser o a)
least-option ns None None least = rw (append-nil ns) least
least-option ns None (Some one) least = rw (append-nil ns) least
least-option ns (Some n) o least = least-push ns n o least

-- a loop's turn at a number that may give a name
pub least-turn : (gives : ℕ → Option Name) (numbers : List ℕ) (i : ℕ) (o : Option Name)
    → i < length numbers → IsLeast (filter_map gives (take i numbers)) o
    → IsLeast (filter_map gives (take (i + 1) numbers)) (lesser o (gives (get_or numbers i 0)))
least-turn gives numbers i o inside least =
    let number : ℕ = get_or numbers i 0 in
    rw (take_more numbers i 0 inside, filter_map-append gives (take i numbers) (number ∷ []))
    (least-option (filter_map gives (take i numbers)) (gives number) o least)
