-- Markers that are referred to.
use Rattle.std.proofs.Common.{◌≡◌, ℕ, ◌<◌, Bor, List, length, get_or, take, drop, map, sym, ap, ◌∙◌}
use Rattle.std.proofs.lemmas.List.{get_or-map, length-map, take-map, drop-map}
use Rattle.mpw_markers.specs.declared.marker.Marker.{Marker}

-- the markers that are referred to
abbrev pub seen : List (Bor Marker) → List Marker
seen ms = map (λ (m : Bor Marker). m.now) ms

-- there are as many
pub many : (ms : List (Bor Marker)) → length (seen ms) ≡ length ms
many ms = length-map ms (λ (m : Bor Marker). m.now)

-- the marker at an index
pub at : (ms : List (Bor Marker)) (i : ℕ) (m : Bor Marker) → i < length ms → m ≡ get_or ms i m
    → m.now ≡ get_or (seen ms) i m.now
at ms i m l is =
    ap (λ (x : Bor Marker). x.now) is ∙ sym (get_or-map (λ (x : Bor Marker). x.now) ms i m m.now l)

-- the first ones, and those after them
pub first_ones : (ms : List (Bor Marker)) (n : ℕ) → seen (take n ms) ≡ take n (seen ms)
first_ones ms n = sym (take-map (λ (x : Bor Marker). x.now) n ms)

pub behind : (ms : List (Bor Marker)) (n : ℕ) → seen (drop n ms) ≡ drop n (seen ms)
behind ms n = sym (drop-map (λ (x : Bor Marker). x.now) n ms)
