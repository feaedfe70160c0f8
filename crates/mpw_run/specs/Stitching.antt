-- A book that is put together marker by marker. It computes.
use Rattle.std.specs.Prelude.{ℕ, ◌==◌, nat_le, int_lt, List, [], ◌∷◌, fold, if◌then◌else◌}
use Rattle.std.specs.List.{flat_map}
use Rattle.std.specs.Int.{int_min, int_max}
use Rattle.std.specs.declared.cmp.Ordering.{Ordering}
use Rattle.std.specs.declared.cmp.Ordering.TheVariants.{Less, Equal, Greater}
use Rattle.mpw_edges.specs.declared.run.Piece.{Piece}
use Rattle.mpw_markers.specs.declared.marker.Marker.{Marker}
use Rattle.mpw_markers.specs.Met.{IsAscending}
use Rattle.mpw_markers.specs.Markers.{line_of, IsFilled}
use Rattle.mpw_markers.specs.Order.{line_cmp}
use Rattle.mpw_markers.specs.Stitched.{IsListed}

-- The ascending list with the number added.
abbrev pub met_with : ℕ → List ℕ → List ℕ
met_with n [] = n ∷ []
met_with n (k ∷ ks) =
    if n == k then k ∷ ks else (if nat_le n k then n ∷ k ∷ ks else k ∷ met_with n ks)

-- One marker for two of a line.
abbrev pub joined : Marker → Marker → Marker
joined m n =
    let p : Piece = m.key.piece in
    let q : Piece = n.key.piece in
    let piece : Piece = record p { y0 = int_min p.y0 q.y0; y1 = int_max p.y1 q.y1 } in
    record {
      key = record m.key { piece = piece };
      met = fold (λ met k. met_with k met) n.met m.met;
    }

-- The position of a marker relative to one of a book: before it, after it, or joined with it, if their rows
-- overlap or touch.
abbrev pub beside : Ordering → Marker → Marker → Ordering
beside Less m n = Less
beside Greater m n = Greater
beside Equal m n =
    if int_lt m.key.piece.y1 n.key.piece.y0 then Less
    else (if int_lt n.key.piece.y1 m.key.piece.y0 then Greater else Equal)

-- The book with one more marker. Which of three books it is: the marker comes before, is joined, or comes
-- after.
abbrev pub placed : Ordering → (before joins behind : List Marker) → List Marker
placed Less before joins behind = before
placed Equal before joins behind = joins
placed Greater before joins behind = behind

abbrev pub with_marker : List Marker → Marker → List Marker
with_marker [] m = m ∷ []
with_marker (n ∷ book) m = placed (beside (line_cmp (line_of m) (line_of n)) m n) (m ∷ n ∷ book)
    (with_marker book (joined m n)) (n ∷ with_marker book m)

-- The book of all lists.
abbrev pub stitched : List (List Marker) → List Marker
stitched lists = fold with_marker [] (flat_map (λ list. list) lists)

-- Each marker of the lists has a row, and touches submissions with ascending numbers.
abbrev pub AreFilled : List (List Marker) → Type 0
AreFilled lists = (m : Marker) → IsListed lists m → IsFilled m × IsAscending m.met
