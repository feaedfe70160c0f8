-- For private functions and proofs: the order of pieces, and how one pass over them makes runs.
use Rattle.std.specs.Prelude.{◌≡◌, ◌+◌, ◌*◌, ℕ, ◌≤ℤ◌, ◌<ℤ◌, Bool, List, [], ◌∷◌, ◌⊎◌, int_lt}
use Rattle.std.specs.Int.{int_max}
use Rattle.std.specs.Ordering.{nat_cmp, int_cmp, ordering_then}
use Rattle.std.specs.declared.cmp.Ordering.{Ordering}
use Rattle.std.specs.declared.cmp.Ordering.TheVariants.{Less}
use Rattle.mpw_markers.specs.declared.marker.Line.{Line}
use Rattle.mpw_markers.specs.declared.marker.Key.{Key}
use Rattle.mpw_markers.specs.Markers.{line_of_key}

-- the piece has a row, and the same as a test
abbrev pub IsFilled : Key → Type 0
IsFilled k = k.piece.y0 <ℤ k.piece.y1

abbrev pub has_rows : Key → Bool
has_rows k = int_lt k.piece.y0 k.piece.y1

-- lines of one axis by the number of their list, x1 and x2
abbrev pub line_number : Line → ℕ
line_number l = 2 * l.rule + l.side

abbrev pub line_cmp : Line → Line → Ordering
line_cmp a b = ordering_then (nat_cmp (line_number a) (line_number b))
    (ordering_then (int_cmp a.x1 b.x1) (int_cmp a.x2 b.x2))

-- the first key's line comes first, or on one line it begins no later
abbrev pub BeginsFirst : Key → Key → Type 0
BeginsFirst k l = (line_cmp (line_of_key k) (line_of_key l) ≡ Less)
    ⊎ ((line_of_key k ≡ line_of_key l) × (k.piece.y0 ≤ℤ l.piece.y0))

-- the first key's line comes first, or on one line it ends before the second begins, with a gap
abbrev pub StandsBefore : Key → Key → Type 0
StandsBefore k l = (line_cmp (line_of_key k) (line_of_key l) ≡ Less)
    ⊎ ((line_of_key k ≡ line_of_key l) × (k.piece.y1 <ℤ l.piece.y0))

-- the run, extended to the end of the piece
abbrev pub lengthened : Key → Key → Key
lengthened run next =
    record run { piece = record run.piece { y1 = int_max run.piece.y1 next.piece.y1 } }

-- the piece continues the run, or it doesn't
abbrev pub GoesOn : Key → Key → Type 0
GoesOn run next = (line_of_key run ≡ line_of_key next) × (next.piece.y0 ≤ℤ run.piece.y1)

abbrev pub IsApart : Key → Key → Type 0
IsApart run next = line_of_key run ≡ line_of_key next → run.piece.y1 <ℤ next.piece.y0

-- the runs that are made from one that has begun and from the pieces that follow
abbrev pub AreRunsFrom : Key → (pieces runs : List Key) → Type 0
AreRunsFrom run [] runs = runs ≡ run ∷ []
AreRunsFrom run (piece ∷ pieces) runs =
    (GoesOn run piece × AreRunsFrom (lengthened run piece) pieces runs)
    ⊎ (IsApart run piece
    × ((others : List Key) × (runs ≡ run ∷ others) × AreRunsFrom piece pieces others))

-- the runs of pieces
abbrev pub AreRunsOf : (pieces runs : List Key) → Type 0
AreRunsOf [] runs = runs ≡ []
AreRunsOf (piece ∷ pieces) runs = AreRunsFrom piece pieces runs
