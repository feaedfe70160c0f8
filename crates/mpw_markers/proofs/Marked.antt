-- Markers, their rows, and lists of them.
use Rattle.std.proofs.Common.{◌≡◌, ℤ, pos, ◌-ℤ◌, ◌≤ℤ◌, ◌<ℤ◌, List, [], ◌⊎◌, inl, inr, sym, ap, ◌∙◌, arith, get_or}
use Rattle.std.specs.Prelude.{Contains, All}
use Rattle.std.proofs.lemmas.Int.{ints, by_lt_z}
use Rattle.std.proofs.lemmas.List.Elements.{All-contains, Contains-get_or}
use Rattle.mpw_region.proofs.Held.{one_or_before}
use Rattle.mpw_edges.specs.declared.run.Axis.TheVariants.{V}
use Rattle.mpw_edges.specs.declared.run.Piece.{Piece}
use Rattle.mpw_markers.specs.declared.marker.Line.{Line}
use Rattle.mpw_markers.specs.declared.marker.Key.{Key}
use Rattle.mpw_markers.specs.declared.marker.Marker.{Marker}
use Rattle.mpw_markers.specs.Markers.{line_of, line_of_key, IsFilled, HasRow, CoversRow, LiesIn}
use Rattle.mpw_markers.specs.Order.{StandsBefore}
use Rattle.mpw_markers.specs.Book.{IsBook}
use Rattle.mpw_markers.specs.Stitched.{IsJoined}
use Rattle.mpw_markers.proofs.Order.{apart}

-- the default of the code's index past the end
abbrev pub no_marker : Marker
no_marker =
    let piece : Piece = record {
      axis = V;
      side = 0;
      x1 = pos 0;
      x2 = pos 0;
      y0 = pos 0;
      y1 = pos 0;
    } in
    record { key = record { rule = 0; piece = piece }; met = [] }

-- the key of the rows from y0 to before y1 on a line
abbrev pub key_on : Line → (y0 y1 : ℤ) → Key
key_on l y0 y1 =
    let piece : Piece = record {
      axis = l.axis;
      side = l.side;
      x1 = l.x1;
      x2 = l.x2;
      y0 = y0;
      y1 = y1;
    } in
    record { rule = l.rule; piece = piece }

-- the line and the rows determine the key, and with what it touches the marker
pub same_key : (k l : Key) → line_of_key k ≡ line_of_key l → k.piece.y0 ≡ l.piece.y0
    → k.piece.y1 ≡ l.piece.y1 → k ≡ l
same_key k l e f g = λ i. key_on (e i) (f i) (g i)

pub same_marker : (m n : Marker) → line_of m ≡ line_of n → m.key.piece.y0 ≡ n.key.piece.y0
    → m.key.piece.y1 ≡ n.key.piece.y1 → m.met ≡ n.met → m ≡ n
same_marker m n e f g h = λ i. record { key = same_key m.key n.key e f g i; met = h i }

-- what is true of each contained element is true of all
pub All-from_contained : {X : Type 0} (P : X → Type 0) (xs : List X)
    → ((x : X) → Contains xs x → P x) → All P xs
All-from_contained P xs h k d l = h (get_or xs k d) (Contains-get_or xs k d l)

-- two markers of a book on one line are equal, or apart
pub alike : (book : List Marker) (m n : Marker) → IsBook book → Contains book m → Contains book n
    → line_of m ≡ line_of n → (m ≡ n) ⊎ ((m.key.piece.y1 <ℤ n.key.piece.y0)
    ⊎ (n.key.piece.y1 <ℤ m.key.piece.y0))
alike book m n h p q e =
    elim (one_or_before StandsBefore book no_marker m n h.ordered p q) [
      | inl same ↦ inl same
      | inr (inl before) ↦ inr (inl (apart m n before e))
      | inr (inr behind) ↦ inr (inr (apart n m behind (sym e)))
    ]

-- the row before a marker of a book, and the row after it, are in no marker of it
pub none_below : (book : List Marker) (m : Marker) → IsBook book → Contains book m
    → CoversRow book (line_of m) (m.key.piece.y0 -ℤ pos 1) → ⊥
none_below book m h p c =
    let filled = All-contains IsFilled book m h.filled p in
    elim (alike book m c.0 h p c.1 (sym c.2.0)) [
      | inl same ↦ omega (arith, ints, ap (λ (n : Marker). n.key.piece.y0) same, c.2.1)
      | inr (inl before) ↦ omega (arith, ints, before, c.2.1, filled)
      | inr (inr behind) ↦ omega (arith, ints, behind, c.2.2)
    ]

pub none_above : (book : List Marker) (m : Marker) → IsBook book → Contains book m
    → CoversRow book (line_of m) m.key.piece.y1 → ⊥
none_above book m h p c =
    let filled = All-contains IsFilled book m h.filled p in
    elim (alike book m c.0 h p c.1 (sym c.2.0)) [
      | inl same ↦ omega (arith, ints, ap (λ (n : Marker). n.key.piece.y1) same, c.2.2)
      | inr (inl before) ↦ omega (arith, ints, before, c.2.1)
      | inr (inr behind) ↦ omega (arith, ints, behind, filled, c.2.2)
    ]

-- a part that has a row of a marker of the book lies in it
pub lies_in : (part : Marker → Type 0) (book : List Marker) (m n : Marker) (line : Line) (j : ℤ)
    → IsJoined part book → Contains book n → part m → HasRow m line j → HasRow n line j → LiesIn m n
lies_in part book m n line j h c p r s = (e, below, above)
  where
    e : line_of m ≡ line_of n
    e = r.0 ∙ sym s.0

    row : (i : ℤ) → m.key.piece.y0 ≤ℤ i → i <ℤ m.key.piece.y1 → CoversRow book (line_of n) i
    row i l g = (h.rows (line_of n) i).1 (m, p, (e, l, g))

    below : n.key.piece.y0 ≤ℤ m.key.piece.y0
    below = by_lt_z m.key.piece.y0 n.key.piece.y0 (λ less. absurd (none_below book n h.markers c
        (row (n.key.piece.y0 -ℤ pos 1) (omega (arith, ints, less))
        (omega (arith, ints, s.1, r.2)))))
        (λ more. more)

    above : m.key.piece.y1 ≤ℤ n.key.piece.y1
    above = by_lt_z n.key.piece.y1 m.key.piece.y1 (λ less. absurd (none_above book n h.markers c
        (row n.key.piece.y1 (omega (arith, ints, r.1, s.2)) less))) (λ more. more)
