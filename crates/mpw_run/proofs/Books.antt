-- Markers of a book that share a row.
use Rattle.std.proofs.Common.{◌≡◌, ℤ, List, inl, inr, sym, ◌∙◌, arith}
use Rattle.std.specs.Prelude.{Contains}
use Rattle.std.proofs.lemmas.Int.{ints}
use Rattle.mpw_markers.specs.declared.marker.Line.{Line}
use Rattle.mpw_markers.specs.declared.marker.Marker.{Marker}
use Rattle.mpw_markers.specs.Markers.{HasRow}
use Rattle.mpw_markers.specs.Book.{IsBook}
use Rattle.mpw_markers.proofs.Marked.{alike}

-- markers of a book that share a row of a line are one
pub one_by_row : (book : List Marker) (m n : Marker) (line : Line) (j : ℤ) → IsBook book
    → Contains book m → Contains book n → HasRow m line j → HasRow n line j → m ≡ n
one_by_row book m n line j h p q r s =
    elim (alike book m n h p q (r.0 ∙ sym s.0)) [
      | inl same ↦ same
      | inr (inl before) ↦ absurd (omega (arith, ints, before, r.2, s.1))
      | inr (inr behind) ↦ absurd (omega (arith, ints, behind, s.2, r.1))
    ]
