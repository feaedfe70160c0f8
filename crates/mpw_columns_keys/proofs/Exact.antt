-- Runs with exactly the rows of the pieces, none of which overlaps or touches another one, are the maximal ones.
use Rattle.std.proofs.Common.{◌≡◌, ◌∙◌, ℤ, pos, ◌-ℤ◌, ◌≤ℤ◌, ◌<ℤ◌, List, ◌⊎◌, inl, inr, refl, sym, subst, ap, arith}
use Rattle.std.specs.Prelude.{Contains, ◌↔◌}
use Rattle.std.proofs.lemmas.Int.{ints, by_lt_z}
use Rattle.std.proofs.lemmas.List.Elements.{All-contains}
use Rattle.mpw_region.proofs.Held.{one_or_before}
use Rattle.mpw_markers.specs.declared.marker.Line.{Line}
use Rattle.mpw_markers.specs.declared.marker.Key.{Key}
use Rattle.mpw_markers.specs.Markers.{line_of_key}
use Rattle.mpw_markers.proofs.Marked.{same_key}
use Rattle.mpw_columns_keys.specs.Pieces.{IsRowOf, IsRunOfPieces}
use Rattle.mpw_columns_keys.specs.Internal.{IsFilled, StandsBefore}
use Rattle.mpw_columns_keys.proofs.Order.{ends_below}
use Rattle.mpw_columns_keys.proofs.Runs.{AreMadeOf}

module _ (pieces runs : List Key) (h : AreMadeOf pieces runs) where
  filled : (k : Key) → Contains runs k → IsFilled k
  filled k c = All-contains IsFilled runs k h.filled c

  -- two runs of a line are equal, or there is a gap between them
  gap : (k l : Key) → Contains runs k → Contains runs l → line_of_key k ≡ line_of_key l
      → (k ≡ l) ⊎ ((k.piece.y1 <ℤ l.piece.y0) ⊎ (l.piece.y1 <ℤ k.piece.y0))
  gap k l c d e = elim (one_or_before StandsBefore runs k k l h.ordered c d) [
    | inl same ↦ inl same
    | inr (inl before) ↦ inr (inl (ends_below k l before e))
    | inr (inr behind) ↦ inr (inr (ends_below l k behind (sym e)))
  ]

  run_has : (k : Key) → Contains runs k → (j : ℤ) → k.piece.y0 ≤ℤ j → j <ℤ k.piece.y1
      → IsRowOf pieces (line_of_key k) j
  run_has k c j low high = (h.rows (line_of_key k) j).0
      (record { key = k; there = c; on_line = refl; from = low; to = high })

  -- ---- each of them is a maximal run

  no_row_below : (k : Key) → Contains runs k → IsRowOf pieces (line_of_key k) (k.piece.y0 -ℤ pos 1)
      → ⊥
  no_row_below k c row =
      let r = (h.rows (line_of_key k) (k.piece.y0 -ℤ pos 1)).1 row in
      let low = r.from in
      let high = r.to in
      let f = filled k c in
      elim (gap r.key k r.there c r.on_line) [
        | inl same ↦
            let also : r.key.piece.y0 ≡ k.piece.y0 = ap (λ (x : Key). x.piece.y0) same in
            absurd (omega (arith, ints, low, also))
        | inr (inl before) ↦ absurd (omega (arith, ints, high, before))
        | inr (inr behind) ↦ absurd (omega (arith, ints, low, behind, f))
      ]

  no_row_above : (k : Key) → Contains runs k → IsRowOf pieces (line_of_key k) k.piece.y1 → ⊥
  no_row_above k c row =
      let r = (h.rows (line_of_key k) k.piece.y1).1 row in
      let low = r.from in
      let high = r.to in
      let f = filled k c in
      elim (gap r.key k r.there c r.on_line) [
        | inl same ↦
            let also : r.key.piece.y1 ≡ k.piece.y1 = ap (λ (x : Key). x.piece.y1) same in
            absurd (omega (arith, ints, high, also))
        | inr (inl before) ↦ absurd (omega (arith, ints, high, before, f))
        | inr (inr behind) ↦ absurd (omega (arith, ints, low, behind))
      ]

  is_run : (k : Key) → Contains runs k → IsRunOfPieces pieces k
  is_run k c = record {
    filled = filled k c;
    rows = run_has k c;
    below = no_row_below k c;
    above = no_row_above k c;
  }

  -- ---- and each maximal run is one of them

  module _ (k : Key) (run : IsRunOfPieces pieces k) (r : Key) (c : Contains runs r)
      (e : line_of_key r ≡ line_of_key k) (low : r.piece.y0 ≤ℤ k.piece.y0)
      (high : k.piece.y0 <ℤ r.piece.y1) where
    at : (j : ℤ) → r.piece.y0 ≤ℤ j → j <ℤ r.piece.y1 → IsRowOf pieces (line_of_key k) j
    at j l m = subst (λ (line : Line). IsRowOf pieces line j) e (run_has r c j l m)

    same_begin : r.piece.y0 ≡ k.piece.y0
    same_begin = by_lt_z r.piece.y0 k.piece.y0
        (λ less. absurd (run.below (at (k.piece.y0 -ℤ pos 1) (omega (arith, ints, less))
        (omega (arith, ints, high)))))
        (λ not. omega (arith, ints, low, not))

    no_longer : r.piece.y1 ≤ℤ k.piece.y1
    no_longer = by_lt_z k.piece.y1 r.piece.y1
        (λ less. let f = run.filled in
        absurd (run.above (at k.piece.y1 (omega (arith, ints, low, f)) less)))
        (λ not. not)

    no_shorter : k.piece.y1 ≤ℤ r.piece.y1
    no_shorter = by_lt_z r.piece.y1 k.piece.y1 (λ less. absurd (goes_on less)) (λ not. not)
      where
        goes_on : r.piece.y1 <ℤ k.piece.y1 → ⊥
        goes_on less =
            let s = (h.rows (line_of_key k) r.piece.y1).1
            (run.rows r.piece.y1 (omega (arith, ints, high)) less) in
            let from = s.from in
            let to = s.to in
            let f = filled r c in
            elim (gap s.key r s.there c (s.on_line ∙ sym e)) [
              | inl same ↦
                  let also : s.key.piece.y1 ≡ r.piece.y1 = ap (λ (x : Key). x.piece.y1) same in
                  absurd (omega (arith, ints, to, also))
              | inr (inl before) ↦ absurd (omega (arith, ints, to, before, f))
              | inr (inr behind) ↦ absurd (omega (arith, ints, from, behind))
            ]

    one : r ≡ k
    one = same_key r k e same_begin (omega (arith, ints, no_longer, no_shorter))

  found : (k : Key) → IsRunOfPieces pieces k → Contains runs k
  found k run =
      let f = run.filled in
      let first : IsRowOf pieces (line_of_key k) k.piece.y0 =
      run.rows k.piece.y0 (omega (arith, ints)) f in
      let s = (h.rows (line_of_key k) k.piece.y0).1 first in
      subst (Contains runs) (one k run s.key s.there s.on_line s.from s.to) s.there

  pub exact : (k : Key) → Contains runs k ↔ IsRunOfPieces pieces k
  exact k = (is_run k, found k)

-- ---- pieces without a row

-- the pieces that have a row, in any order, have the rows of all
pub made_of_all : (pieces some runs : List Key)
    → ((k : Key) → Contains some k ↔ (Contains pieces k × IsFilled k)) → AreMadeOf some runs
    → AreMadeOf pieces runs
made_of_all pieces some runs same h = record {
  filled = h.filled;
  ordered = h.ordered;
  rows = λ line j. (
    λ row. let r = (h.rows line j).0 row in record {
      key = r.key;
      there = ((same r.key).0 r.there).0;
      on_line = r.on_line;
      from = r.from;
      to = r.to;
    },
    λ r. let low = r.from in let high = r.to in (h.rows line j).1 (record {
      key = r.key;
      there = (same r.key).1 (r.there, omega (arith, ints, low, high));
      on_line = r.on_line;
      from = r.from;
      to = r.to;
    }),
  );
}
