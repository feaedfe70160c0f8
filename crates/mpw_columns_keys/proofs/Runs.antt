-- The result of one pass over pieces in order.
use Rattle.std.proofs.Common.{◌≡◌, ◌∙◌, ℕ, suc, zero, ◌+◌, ◌<◌, ◌≤◌, ℤ, pos, ◌≤ℤ◌, ◌<ℤ◌, List, [], ◌∷◌, ◌++◌, get_or, length, drop, append_assoc, ◌⊎◌, inl, inr, refl, sym, subst, ap, arith}
use Rattle.std.specs.Prelude.{All, AllPairs, Contains, ◌↔◌}
use Rattle.std.proofs.lemmas.Int.{ints, clamps, by_lt_z}
use Rattle.std.proofs.lemmas.List.{drop_more, drop_all}
use Rattle.std.proofs.lemmas.List.Elements.{All-nil, All-cons, All-head, All-tail}
use Rattle.std.proofs.lemmas.List.Kept.{AllPairs-cons}
use Rattle.mpw_markers.specs.declared.marker.Line.{Line}
use Rattle.mpw_markers.specs.declared.marker.Key.{Key}
use Rattle.mpw_markers.specs.Markers.{line_of_key}
use Rattle.mpw_markers.proofs.Marked.{no_marker}
use Rattle.mpw_markers.proofs.Unique.{cons_cases, Contains-head, Contains-tail, tail_pairs}
use Rattle.mpw_columns_keys.specs.Pieces.{IsRowOf}
use Rattle.mpw_columns_keys.specs.Internal.{IsFilled, lengthened, BeginsFirst, StandsBefore, GoesOn, IsApart, AreRunsFrom, AreRunsOf}
use Rattle.mpw_columns_keys.proofs.Order.{begins_below, begins_chain, stands_begins, stands_apart}

-- The runs have exactly the rows of the pieces, and none overlaps or touches another one.
pub record AreMadeOf (pieces runs : List Key) : Type 0 where
  pub filled : All IsFilled runs
  pub ordered : AllPairs StandsBefore runs
  pub rows : (line : Line) (j : ℤ) → IsRowOf runs line j ↔ IsRowOf pieces line j

-- ---- rows

abbrev pub HasRow : Key → Line → ℤ → Type 0
HasRow k line j = (line_of_key k ≡ line) × (k.piece.y0 ≤ℤ j) × (j <ℤ k.piece.y1)

row_of : (ks : List Key) (k : Key) (line : Line) (j : ℤ) → Contains ks k → HasRow k line j
    → IsRowOf ks line j
row_of ks k line j c h =
    record { key = k; there = c; on_line = h.0; from = h.1; to = h.2 }

row_cases : (k : Key) (ks : List Key) (line : Line) (j : ℤ) → IsRowOf (k ∷ ks) line j
    → HasRow k line j ⊎ IsRowOf ks line j
row_cases k ks line j h = elim (cons_cases k ks h.key h.there) [
  | inl e ↦ inl (subst (λ (x : Key). HasRow x line j) (sym e) (h.on_line, h.from, h.to))
  | inr c ↦ inr (row_of ks h.key line j c (h.on_line, h.from, h.to))
]

row_first : (k : Key) (ks : List Key) (line : Line) (j : ℤ) → HasRow k line j
    → IsRowOf (k ∷ ks) line j
row_first k ks line j h = row_of (k ∷ ks) k line j (Contains-head k ks) h

row_later : (k : Key) (ks : List Key) (line : Line) (j : ℤ) → IsRowOf ks line j
    → IsRowOf (k ∷ ks) line j
row_later k ks line j h =
    row_of (k ∷ ks) h.key line j (Contains-tail k ks h.key h.there) (h.on_line, h.from, h.to)

-- an extended run has the rows of both
lengthened_has : (run piece : Key) (line : Line) (j : ℤ) → GoesOn run piece
    → HasRow (lengthened run piece) line j → HasRow run line j ⊎ HasRow piece line j
lengthened_has run piece line j g h = by_lt_z j run.piece.y1 (λ within. inl (h.0, h.1, within))
    (λ out. inr (
      sym g.0 ∙ h.0,
      let starts = g.1 in omega (arith, ints, starts, out),
      let ends = h.2 in omega (arith, ints, clamps, ends, out),
    ))

run_kept : (run piece : Key) (line : Line) (j : ℤ) → HasRow run line j
    → HasRow (lengthened run piece) line j
run_kept run piece line j h = (h.0, h.1, (let ends = h.2 in omega (arith, ints, clamps, ends)))

piece_kept : (run piece : Key) (line : Line) (j : ℤ) → GoesOn run piece
    → run.piece.y0 ≤ℤ piece.piece.y0
    → HasRow piece line j → HasRow (lengthened run piece) line j
piece_kept run piece line j g starts h = (
  g.0 ∙ h.0,
  (let low = h.1 in omega (arith, ints, starts, low)),
  (let ends = h.2 in omega (arith, ints, clamps, ends)),
)

rows_of_lengthened : (run piece : Key) (pieces : List Key) (line : Line) (j : ℤ) → GoesOn run piece
    → run.piece.y0 ≤ℤ piece.piece.y0
    → IsRowOf (lengthened run piece ∷ pieces) line j ↔ IsRowOf (run ∷ piece ∷ pieces) line j
rows_of_lengthened run piece pieces line j g starts = (
  λ h. elim (row_cases (lengthened run piece) pieces line j h) [
    | inl here ↦ elim (lengthened_has run piece line j g here) [
      | inl first ↦ row_first run (piece ∷ pieces) line j first
      | inr next ↦ row_later run (piece ∷ pieces) line j (row_first piece pieces line j next)
    ]
    | inr later ↦ row_later run (piece ∷ pieces) line j (row_later piece pieces line j later)
  ],
  λ h. elim (row_cases run (piece ∷ pieces) line j h) [
    | inl first ↦ row_first _ pieces line j (run_kept run piece line j first)
    | inr rest ↦ elim (row_cases piece pieces line j rest) [
      | inl next ↦ row_first _ pieces line j (piece_kept run piece line j g starts next)
      | inr later ↦ row_later _ pieces line j later
    ]
  ],
)

rows_of_both : (run : Key) (others pieces : List Key) (line : Line) (j : ℤ)
    → (IsRowOf others line j ↔ IsRowOf pieces line j)
    → IsRowOf (run ∷ others) line j ↔ IsRowOf (run ∷ pieces) line j
rows_of_both run others pieces line j same = (
  λ h. elim (row_cases run others line j h) [
    | inl here ↦ row_first run pieces line j here
    | inr later ↦ row_later run pieces line j (same.0 later)
  ],
  λ h. elim (row_cases run pieces line j h) [
    | inl here ↦ row_first run others line j here
    | inr later ↦ row_later run others line j (same.1 later)
  ],
)

-- ---- the pass

begins_itself : (k : Key) → BeginsFirst k k
begins_itself k = inr (refl, omega (arith, ints))

longer_filled : (run piece : Key) → IsFilled run → IsFilled (lengthened run piece)
longer_filled run piece f = omega (arith, ints, clamps, f)

-- a run that has begun and the pieces that follow, none of which begins before it
pub record CanGoOn (run : Key) (pieces : List Key) : Type 0 where
  pub filled : IsFilled run
  pub others : All IsFilled pieces
  pub begins : All (BeginsFirst run) pieces
  pub ordered : AllPairs BeginsFirst pieces

pub can_begin : (piece : Key) (pieces : List Key) → All IsFilled (piece ∷ pieces)
    → AllPairs BeginsFirst (piece ∷ pieces) → CanGoOn piece pieces
can_begin piece pieces f o = record {
  filled = All-head IsFilled piece pieces f;
  others = All-tail IsFilled piece pieces f;
  begins = λ k d l. o zero (suc k) d (omega arith) (omega (arith, l));
  ordered = tail_pairs BeginsFirst piece pieces o;
}

can_lengthen : (run piece : Key) (pieces : List Key) → CanGoOn run (piece ∷ pieces)
    → CanGoOn (lengthened run piece) pieces
can_lengthen run piece pieces h = record {
  filled = longer_filled run piece h.filled;
  others = All-tail IsFilled piece pieces h.others;
  begins = λ k d l. h.begins (suc k) d (omega (arith, l));
  ordered = tail_pairs BeginsFirst piece pieces h.ordered;
}

abbrev Made : (run : Key) (pieces runs : List Key) → Type 0
Made run pieces runs = AreMadeOf (run ∷ pieces) runs × All (BeginsFirst run) runs

alone : (run : Key) → IsFilled run → Made run [] (run ∷ [])
alone run f = (
  record {
    filled = All-cons IsFilled run [] f (All-nil IsFilled);
    ordered = AllPairs-cons StandsBefore run [] (All-nil (StandsBefore run))
        (λ i j d l b. absurd (omega (arith, b)));
    rows = λ line j. (λ h. h, λ h. h);
  },
  All-cons (BeginsFirst run) run [] (begins_itself run) (All-nil (BeginsFirst run)),
)

with_longer : (run piece : Key) (pieces runs : List Key) → CanGoOn run (piece ∷ pieces)
    → GoesOn run piece → Made (lengthened run piece) pieces runs → Made run (piece ∷ pieces) runs
with_longer run piece pieces runs h g m =
    let starts = begins_below run piece (All-head (BeginsFirst run) piece pieces h.begins) g.0 in (
      record {
        filled = m.0.filled;
        ordered = m.0.ordered;
        rows = λ line j.
            let both = rows_of_lengthened run piece pieces line j g starts in (
              λ r. both.0 ((m.0.rows line j).0 r),
              λ r. (m.0.rows line j).1 (both.1 r),
            );
      },
      λ k d l. m.1 k d l,
    )

with_apart : (run piece : Key) (pieces others : List Key) → CanGoOn run (piece ∷ pieces)
    → IsApart run piece → Made piece pieces others → Made run (piece ∷ pieces) (run ∷ others)
with_apart run piece pieces others h apart m =
    let begins = All-head (BeginsFirst run) piece pieces h.begins in
    let stands = stands_apart run piece begins apart in (
      record {
        filled = All-cons IsFilled run others h.filled m.0.filled;
        ordered = AllPairs-cons StandsBefore run others
            (λ k d l. stands_begins run piece (get_or others k d) stands (m.1 k d l)) m.0.ordered;
        rows = λ line j. rows_of_both run others (piece ∷ pieces) line j (m.0.rows line j);
      },
      All-cons (BeginsFirst run) run others (begins_itself run)
          (λ k d l. begins_chain run piece (get_or others k d) begins (m.1 k d l)),
    )

made : (run : Key) (pieces runs : List Key) → CanGoOn run pieces → AreRunsFrom run pieces runs
    → Made run pieces runs
made run [] runs h e = subst (Made run []) (sym e) (alone run h.filled)
made run (piece ∷ pieces) runs h (inl longer) =
    with_longer run piece pieces runs h longer.0
    (made (lengthened run piece) pieces runs (can_lengthen run piece pieces h) longer.1)
made run (piece ∷ pieces) runs h (inr apart) =
    subst (Made run (piece ∷ pieces)) (sym apart.1.1)
    (with_apart run piece pieces apart.1.0 h apart.0
    (made piece pieces apart.1.0 (can_begin piece pieces h.others h.ordered) apart.1.2))

pub runs_made : (pieces runs : List Key) → All IsFilled pieces → AllPairs BeginsFirst pieces
    → AreRunsOf pieces runs → AreMadeOf pieces runs
runs_made [] runs f o e = subst (AreMadeOf []) (sym e) (record {
  filled = All-nil IsFilled;
  ordered = λ i j d l b. absurd (omega (arith, b));
  rows = λ line j. (λ h. h, λ h. h);
})
runs_made (piece ∷ pieces) runs f o h =
    (made piece pieces runs (can_begin piece pieces f o) h).0

-- ---- the loop

-- a default key for lists
abbrev pub no_key : Key
no_key = no_marker.key

-- whatever the runs of the rest are: appended to those that are done, they are the runs of all
abbrev pub ComeTo : (first : Key) (rest done : List Key) (run : Key) (i : ℕ) → Type 0
ComeTo first rest done run i = (others : List Key) → AreRunsFrom run (drop i rest) others
    → AreRunsFrom first rest (done ++ others)

module _ (first : Key) (rest done : List Key) (run piece : Key) (i : ℕ)
    (h : ComeTo first rest done run i) (within : i < length rest)
    (is : piece ≡ get_or rest i piece) where
  left : drop i rest ≡ piece ∷ drop (i + 1) rest
  left = drop_more rest i piece within
      ∙ ap (λ (k : Key). k ∷ drop (i + 1) rest) (sym is)

  pub goes_on_to : GoesOn run piece → ComeTo first rest done (lengthened run piece) (i + 1)
  goes_on_to g others follow = h others
      (subst (λ (ks : List Key). AreRunsFrom run ks others) (sym left) (inl (g, follow)))

  pub begins_anew : IsApart run piece → ComeTo first rest (done ++ run ∷ []) piece (i + 1)
  begins_anew apart others follow =
      subst (AreRunsFrom first rest) (sym (append_assoc done (run ∷ []) others))
      (h (run ∷ others) (subst (λ (ks : List Key). AreRunsFrom run ks (run ∷ others)) (sym left)
      (inr (apart, (others, refl, follow)))))

pub come_to_end : (first : Key) (rest done : List Key) (run : Key) (i : ℕ)
    → ComeTo first rest done run i → length rest ≤ i → AreRunsFrom first rest (done ++ run ∷ [])
come_to_end first rest done run i h le =
    h (run ∷ []) (subst (λ (ks : List Key). AreRunsFrom run ks (run ∷ []))
    (sym (drop_all i rest le)) refl)
