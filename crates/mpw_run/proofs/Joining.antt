-- Books that are put together marker by marker.
use Rattle.std.proofs.Common.{[], ◌≡◌, ℕ, List, ◌∷◌, ◌⊎◌, inl, inr, sym, subst, arith}
use Rattle.std.specs.Prelude.{Contains, ◌↔◌, fold}
use Rattle.std.specs.List.{flat_map}
use Rattle.std.proofs.lemmas.List.Elements.{Contains-append_left, Contains-append_right, Contains-append_cases}
use Rattle.mpw_markers.specs.declared.marker.Marker.{Marker}
use Rattle.mpw_markers.specs.Markers.{line_of, LiesIn}
use Rattle.mpw_markers.specs.Book.{IsBook}
use Rattle.mpw_markers.specs.Stitched.{IsJoined, IsListed}
use Rattle.mpw_markers.proofs.Joins.{IsJoined-same}
use Rattle.mpw_markers.proofs.Marked.{lies_in}
use Rattle.mpw_markers.proofs.Unique.{cons_cases, Contains-head, Contains-tail}
use Rattle.mpw_run.specs.Stitching.{with_marker, stitched}
use Rattle.mpw_run.specs.Laws.{StitchedComputes}
use Rattle.mpw_run.proofs.Uniting.{head_at, none_in}
use Rattle.mpw_run.proofs.Insertion.{IsPart, AreParts, trans_lies, wider, own_rows, own_book, parts_of, insert}

-- ---- many markers

-- a book of a book's markers and one more has the parts of that book
compose : (P : Marker → Type 0) (m : Marker) (book new : List Marker) → AreParts P → IsJoined P book
    → IsJoined (λ x. Contains book x ⊎ (m ≡ x)) new → IsJoined (λ x. P x ⊎ (m ≡ x)) new
compose P m book new parts h k = record {
  markers = k.markers;
  rows = λ line j. (
    λ c. (let p = (k.rows line j).0 c in elim p.1 [
      | inl b ↦ (let q = (h.rows line j).0 (p.0, b, p.2) in (q.0, inl q.1, q.2))
      | inr e ↦ (p.0, inr e, p.2)
    ]),
    λ p. elim p.1 [
      | inl q ↦ (let b = (h.rows line j).1 (p.0, q, p.2) in (k.rows line j).1 (b.0, inl b.1, b.2))
      | inr e ↦ (k.rows line j).1 (p.0, inr e, p.2)
    ],
  );
  met = λ y o c. (to y o c, from y o c);
}
  where
    to : (y : Marker) (o : ℕ) → Contains new y → Contains y.met o → (x : Marker) × (P x ⊎ (m ≡ x))
        × LiesIn x y × Contains x.met o
    to y o c x = let p = (k.met y o c).0 x in elim p.1 [
      | inl b ↦ (let q = (h.met p.0 o b).0 p.3 in (q.0, inl q.1, trans_lies q.0 p.0 y q.2 p.2, q.3))
      | inr e ↦ (p.0, inr e, p.2, p.3)
    ]

    from : (y : Marker) (o : ℕ) → Contains new y → (x : Marker) × (P x ⊎ (m ≡ x)) × LiesIn x y
        × Contains x.met o → Contains y.met o
    from y o c p = elim p.1 [
      | inl q ↦
          let row = own_rows p.0 (parts p.0 q).0 in
          let b = (h.rows (line_of p.0) p.0.key.piece.y0).1 (p.0, q, row) in
          let within = lies_in P book p.0 b.0 (line_of p.0) p.0.key.piece.y0 h b.1 q row b.2 in
          let lies =
          lies_in (λ x. Contains book x ⊎ (m ≡ x)) new b.0 y (line_of p.0) p.0.key.piece.y0 k c
          (inl b.1) b.2 (wider p.0 y (line_of p.0) p.0.key.piece.y0 p.2 row) in
          (k.met y o c).1 (b.0, inl b.1, lies, (h.met b.0 o b.1).1 (p.0, q, within, p.3))
      | inr e ↦ (k.met y o c).1 (p.0, inr e, p.2, p.3)
    ]

fold_joined : (P : Marker → Type 0) (book ms : List Marker) → AreParts P → AreParts (Contains ms)
    → IsJoined P book → IsJoined (λ x. P x ⊎ Contains ms x) (fold with_marker book ms)
fold_joined P book [] parts own h = IsJoined-same P (λ x. P x ⊎ Contains [] x) book
    (λ x. (λ p. inl p, λ s. elim s [ inl p ↦ p | inr c ↦ absurd (none_in x c) ])) h
fold_joined P book (m ∷ ms) parts own h =
    let pm : IsPart m = own m (Contains-head m ms) in
    IsJoined-same (λ x. (P x ⊎ (m ≡ x)) ⊎ Contains ms x) (λ x. P x ⊎ Contains (m ∷ ms) x)
    (fold with_marker (with_marker book m) ms)
    (λ x. (
      λ s. elim s [
        | inl (inl p) ↦ inl p
        | inl (inr e) ↦ inr (head_at m x ms e)
        | inr c
            ↦ inr (Contains-tail m ms x c)
      ],
      λ s. elim s [
        | inl p ↦ inl (inl p)
        | inr c
            ↦ elim (cons_cases m ms x c) [ inl e ↦ inl (inr e) | inr d ↦ inr d ]
      ],
    ))
    (fold_joined (λ x. P x ⊎ (m ≡ x)) (with_marker book m) ms
    (λ x s. elim s [ inl p ↦ parts x p | inr e ↦ subst IsPart e pm ])
    (λ x c. own x (Contains-tail m ms x c))
    (compose P m book (with_marker book m) parts h (insert book m h.markers pm)))

-- ---- all lists

abbrev all_of : List (List Marker) → List Marker
all_of lists = flat_map (λ list. list) lists

listed : (lists : List (List Marker)) (x : Marker) → Contains (all_of lists) x ↔ IsListed lists x
listed [] x = (λ c. absurd (none_in x c), λ p. absurd (none_in p.0 p.1))
listed (l ∷ ls) x =
    let h = listed ls x in (
      λ c. elim (Contains-append_cases l (all_of ls) x c) [
        | inl d ↦ (l, Contains-head l ls, d)
        | inr d ↦ (let p = h.0 d in (p.0, Contains-tail l ls p.0 p.1, p.2))
      ],
      λ p. elim (cons_cases l ls p.0 p.1) [
        | inl e ↦ Contains-append_left l (all_of ls) x
            (subst (λ (list : List Marker). Contains list x) (sym e) p.2)
        | inr d ↦ Contains-append_right l (all_of ls) x (h.1 (p.0, d, p.2))
      ],
    )

no_book : IsBook []
no_book = record {
  filled = λ k d l. absurd (omega (arith, l));
  ordered = λ i j d l b. absurd (omega (arith, b));
  ascending = λ k d l. absurd (omega (arith, l));
}

pub computes : StitchedComputes
computes lists filled =
    IsJoined-same (λ x. Contains [] x ⊎ Contains (all_of lists) x) (IsListed lists) (stitched lists)
    (λ x. (
      λ s. elim s [ inl c ↦ absurd (none_in x c) | inr c ↦ (listed lists x).0 c ],
      λ p. inr ((listed lists x).1 p),
    ))
    (fold_joined (Contains []) [] (all_of lists) (parts_of [] no_book)
    (λ x c. filled x ((listed lists x).0 c)) (own_book [] no_book))
