-- The book, as one run after another is added.
use Rattle.std.proofs.Common.{◌≡◌, ℕ, ◌+◌, ℤ, ◌≤ℤ◌, ◌<ℤ◌, List, [], ◌∷◌, ◌++◌, take, drop, ◌⊎◌, inl, inr, refl, sym, subst, ap, ◌∙◌, arith}
use Rattle.std.specs.Prelude.{Contains, All, ◌↔◌}
use Rattle.std.proofs.lemmas.Int.{ints}
use Rattle.std.proofs.lemmas.List.{take-append-drop, take-take, drop-take, drop-drop}
use Rattle.std.proofs.lemmas.List.Elements.{All-nil, All-push, All-contains, All-take, All-drop, Contains-append_left, Contains-append_right, Contains-append_cases, Contains-push_cases}
use Rattle.std.proofs.lemmas.List.Quantifiers.{all_pairs_push}
use Rattle.mpw_region.proofs.Held.{Held-push_left, Held-push_new, Held-push_cases}
use Rattle.mpw_markers.specs.declared.marker.Line.{Line}
use Rattle.mpw_markers.specs.declared.marker.Marker.{Marker}
use Rattle.mpw_markers.specs.Met.{IsAscending}
use Rattle.mpw_markers.specs.Markers.{line_of, IsFilled, HasRow, CoversRow, LiesIn}
use Rattle.mpw_markers.specs.Order.{StandsBefore}
use Rattle.mpw_markers.specs.Stitched.{IsJoined}
use Rattle.mpw_markers.specs.Internal.Runs.{AddsRun}
use Rattle.mpw_markers.proofs.Order.{apart, StandsBefore-begins}
use Rattle.mpw_markers.proofs.Marked.{All-from_contained}

-- equivalent parts
pub IsJoined-same : (P Q : Marker → Type 0) (book : List Marker) → ((m : Marker) → P m ↔ Q m)
    → IsJoined P book → IsJoined Q book
IsJoined-same P Q book same h = record {
  markers = h.markers;
  rows = λ line j. (
    λ c. let p = (h.rows line j).0 c in (p.0, (same p.0).0 p.1, p.2),
    λ p. (h.rows line j).1 (p.0, (same p.0).1 p.1, p.2),
  );
  met = λ n o c. (
    λ x. let p = (h.met n o c).0 x in (p.0, (same p.0).0 p.1, p.2, p.3),
    λ p. (h.met n o c).1 (p.0, (same p.0).1 p.1, p.2, p.3),
  );
}

-- the marker has exactly the rows of the parts, which lie in it, and touches what they touch
record IsRunFor (part : Marker → Type 0) (r : Marker) : Type 0 where
  pub filled : IsFilled r
  pub rows : (j : ℤ) → r.key.piece.y0 ≤ℤ j → j <ℤ r.key.piece.y1 → (m : Marker) × part m
      × HasRow m (line_of r) j
  pub within : (m : Marker) → part m → LiesIn m r
  pub ascending : IsAscending r.met
  pub met : (origin : ℕ) → Contains r.met origin ↔ ((m : Marker) × part m × Contains m.met origin)

added : (old new : Marker → Type 0) (book : List Marker) (r : Marker)
    → ((m : Marker) → old m → IsFilled m) → ((m : Marker) → new m → IsFilled m) → IsJoined old book
    → ((n m : Marker) → Contains book n → new m → StandsBefore n m) → IsRunFor new r
    → IsJoined (λ m. old m ⊎ new m) (book ++ r ∷ [])
added old new book r fo fn h near run = record {
  markers = record {
    filled = All-push IsFilled book r h.markers.filled run.filled;
    ordered = all_pairs_push StandsBefore book r h.markers.ordered
        (All-from_contained (λ n. StandsBefore n r) book before);
    ascending = All-push (λ m. IsAscending m.met) book r h.markers.ascending run.ascending;
  };
  rows = λ line j. (to line j, from line j);
  met = λ n o c. elim (Contains-push_cases book r n c) [
    | inl d ↦ at_old n o d
    | inr e ↦ subst (λ (x : Marker). Contains x.met o
        ↔ ((m : Marker) × (old m ⊎ new m) × LiesIn m x × Contains m.met o)) e (at_new o)
  ];
}
  where
    before : (n : Marker) → Contains book n → StandsBefore n r
    before n c =
        let p = run.rows r.key.piece.y0 (omega (arith, ints)) run.filled in
        StandsBefore-begins n p.0 r (near n p.0 c p.1) (inr (p.2.0, p.2.1))

    to : (line : Line) (j : ℤ) → CoversRow (book ++ r ∷ []) line j → (m : Marker) × (old m ⊎ new m)
        × HasRow m line j
    to line j c = elim (Held-push_cases (λ m. HasRow m line j) book r c) [
      | inl d ↦ let p = (h.rows line j).0 d in (p.0, inl p.1, p.2)
      | inr q ↦ let p = run.rows j q.1 q.2 in (p.0, inr p.1, (p.2.0 ∙ q.0, p.2.1, p.2.2))
    ]

    from : (line : Line) (j : ℤ) → (m : Marker) × (old m ⊎ new m) × HasRow m line j
        → CoversRow (book ++ r ∷ []) line j
    from line j p = elim p.1 [
      | inl o ↦ Held-push_left (λ m. HasRow m line j) book r ((h.rows line j).1 (p.0, o, p.2))
      | inr n ↦
          let w = run.within p.0 n in
          Held-push_new (λ m. HasRow m line j) book r
          (sym w.0 ∙ p.2.0, omega (arith, ints, w.1, p.2.1), omega (arith, ints, w.2, p.2.2))
    ]

    at_old : (n : Marker) (o : ℕ) → Contains book n
        → Contains n.met o ↔ ((m : Marker) × (old m ⊎ new m) × LiesIn m n × Contains m.met o)
    at_old n o d = (
      λ x. let p = (h.met n o d).0 x in (p.0, inl p.1, p.2, p.3),
      λ p. elim p.1 [
        | inl i ↦ (h.met n o d).1 (p.0, i, p.2, p.3)
        | inr i ↦
            let gap = apart n p.0 (near n p.0 d i) (sym p.2.0) in
            let f = fn p.0 i in
            absurd (omega (arith, ints, gap, f, p.2.2))
      ],
    )

    at_new : (o : ℕ) → Contains r.met o
        ↔ ((m : Marker) × (old m ⊎ new m) × LiesIn m r × Contains m.met o)
    at_new o = (
      λ x. let p = (run.met o).0 x in (p.0, inr p.1, run.within p.0 p.1, p.2),
      λ p. elim p.1 [
        | inl i ↦
            let f = fo p.0 i in
            let s =
            (h.rows (line_of p.0) p.0.key.piece.y0).1 (p.0, i, (refl, omega (arith, ints), f))
            in
            let gap = apart s.0 r (before s.0 s.1) (s.2.0 ∙ p.2.0) in
            absurd (omega (arith, ints, gap, p.2.1, s.2.2))
        | inr i ↦ (run.met o).1 (p.0, i, p.3)
      ],
    )

-- ---- along the ordered list

-- how far the markers are joined into runs
pub record Joins (markers : List Marker) (start : ℕ) (book : List Marker) : Type 0 where
  pub joined : IsJoined (Contains (take start markers)) book
  pub near : (n m : Marker) → Contains book n → Contains (drop start markers) m → StandsBefore n m

pub Joins-start : (markers : List Marker) → Joins markers 0 []
Joins-start markers = record {
  joined = record {
    markers = record {
      filled = All-nil IsFilled;
      ordered = λ i j d l b. absurd (omega arith);
      ascending = All-nil (λ m. IsAscending m.met);
    };
    rows = λ line j. (λ c. absurd (omega (arith, c.1.1)), λ c. absurd (omega (arith, c.1.1)));
    met = λ n o c. absurd (omega (arith, c.1));
  };
  near = λ n m c d. absurd (omega (arith, c.1));
}

taken : (xs : List Marker) (s c : ℕ) → take (s + c) xs ≡ take s xs ++ take c (drop s xs)
taken xs s c = sym (ap (λ (ys : List Marker). ys ++ drop s (take (s + c) xs))
    (sym (take-take s (s + c) xs (omega arith))) ∙ take-append-drop s (take (s + c) xs))
    ∙ ap (λ (ys : List Marker). take s xs ++ ys) (drop-take s c xs)

pub Joins-more : (markers : List Marker) (start count : ℕ) (old new : List Marker)
    → All IsFilled markers → Joins markers start old → AddsRun (drop start markers) count old new
    → Joins markers (start + count) new
Joins-more markers start count old new f h a =
    let r : Marker = a.marker in
    let old_part : List Marker = take start markers in
    let new_part : List Marker = take count (drop start markers) in
    let run : IsRunFor (Contains new_part) r =
    record {
      filled = a.run.run.filled;
      rows = a.run.run.rows;
      within = a.run.run.within;
      ascending = a.met.ascending;
      met = a.met.exact;
    } in
    let joined : IsJoined (λ m. Contains old_part m ⊎ Contains new_part m) (old ++ r ∷ []) =
    added (Contains old_part) (Contains new_part) old r
    (λ m c. All-contains IsFilled old_part m (All-take IsFilled start markers f) c)
    (λ m c. All-contains IsFilled new_part m
    (All-take IsFilled count (drop start markers) (All-drop IsFilled start markers f)) c)
    h.joined
    (λ n m c d. h.near n m c (front m d))
    run in
    let same : (m : Marker) → (Contains old_part m ⊎ Contains new_part m)
    ↔ Contains (take (start + count) markers) m = λ m. (
      λ c. subst (λ (ys : List Marker). Contains ys m) (sym (taken markers start count))
          (elim c [
            | inl d ↦ Contains-append_left old_part new_part m d
            | inr d
                ↦ Contains-append_right old_part new_part m d
          ]),
      λ c. Contains-append_cases old_part new_part m
          (subst (λ (ys : List Marker). Contains ys m) (taken markers start count) c),
    ) in
    record {
      joined = subst (IsJoined (Contains (take (start + count) markers))) (sym a.added)
          (IsJoined-same _ _ (old ++ r ∷ []) same joined);
      near = λ n m c d.
          let e : Contains (drop count (drop start markers)) m =
          subst (λ (ys : List Marker). Contains ys m) (sym (drop-drop count start markers)) d in
          elim (Contains-push_cases old r n (subst (λ (ys : List Marker). Contains ys n) a.added c)) [
            | inl g ↦ h.near n m g (rest m e)
            | inr g ↦ subst (λ (x : Marker). StandsBefore x m) g (a.run.others m e)
          ];
    }
  where
    front : (m : Marker) → Contains (take count (drop start markers)) m
        → Contains (drop start markers) m
    front m c = subst (λ (ys : List Marker). Contains ys m)
        (take-append-drop count (drop start markers))
        (Contains-append_left (take count (drop start markers)) (drop count (drop start markers)) m
        c)

    rest : (m : Marker) → Contains (drop count (drop start markers)) m
        → Contains (drop start markers) m
    rest m c = subst (λ (ys : List Marker). Contains ys m)
        (take-append-drop count (drop start markers))
        (Contains-append_right (take count (drop start markers)) (drop count (drop start markers)) m
        c)
