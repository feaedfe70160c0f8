-- One more marker in a book.
use Rattle.std.proofs.Common.{[], ◌≡◌, ℕ, suc, ℤ, ◌≤ℤ◌, Bool, true, false, List, ◌∷◌, ◌⊎◌, inl, inr, refl, sym, subst, ap, ◌∙◌, arith}
use Rattle.std.specs.Prelude.{int_lt, Contains, ◌↔◌, if◌then◌else◌}
use Rattle.std.specs.Ordering.{ordering_reverse}
use Rattle.std.specs.declared.cmp.Ordering.{Ordering}
use Rattle.std.specs.declared.cmp.Ordering.TheVariants.{Less, Equal, Greater}
use Rattle.std.proofs.lemmas.Int.{ints, clamps, by_lt_z}
use Rattle.std.proofs.lemmas.List.Elements.{All-contains}
use Rattle.mpw_geom.proofs.Tests.{lt_from_test}
use Rattle.mpw_edges.proofs.Tests.{ge_from_test}
use Rattle.mpw_markers.specs.declared.marker.Line.{Line}
use Rattle.mpw_markers.specs.declared.marker.Marker.{Marker}
use Rattle.mpw_markers.specs.Met.{IsAscending}
use Rattle.mpw_markers.specs.Markers.{line_of, IsFilled, HasRow, CoversRow, LiesIn}
use Rattle.mpw_markers.specs.Order.{line_cmp, StandsBefore}
use Rattle.mpw_markers.specs.Book.{IsBook}
use Rattle.mpw_markers.specs.Stitched.{IsJoined}
use Rattle.mpw_markers.proofs.Order.{line_total, line_tied, apart, StandsBefore-chain, StandsBefore-begins}
use Rattle.mpw_markers.proofs.Joins.{IsJoined-same}
use Rattle.mpw_markers.proofs.Marked.{All-from_contained, lies_in}
use Rattle.mpw_markers.proofs.Unique.{cons_cases, Contains-head, Contains-tail, tail_pairs, head_pairs}
use Rattle.mpw_run.proofs.Books.{one_by_row}
use Rattle.mpw_run.specs.Stitching.{joined, beside, placed, with_marker}
use Rattle.mpw_run.proofs.Uniting.{head_at, none_in, cons_pairs, union_has, union_ascends}

-- ---- the position of a marker

abbrev Position : Marker → Marker → Ordering → Type 0
Position m n Less = StandsBefore m n
Position m n Equal = (line_of m ≡ line_of n) × (n.key.piece.y0 ≤ℤ m.key.piece.y1)
    × (m.key.piece.y0 ≤ℤ n.key.piece.y1)
Position m n Greater = StandsBefore n m

position : (m n : Marker) (c : Ordering) → line_cmp (line_of m) (line_of n) ≡ c
    → Position m n (beside c m n)
position m n Less e = inl e
position m n Greater e = inl (line_total.antisymm (line_of n) (line_of m) ∙ ap ordering_reverse e)
position m n Equal e =
    tests (int_lt m.key.piece.y1 n.key.piece.y0) (int_lt n.key.piece.y1 m.key.piece.y0) refl refl
  where
    same : line_of m ≡ line_of n
    same = line_tied (line_of m) (line_of n) e

    tests : (s t : Bool) → int_lt m.key.piece.y1 n.key.piece.y0 ≡ s
        → int_lt n.key.piece.y1 m.key.piece.y0 ≡ t
        → Position m n (if s then Less else (if t then Greater else Equal))
    tests true t f g = inr (same, lt_from_test m.key.piece.y1 n.key.piece.y0 f)
    tests false true f g = inr (sym same, lt_from_test n.key.piece.y1 m.key.piece.y0 g)
    tests false false f g = (
      same,
      ge_from_test m.key.piece.y1 n.key.piece.y0 f,
      ge_from_test n.key.piece.y1 m.key.piece.y0 g,
    )

-- ---- one more marker

-- a part with a row and ascending numbers
abbrev pub IsPart : Marker → Type 0
IsPart m = IsFilled m × IsAscending m.met

abbrev pub AreParts : (Marker → Type 0) → Type 0
AreParts P = (m : Marker) → P m → IsPart m

pub trans_lies : (a b c : Marker) → LiesIn a b → LiesIn b c → LiesIn a c
trans_lies a b c f g = (f.0 ∙ g.0, omega (arith, ints, f.1, g.1), omega (arith, ints, f.2, g.2))

pub wider : (a b : Marker) (line : Line) (j : ℤ) → LiesIn a b → HasRow a line j → HasRow b line j
wider a b line j l r = (sym l.0 ∙ r.0, omega (arith, ints, l.1, r.1), omega (arith, ints, l.2, r.2))

pub own_rows : (n : Marker) → IsFilled n → HasRow n (line_of n) n.key.piece.y0
own_rows n f = (refl, omega (arith, ints), f)

-- a marker before all parts of a book is before each marker of the book
before_all : (P : Marker → Type 0) (n : Marker) (book : List Marker) → IsJoined P book
    → ((p : Marker) → P p → StandsBefore n p) → (y : Marker) → Contains book y → StandsBefore n y
before_all P n book h near y c =
    let f = All-contains IsFilled book y h.markers.filled c in
    let p = (h.rows (line_of y) y.key.piece.y0).0 (y, c, own_rows y f) in
    StandsBefore-begins n p.0 y (near p.0 p.1) (inr (p.2.0, p.2.1))

-- a marker before the parts of a book is put before it
put_first : (P : Marker → Type 0) (n : Marker) (book : List Marker) → IsJoined P book → AreParts P
    → IsPart n → ((p : Marker) → P p → StandsBefore n p) → IsJoined (λ x. (n ≡ x) ⊎ P x) (n ∷ book)
put_first P n book h parts own near = record {
  markers = record {
    filled = All-from_contained IsFilled (n ∷ book)
        (λ y c. elim (cons_cases n book y c) [
          | inl e ↦ subst IsFilled e own.0
          | inr d
              ↦ All-contains IsFilled book y h.markers.filled d
        ]);
    ordered = cons_pairs StandsBefore n book before h.markers.ordered;
    ascending = All-from_contained (λ (m : Marker). IsAscending m.met) (n ∷ book)
        (λ y c. elim (cons_cases n book y c) [
          | inl e ↦ subst (λ (m : Marker). IsAscending m.met) e own.1
          | inr d ↦ All-contains (λ (m : Marker). IsAscending m.met) book y h.markers.ascending d
        ]);
  };
  rows = λ line j. (
    λ c. elim (cons_cases n book c.0 c.1) [
      | inl e ↦ (c.0, inl e, c.2)
      | inr d
          ↦ (let p = (h.rows line j).0 (c.0, d, c.2) in (p.0, inr p.1, p.2))
    ],
    λ p. elim p.1 [
      | inl e ↦ (p.0, head_at n p.0 book e, p.2)
      | inr q ↦ (let c = (h.rows line j).1 (p.0, q, p.2) in
          (c.0, Contains-tail n book c.0 c.1, c.2))
    ],
  );
  met = λ y o c. elim (cons_cases n book y c)
      [ inl e ↦ subst (λ (z : Marker). Met z o) e (at_first o) | inr d ↦ at_rest y o d ];
}
  where
    Met : Marker → ℕ → Type 0
    Met y o = Contains y.met o ↔ ((m : Marker) × ((n ≡ m) ⊎ P m) × LiesIn m y × Contains m.met o)

    before : (y : Marker) → Contains book y → StandsBefore n y
    before = before_all P n book h near

    itself : LiesIn n n
    itself = (refl, omega (arith, ints), omega (arith, ints))

    at_first : (o : ℕ) → Met n o
    at_first o = (
      λ x. (n, inl refl, itself, x),
      λ p. elim p.1 [
        | inl e ↦ subst (λ (z : Marker). Contains z.met o) (sym e) p.3
        | inr q ↦ absurd (let gap = apart n p.0 (near p.0 q) (sym p.2.0) in
            let f = (parts p.0 q).0 in omega (arith, ints, gap, f, p.2.2))
      ],
    )

    at_rest : (y : Marker) (o : ℕ) → Contains book y → Met y o
    at_rest y o d = (
      λ x. let p = (h.met y o d).0 x in (p.0, inr p.1, p.2, p.3),
      λ p. elim p.1 [
        | inl e ↦ absurd (
            let l : LiesIn n y = subst (λ (z : Marker). LiesIn z y) (sym e) p.2 in
            let gap = apart n y (before y d) l.0 in
            let f = own.0 in
            omega (arith, ints, gap, f, l.1))
        | inr q ↦ (h.met y o d).1 (p.0, q, p.2, p.3)
      ],
    )

-- a part of two that touch is as good as both
split_part : (P : Marker → Type 0) (m n : Marker) (book : List Marker) → Position m n Equal
    → IsPart m → IsPart n → IsJoined (λ x. P x ⊎ (joined m n ≡ x)) book
    → IsJoined (λ x. P x ⊎ ((m ≡ x) ⊎ (n ≡ x))) book
split_part P m n book touch pm pn h = record {
  markers = h.markers;
  rows = λ line j. (to line j, from line j);
  met = λ y o c. (met_to y o c, met_from y o c);
}
  where
    both : Marker
    both = joined m n

    Q : Marker → Type 0
    Q x = P x ⊎ ((m ≡ x) ⊎ (n ≡ x))

    m_in : LiesIn m both
    m_in = (refl, omega (arith, ints, clamps), omega (arith, ints, clamps))

    n_in : LiesIn n both
    n_in = (sym touch.0, omega (arith, ints, clamps), omega (arith, ints, clamps))

    of_both : (line : Line) (j : ℤ) → HasRow both line j → (x : Marker) × Q x × HasRow x line j
    of_both line j r =
        by_lt_z j m.key.piece.y0
        (λ less. (
          n,
          inr (inr refl),
          (
            sym touch.0 ∙ r.0,
            omega (arith, ints, clamps, less, r.1),
            omega (arith, ints, clamps, less, touch.2),
          ),
        ))
        (λ from_m. by_lt_z j m.key.piece.y1
        (λ less. (m, inr (inl refl), (r.0, from_m, less)))
        (λ past. (
          n,
          inr (inr refl),
          (
            sym touch.0 ∙ r.0,
            omega (arith, ints, past, touch.1),
            omega (arith, ints, clamps, past, r.2),
          ),
        )))

    to : (line : Line) (j : ℤ) → CoversRow book line j → (x : Marker) × Q x × HasRow x line j
    to line j c = let p = (h.rows line j).0 c in elim p.1 [
      | inl q ↦ (p.0, inl q, p.2)
      | inr e ↦ of_both line j (subst (λ (z : Marker). HasRow z line j) (sym e) p.2)
    ]

    from : (line : Line) (j : ℤ) → (x : Marker) × Q x × HasRow x line j → CoversRow book line j
    from line j p = elim p.1 [
      | inl q ↦ (h.rows line j).1 (p.0, inl q, p.2)
      | inr (inl e) ↦ (h.rows line j).1 (
        both,
        inr refl,
        wider m both line j m_in
            (subst (λ (z : Marker). HasRow z line j) (sym e) p.2),
      )
      | inr (inr e) ↦ (h.rows line j).1 (
        both,
        inr refl,
        wider n both line j n_in
            (subst (λ (z : Marker). HasRow z line j) (sym e) p.2),
      )
    ]

    met_to : (y : Marker) (o : ℕ) → Contains book y → Contains y.met o → (x : Marker) × Q x
        × LiesIn x y × Contains x.met o
    met_to y o c x = let p = (h.met y o c).0 x in elim p.1 [
      | inl q ↦ (p.0, inl q, p.2, p.3)
      | inr e ↦
          let l : LiesIn both y = subst (λ (z : Marker). LiesIn z y) (sym e) p.2 in
          elim ((union_has n.met m.met o).0 (subst (λ (z : Marker). Contains z.met o) (sym e) p.3)) [
            | inl d ↦ (n, inr (inr refl), trans_lies n both y n_in l, d)
            | inr d ↦ (m, inr (inl refl), trans_lies m both y m_in l, d)
          ]
    ]

    through : (a : Marker) (y : Marker) (o : ℕ) → Contains book y → IsFilled a → LiesIn a both
        → LiesIn a y → Contains both.met o → Contains y.met o
    through a y o c f in_both in_y d =
        let row : HasRow a (line_of a) a.key.piece.y0 = own_rows a f in
        let l : LiesIn both y = lies_in (λ x. P x ⊎ (both ≡ x)) book both y (line_of a)
        a.key.piece.y0 h c
        (inr refl) (wider a both (line_of a) a.key.piece.y0 in_both row)
        (wider a y (line_of a) a.key.piece.y0 in_y row) in
        (h.met y o c).1 (both, inr refl, l, d)

    met_from : (y : Marker) (o : ℕ) → Contains book y → (x : Marker) × Q x × LiesIn x y
        × Contains x.met o → Contains y.met o
    met_from y o c p = elim p.1 [
      | inl q ↦ (h.met y o c).1 (p.0, inl q, p.2, p.3)
      | inr (inl e) ↦ through m y o c pm.0 m_in (subst (λ (z : Marker). LiesIn z y) (sym e) p.2)
          ((union_has n.met m.met o).1 (inr (subst (λ (z : Marker). Contains z.met o) (sym e) p.3)))
      | inr (inr e) ↦ through n y o c pn.0 n_in (subst (λ (z : Marker). LiesIn z y) (sym e) p.2)
          ((union_has n.met m.met o).1 (inl (subst (λ (z : Marker). Contains z.met o) (sym e) p.3)))
    ]

-- the parts of a book are its own markers
pub own_book : (book : List Marker) → IsBook book → IsJoined (Contains book) book
own_book book b = record {
  markers = b;
  rows = λ line j. (λ c. c, λ c. c);
  met = λ y o c. (
    λ x. (y, c, (refl, omega (arith, ints), omega (arith, ints)), x),
    λ p.
        let row = own_rows p.0 (All-contains IsFilled book p.0 b.filled p.1) in
        let same : p.0 ≡ y = one_by_row book p.0 y (line_of p.0) p.0.key.piece.y0 b p.1 c row
        (wider p.0 y (line_of p.0) p.0.key.piece.y0 p.2 row) in
        subst (λ (z : Marker). Contains z.met o) same p.3,
  );
}

pub parts_of : (book : List Marker) → IsBook book → AreParts (Contains book)
parts_of book b m c = (
  All-contains IsFilled book m b.filled c,
  All-contains (λ (x : Marker). IsAscending x.met) book m b.ascending c,
)

tail_book : (n : Marker) (rest : List Marker) → IsBook (n ∷ rest) → IsBook rest
tail_book n rest b = record {
  filled = λ k d l. b.filled (suc k) d (omega (arith, l));
  ordered = tail_pairs StandsBefore n rest b.ordered;
  ascending = λ k d l. b.ascending (suc k) d (omega (arith, l));
}

joined_part : (m n : Marker) → IsPart m → IsPart n → IsPart (joined m n)
joined_part m n p q = (omega (arith, ints, clamps, p.0, q.0), union_ascends n.met m.met q.1)

insert_on : (n : Marker) (rest : List Marker) (m : Marker) → IsBook (n ∷ rest) → IsPart m
    → ((x : Marker) → IsPart x → IsJoined (λ y. Contains rest y ⊎ (x ≡ y)) (with_marker rest x))
    → IsJoined (λ x. Contains (n ∷ rest) x ⊎ (m ≡ x)) (with_marker (n ∷ rest) m)
insert_on n rest m b pm more = by (beside (line_cmp (line_of m) (line_of n)) m n)
    (position m n (line_cmp (line_of m) (line_of n)) refl)
  where
    pn : IsPart n
    pn = parts_of (n ∷ rest) b n (Contains-head n rest)

    after : (p : Marker) → Contains rest p → StandsBefore n p
    after p c = head_pairs StandsBefore n rest p b.ordered c

    by : (o : Ordering) → Position m n o
        → IsJoined (λ x. Contains (n ∷ rest) x ⊎ (m ≡ x))
        (placed o (m ∷ n ∷ rest) (with_marker rest (joined m n)) (n ∷ with_marker rest m))
    by Less q =
        IsJoined-same (λ x. (m ≡ x) ⊎ Contains (n ∷ rest) x) (λ x. Contains (n ∷ rest) x ⊎ (m ≡ x))
        (m ∷ n ∷ rest)
        (λ x. (
          λ s. elim s [ inl e ↦ inr e | inr c ↦ inl c ],
          λ s. elim s [ inl c ↦ inr c | inr e ↦ inl e ],
        ))
        (put_first (Contains (n ∷ rest)) m (n ∷ rest) (own_book (n ∷ rest) b)
        (parts_of (n ∷ rest) b) pm
        (λ p c. elim (cons_cases n rest p c) [
          | inl e ↦ subst (StandsBefore m) e q
          | inr d
              ↦ StandsBefore-chain m n p pn.0 q (after p d)
        ]))
    by Equal q =
        IsJoined-same (λ x. Contains rest x ⊎ ((m ≡ x) ⊎ (n ≡ x))) (λ x. Contains (n ∷ rest) x
        ⊎ (m ≡ x)) (with_marker rest (joined m n))
        (λ x. (
          λ s. elim s [
            | inl c ↦ inl (Contains-tail n rest x c)
            | inr (inl e) ↦ inr e
            | inr (inr e)
                ↦ inl (head_at n x rest e)
          ],
          λ s. elim s [
            | inl c ↦ elim (cons_cases n rest x c) [ inl e ↦ inr (inr e) | inr d ↦ inl d ]
            | inr e ↦ inr (inl e)
          ],
        ))
        (split_part (Contains rest) m n (with_marker rest (joined m n)) q pm pn
        (more (joined m n) (joined_part m n pm pn)))
    by Greater q =
        IsJoined-same (λ x. (n ≡ x) ⊎ (Contains rest x ⊎ (m ≡ x))) (λ x. Contains (n ∷ rest) x
        ⊎ (m ≡ x)) (n ∷ with_marker rest m)
        (λ x. (
          λ s. elim s [
            | inl e ↦ inl (head_at n x rest e)
            | inr (inl c)
                ↦ inl (Contains-tail n rest x c)
            | inr (inr e) ↦ inr e
          ],
          λ s. elim s [
            | inl c ↦ elim (cons_cases n rest x c) [ inl e ↦ inl e | inr d ↦ inr (inl d) ]
            | inr e ↦ inr (inr e)
          ],
        ))
        (put_first (λ x. Contains rest x ⊎ (m ≡ x)) n (with_marker rest m) (more m pm)
        (λ x s. elim s [
          | inl c ↦ parts_of rest (tail_book n rest b) x c
          | inr e
              ↦ subst IsPart e pm
        ])
        pn
        (λ p s. elim s [ inl c ↦ after p c | inr e ↦ subst (StandsBefore n) e q ]))

pub insert : (book : List Marker) (m : Marker) → IsBook book → IsPart m
    → IsJoined (λ x. Contains book x ⊎ (m ≡ x)) (with_marker book m)
insert [] m b pm =
    IsJoined-same (λ x. (m ≡ x) ⊎ Contains [] x) (λ x. Contains [] x ⊎ (m ≡ x)) (m ∷ [])
    (λ x. (
      λ s. elim s [ inl e ↦ inr e | inr c ↦ inl c ],
      λ s. elim s [ inl c ↦ inr c | inr e ↦ inl e ],
    ))
    (put_first (Contains []) m [] (own_book [] b) (parts_of [] b) pm (λ p c. absurd (none_in p c)))
insert (n ∷ rest) m b pm = insert_on n rest m b pm (λ x px. insert rest x (tail_book n rest b) px)
