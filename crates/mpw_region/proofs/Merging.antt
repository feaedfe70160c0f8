-- How the columns of a band are joined: the intervals that are done and the last one cover what the boxes cover.
use Rattle.std.proofs.Common.{◌≡◌, ℕ, ◌+◌, ◌<◌, ◌≤◌, ℤ, ◌≤ℤ◌, ◌<ℤ◌, suc, List, [], ◌∷◌, ◌++◌, length, get_or, take, ◌⊎◌, inl, inr, subst, ap, ◌∙◌, arith}
use Rattle.std.specs.Prelude.{◌↔◌, All, AllPairs}
use Rattle.std.proofs.lemmas.Int.{ints, clamps, by_lt_z}
use Rattle.std.proofs.lemmas.List.{take_more, get_or_default}
use Rattle.std.proofs.lemmas.List.Elements.{All-push, All-weaker}
use Rattle.std.proofs.lemmas.List.Quantifiers.{all_pairs_push}
use Rattle.mpw_geom.specs.declared.plane.Box2.{Box2}
use Rattle.mpw_geom.specs.Plane.{HasArea}
use Rattle.mpw_region.specs.declared.merge.Rows.{Rows}
use Rattle.mpw_region.specs.Banded.{StandsInBands, AreBands}
use Rattle.mpw_region.specs.Internal.Sweep.{BeginsLeft}
use Rattle.mpw_region.specs.Internal.Swept.{HoldsSquare, IsCovered, IsInBand, interval_of, lengthened, AddsBand}
use Rattle.mpw_region.proofs.Held.{Held-nil, Held-push_left, Held-push_new, Held-push_cases}

pub record Merges (old out done : List Box2) (last : Box2) (rows : Rows) : Type 0 where
  pub same : (i j : ℤ) → (IsCovered out i j ⊎ HoldsSquare last i j)
      ↔ (IsCovered old i j ⊎ IsInBand rows done i j)
  pub bottom : last.y0 ≡ rows.y0
  pub top : last.y1 ≡ rows.y1
  pub rises : rows.y0 <ℤ rows.y1
  pub filled : last.x0 <ℤ last.x1
  pub banded : AreBands out
  pub near : All (λ b. StandsInBands b last) out

-- the last one begins no further right than what is left from index i on
abbrev pub BeginsBefore : Box2 → List Box2 → ℕ → Type 0
BeginsBefore last rest i =
    (m : ℕ) (d : Box2) → i ≤ m → m < length rest → last.x0 ≤ℤ (get_or rest m d).x0

-- the columns of a box
abbrev Columns : ℤ → Box2 → Type 0
Columns i b = (b.x0 ≤ℤ i) × (i <ℤ b.x1)

wider : (rows : Rows) (done : List Box2) (b : Box2) (i j : ℤ) → IsInBand rows done i j
    → IsInBand rows (done ++ b ∷ []) i j
wider rows done b i j w = (w.0, Held-push_left (Columns i) done b w.1)

newest : (rows : Rows) (done : List Box2) (b : Box2) (i j : ℤ) → (rows.y0 ≤ℤ j) × (j <ℤ rows.y1)
    → Columns i b → IsInBand rows (done ++ b ∷ []) i j
newest rows done b i j r c = (r, Held-push_new (Columns i) done b c)

rightmost : (b last next : Box2) (rows : Rows) → last.y0 ≡ rows.y0 → last.y1 ≡ rows.y1
    → last.x0 <ℤ next.x0 → StandsInBands b last → StandsInBands b (interval_of next rows)
rightmost b last next rows e f l (inl below) = inl (omega (arith, ints, e, below))
rightmost b last next rows e f l (inr p) = inr (p.0 ∙ e, p.1 ∙ f, omega (arith, ints, l, p.2))

pub Merges-start : (old : List Box2) (first : Box2) (rows : Rows) → rows.y0 <ℤ rows.y1
    → first.x0 <ℤ first.x1 → AreBands old → All (λ b. b.y1 ≤ℤ rows.y0) old
    → Merges old old (first ∷ []) (interval_of first rows) rows
Merges-start old first rows up k banded below = record {
  same = λ i j. (to i j, from i j);
  bottom = refl_of rows.y0;
  top = refl_of rows.y1;
  rises = up;
  filled = k;
  banded = banded;
  near = All-weaker (λ b. b.y1 ≤ℤ rows.y0) (λ b. StandsInBands b (interval_of first rows))
      (λ b p. inl p) old below;
}
  where
    refl_of : (z : ℤ) → z ≡ z
    refl_of z = cc

    to : (i j : ℤ) → IsCovered old i j ⊎ HoldsSquare (interval_of first rows) i j
        → IsCovered old i j ⊎ IsInBand rows (first ∷ []) i j
    to i j (inl c) = inl c
    to i j (inr h) = inr (newest rows [] first i j (h.2, h.3) (h.0, h.1))

    from : (i j : ℤ) → IsCovered old i j ⊎ IsInBand rows (first ∷ []) i j
        → IsCovered old i j ⊎ HoldsSquare (interval_of first rows) i j
    from i j (inl c) = inl c
    from i j (inr w) = elim (Held-push_cases (Columns i) [] first w.1) [
      | inl n ↦ absurd (Held-nil (Columns i) n)
      | inr p ↦ inr (p.0, p.1, w.0.0, w.0.1)
    ]

-- a box that begins within the last interval extends it
pub Merges-longer : (old out done : List Box2) (last next : Box2) (rows : Rows)
    → Merges old out done last rows → last.x0 ≤ℤ next.x0 → next.x0 ≤ℤ last.x1 → next.x0 <ℤ next.x1
    → Merges old out (done ++ next ∷ []) (lengthened last next) rows
Merges-longer old out done last next rows h f g k = record {
  same = λ i j. (to i j, from i j);
  bottom = h.bottom;
  top = h.top;
  rises = h.rises;
  filled = omega (arith, ints, clamps, h.filled);
  banded = h.banded;
  near = All-weaker (λ b. StandsInBands b last) (λ b. StandsInBands b (lengthened last next))
      (λ b p. p) out h.near;
}
  where
    more : (i j : ℤ) → IsCovered old i j ⊎ IsInBand rows done i j
        → IsCovered old i j ⊎ IsInBand rows (done ++ next ∷ []) i j
    more i j (inl c) = inl c
    more i j (inr w) = inr (wider rows done next i j w)

    longer : (i j : ℤ) → HoldsSquare last i j → HoldsSquare (lengthened last next) i j
    longer i j p = (p.0, omega (arith, ints, clamps, p.1), p.2, p.3)

    to : (i j : ℤ) → IsCovered out i j ⊎ HoldsSquare (lengthened last next) i j
        → IsCovered old i j ⊎ IsInBand rows (done ++ next ∷ []) i j
    to i j (inl c) = more i j ((h.same i j).0 (inl c))
    to i j (inr m) =
        by_lt_z i last.x1
        (λ l. more i j ((h.same i j).0 (inr (m.0, l, m.2, m.3))))
        (λ l. inr (newest rows done next i j
        (omega (arith, ints, h.bottom, m.2), omega (arith, ints, h.top, m.3))
        (omega (arith, ints, g, l), omega (arith, ints, clamps, m.1, l))))

    back : (i j : ℤ) → IsCovered out i j ⊎ HoldsSquare last i j
        → IsCovered out i j ⊎ HoldsSquare (lengthened last next) i j
    back i j (inl c) = inl c
    back i j (inr p) = inr (longer i j p)

    from : (i j : ℤ) → IsCovered old i j ⊎ IsInBand rows (done ++ next ∷ []) i j
        → IsCovered out i j ⊎ HoldsSquare (lengthened last next) i j
    from i j (inl c) = back i j ((h.same i j).1 (inl c))
    from i j (inr w) = elim (Held-push_cases (Columns i) done next w.1) [
      | inl d ↦ back i j ((h.same i j).1 (inr (w.0, d)))
      | inr p ↦ inr (
        omega (arith, ints, f, p.0),
        omega (arith, ints, clamps, p.1),
        omega (arith, ints, h.bottom, w.0.0),
        omega (arith, ints, h.top, w.0.1),
      )
    ]

-- the last interval is done
covered_more : (out : List Box2) (last : Box2) (i j : ℤ) → IsCovered out i j ⊎ HoldsSquare last i j
    → IsCovered (out ++ last ∷ []) i j
covered_more out last i j (inl c) = Held-push_left (λ b. HoldsSquare b i j) out last c
covered_more out last i j (inr p) = Held-push_new (λ b. HoldsSquare b i j) out last p

bands_more : (old out done : List Box2) (last : Box2) (rows : Rows) → Merges old out done last rows
    → AreBands (out ++ last ∷ [])
bands_more old out done last rows h = record {
  filled = All-push HasArea out last h.banded.filled
      (record { width = h.filled; height = omega (arith, ints, h.bottom, h.top, h.rises) });
  ordered = all_pairs_push StandsInBands out last h.banded.ordered h.near;
}

pub Merges-push : (old out done : List Box2) (last next : Box2) (rows : Rows)
    → Merges old out done last rows → last.x1 <ℤ next.x0 → next.x0 <ℤ next.x1
    → Merges old (out ++ last ∷ []) (done ++ next ∷ []) (interval_of next rows) rows
Merges-push old out done last next rows h apart k = record {
  same = λ i j. (to i j, from i j);
  bottom = refl_of rows.y0;
  top = refl_of rows.y1;
  rises = h.rises;
  filled = k;
  banded = bands_more old out done last rows h;
  near = All-push (λ b. StandsInBands b (interval_of next rows)) out last
      (All-weaker (λ b. StandsInBands b last) (λ b. StandsInBands b (interval_of next rows))
      (λ b p. rightmost b last next rows h.bottom h.top (omega (arith, ints, h.filled, apart))
      p) out h.near)
      (inr (h.bottom, h.top, apart));
}
  where
    refl_of : (z : ℤ) → z ≡ z
    refl_of z = cc

    more : (i j : ℤ) → IsCovered old i j ⊎ IsInBand rows done i j
        → IsCovered old i j ⊎ IsInBand rows (done ++ next ∷ []) i j
    more i j (inl c) = inl c
    more i j (inr w) = inr (wider rows done next i j w)

    to : (i j : ℤ) → IsCovered (out ++ last ∷ []) i j ⊎ HoldsSquare (interval_of next rows) i j
        → IsCovered old i j ⊎ IsInBand rows (done ++ next ∷ []) i j
    to i j (inl c) = more i j ((h.same i j).0 (Held-push_cases (λ b. HoldsSquare b i j) out last c))
    to i j (inr p) = inr (newest rows done next i j (p.2, p.3) (p.0, p.1))

    from : (i j : ℤ) → IsCovered old i j ⊎ IsInBand rows (done ++ next ∷ []) i j
        → IsCovered (out ++ last ∷ []) i j ⊎ HoldsSquare (interval_of next rows) i j
    from i j (inl c) = inl (covered_more out last i j ((h.same i j).1 (inl c)))
    from i j (inr w) = elim (Held-push_cases (Columns i) done next w.1) [
      | inl d ↦ inl (covered_more out last i j ((h.same i j).1 (inr (w.0, d))))
      | inr p ↦ inr (p.0, p.1, w.0.0, w.0.1)
    ]

ends : (b last : Box2) (rows : Rows) → last.y0 ≡ rows.y0 → last.y1 ≡ rows.y1 → rows.y0 <ℤ rows.y1
    → StandsInBands b last → b.y1 ≤ℤ rows.y1
ends b last rows e f up (inl below) = omega (arith, ints, e, below, up)
ends b last rows e f up (inr p) = omega (arith, ints, f, p.1)

pub Merges-end : (old out done : List Box2) (last : Box2) (rows : Rows)
    → Merges old out done last rows → AddsBand old (out ++ last ∷ []) done rows
Merges-end old out done last rows h = record {
  squares = λ i j. (
    λ c. (h.same i j).0 (Held-push_cases (λ b. HoldsSquare b i j) out last c),
    λ s. covered_more out last i j ((h.same i j).1 s),
  );
  banded = bands_more old out done last rows h;
  below = All-push (λ b. b.y1 ≤ℤ rows.y1) out last
      (All-weaker (λ b. StandsInBands b last) (λ b. b.y1 ≤ℤ rows.y1)
      (λ b p. ends b last rows h.bottom h.top h.rises p) out h.near) (omega (arith, ints, h.top));
}

-- ---- the boxes from the left

pub before_start : (first : Box2) (rest : List Box2) → AllPairs BeginsLeft (first ∷ rest)
    → BeginsBefore first rest 0
before_start first rest o m d l b = o 0 (suc m) d (omega arith) (omega arith)

pub before_next : (first : Box2) (rest : List Box2) (i : ℕ) (e : Box2)
    → AllPairs BeginsLeft (first ∷ rest) → i < length rest
    → BeginsBefore (get_or rest i e) rest (i + 1)
before_next first rest i e o l m d g b = subst (λ (r : Box2). r.x0 ≤ℤ (get_or rest m d).x0)
    (get_or_default rest i d e l) (o (suc i) (suc m) d (omega arith) (omega arith))

pub done_more : (first : Box2) (rest : List Box2) (i : ℕ) (d : Box2) → i < length rest
    → first ∷ take (i + 1) rest ≡ (first ∷ take i rest) ++ get_or rest i d ∷ []
done_more first rest i d b = ap (λ xs. first ∷ xs) (take_more rest i d b)

-- without boxes there is nothing to add
pub AddsBand-none : (old boxes : List Box2) (rows : Rows) → length boxes < 1 → rows.y0 <ℤ rows.y1
    → AreBands old → All (λ b. b.y1 ≤ℤ rows.y0) old → AddsBand old old boxes rows
AddsBand-none old boxes rows none r h l = record {
  squares = λ i j. (
    λ c. inl c,
    λ c. elim c [
      | inl d ↦ d
      | inr d ↦ absurd (omega (arith, none, d.1.1.1))
    ],
  );
  banded = h;
  below = All-weaker (λ (b : Box2). b.y1 ≤ℤ rows.y0) (λ (b : Box2). b.y1 ≤ℤ rows.y1)
      (λ b k. omega (arith, ints, k, r)) old l;
}
