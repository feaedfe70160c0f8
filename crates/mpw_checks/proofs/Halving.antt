-- What a core finds is what its halves find, each in its window.
use Rattle.std.proofs.Common.{◌≡◌, ℕ, ◌≤◌, ℤ, ◌≤ℤ◌, ◌<ℤ◌, List, [], ◌∷◌, ◌++◌, ◌⊎◌, inl, inr, subst, sym, pos, neg_ℤ, ◌^◌, arith}
use Rattle.std.specs.Prelude.{◌↔◌, All}
use Rattle.std.proofs.lemmas.Int.{ints, by_lt_z}
use Rattle.std.proofs.lemmas.List.Elements.{All-append, All-push, Contains-append_left, Contains-append_right, Contains-append_cases}
use Rattle.mpw_geom.specs.declared.plane.Box2.{Box2}
use Rattle.mpw_geom.specs.declared.plane.Point.{Point}
use Rattle.mpw_geom.specs.Plane.{IsBoxInPlane, IsCoordinate}
use Rattle.mpw_region.specs.declared.runs.Line.{Line}
use Rattle.mpw_region.specs.declared.runs.Run.{Run}
use Rattle.mpw_region.specs.Runs.{CoversPlace, IsFilled}
use Rattle.mpw_region.specs.Internal.Runs.{Adds}
use Rattle.mpw_region.specs.Squares.{covers}
use Rattle.mpw_region.proofs.Held.{Held-nil, Held-push_left, Held-push_new, Held-push_cases}
use Rattle.mpw_deck.specs.declared.rule.Rule.{Rule}
use Rattle.mpw_edges.specs.declared.run.Axis.{Axis}
use Rattle.mpw_edges.specs.declared.run.Axis.TheVariants.{V, H}
use Rattle.mpw_edges.specs.Edges.{Squares}
use Rattle.mpw_edges.specs.Pieces.{HasStep}
use Rattle.mpw_edges.proofs.Window.{step_same, back}
use Rattle.mpw_checks.specs.declared.strips.Strip.{Strip}
use Rattle.mpw_checks.specs.Strips.{IsStrip, HasStepIn, FindsIn}
use Rattle.mpw_checks.specs.Internal.Strips.{AddsStrips}
use Rattle.mpw_checks.specs.Internal.Cells.{StepsIn, window_of, AreAlikeIn, AreHalves, IsMiddle, left_of, right_of}

-- a pair step belongs to exactly one half
step_in_half : (rule : Rule) (a b : Squares) (core low high : Box2) → AreHalves core low high
    → (axis : Axis) (side : ℕ) (x1 x2 j : ℤ) → HasStep rule a b core axis side x1 x2 j
    → HasStep rule a b low axis side x1 x2 j ⊎ HasStep rule a b high axis side x1 x2 j
step_in_half rule a b core low high h V side x1 x2 j s =
    elim ((h x1 j).0 s.1) [ inl p ↦ inl (s.0, p) | inr p ↦ inr (s.0, p) ]
step_in_half rule a b core low high h H side x1 x2 j s =
    elim ((h j x1).0 (s.1.2, s.1.3, s.1.0, s.1.1)) [
      | inl p ↦ inl (s.0, (p.2, p.3, p.0, p.1))
      | inr p
          ↦ inr (s.0, (p.2, p.3, p.0, p.1))
    ]

step_of_half : (rule : Rule) (a b : Squares) (core low high : Box2) → AreHalves core low high
    → (axis : Axis) (side : ℕ) (x1 x2 j : ℤ) → HasStep rule a b low axis side x1 x2 j
    ⊎ HasStep rule a b high axis side x1 x2 j → HasStep rule a b core axis side x1 x2 j
step_of_half rule a b core low high h V side x1 x2 j (inl s) = (s.0, (h x1 j).1 (inl s.1))
step_of_half rule a b core low high h V side x1 x2 j (inr s) = (s.0, (h x1 j).1 (inr s.1))
step_of_half rule a b core low high h H side x1 x2 j (inl s) =
    let p = (h j x1).1 (inl (s.1.2, s.1.3, s.1.0, s.1.1)) in (s.0, (p.2, p.3, p.0, p.1))
step_of_half rule a b core low high h H side x1 x2 j (inr s) =
    let p = (h j x1).1 (inr (s.1.2, s.1.3, s.1.0, s.1.1)) in (s.0, (p.2, p.3, p.0, p.1))

pub seen : (rule : Rule) (distance : ℕ) → rule.distance ≤ distance
    → (first second f s : List Box2) (core : Box2) → AreAlikeIn (window_of core distance) first f
    → AreAlikeIn (window_of core distance) second s
    → (axis : Axis) (line : Line) (j : ℤ) → StepsIn rule first second core axis line j
    → StepsIn rule f s core axis line j
seen rule distance le first second f s core p q axis line j = step_same rule distance (covers first)
    (covers second) (covers f) (covers s) core le p q axis line.side line.first line.second j

pub meant : (rule : Rule) (distance : ℕ) → rule.distance ≤ distance
    → (first second f s : List Box2) (core : Box2) → AreAlikeIn (window_of core distance) first f
    → AreAlikeIn (window_of core distance) second s
    → (axis : Axis) (line : Line) (j : ℤ) → StepsIn rule f s core axis line j
    → StepsIn rule first second core axis line j
meant rule distance le first second f s core p q axis line j =
    step_same rule distance (covers f) (covers s) (covers first) (covers second) core le
    (back (window_of core distance) (covers first) (covers f) p)
    (back (window_of core distance) (covers second) (covers s) q) axis line.side line.first
    line.second j

pub AddsStrips-halves : (distance : ℕ) (old mid new : List Strip)
    (first second f s f' s' : List Box2) (core low high : Box2) (axis : Axis)
    → AreHalves core low high
    → AreAlikeIn (window_of low distance) first f → AreAlikeIn (window_of low distance) second s
    → AreAlikeIn (window_of high distance) first f'
    → AreAlikeIn (window_of high distance) second s'
    → AddsStrips distance old mid (λ rule. StepsIn rule f s low axis)
    → AddsStrips distance mid new (λ rule. StepsIn rule f' s' high axis)
    → AddsStrips distance old new (λ rule. StepsIn rule first second core axis)
AddsStrips-halves distance old mid new first second f s f' s' core low high axis halves p q p' q'
    below above = record {
      steps = λ rule le line j. (to rule le line j, from rule le line j);
      banded = λ b. above.banded (below.banded b);
    }
  where
    to : (rule : Rule) → rule.distance ≤ distance → (line : Line) (j : ℤ) → FindsIn new rule line j
        → FindsIn old rule line j ⊎ StepsIn rule first second core axis line j
    to rule le line j c = elim ((above.steps rule le line j).0 c) [
      | inl m ↦ elim ((below.steps rule le line j).0 m) [
        | inl o ↦ inl o
        | inr t ↦ inr (step_of_half rule (covers first) (covers second) core low high halves axis
            line.side line.first line.second j
            (inl (meant rule distance le first second f s low p q axis line j t)))
      ]
      | inr t ↦ inr (step_of_half rule (covers first) (covers second) core low high halves axis
          line.side line.first line.second j
          (inr (meant rule distance le first second f' s' high p' q' axis line j t)))
    ]

    from : (rule : Rule) → rule.distance ≤ distance → (line : Line) (j : ℤ)
        → FindsIn old rule line j ⊎ StepsIn rule first second core axis line j
        → FindsIn new rule line j
    from rule le line j (inl o) = (above.steps rule le line j).1
        (inl ((below.steps rule le line j).1 (inl o)))
    from rule le line j (inr t) = elim (step_in_half rule (covers first) (covers second) core low
        high halves axis line.side line.first line.second j t) [
          | inl u ↦ (above.steps rule le line j).1
              (inl ((below.steps rule le line j).1
              (inr (seen rule distance le first second f s low p q axis line j u))))
          | inr u ↦ (above.steps rule le line j).1
              (inr (seen rule distance le first second f' s' high p' q' axis line j u))
        ]

-- a strip with exactly the steps of P is added
pub AddsStrips-push : (distance : ℕ) (old new : List Strip) (s : Strip) (P : Rule → Line → ℤ
    → Type 0) → new ≡ old ++ s ∷ [] → IsStrip s
    → ((rule : Rule) (line : Line) (j : ℤ) → HasStepIn rule line j s ↔ P rule line j)
    → AddsStrips distance old new P
AddsStrips-push distance old new s P e is h =
    subst (λ (ss : List Strip). AddsStrips distance old ss P) (sym e) (record {
      steps = λ rule le line j. (to rule line j, from rule line j);
      banded = λ b. All-push IsStrip old s b is;
    })
  where
    to : (rule : Rule) (line : Line) (j : ℤ) → FindsIn (old ++ s ∷ []) rule line j
        → FindsIn old rule line j ⊎ P rule line j
    to rule line j c = elim (Held-push_cases (HasStepIn rule line j) old s c)
        [ inl o ↦ inl o | inr t ↦ inr ((h rule line j).0 t) ]

    from : (rule : Rule) (line : Line) (j : ℤ) → FindsIn old rule line j ⊎ P rule line j
        → FindsIn (old ++ s ∷ []) rule line j
    from rule line j (inl o) = Held-push_left (HasStepIn rule line j) old s o
    from rule line j (inr p) = Held-push_new (HasStepIn rule line j) old s ((h rule line j).1 p)

-- strips that were added to none, from a window of the boxes
pub all_steps : (distance : ℕ) (new : List Strip) (first second f s : List Box2) (core : Box2)
    (axis : Axis) → AreAlikeIn (window_of core distance) first f
    → AreAlikeIn (window_of core distance) second s
    → AddsStrips distance [] new (λ rule. StepsIn rule f s core axis) → (rule : Rule)
    → rule.distance ≤ distance → (line : Line) (j : ℤ) → FindsIn new rule line j
    ↔ StepsIn rule first second core axis line j
all_steps distance new first second f s core axis p q added rule le line j = (
  λ c. elim ((added.steps rule le line j).0 c) [
    | inl none ↦ absurd (Held-nil (HasStepIn rule line j) none)
    | inr t ↦ meant rule distance le first second f s core p q axis line j t
  ],
  λ t. (added.steps rule le line j).1
      (inr (seen rule distance le first second f s core p q axis line j t)),
)

-- runs that have exactly the positions of P are added
pub Adds-found : (old found new : List Run) (P : Line → ℤ → Type 0) → new ≡ old ++ found
    → ((line : Line) (j : ℤ) → CoversPlace found line j ↔ P line j) → All IsFilled found
    → Adds old new P
Adds-found old found new P e h filled = subst (λ (rs : List Run). Adds old rs P) (sym e) (record {
  places = λ line j. (to line j, from line j);
  filled = λ f. All-append IsFilled old found f filled;
})
  where
    to : (line : Line) (j : ℤ) → CoversPlace (old ++ found) line j → CoversPlace old line j
        ⊎ P line j
    to line j c = elim (Contains-append_cases old found c.0 c.1) [
      | inl a ↦ inl (c.0, a, c.2)
      | inr b ↦ inr ((h line j).0 (c.0, b, c.2))
    ]

    from : (line : Line) (j : ℤ) → CoversPlace old line j ⊎ P line j
        → CoversPlace (old ++ found) line j
    from line j (inl c) = (c.0, Contains-append_left old found c.0 c.1, c.2)
    from line j (inr p) = let c = (h line j).1 p in
        (c.0, Contains-append_right old found c.0 c.1, c.2)

-- ---- the halves at a point

between : (low high m z : ℤ) → m ≤ℤ high → ((y : ℤ) → y ≤ℤ low → y ≤ℤ high → y ≤ℤ m) → m ≤ℤ z
    → z <ℤ high → low ≤ℤ z
between low high m z u l a b =
    by_lt_z high low
    (λ c. absurd (let s = l high (omega (arith, ints, c)) (omega (arith, ints)) in
    omega (arith, ints, s, a, b)))
    (λ c. let s = l low (omega (arith, ints)) c in omega (arith, ints, s, a))

pub column_halves : (core : Box2) (at : Point) → IsMiddle core at
    → AreHalves core (left_of core at) (right_of core at)
column_halves core at h x y = (
  λ p. by_lt_z x at.x (λ l. inl (p.0, l, p.2, p.3)) (λ l. inr (l, p.1, p.2, p.3)),
  λ p. elim p [
    | inl q ↦ (q.0, (let u = h.column in omega (arith, ints, u, q.1)), q.2, q.3)
    | inr q ↦ (between core.x0 core.x1 at.x x h.column h.columns q.0 q.1, q.1, q.2, q.3)
  ],
)

coordinate : (low high m : ℤ) → IsCoordinate low → IsCoordinate high → m ≤ℤ high
    → ((y : ℤ) → y ≤ℤ low → y ≤ℤ high → y ≤ℤ m) → IsCoordinate m
coordinate low high m p q u l = record {
  low = l (neg_ℤ (pos (2 ^ 48))) p.low q.low;
  high = let s = q.high in omega (arith, ints, u, s);
}

pub in_plane_columns : (core : Box2) (at : Point) → IsBoxInPlane core → IsMiddle core at
    → IsBoxInPlane (left_of core at) × IsBoxInPlane (right_of core at)
in_plane_columns core at p h =
    let m = coordinate core.x0 core.x1 at.x p.x0 p.x1 h.column h.columns in (
      record { x0 = p.x0; y0 = p.y0; x1 = m; y1 = p.y1 },
      record { x0 = m; y0 = p.y0; x1 = p.x1; y1 = p.y1 },
    )

-- the slices that the code passes on
pub seen_slices : (slice boxes : List Box2) → slice ≡ boxes → (window : Box2) (parts : List Box2)
    → AreAlikeIn window slice parts → AreAlikeIn window boxes parts
seen_slices slice boxes e window parts h = subst (λ (x : List Box2). AreAlikeIn window x parts) e h

pub same_steps : (rule : Rule) (a a' b b' : Squares) (core : Box2) (axis : Axis) (line : Line)
    (j : ℤ) → a ≡ a' → b ≡ b'
    → HasStep rule a b core axis line.side line.first line.second j
    ↔ HasStep rule a' b' core axis line.side line.first line.second j
same_steps rule a a' b b' core axis line j e g =
    subst (λ (x : Squares). HasStep rule a b core axis line.side line.first line.second j
    ↔ HasStep rule a' x core axis line.side line.first line.second j) g
    (subst (λ (x : Squares). HasStep rule a b core axis line.side line.first line.second j
    ↔ HasStep rule x b core axis line.side line.first line.second j) e (λ h. h, λ h. h))

-- runs that were added to none and joined
pub joined_places : (runs joined : List Run) (P : Line → ℤ → Type 0) → Adds [] runs P
    → ((line : Line) (j : ℤ) → CoversPlace joined line j ↔ CoversPlace runs line j)
    → (line : Line) (j : ℤ) → CoversPlace joined line j ↔ P line j
joined_places runs joined P h same line j = (
  λ c. to ((h.places line j).0 ((same line j).0 c)),
  λ p. (same line j).1 ((h.places line j).1 (inr p)),
)
  where
    to : CoversPlace [] line j ⊎ P line j → P line j
    to (inl c) = absurd (omega (arith, c.1.1))
    to (inr p) = p

-- the positions of runs, for the list that has the strips
pub places_of : (runs : List Run) (seen strips : List Strip) (rule : Rule) (a b : Squares)
    (core : Box2) (axis : Axis) → seen ≡ strips
    → ((line : Line) (j : ℤ) → CoversPlace runs line j ↔ FindsIn seen rule line j)
    → ((line : Line) (j : ℤ) → FindsIn strips rule line j
    ↔ HasStep rule a b core axis line.side line.first line.second j)
    → (line : Line) (j : ℤ) → CoversPlace runs line j
    ↔ HasStep rule a b core axis line.side line.first line.second j
places_of runs seen strips rule a b core axis e h g line j =
    let told = subst (λ (ss : List Strip). CoversPlace runs line j ↔ FindsIn ss rule line j) e
    (h line j) in
    (λ c. (g line j).0 (told.0 c), λ s. told.1 ((g line j).1 s))

-- the positions of runs, for a strip's bands
pub places_in : (runs : List Run) (rule : Rule) (first second : List Box2) (s : Strip)
    → first ≡ s.first.items → second ≡ s.second.items
    → ((line : Line) (j : ℤ) → CoversPlace runs line j ↔ HasStep rule (covers first) (covers second)
    s.core V line.side line.first line.second j)
    → (line : Line) (j : ℤ) → CoversPlace runs line j ↔ HasStepIn rule line j s
places_in runs rule first second s e g h line j =
    subst (λ (bs : List Box2). CoversPlace runs line j
    ↔ HasStep rule (covers s.first.items) (covers bs) s.core V line.side line.first line.second
    j) g
    (subst (λ (bs : List Box2). CoversPlace runs line j ↔ HasStep rule (covers bs) (covers second)
    s.core V line.side line.first line.second j) e (h line j))
