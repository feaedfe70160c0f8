-- What is displaced across the edges has the same pair steps, displaced, and so the same runs, displaced.
use Rattle.std.proofs.Common.{◌≡◌, ℕ, ◌+◌, ℤ, pos, ◌+ℤ◌, ◌-ℤ◌, ◌≤ℤ◌, ◌<ℤ◌, true, false, List, ◌⊎◌, inl, inr, refl, sym, subst, arith}
use Rattle.std.specs.Prelude.{◌↔◌}
use Rattle.std.proofs.lemmas.Int.{ints}
use Rattle.mpw_geom.specs.declared.plane.Box2.{Box2}
use Rattle.mpw_geom.specs.declared.plane.Layer.{Layer}
use Rattle.mpw_deck.specs.declared.rule.Check.{Check}
use Rattle.mpw_deck.specs.declared.rule.Check.TheVariants.{Width, Space, Separation, Enclosing}
use Rattle.mpw_deck.specs.declared.rule.Rule.{Rule}
use Rattle.mpw_edges.specs.declared.run.Axis.{Axis}
use Rattle.mpw_edges.specs.Edges.{Squares, IsRise, IsFall}
use Rattle.mpw_edges.specs.Steps.{IsPair}
use Rattle.mpw_edges.specs.Pieces.{HasVerticalStep}
use Rattle.mpw_markers.specs.declared.marker.Key.{Key}
use Rattle.mpw_job.specs.Layers.{Coverage, first_squares, second_squares}
use Rattle.mpw_columns_keys.specs.Columns.{across}
use Rattle.mpw_columns_keys.specs.Keys.{displaced_key}
use Rattle.mpw_columns.specs.Displaced.{displaced, AreDisplacedOn}
use Rattle.mpw_columns.specs.Found.{HasStepAt, IsFound}
use Rattle.mpw_columns.specs.Laws.{DisplacedColumnsFindDisplacedRuns}
use Rattle.mpw_columns.specs.Internal.Found.{AgreeIn}
use Rattle.mpw_columns.proofs.Agreeing.{run_same, agree_back, found_same}

-- ---- one row

-- the squares, displaced by -`by` across the edges: each is the one that lies `by` further right
abbrev pub shifted : ℤ → Squares → Squares
shifted by a i j = a (i +ℤ by) j

before : (by x : ℤ) → ((x -ℤ pos 1) +ℤ by) ≡ ((x +ℤ by) -ℤ pos 1)
before by x = omega (arith, ints)

there : (by i : ℤ) → ((i -ℤ by) +ℤ by) ≡ i
there by i = omega (arith, ints)

rise_on : (by : ℤ) (a : Squares) (x j : ℤ) → IsRise (shifted by a) x j ↔ IsRise a (x +ℤ by) j
rise_on by a x j = (
  λ r. (r.0, subst (λ (i : ℤ). a i j ≡ false) (before by x) r.1),
  λ r. (r.0, subst (λ (i : ℤ). a i j ≡ false) (sym (before by x)) r.1),
)

fall_on : (by : ℤ) (a : Squares) (x j : ℤ) → IsFall (shifted by a) x j ↔ IsFall a (x +ℤ by) j
fall_on by a x j = (
  λ r. (subst (λ (i : ℤ). a i j ≡ true) (before by x) r.0, r.1),
  λ r. (subst (λ (i : ℤ). a i j ≡ true) (sym (before by x)) r.0, r.1),
)

less_on : (by x y : ℤ) → (x <ℤ y) ↔ ((x +ℤ by) <ℤ (y +ℤ by))
less_on by x y = (λ h. omega (arith, ints, h), λ h. omega (arith, ints, h))

most_on : (by x y : ℤ) → (x ≤ℤ y) ↔ ((x +ℤ by) ≤ℤ (y +ℤ by))
most_on by x y = (λ h. omega (arith, ints, h), λ h. omega (arith, ints, h))

covered_on : (by : ℤ) (a : Squares) (x1 x2 j : ℤ)
    → ((i : ℤ) → x1 ≤ℤ i → i <ℤ x2 → shifted by a i j ≡ true)
    ↔ ((i : ℤ) → (x1 +ℤ by) ≤ℤ i → i <ℤ (x2 +ℤ by) → a i j ≡ true)
covered_on by a x1 x2 j = (
  λ h. λ i l u. subst (λ (x : ℤ). a x j ≡ true) (there by i)
      (h (i -ℤ by) (omega (arith, ints, l)) (omega (arith, ints, u))),
  λ h. λ i l u. h (i +ℤ by) (omega (arith, ints, l)) (omega (arith, ints, u)),
)

-- either side of two layers
either_on : {S T A B C D A' B' C' D' : Type 0} → (A ↔ A') → (B ↔ B') → (C ↔ C') → (D ↔ D')
    → ((S × A × B) ⊎ (T × C × D)) ↔ ((S × A' × B') ⊎ (T × C' × D'))
either_on a b c d = (
  λ h. elim h [ inl p ↦ inl (p.0, a.0 p.1, b.0 p.2) | inr p ↦ inr (p.0, c.0 p.1, d.0 p.2) ],
  λ h. elim h [ inl p ↦ inl (p.0, a.1 p.1, b.1 p.2) | inr p ↦ inr (p.0, c.1 p.1, d.1 p.2) ],
)

pair_on : (check : Check) (by : ℤ) (a b : Squares) (side : ℕ) (x1 x2 j : ℤ)
    → IsPair check (shifted by a) (shifted by b) side x1 x2 j
    ↔ IsPair check a b side (x1 +ℤ by) (x2 +ℤ by) j
pair_on (Width l) by a b side x1 x2 j =
    let r = rise_on by a x1 j in
    let f = fall_on by a x2 j in
    let o = less_on by x1 x2 in
    let v = covered_on by a x1 x2 j in (
      λ w. (w.0, r.0 w.1, f.0 w.2, o.0 w.3, v.0 w.4),
      λ w. (w.0, r.1 w.1, f.1 w.2, o.1 w.3, v.1 w.4),
    )
pair_on (Space l) by a b side x1 x2 j =
    let f = fall_on by a x1 j in
    let r = rise_on by a x2 j in
    let o = less_on by x1 x2 in (
      λ w. (w.0, f.0 w.1, r.0 w.2, o.0 w.3),
      λ w. (w.0, f.1 w.1, r.1 w.2, o.1 w.3),
    )
pair_on (Separation l m) by a b side x1 x2 j =
    let o = most_on by x1 x2 in
    let e =
    either_on (fall_on by a x1 j) (rise_on by b x2 j) (fall_on by b x1 j) (rise_on by a x2 j) in
    (λ w. (o.0 w.0, e.0 w.1), λ w. (o.1 w.0, e.1 w.1))
pair_on (Enclosing l m) by a b side x1 x2 j =
    let o = most_on by x1 x2 in
    let e =
    either_on (rise_on by a x1 j) (rise_on by b x2 j) (fall_on by b x1 j) (fall_on by a x2 j) in
    (λ w. (o.0 w.0, e.0 w.1), λ w. (o.1 w.0, e.1 w.1))

near_on : (by x1 x2 : ℤ) (distance : ℕ) → ((x2 -ℤ x1) <ℤ pos distance)
    ↔ (((x2 +ℤ by) -ℤ (x1 +ℤ by)) <ℤ pos distance)
near_on by x1 x2 distance = (λ h. omega (arith, ints, h), λ h. omega (arith, ints, h))

pub step_on : (rule : Rule) (by : ℤ) (a b : Squares) (core : Box2) (side : ℕ) (x1 x2 j : ℤ)
    → HasVerticalStep rule (shifted by a) (shifted by b) core side x1 x2 j
    ↔ HasVerticalStep rule a b (displaced by core) side (x1 +ℤ by) (x2 +ℤ by) j
step_on rule by a b core side x1 x2 j =
    let p = pair_on rule.check by a b side x1 x2 j in
    let n = near_on by x1 x2 rule.distance in
    let l = most_on by core.x0 x1 in
    let u = less_on by x1 core.x1 in (
      λ s. ((p.0 s.0.0, n.0 s.0.1), (l.0 s.1.0, u.0 s.1.1, s.1.2, s.1.3)),
      λ s. ((p.1 s.0.0, n.1 s.0.1), (l.1 s.1.0, u.1 s.1.1, s.1.2, s.1.3)),
    )

-- ---- layers

abbrev pub shifted_on : ℤ → Coverage → Coverage
shifted_on by on layer = shifted by (on layer)

first_shifted : (check : Check) (by : ℤ) (on : Coverage)
    → first_squares check (shifted_on by on) ≡ shifted by (first_squares check on)
first_shifted (Width l) by on = refl
first_shifted (Space l) by on = refl
first_shifted (Separation l m) by on = refl
first_shifted (Enclosing l m) by on = refl

second_shifted : (check : Check) (by : ℤ) (on : Coverage)
    → second_squares check (shifted_on by on) ≡ shifted by (second_squares check on)
second_shifted (Width l) by on = refl
second_shifted (Space l) by on = refl
second_shifted (Separation l m) by on = refl
second_shifted (Enclosing l m) by on = refl

-- a row of a key
row_on : (rule : Rule) (by : ℤ) (on : Coverage) (core : Box2) (k : Key) (j : ℤ)
    → HasStepAt rule (shifted_on by on) core k j
    ↔ HasStepAt rule on (displaced by core) (displaced_key by k) j
row_on rule by on core k j =
    let a = first_squares rule.check on in
    let b = second_squares rule.check on in
    let Is : Squares → Squares → Type 0 =
    λ p q. HasVerticalStep rule p q core k.piece.side k.piece.x1 k.piece.x2 j
    ↔ HasVerticalStep rule a b (displaced by core) k.piece.side (k.piece.x1 +ℤ by)
    (k.piece.x2 +ℤ by) j in
    subst (λ (p : Squares). Is p (second_squares rule.check (shifted_on by on)))
    (sym (first_shifted rule.check by on))
    (subst (λ (q : Squares). Is (shifted by a) q) (sym (second_shifted rule.check by on))
    (step_on rule by a b core k.piece.side k.piece.x1 k.piece.x2 j))

-- ---- runs

found_on : (rules : List Rule) (axis : Axis) (by : ℤ) (on : Coverage) (core : Box2) (k : Key)
    → IsFound rules axis (shifted_on by on) core k
    ↔ IsFound rules axis on (displaced by core) (displaced_key by k)
found_on rules axis by on core k = (
  λ f. record {
    rule = f.rule;
    at = f.at;
    on_axis = f.on_axis;
    run = run_same (HasStepAt f.rule (shifted_on by on) core k)
        (HasStepAt f.rule on (displaced by core) (displaced_key by k)) k.piece.y0 k.piece.y1
        (λ j. (row_on f.rule by on core k j).0) (λ j. (row_on f.rule by on core k j).1) f.run;
  },
  λ f. record {
    rule = f.rule;
    at = f.at;
    on_axis = f.on_axis;
    run = run_same (HasStepAt f.rule on (displaced by core) (displaced_key by k))
        (HasStepAt f.rule (shifted_on by on) core k) k.piece.y0 k.piece.y1
        (λ j. (row_on f.rule by on core k j).1) (λ j. (row_on f.rule by on core k j).0) f.run;
  },
)

agree_shifted : (layers : List Layer) (window : Box2) (by : ℤ) (on other : Coverage)
    → AreDisplacedOn layers window by on other → AgreeIn layers window on (shifted_on by other)
agree_shifted layers window by on other h layer c i j l u low high =
    sym (h layer c i j l u low high)

pub displaced_runs : DisplacedColumnsFindDisplacedRuns
displaced_runs rules layers greatest axis on other core by short layered h k =
    let window = across core (greatest + 1) in
    let agree = agree_shifted layers window by on other h in
    let move = found_on rules axis by other core k in
    let middle = shifted_on by other in (
      λ f. move.0 (found_same rules layers greatest axis on middle core k short layered agree f),
      λ f. found_same rules layers greatest axis middle on core k short layered
          (agree_back layers window on middle agree) (move.1 f),
    )
