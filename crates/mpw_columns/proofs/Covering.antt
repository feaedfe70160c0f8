-- Each pair step of a layout lies in a column of its axis, and the columns are adjacent and in order.
use Rattle.std.proofs.Common.{◌≡◌, ℕ, ◌-◌, ◌^◌, ◌<◌, ℤ, pos, ◌+ℤ◌, ◌-ℤ◌, ◌≤ℤ◌, ◌<ℤ◌, true, List, [], ◌∷◌, ◌++◌, inl, inr, refl, sym, subst, ◌∙◌, arith}
use Rattle.std.specs.Prelude.{Contains}
use Rattle.std.proofs.lemmas.Bool.{false≢true, cases_lt}
use Rattle.std.proofs.lemmas.Int.{ints, by_lt_z}
use Rattle.std.proofs.lemmas.List.Elements.{Contains-append_right, Contains-append_cases, Contains-push_cases}
use Rattle.mpw_geom.specs.declared.plane.Box2.{Box2}
use Rattle.mpw_geom.specs.declared.plane.Layer.{Layer}
use Rattle.mpw_geom.proofs.Tests.{SquareIn-from_test}
use Rattle.mpw_deck.specs.declared.rule.Check.{Check}
use Rattle.mpw_deck.specs.declared.rule.Check.TheVariants.{Width, Space, Separation, Enclosing}
use Rattle.mpw_edges.specs.declared.run.Axis.{Axis}
use Rattle.mpw_edges.specs.declared.run.Axis.TheVariants.{V, H}
use Rattle.mpw_edges.specs.Edges.{Squares}
use Rattle.mpw_edges.specs.Steps.{IsPairStep}
use Rattle.mpw_tiles.specs.Laws.{LieIn}
use Rattle.mpw_job.specs.Layers.{Coverage, first_squares, second_squares}
use Rattle.mpw_columns_keys.specs.declared.column.Column.{Column}
use Rattle.mpw_columns_keys.specs.Columns.{seen_box, AreColumns}
use Rattle.mpw_columns.specs.Seen.{seen_on}
use Rattle.mpw_columns.specs.Internal.Found.{AreFew}
use Rattle.mpw_columns.proofs.Showing.{seen_has}

-- ---- adjacent columns

pub columns_push : (axis : Axis) (low mid : ℤ) (cs : List Column) (c : Column)
    → AreColumns axis low mid cs → c.axis ≡ axis → c.from ≡ mid → c.from <ℤ c.to
    → AreColumns axis low c.to (cs ++ c ∷ [])
columns_push axis low mid [] c h e f lt = (e, f ∙ sym h, lt, refl)
columns_push axis low mid (d ∷ cs) c h e f lt =
    (h.0, h.1, h.2, columns_push axis d.to mid cs c h.3 e f lt)

pub forwards : (axis : Axis) (low high : ℤ) (cs : List Column) → AreColumns axis low high cs
    → low ≤ℤ high
forwards axis low high [] h = omega (arith, ints, h)
forwards axis low high (c ∷ cs) h =
    let more = forwards axis c.to high cs h.3 in
    let at = h.1 in let lt = h.2 in
    omega (arith, ints, more, at, lt)

-- a column of the list that has the position
pub record HasPlace (axis : Axis) (cs : List Column) (x : ℤ) : Type 0 where
  pub column : Column
  pub there : Contains cs column
  pub on_axis : column.axis ≡ axis
  pub left : column.from ≤ℤ x
  pub right : x <ℤ column.to

pub place_in : (axis : Axis) (low high : ℤ) (cs : List Column) (x : ℤ)
    → AreColumns axis low high cs → low ≤ℤ x → x <ℤ high → HasPlace axis cs x
place_in axis low high [] x h l u = absurd (omega (arith, ints, h, l, u))
place_in axis low high (c ∷ cs) x h l u = by_lt_z x c.to
    (λ less. record {
      column = c;
      there = (0, omega arith, refl);
      on_axis = h.0;
      left = let at = h.1 in omega (arith, ints, at, l);
      right = less;
    })
    (λ more.
    let p = place_in axis c.to high cs x h.3 more u in record {
      column = p.column;
      there = Contains-append_right (c ∷ []) cs p.column p.there;
      on_axis = p.on_axis;
      left = p.left;
      right = p.right;
    })

-- the column lies between the two
pub record IsBetween (low high : ℤ) (c : Column) : Type 0 where
  pub left : low ≤ℤ c.from
  pub some : c.from <ℤ c.to
  pub right : c.to ≤ℤ high

pub each_between : (axis : Axis) (low high : ℤ) (cs : List Column) (c : Column)
    → AreColumns axis low high cs → Contains cs c → IsBetween low high c × (c.axis ≡ axis)
each_between axis low high [] c h there = absurd (omega (arith, there.1))
each_between axis low high (d ∷ cs) c h there =
    elim (Contains-append_cases (d ∷ []) cs c there) [
      | inl here ↦ elim (Contains-push_cases [] d c here) [
        | inl none ↦ absurd (omega (arith, none.1))
        | inr same ↦
            let more = forwards axis d.to high cs h.3 in
            let at = h.1 in
            subst (λ (x : Column). IsBetween low high x × (x.axis ≡ axis)) same (
              record {
                left = omega (arith, ints, at);
                some = h.2;
                right = more;
              },
              h.0,
            )
      ]
      | inr behind ↦
          let b = each_between axis d.to high cs c h.3 behind in
          let at = h.1 in let lt = h.2 in let l = b.0.left in (
            record {
              left = omega (arith, ints, at, lt, l);
              some = b.0.some;
              right = b.0.right;
            },
            b.1,
          )
    ]

-- ---- halves of a column

pub moved : (a b : Axis) (low x y : ℤ) (cs : List Column) → a ≡ b → x ≡ y
    → AreColumns a low x cs → AreColumns b low y cs
moved a b low x y cs e f h =
    subst (λ (d : Axis). AreColumns d low y cs) e (subst (λ (z : ℤ). AreColumns a low z cs) f h)

-- ---- how many columns there are

-- those of the left half, and after them those of the right one, unless too many come before them
pub few_behind : (depth before mid now : ℕ) → 0 < depth → before < 2 ^ 20
    → AreFew (depth - 1) before mid → AreFew (depth - 1) mid now → AreFew depth before now
few_behind depth before mid now some few first second = record {
  early = λ less. elim (cases_lt mid (2 ^ 20)) [
    | inl little ↦ let bound = second.early little in omega (arith, bound)
    | inr much ↦
        let bound = first.early few in
        let one = second.late much in
        omega (arith, some, bound, one)
  ];
  late = λ more. absurd (omega (arith, few, more));
}

-- ---- where the first edge of a step lies

-- squares that lie in the box
first_lies : (check : Check) (axis : Axis) (on : Coverage) (extent : Box2)
    → ((layer : Layer) → LieIn (seen_box axis extent) (seen_on axis on layer))
    → LieIn (seen_box axis extent) (first_squares check (seen_on axis on))
first_lies (Width l) axis on extent h = h l
first_lies (Space l) axis on extent h = h l
first_lies (Separation l m) axis on extent h = h l
first_lies (Enclosing l m) axis on extent h = h l

second_lies : (check : Check) (axis : Axis) (on : Coverage) (extent : Box2)
    → ((layer : Layer) → LieIn (seen_box axis extent) (seen_on axis on layer))
    → LieIn (seen_box axis extent) (second_squares check (seen_on axis on))
second_lies (Width l) axis on extent h = λ i j e. absurd (false≢true e)
second_lies (Space l) axis on extent h = λ i j e. absurd (false≢true e)
second_lies (Separation l m) axis on extent h = h m
second_lies (Enclosing l m) axis on extent h = h m

seen_lies : (axis : Axis) (on : Coverage) (extent : Box2)
    → ((layer : Layer) → LieIn extent (on layer)) → (layer : Layer)
    → LieIn (seen_box axis extent) (seen_on axis on layer)
seen_lies V on extent h layer i j e = h layer i j e
seen_lies H on extent h layer i j e =
    seen_has H extent (record { column = j; row = i }) ∙ h layer j i e

-- the first edge is at the box's first position or later, and at most at the one after its last; and the row is one of its
pub record StandsIn (b : Box2) (x j : ℤ) : Type 0 where
  pub left : b.x0 ≤ℤ x
  pub right : x <ℤ (b.x1 +ℤ pos 1)
  pub bottom : b.y0 ≤ℤ j
  pub top : j <ℤ b.y1

from_rise : (b : Box2) (a : Squares) (x j : ℤ) → LieIn b a → a x j ≡ true → StandsIn b x j
from_rise b a x j h e =
    let i = SquareIn-from_test b (record { column = x; row = j }) (h x j e) in
    let r = i.right in
    record { left = i.left; right = omega (arith, ints, r); bottom = i.bottom; top = i.top }

from_fall : (b : Box2) (a : Squares) (x j : ℤ) → LieIn b a → a (x -ℤ pos 1) j ≡ true
    → StandsIn b x j
from_fall b a x j h e =
    let i = SquareIn-from_test b (record { column = x -ℤ pos 1; row = j }) (h (x -ℤ pos 1) j e) in
    let l = i.left in let r = i.right in
    record {
      left = omega (arith, ints, l);
      right = omega (arith, ints, r);
      bottom = i.bottom;
      top = i.top;
    }

stands : (check : Check) (distance : ℕ) (a b : Squares) (box : Box2) (side : ℕ) (x1 x2 j : ℤ)
    → LieIn box a → LieIn box b → IsPairStep check distance a b side x1 x2 j → StandsIn box x1 j
stands (Width l) distance a b box side x1 x2 j f g h = from_rise box a x1 j f h.0.1.0
stands (Space l) distance a b box side x1 x2 j f g h = from_fall box a x1 j f h.0.1.0
stands (Separation l m) distance a b box side x1 x2 j f g h = elim h.0.1
    [ inl q ↦ from_fall box a x1 j f q.1.0 | inr q ↦ from_fall box b x1 j g q.1.0 ]
stands (Enclosing l m) distance a b box side x1 x2 j f g h = elim h.0.1
    [ inl q ↦ from_rise box a x1 j f q.1.0 | inr q ↦ from_fall box b x1 j g q.1.0 ]

pub step_stands : (check : Check) (distance : ℕ) (on : Coverage) (extent : Box2) (axis : Axis)
    (side : ℕ) (x1 x2 j : ℤ) → ((layer : Layer) → LieIn extent (on layer))
    → IsPairStep check distance (first_squares check (seen_on axis on))
    (second_squares check (seen_on axis on)) side x1 x2 j
    → StandsIn (seen_box axis extent) x1 j
step_stands check distance on extent axis side x1 x2 j h s =
    stands check distance (first_squares check (seen_on axis on))
    (second_squares check (seen_on axis on)) (seen_box axis extent) side x1 x2 j
    (first_lies check axis on extent (seen_lies axis on extent h))
    (second_lies check axis on extent (seen_lies axis on extent h)) s
