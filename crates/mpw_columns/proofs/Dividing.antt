-- What a column finds is what its halves find, each in its window.
use Rattle.std.proofs.Common.{◌≡◌, ℕ, ◌+◌, ℤ, ◌≤ℤ◌, List, ◌⊎◌, inl, inr, subst, sym, arith}
use Rattle.std.proofs.lemmas.Int.{ints, by_lt_z}
use Rattle.mpw_geom.specs.declared.plane.Box2.{Box2}
use Rattle.mpw_geom.specs.declared.plane.Layer.{Layer}
use Rattle.mpw_deck.specs.declared.rule.Rule.{Rule}
use Rattle.mpw_edges.specs.declared.run.Axis.{Axis}
use Rattle.mpw_tiles.specs.declared.listing.Rectangle.{Rectangle}
use Rattle.mpw_markers.specs.declared.marker.Key.{Key}
use Rattle.mpw_job.specs.Layers.{Coverage}
use Rattle.mpw_job.specs.Answers.{listed_on}
use Rattle.mpw_columns_keys.specs.Columns.{across}
use Rattle.mpw_columns.specs.Found.{HasStepAt, IsFound}
use Rattle.mpw_columns.specs.Internal.Found.{AddsFound, IsLook, AgreeIn, AgreeAll, left_of, right_of, IsUpright}
use Rattle.mpw_columns.proofs.Agreeing.{run_same, found_agree, agree_back}

pub found_in_half : (rules : List Rule) (axis : Axis) (on : Coverage) (core : Box2) (at : ℤ)
    (k : Key) → core.x0 ≤ℤ at → at ≤ℤ core.x1 → IsFound rules axis on core k
    → IsFound rules axis on (left_of core at) k ⊎ IsFound rules axis on (right_of core at) k
found_in_half rules axis on core at k low high f = by_lt_z k.piece.x1 at
    (λ less. inl (record {
      rule = f.rule;
      at = f.at;
      on_axis = f.on_axis;
      run =
          run_same (HasStepAt f.rule on core k) (HasStepAt f.rule on (left_of core at) k) k.piece.y0
          k.piece.y1 (λ j s. (s.0, (s.1.0, less, s.1.2, s.1.3)))
          (λ j s. (s.0, (s.1.0, omega (arith, ints, less, high), s.1.2, s.1.3))) f.run;
    }))
    (λ more. inr (record {
      rule = f.rule;
      at = f.at;
      on_axis = f.on_axis;
      run =
          run_same (HasStepAt f.rule on core k) (HasStepAt f.rule on (right_of core at) k)
          k.piece.y0
          k.piece.y1 (λ j s. (s.0, (more, s.1.1, s.1.2, s.1.3)))
          (λ j s. (s.0, (omega (arith, ints, more, low), s.1.1, s.1.2, s.1.3))) f.run;
    }))

pub found_of_left : (rules : List Rule) (axis : Axis) (on : Coverage) (core : Box2) (at : ℤ)
    (k : Key) → at ≤ℤ core.x1 → IsFound rules axis on (left_of core at) k
    → IsFound rules axis on core k
found_of_left rules axis on core at k high f =
    let first = f.run.rows k.piece.y0 (omega (arith, ints)) f.run.filled in
    let less = first.1.1 in record {
      rule = f.rule;
      at = f.at;
      on_axis = f.on_axis;
      run =
          run_same (HasStepAt f.rule on (left_of core at) k) (HasStepAt f.rule on core k) k.piece.y0
          k.piece.y1 (λ j s. (s.0, (s.1.0, omega (arith, ints, less, high), s.1.2, s.1.3)))
          (λ j s. (s.0, (s.1.0, less, s.1.2, s.1.3))) f.run;
    }

pub found_of_right : (rules : List Rule) (axis : Axis) (on : Coverage) (core : Box2) (at : ℤ)
    (k : Key) → core.x0 ≤ℤ at → IsFound rules axis on (right_of core at) k
    → IsFound rules axis on core k
found_of_right rules axis on core at k low f =
    let first = f.run.rows k.piece.y0 (omega (arith, ints)) f.run.filled in
    let more = first.1.0 in record {
      rule = f.rule;
      at = f.at;
      on_axis = f.on_axis;
      run =
          run_same (HasStepAt f.rule on (right_of core at) k) (HasStepAt f.rule on core k)
          k.piece.y0
          k.piece.y1 (λ j s. (s.0, (omega (arith, ints, more, low), s.1.1, s.1.2, s.1.3)))
          (λ j s. (s.0, (more, s.1.1, s.1.2, s.1.3))) f.run;
    }

pub halves_added : (rules : List Rule) (layers : List Layer) (distance : ℕ) (axis : Axis)
    (on on_low on_high : Coverage) (core : Box2) (at : ℤ) (old mid new : List Key)
    → IsLook rules layers distance → core.x0 ≤ℤ at → at ≤ℤ core.x1
    → AgreeAll (across (left_of core at) (distance + 1)) on on_low
    → AgreeAll (across (right_of core at) (distance + 1)) on on_high
    → AddsFound rules axis on_low (left_of core at) old mid
    → AddsFound rules axis on_high (right_of core at) mid new
    → AddsFound rules axis on core old new
halves_added rules layers distance axis on on_low on_high core at old mid new look low high agree
    agree' f g k = (
      λ c. elim ((g k).0 c) [
        | inl m ↦ elim ((f k).0 m) [
          | inl o ↦ inl o
          | inr s ↦ inr (found_of_left rules axis on core at k high
              (found_agree rules layers distance axis on_low on (left_of core at) k look
              (agree_back layers (across (left_of core at) (distance + 1)) on on_low
              (λ l h. agree l)) s))
        ]
        | inr s ↦ inr (found_of_right rules axis on core at k low
            (found_agree rules layers distance axis on_high on (right_of core at) k look
            (agree_back layers (across (right_of core at) (distance + 1)) on on_high
            (λ l h. agree' l)) s))
      ],
      λ c. elim c [
        | inl o ↦ (g k).1 (inl ((f k).1 (inl o)))
        | inr s ↦ elim (found_in_half rules axis on core at k low high s) [
          | inl t ↦ (g k).1 (inl ((f k).1 (inr
              (found_agree rules layers distance axis on on_low (left_of core at) k look
              (λ l h. agree l) t))))
          | inr t ↦ (g k).1 (inr
              (found_agree rules layers distance axis on on_high (right_of core at) k look
              (λ l h. agree' l) t))
        ]
      ],
    )

-- what was found in a window is what the whole finds
pub added_agree : (rules : List Rule) (layers : List Layer) (distance : ℕ) (axis : Axis)
    (on other : Coverage) (core : Box2) (old new : List Key) → IsLook rules layers distance
    → AgreeIn layers (across core (distance + 1)) on other
    → AddsFound rules axis other core old new → AddsFound rules axis on core old new
added_agree rules layers distance axis on other core old new look agree f k = (
  λ c. elim ((f k).0 c) [
    | inl o ↦ inl o
    | inr s ↦ inr (found_agree rules layers distance axis other on core k look
        (agree_back layers (across core (distance + 1)) on other agree) s)
  ],
  λ c. elim c [
    | inl o ↦ (f k).1 (inl o)
    | inr s ↦ (f k).1 (inr (found_agree rules layers distance axis on other core k look agree s))
  ],
)

-- the halves as the code has them
pub record AreHalves (listed low high : List Rectangle) (distance : ℕ) (core : Box2) (at : ℤ)
    (left right : Box2) : Type 0 where
  pub no_less : core.x0 ≤ℤ at
  pub no_more : at ≤ℤ core.x1
  pub left_is : left ≡ left_of core at
  pub right_is : right ≡ right_of core at
  pub low_agrees : AgreeAll (across left (distance + 1)) (listed_on listed) (listed_on low)
  pub high_agrees : AgreeAll (across right (distance + 1)) (listed_on listed) (listed_on high)

pub halves_made : (rules : List Rule) (layers : List Layer) (distance : ℕ) (axis : Axis)
    (listed low high : List Rectangle) (core : Box2) (at : ℤ) (left right : Box2)
    (old mid new : List Key) → IsLook rules layers distance
    → AreHalves listed low high distance core at left right
    → AddsFound rules axis (listed_on low) left old mid
    → AddsFound rules axis (listed_on high) right mid new
    → AddsFound rules axis (listed_on listed) core old new
halves_made rules layers distance axis listed low high core at left right old mid new look h f g =
    halves_added rules layers distance axis (listed_on listed) (listed_on low) (listed_on high) core
    at old mid new look h.no_less h.no_more
    (subst (λ (b : Box2). AgreeAll (across b (distance + 1)) (listed_on listed) (listed_on low))
    h.left_is h.low_agrees)
    (subst (λ (b : Box2). AgreeAll (across b (distance + 1)) (listed_on listed) (listed_on high))
    h.right_is h.high_agrees)
    (subst (λ (b : Box2). AddsFound rules axis (listed_on low) b old mid) h.left_is f)
    (subst (λ (b : Box2). AddsFound rules axis (listed_on high) b mid new) h.right_is g)

pub upright_left : (core left : Box2) (at : ℤ) → IsUpright core → core.x0 ≤ℤ at → at ≤ℤ core.x1
    → left ≡ left_of core at → IsUpright left
upright_left core left at h l u e = subst IsUpright (sym e) (record {
  ordered = l;
  left = h.left;
  right = let r = h.right in omega (arith, ints, u, r);
  bottom = h.bottom;
  top = h.top;
})

pub upright_right : (core right : Box2) (at : ℤ) → IsUpright core → core.x0 ≤ℤ at → at ≤ℤ core.x1
    → right ≡ right_of core at → IsUpright right
upright_right core right at h l u e = subst IsUpright (sym e) (record {
  ordered = u;
  left = let r = h.left in omega (arith, ints, l, r);
  right = h.right;
  bottom = h.bottom;
  top = h.top;
})
