-- Answers to the goals of `Gap::intersection` in `src/rows.rt`.
use Rattle.std.proofs.Common.{inl, inr, arith}
use Rattle.std.proofs.lemmas.Int.{ints, clamps}
use Rattle.mpw_shapes.proofs.rows.Gap.intersection.Goals as goal

pub returns-clause-one : goal.returns-clause-one
returns-clause-one c = λ w h. elim h [
  | inl d ↦ inl (omega (arith, ints, clamps, c.max.ensures.self_bound))
  | inr u ↦ inr (omega (arith, ints, clamps, c.min.ensures.self_bound))
]

pub returns-clause-other : goal.returns-clause-other
returns-clause-other c = λ w h. elim h [
  | inl d ↦ inl (omega (arith, ints, clamps, c.max.ensures.other_bound))
  | inr u ↦ inr (omega (arith, ints, clamps, c.min.ensures.other_bound))
]
