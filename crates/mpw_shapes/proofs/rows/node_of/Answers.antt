-- Answers to the goals of `node_of` in `src/rows.rt`.
use Rattle.std.proofs.Common.{arith, pos, true, false, get_or}
use Rattle.std.specs.Prelude.{int_lt, if◌then◌else◌}
use Rattle.std.proofs.lemmas.Int.{ints, clamps}
use Rattle.mpw_shapes.specs.Internal.Rows.{IsOutside, middle, state_at}
use Rattle.mpw_shapes.proofs.RowStates.{raised_none, size_none}
use Rattle.mpw_shapes.proofs.rows.node_of.Goals as goal

pub returns-2-clause-states : goal.returns-2-clause-states
returns-2-clause-states c =
    λ rows from to row. rw (c.deref_mut-2.ensures.value, c.deref_mut.ensures.value) (raised_none _)

pub returns-2-clause-built : goal.returns-2-clause-built
returns-2-clause-built c = λ rows from to less b a.
    let below = c.args.halves.value.below in
    let above = c.args.halves.value.above in
    let one = rw (c.deref-3.ensures, c.deref_mut.ensures.value) at c.gap.ensures in
    let other = rw (c.deref-4.ensures, c.deref_mut.ensures.value) at c.gap-2.ensures in
    rw (c.deref_mut-2.ensures.value, c.deref_mut.ensures.value) (
      less,
      b,
      a,
      λ row. rw raised_none (elim (int_lt row (get_or rows (middle from to) (pos 0))) as
          (λ t. IsOutside c.intersection.result (if t then state_at below rows from (middle from to) row
          else state_at above rows (middle from to) to row).winding) [
            | true ↦ c.intersection.ensures.one _ (one rows from (middle from to) b row)
            | false ↦ c.intersection.ensures.other _ (other rows (middle from to) to a row)
          ]),
    )

pub returns-2-clause-reach : goal.returns-2-clause-reach
returns-2-clause-reach c = rw (c.deref_mut-2.ensures.value, c.deref_mut.ensures.value, size_none)
    (omega (arith, ints, clamps))
