-- Answers to the goals of `Rows::raise` in `src/rows.rt`.
use Rattle.std.proofs.Common.{◌∙◌, arith, ap, ℤ, ◌+ℤ◌, ◌≤ℤ◌}
use Rattle.std.proofs.lemmas.Int.{ints}
use Rattle.mpw_shapes.specs.declared.rows.Rows.{Rows}
use Rattle.mpw_shapes.specs.Internal.Rows.{reach, state_at, size_of}
use Rattle.mpw_shapes.proofs.RowStates.{size_sum, within, added_within, fits_within, raised_again, reach_again, raised_winding}
use Rattle.mpw_shapes.proofs.rows.Rows.raise.Goals as goal

pub raise-requires : goal.raise-requires
raise-requires c =
    let e = ap reach c.in-Alike.is in
    let h : size_of c.in-Alike.state.winding ≤ℤ reach c.args.self.now = omega (arith, ints, e) in
    record {
      fits = fits_within c.in-Alike.state.winding c.args.added.winding
          (reach c.args.self.now) h c.requires.room;
    }

pub plus-requires : goal.plus-requires
plus-requires c =
    let halves = c.in-Parted.halves.value in
    let h = added_within halves.added halves.below halves.above _ (ap reach c.in-Parted.is) in
    rw c.deref.ensures (record {
      fits = fits_within halves.added.winding c.args.added.winding
          (reach c.args.self.now) h c.requires.room;
    })

pub returns-in-Alike-clause-states : goal.returns-in-Alike-clause-states
returns-in-Alike-clause-states c = λ rows from to row. rw c.in-Alike.is c.raise.ensures

pub returns-in-Alike-clause-reach : goal.returns-in-Alike-clause-reach
returns-in-Alike-clause-reach c =
    rw (c.raise.ensures, c.in-Alike.is, raised_winding)
    (size_sum c.in-Alike.state.winding c.args.added.winding)

pub returns-in-Parted-clause-states : goal.returns-in-Parted-clause-states
returns-in-Parted-clause-states c =
    let p = c.plus.ensures ∙ ap (λ h. record { winding = h.added.winding +ℤ c.args.added.winding })
    c.deref.ensures in
    λ rows from to row. rw (c.deref_mut-in-Parted.ensures.value, c.deref_mut.ensures.value)
    (raised_again _ _ c.in-Parted.halves.value.added c.args.added c.plus.result
    (ap (λ (n : Rows). state_at n rows from to row) c.in-Parted.is) p)

pub returns-in-Parted-clause-built : goal.returns-in-Parted-clause-built
returns-in-Parted-clause-built c = λ rows from to built.
    let node = c.args.self.now in
    let p = c.plus.ensures ∙ ap (λ h. record { winding = h.added.winding +ℤ c.args.added.winding })
    c.deref.ensures in
    let t = rw c.in-Parted.is at built in
    let same = λ (row : ℤ). raised_again (state_at node rows from to row) _
    c.in-Parted.halves.value.added c.args.added c.plus.result
    (ap (λ (n : Rows). state_at n rows from to row) c.in-Parted.is) p in
    let outside = λ (row : ℤ). c.raise-in-Parted.ensures (state_at node rows from to row).winding
    (fits_within _ _ _ (within node rows from to row) c.requires.room)
    (rw (c.deref-in-Parted.ensures, c.deref_mut.ensures.value, c.in-Parted.is) (t.3 row)) in
    rw (c.deref_mut-in-Parted.ensures.value, c.deref_mut.ensures.value)
    (t.0, t.1, t.2, λ row. rw (same row, raised_winding) (outside row))

pub returns-in-Parted-clause-reach : goal.returns-in-Parted-clause-reach
returns-in-Parted-clause-reach c =
    let p = c.plus.ensures ∙ ap (λ h. record { winding = h.added.winding +ℤ c.args.added.winding })
    c.deref.ensures in
    rw (c.deref_mut-in-Parted.ensures.value, c.deref_mut.ensures.value)
    (reach_again _ _ c.in-Parted.halves.value.added c.args.added c.plus.result
    (ap reach c.in-Parted.is) p)
