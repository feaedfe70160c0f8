-- Answers to the goals of `turn` in `src/turn.rt`.
use Rattle.std.proofs.Common.{ap, arith, rules, ◌≤ℤ◌}
use Rattle.std.proofs.lemmas.Int.{ints}
use Rattle.mpw_shapes.specs.Internal.Rows.{reach, size_of, turn_of}
use Rattle.mpw_shapes.proofs.RowStates.{fits_within}
use Rattle.mpw_shapes.proofs.TurnedRows.{turned_missed, turned_hidden, turned_alike, turned_halves, size_turn}
use Rattle.mpw_shapes.proofs.turn.+turn.Goals as goal

pub turn-returns-then-is_missed_by : goal.turn-returns-then-is_missed_by
turn-returns-then-is_missed_by t c =
    turned_missed _ _ _ _ _ _ (rw c.between-band.ensures at
    (c.is_missed_by.ensures.0 c.if-is_missed_by.true)) c.requires.built c.requires.area

pub turn-raise-requires : goal.turn-raise-requires
turn-raise-requires t c =
    record { room = rw (c.turn-then-hides.ensures, size_turn c.args.edge) c.requires.room }

pub turn-returns-then-hides : goal.turn-returns-then-hides
turn-returns-then-hides t c =
    let rows = c.args.rows.now in
    let from = c.args.from in
    let to = c.args.to in
    let node = c.args.node.now in
    let across =
    rw c.between-band.ensures at (c.is_crossed_by.ensures.0 c.if-not-is_crossed_by.false) in
    let outside = c.gap.ensures rows from to c.requires.built in
    turned_hidden rows from to c.args.edge node _ _ across.0 across.1
    (λ row. rw (c.turn-then-hides.ensures) at (c.raise.ensures.states rows from to row))
    (λ row. c.hides.ensures.before c.if-hides.true _ (outside row))
    (λ row. rw c.turn.ensures at (c.hides.ensures.after c.if-hides.true _ (outside row)))
    (c.raise.ensures.built rows from to c.requires.built)
    (rw (c.turn-then-hides.ensures, size_turn c.args.edge) at c.raise.ensures.reach) c.requires.area

pub turn-turn_state-requires-clause-fits : goal.turn-turn_state-requires-clause-fits
turn-turn_state-requires-clause-fits t c =
    let e = ap reach c.in-Alike.is in
    let h : size_of c.in-Alike.state.winding ≤ℤ reach c.args.node.now = omega (arith, ints, e) in
    fits_within c.in-Alike.state.winding (turn_of c.args.edge).winding (reach c.args.node.now) h
    (rw (size_turn c.args.edge) c.requires.room)

pub turn-returns-in_ok-state-in-Alike : goal.turn-returns-in_ok-state-in-Alike
turn-returns-in_ok-state-in-Alike t c =
    let across =
    rw c.between-band.ensures at (c.is_crossed_by.ensures.0 c.if-not-is_crossed_by.false) in
    let done = c.in_ok-state-in-Alike.ensures in
    turned_alike c.args.rows.now c.args.from c.args.to c.args.edge c.args.node.now c.in-Alike.state
    _ _ _ across.0 across.1 c.in-Alike.is done.state (rw c.between-band.ensures at done.squares)
    done.area

pub turn_halves-turn-requires : goal.turn_halves-turn-requires
turn_halves-turn-requires t c =
    let e = c.replace-whole.ensures.value in
    let parts = c.in_ok-halves.ensures.built c.args.rows.now c.args.from c.args.to
    (rw e c.requires.built) in
    let near = rw e at c.in_ok-halves.ensures.below in
    let room = c.requires.room in
    let value = c.deref_mut.ensures.value in (
      search rules,
      (
        omega arith,
        (
          omega arith,
          (
            c.requires.from_below,
            (
              c.requires.clear,
              (rw value parts.0, (rw value (omega (arith, ints, near, room)), c.requires.area)),
            ),
          ),
        ),
      ),
    )

pub turn_halves-turn-requires-2 : goal.turn_halves-turn-requires-2
turn_halves-turn-requires-2 t c =
    let e = c.replace-whole.ensures.value in
    let parts = c.in_ok-halves.ensures.built c.args.rows.now c.args.from c.args.to
    (rw e c.requires.built) in
    let near = rw e at c.in_ok-halves.ensures.above in
    let room = c.requires.room in
    let done = c.in_ok-turn.ensures in (
      search rules,
      (
        omega arith,
        (
          c.requires.in_range,
          (
            c.requires.from_below,
            (
              c.requires.clear,
              (
                rw (c.deref_mut-2.ensures.value, c.deref_mut.ensures.value) parts.1,
                (
                  rw (c.deref_mut-2.ensures.value, c.deref_mut.ensures.value)
                      (omega (arith, ints, near, room)),
                  done.area,
                ),
              ),
            ),
          ),
        ),
      ),
    )

pub turn_halves-returns : goal.turn_halves-returns
turn_halves-returns t c =
    let rows = c.args.rows.now in
    let from = c.args.from in
    let to = c.args.to in
    let e = c.replace-whole.ensures.value in
    let below = rw c.deref_mut.ensures.value at c.in_ok-turn.ensures in
    let above =
    rw (c.deref_mut-2.ensures.value, c.deref_mut.ensures.value) at c.in_ok-turn-2.ensures in
    let built = rw c.deref_mut-2.ensures.value at c.node_of.ensures.built in
    turned_halves rows from to c.args.edge c.args.node.now c.node_of.result
    c.in_ok-halves.halves.value.below c.in_ok-halves.halves.value.above c.turn.new.node
    c.turn-2.new.node c.args.boxes.now.items c.turn.new.boxes.items c.turn-2.new.boxes.items
    c.requires.order c.requires.from_below c.requires.in_range
    (λ row. rw e at (c.in_ok-halves.ensures.states rows from to row))
    (λ row. rw c.deref_mut-2.ensures.value at (c.node_of.ensures.states rows from to row)) below
    above (built rows from to c.requires.order below.built above.built)
    (rw e at c.in_ok-halves.ensures.below) (rw e at c.in_ok-halves.ensures.above)
    (rw c.deref_mut-2.ensures.value at c.node_of.ensures.reach)
