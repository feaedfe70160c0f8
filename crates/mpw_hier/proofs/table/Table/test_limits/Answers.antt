-- Answers to the goals of `Table::test_limits` in `src/table.rt`.
use Rattle.std.proofs.Common.{sym, ◌∙◌}
use Rattle.mpw_hier.proofs.Pushing.{measured, large, small, deep, low, kept}
use Rattle.mpw_hier.proofs.table.Table.test_limits.Goals as goal

pub returns-then-size-most-clause-faults :
    goal.returns-then-size-most-clause-faults
returns-then-size-most-clause-faults c =
    let m = measured c.args.most c.requires.most c.args.self.now c.args.submission.now c.args.nodes.now
    c.index-nodes-nodes.result c.requires.nodes in
    (m.near, large m c.if-size-most.true)

pub returns-then-size-gt-MAX_HEIGHT-clause-faults :
    goal.returns-then-size-gt-MAX_HEIGHT-clause-faults
returns-then-size-gt-MAX_HEIGHT-clause-faults c =
    let m = measured c.args.most c.requires.most c.args.self.now c.args.submission.now c.args.nodes.now
    c.index-nodes-nodes.result c.requires.nodes in (
      m.near,
      (small m c.if-size-most.false, deep m c.if-size-gt-MAX_HEIGHT.true),
    )

pub returns-then-not-has_room-clause-faults : goal.returns-then-not-has_room-clause-faults
returns-then-not-has_room-clause-faults c =
    let m = measured c.args.most c.requires.most c.args.self.now c.args.submission.now c.args.nodes.now
    c.index-nodes-nodes.result c.requires.nodes in (
      m.near,
      (
        small m c.if-size-most.false,
        (low m c.if-size-gt-MAX_HEIGHT.false, sym c.has_room.ensures ∙ c.if-not-has_room.true),
      ),
    )

pub returns-clause-kept : goal.returns-clause-kept
returns-clause-kept c =
    let m = measured c.args.most c.requires.most c.args.self.now c.args.submission.now c.args.nodes.now
    c.index-nodes-nodes.result c.requires.nodes in
    kept m c.if-size-most.false c.if-size-gt-MAX_HEIGHT.false
    (sym c.has_room.ensures ∙ c.if-not-has_room.false)
