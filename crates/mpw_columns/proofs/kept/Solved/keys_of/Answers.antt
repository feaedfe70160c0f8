-- Answers to the goals of `Solved::keys_of` in `src/kept.rt`.
use Rattle.std.proofs.lemmas.Result.{IfOk-weaker}
use Rattle.mpw_columns.proofs.Solving.{some_weaker, solved_moved}
use Rattle.mpw_columns.proofs.kept.Solved.keys_of.Goals as goal

pub returns : goal.returns
returns c = IfOk-weaker c.moved_keys.result _ _ (λ o h. some_weaker o _ _ (λ v e.
    solved_moved c.args.task.now.layout.now c.args.task.now.axis c.args.self.now c.args.core.now
    c.args.things.now c.in-Some.way c.seen_way-way.result v.items c.as_slice.result.now
    c.requires.layout c.requires.solved
    (c.in-Some.ensures.shown c.args.task.now.layout.now.snapshot.now.shelf) c.seen_way-way.ensures
    (c.is_moved_box.ensures c.if-not-is_moved_box.false) c.requires.things e c.as_slice.ensures.value) h)
    c.moved_keys.ensures
