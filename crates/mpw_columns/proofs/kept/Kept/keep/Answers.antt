-- Answers to the goals of `Kept::keep` in `src/kept.rt`.
use Rattle.std.proofs.Common.{refl}
use Rattle.mpw_columns.specs.declared.kept.Solved.{Solved}
use Rattle.mpw_columns.proofs.Solving.{solved_new, solved_more}
use Rattle.mpw_columns.proofs.kept.Kept.keep.Goals as goal

pub returns : goal.returns
returns c =
    let l = c.args.task.now.layout.now in
    let axis = c.args.task.now.axis in
    let s : Solved = record {
      core = c.args.core.now;
      things = c.in_ok-copy.field-0;
      keys = c.in_ok-copied.field-0;
    } in
    solved_more l axis s c.args.self.now.solved.items c.push.new.self.items c.requires.solved
    (solved_new l axis c.args.core.now c.args.things.now c.args.keys.now s c.requires.layout refl
    c.in_ok-copy.ensures c.in_ok-copied.ensures c.requires.things c.requires.pieces)
    c.in_ok-push.ensures.items
