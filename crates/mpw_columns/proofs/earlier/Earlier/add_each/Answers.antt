-- Answers to the goals of `Earlier::add_each` in `src/earlier.rt`.
use Rattle.std.proofs.Common.{length}
use Rattle.mpw_columns.proofs.Blocked.{told_one}
use Rattle.mpw_columns.proofs.earlier.Earlier.add_each.Goals as goal

pub loop-preserved : goal.loop-preserved
loop-preserved c = record {
  told = told_one c.args.all.now.layout.now c.args.all.now.list.now (length c.args.self.now.likes.items)
      c.loop.counter c.loop.self.likes.items c.look.new.self.likes.items c.push.new.self.items c.in_ok-like.like
      c.loop.invariant.told c.in_ok-like.ensures.likes c.in_ok-like.ensures.like c.in_ok-push.ensures.items;
  kept = c.in_ok-like.ensures.kept;
}
