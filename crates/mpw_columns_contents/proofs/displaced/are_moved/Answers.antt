-- Answers to the goals of `are_moved` in `src/displaced.rt`.
use Rattle.std.proofs.Common.{subst}
use Rattle.std.specs.Prelude.{IsTrue}
use Rattle.std.proofs.lemmas.Bool.{false≢true}
use Rattle.mpw_columns_contents.proofs.Moved.{each_moved}
use Rattle.mpw_columns_contents.proofs.displaced.are_moved.Goals as goal

pub returns-then-not-is_moved : goal.returns-then-not-is_moved
returns-then-not-is_moved c = (
  λ no. absurd (false≢true no),
  λ h. subst IsTrue c.if-not-is_moved.true (c.is_moved.ensures.1 (each_moved c.args.d c.args.a.now
      c.args.b.now h c.loop-place.place c.loop-place-test.true _ _)),
)
