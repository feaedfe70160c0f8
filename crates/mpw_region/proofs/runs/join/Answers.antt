-- Answers to the goals of `join` in `src/runs.rt`.
use Rattle.std.proofs.Common.{arith, suc, get_or, ◌∙◌}
use Rattle.std.proofs.lemmas.Bool.Decides.{when_true, when_false}
use Rattle.std.proofs.lemmas.List.{take_all}
use Rattle.mpw_region.specs.declared.runs.Run.{Run}
use Rattle.mpw_region.proofs.Joins.{no_run, Joins-start, Joins-push, Joins-merge, Joins-end, AreApart-end, begins_start, begins_next, before_from_unreached, from_begins, done_more}
use Rattle.mpw_region.proofs.runs.join.Goals as goal
use Rattle.mpw_region.proofs.runs.join.Goals.{then-reaches, else-reaches+in_ok-push}

pub loop-run-init : goal.loop-run-init
loop-run-init c = record {
  joins = rw c.in_ok-joined.ensures.items
      (Joins-start c.args.first (c.requires.filled 0 no_run (omega arith)));
  begins = begins_start c.args.first c.args.rest.now c.requires.ordered;
}

pub loop-run-preserved : goal.loop-run-preserved
loop-run-preserved c =
    let i = c.loop-run.run-index in
    let joins = c.loop-run.invariant.joins in
    let begins = c.loop-run.invariant.begins in
    let run : Run = get_or c.args.rest.now i no_run in
    let first = begins i no_run (omega arith) c.loop-run-test.true in
    let filled = c.requires.filled (suc i) no_run (omega arith) in
    let more = done_more c.args.first c.args.rest.now i no_run c.loop-run-test.true in
    elim c.if-reaches.branch [
      | then-reaches w ↦
          let m = when_true _ _ w.if-reaches.true c.reaches.ensures in
          let is = w.last-is ∙ w.merge-last.ensures in
          record {
            joins = rw (w.joined-is, is, more)
                (Joins-merge c.loop-run.joined.items c.loop-run.last run _ joins m.0
                (from_begins c.loop-run.last run first m.0) m.1 filled);
            begins = rw is (λ m d l b. begins m d (omega arith) b);
          }
      | else-reaches+in_ok-push w ↦
          let m = when_false _ _ w.if-reaches.false c.reaches.ensures in
          record {
            joins = rw (w.joined-is, w.last-is, more, w.in_ok-push.ensures.items)
                (Joins-push c.loop-run.joined.items c.loop-run.last run _ joins
                (before_from_unreached c.loop-run.last run first m) filled);
            begins = rw w.last-is (begins_next c.args.first c.args.rest.now i no_run
                c.requires.ordered c.loop-run-test.true);
          }
    ]

pub returns-clause-places : goal.returns-clause-places
returns-clause-places c = λ line at. rw c.in_ok-push-2.ensures.items
    (let e = take_all c.loop-run.run-index c.args.rest.now (omega arith) in
    let h = c.loop-run.invariant.joins in Joins-end c.loop-run.joined.items c.loop-run.last _
    (rw e at h) line at)

pub returns-clause-apart : goal.returns-clause-apart
returns-clause-apart c =
    rw c.in_ok-push-2.ensures.items (AreApart-end _ _ _ c.loop-run.invariant.joins)
