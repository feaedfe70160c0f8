-- Answers to the goals of `check_column` in `src/check.rt`.
use Rattle.mpw_columns.proofs.Telling.{runs_within, one_place}
use Rattle.mpw_columns.proofs.check.check_column.Goals as goal

pub of-requires : goal.of-requires
of-requires c = λ k l there also tied.
    let layout = c.args.layout.now in
    let s = layout.snapshot.now in
    let column = c.args.column.now in
    let runs = runs_within c.test_decides_pair_steps.ensures c.columns_have_whole_runs.ensures s
    layout.extent column c.in_ok-keys.keys.items c.requires.layout.extent_is c.in_ok-keys.ensures in
    one_place c.test_decides_pair_steps.ensures s column k l ((runs k).0 there) ((runs l).0 also) tied

pub returns : goal.returns
returns c =
    let layout = c.args.layout.now in
    let s = layout.snapshot.now in
    let column = c.args.column.now in
    let runs = runs_within c.test_decides_pair_steps.ensures c.columns_have_whole_runs.ensures s
    layout.extent column c.in_ok-keys.keys.items c.requires.layout.extent_is c.in_ok-keys.ensures in
    record {
      exact = λ k. (
        λ there. (runs k).0 ((c.of.ensures.same k).0 there),
        λ run. (c.of.ensures.same k).1 ((runs k).1 run),
      );
      ordered = c.of.ensures.ordered;
    }
