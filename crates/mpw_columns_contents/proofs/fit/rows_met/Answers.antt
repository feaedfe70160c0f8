-- Answers to the goals of `rows_met` in `src/fit.rt`.
use Rattle.mpw_columns_contents.proofs.Spans.{along_same, x_of, y_of, rows_missed}
use Rattle.mpw_columns_contents.proofs.fit.rows_met.Goals as goal

pub returns-clause-missed : goal.returns-clause-missed
returns-clause-missed c =
    let there = c.args.there in
    let window = c.args.window in
    let a = c.args.array.now in
    rows_missed there window a c.along-x.result c.along-y.result c.both.result
    (along_same c.span_x.result c.span_x-2.result (x_of there) (x_of window) c.steps_x.result _
    a.rows c.along-x.result
    c.span_x.ensures c.span_x-2.ensures c.steps_x.ensures c.along-x.ensures.missed)
    (along_same c.span_y.result c.span_y-2.result (y_of there) (y_of window) c.steps_y.result _
    a.rows c.along-y.result
    c.span_y.ensures c.span_y-2.ensures c.steps_y.ensures c.along-y.ensures.missed)
    c.both.ensures.outside
