-- Answers to the goals of `stack_box` in `src/boxes.rt`.
use Rattle.std.proofs.Common.{length, ◌<◌, ◌-◌, ◌≡◌, ◌<ℤ◌, arith, rules}
use Rattle.std.proofs.lemmas.Int.{ints}
use Rattle.mpw_shapes.proofs.Lists.{Stacks, stacks}
use Rattle.mpw_shapes.proofs.boxes.stack_box.Goals as goal
use Rattle.mpw_shapes.proofs.boxes.stack_box.Goals.{After-join}

stacked : (c : After-join) → Stacks c.args.boxes.now.items (c.len-count.result - 1) c.args.b
    c.join.result
stacked c =
    let boxes = c.args.boxes.now.items in
    let k = c.len-count.result - 1 in
    let e = c.is_continued_by.ensures.0 c.if-is_continued_by.true in
    let h : k < length boxes = omega (arith, c.len-count.ensures, c.args.boxes.now.ok.0) in
    let high : c.args.b.y0 <ℤ c.args.b.y1 = search (rules, arith, ints) in
    stacks boxes k c.index-lower.result.now c.args.b c.join.result h c.requires.area
    c.index-lower.ensures high e.0 e.1 e.2 c.join.ensures

pub returns-then-is_continued_by-clause-squares : goal.returns-then-is_continued_by-clause-squares
returns-then-is_continued_by-clause-squares c =
    (stacked (goal.at.returns-then-is_continued_by-clause-squares c).After-join).squares

pub returns-then-is_continued_by-clause-area : goal.returns-then-is_continued_by-clause-area
returns-then-is_continued_by-clause-area c =
    (stacked (goal.at.returns-then-is_continued_by-clause-area c).After-join).area
