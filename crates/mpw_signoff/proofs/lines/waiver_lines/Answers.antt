-- Answers to the goals of `waiver_lines` in `src/lines.rt`.
use Rattle.std.proofs.Common.{◌∙◌, ◌++◌, ap, sym, arith}
use Rattle.mpw_signoff.specs.WaiverLines.{shown_line}
use Rattle.mpw_signoff.proofs.Listed.{one_more, at_end}
use Rattle.mpw_signoff.proofs.lines.waiver_lines.Goals as goal

pub loop-place-preserved : goal.loop-place-preserved
loop-place-preserved c =
    let rules = c.args.rules.now in
    let seen = c.args.seen.now in
    let m = c.index-book-place.result in
    let before = c.loop-place.lines.items in
    let line =
    c.in_ok-add_shown.ensures ∙ ap (λ o. before ++ shown_line rules seen m o) c.waiver_at.ensures in
    record {
      within = omega (arith, c.loop-place-test.true);
      lines =
          one_more rules seen c.args.waivers.now c.args.book.now c.loop-place.place m before
          c.add_shown.new.lines.items c.loop-place-test.true c.index-book-place.is line
          ∙ c.loop-place.invariant.lines;
    }

pub returns : goal.returns
returns c =
    sym (at_end c.args.rules.now c.args.seen.now c.args.waivers.now c.args.book.now
    c.loop-place.place c.loop-place.lines.items c.loop-place-test.false)
    ∙ c.loop-place.invariant.lines
