-- Answers to the goals of `count_lines` in `src/markers.rt`.
use Rattle.std.proofs.Common.{◌+◌, length, sym, ap, ◌∙◌}
use Rattle.std.proofs.lemmas.List.{length-append}
use Rattle.mpw_replies.specs.Ranks.{numbered_lines, shown_lines}
use Rattle.mpw_replies.proofs.MarkerLemmas.{shown_count}
use Rattle.mpw_replies.proofs.markers.count_lines.Goals as goal

pub returns : goal.returns
returns c names =
    let full = shown_lines names c.args.rules.now c.args.seen.now c.args.book.now in
    let masked = numbered_lines c.args.numbers.now 0 c.args.rules.now in
    ap (λ n. n + c.count_numbered.result) (c.count_shown.ensures.count
    ∙ sym (shown_count names c.args.rules.now c.args.seen.now c.args.book.now))
    ∙ ap (λ n. length full + n) c.count_numbered.ensures.count ∙ sym (length-append full masked)
