-- Answers to the goals of `seen_count` in `src/count.rt`.
use Rattle.std.proofs.Common.{◌≡◌, ◌<◌, ◌≤◌, length, ap, ◌∙◌, arith}
use Rattle.std.specs.Prelude.{slice_index, true}
use Rattle.mpw_seen.specs.Internal.Marks.{is_marked}
use Rattle.mpw_seen.proofs.Reaching.{mark_is}
use Rattle.mpw_seen.proofs.count.seen_count.Goals as goal

pub submission_count-requires-clause-outer : goal.submission_count-requires-clause-outer
submission_count-requires-clause-outer c = λ s name to here bound lt.
    let place = c.loop-place.place in
    let marks = c.in_ok-marks.marks.items in
    let reached = c.in_ok-marks.ensures in
    let within : place < length marks = omega (arith, c.loop-place-test.true, reached.many) in
    let marked : is_marked marks place ≡ true =
    mark_is marks place _ true within c.index.ensures c.if-index.true in
    let least : 0 ≤ place = omega arith in
    ap (λ numbers. slice_index numbers to) c.deref.ensures.value
    ∙ c.loop-place.invariant.each to lt (reached.bound place to s name least marked here bound lt)
