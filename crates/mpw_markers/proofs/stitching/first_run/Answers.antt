-- Answers to the goals of `first_run` in `src/stitching.rt`.
use Rattle.std.proofs.Common.{◌<◌, ◌≤◌, Bor, sym, subst}
use Rattle.mpw_markers.specs.declared.marker.Marker.{Marker}
use Rattle.mpw_markers.specs.Internal.Runs.{IsFirstRun}
use Rattle.mpw_markers.proofs.Grouped.{Reaches, started, taken_in, stopped, all_reached}
use Rattle.mpw_markers.proofs.Referred.{seen, many, at}
use Rattle.mpw_markers.proofs.stitching.first_run.Goals as goal

pub loop-count-init : goal.loop-count-init
loop-count-init c =
    let ms = c.args.markers.now in
    subst (λ (m : Bor Marker). Reaches (seen ms) 1 m.now.key) c.index-markers-0.is
    (started (seen ms) c.index-markers-0.result.now
    (at ms 0 c.index-markers-0.result c.requires.some c.index-markers-0.is)
    (subst (λ n. 1 ≤ n) (sym (many ms)) c.requires.some) c.requires.filled c.requires.ordered)

pub loop-count-preserved : goal.loop-count-preserved
loop-count-preserved c =
    let ms = c.args.markers.now in
    let is = c.if-not-reaches.ensures in
    taken_in (seen ms) c.loop-count.count c.loop-count.run c.longer_key-run.result
    c.index-markers-count.result.now c.loop-count.invariant
    (subst (λ n. c.loop-count.count < n) (sym (many ms)) c.loop-count-test.true)
    (at ms c.loop-count.count c.index-markers-count.result c.loop-count-test.true
    c.index-markers-count.is) c.requires.filled is.0 is.1 c.longer_key-run.ensures

pub returns-then-not-reaches : goal.returns-then-not-reaches
returns-then-not-reaches c =
    let ms = c.args.markers.now in
    stopped (seen ms) c.loop-count.count c.loop-count.run c.index-markers-count.result.now
    c.loop-count.invariant c.loop-count.auto.count
    (subst (λ n. c.loop-count.count < n) (sym (many ms)) c.loop-count-test.true)
    (at ms c.loop-count.count c.index-markers-count.result c.loop-count-test.true
    c.index-markers-count.is) c.requires.ordered c.if-not-reaches.ensures

pub returns : goal.returns
returns c =
    let ms = c.args.markers.now in
    subst (λ n. IsFirstRun (seen ms) n c.loop-count.run) (many ms)
    (all_reached (seen ms) c.loop-count.count c.loop-count.run c.loop-count.invariant
    (subst (λ n. 1 ≤ n) (sym (many ms)) c.requires.some)
    (subst (λ n. n ≤ c.loop-count.count) (sym (many ms)) c.loop-count-test.false))
