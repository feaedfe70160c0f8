-- Answers to the goals of `rule_counts` in `src/summary.rt`.
use Rattle.std.proofs.Common.{List, ap, ◌∙◌, arith}
use Rattle.std.proofs.lemmas.List.{take_all}
use Rattle.std.proofs.lemmas.List.FromFn.{fill_by_all}
use Rattle.mpw_firm_listing.specs.Limited.{count_of}
use Rattle.mpw_markers.specs.declared.marker.Marker.{Marker}
use Rattle.mpw_firm_outputs.specs.Counted.{capped}
use Rattle.mpw_firm_outputs.proofs.Counted.{counts_few, counts_on, count_whole}
use Rattle.mpw_firm_outputs.proofs.summary.rule_counts.Goals as goal

pub count_one-requires : goal.count_one-requires
count_one-requires c k within =
    let few = counts_few c.args.markers.now c.loop-marker.counts.items c.loop-marker.marker-index
    c.loop-marker-test.true c.loop-marker.invariant.1 k within in
    omega (arith, few, c.loop-marker-test.true, c.loop-marker.auto.marker-index-end)

pub loop-marker-preserved : goal.loop-marker-preserved
loop-marker-preserved c = (
  c.count_one.ensures.many ∙ c.loop-marker.invariant.0,
  counts_on c.args.markers.now c.loop-marker.counts.items c.count_one.new.counts.items
      c.loop-marker.marker-index c.marker-item.result c.loop-marker-test.true c.marker-item.is
      c.count_one.ensures.many c.count_one.ensures.more c.loop-marker.invariant.1,
)

pub returns : goal.returns
returns c =
    let markers = c.args.markers.now in
    let many = c.loop-marker.invariant.0 in
    fill_by_all (λ k. capped (count_of markers k)) c.loop-marker.counts.items c.args.rules 0 many
    (λ k h. c.loop-marker.invariant.1 k (omega (arith, h, many))
    ∙ ap (λ (ms : List Marker). count_of ms k)
    (take_all c.loop-marker.marker-index markers c.loop-marker-test.false)
    ∙ count_whole markers k (omega (arith, c.loop-marker-test.false, c.loop-marker.auto.marker-index-end)))
