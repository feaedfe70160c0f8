-- Answers to the goals of `first_of_book` in `src/first.rt`.
use Rattle.std.proofs.Common.{length, ap, ◌∙◌, arith}
use Rattle.std.proofs.lemmas.List.{length-replicate}
use Rattle.mpw_check.proofs.FirstLemmas.{none_seen, rule_counted, count_few, one_more, whole_seen}
use Rattle.mpw_check.proofs.first.first_of_book.Goals as goal

pub loop-marker-init : goal.loop-marker-init
loop-marker-init c = (
  ap length c.in_ok-first.ensures.zeros ∙ length-replicate c.args.rules 0,
  c.in_ok-first.ensures.all,
  none_seen c.args.most c.args.rules c.args.book.now c.in_ok-first.first
      c.in_ok-first.ensures.none c.in_ok-first.ensures.zeros,
)

pub add_one-requires-clause-there : goal.add_one-requires-clause-there
add_one-requires-clause-there c =
    rule_counted c.args.rules c.args.book.now c.loop-marker.marker-index c.marker-item.result
    c.loop-marker.first.counts.items c.loop-marker-test.true c.marker-item.is c.requires
    c.loop-marker.invariant.0

pub add_one-requires-clause-room : goal.add_one-requires-clause-room
add_one-requires-clause-room c =
    let few = count_few c.args.most c.args.book.now c.loop-marker.marker-index
    c.marker-item.result.key.rule c.loop-marker.first c.loop-marker-test.true
    c.loop-marker.invariant.2 (add_one-requires-clause-there c) in
    omega (arith, few, c.loop-marker-test.true, c.loop-marker.auto.marker-index-end)

pub loop-marker-preserved : goal.loop-marker-preserved
loop-marker-preserved c = (
  c.in_ok-add_one.ensures.long ∙ c.loop-marker.invariant.0,
  c.in_ok-add_one.ensures.all ∙ c.loop-marker.invariant.1,
  one_more c.args.most c.args.book.now c.loop-marker.marker-index c.marker-item.result
      c.loop-marker.first c.add_one.new.first c.loop-marker-test.true c.marker-item.is
      (rule_counted c.args.rules c.args.book.now c.loop-marker.marker-index c.marker-item.result
      c.loop-marker.first.counts.items c.loop-marker-test.true c.marker-item.is c.requires
      c.loop-marker.invariant.0) c.in_ok-add_one.ensures c.loop-marker.invariant.2,
)

pub returns : goal.returns
returns c =
    whole_seen c.args.most c.args.rules c.args.book.now c.loop-marker.marker-index
    c.loop-marker.first c.loop-marker-test.false
    (omega (arith, c.loop-marker.auto.marker-index-end))
    c.loop-marker.invariant.0 c.loop-marker.invariant.1 c.loop-marker.invariant.2
