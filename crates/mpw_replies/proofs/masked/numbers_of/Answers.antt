-- Answers to the goals of `numbers_of` in `src/masked.rt`.
use Rattle.std.proofs.Common.{◌≡◌, ℕ, [], length, replicate, subst, sym, ap, ◌∙◌, arith}
use Rattle.std.proofs.lemmas.List.{length-replicate}
use Rattle.mpw_replies.specs.Internal.Ranks.{AreNumbers}
use Rattle.mpw_replies.proofs.MarkerLemmas.{number_few, numbers_none, numbers_on}
use Rattle.mpw_replies.proofs.masked.numbers_of.Goals as goal

pub loop-marker-init : goal.loop-marker-init
loop-marker-init c =
    let zeros : c.in_ok-numbers.numbers.items ≡ replicate c.args.many 0 =
    c.in_ok-numbers.ensures.items_if_clones_equal (λ y h. h) in
    let many : length (replicate {A = ℕ} c.args.many 0) ≡ c.args.many = length-replicate c.args.many
    0 in (
      ap length zeros ∙ many,
      subst (λ ns. AreNumbers c.args.seen.now [] ns) (sym zeros)
          (numbers_none c.args.seen.now c.args.many),
    )

pub add_masked-requires : goal.add_masked-requires
add_masked-requires c place inside =
    let few = number_few c.args.seen.now c.args.book.now c.loop-marker.numbers.items
    c.loop-marker.marker-index
    c.loop-marker-test.true c.loop-marker.invariant.1 place inside in
    omega (arith, few, c.loop-marker-test.true, c.loop-marker.auto.marker-index-end)

pub loop-marker-preserved : goal.loop-marker-preserved
loop-marker-preserved c = (
  c.add_masked.ensures.many ∙ c.loop-marker.invariant.0,
  numbers_on c.args.seen.now c.args.book.now c.loop-marker.numbers.items
      c.add_masked.new.numbers.items
      c.loop-marker.marker-index c.marker-item.result c.loop-marker-test.true c.marker-item.is
      c.add_masked.ensures.many c.add_masked.ensures.more c.loop-marker.invariant.1,
)
