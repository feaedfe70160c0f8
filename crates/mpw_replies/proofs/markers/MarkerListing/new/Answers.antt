-- Answers to the goals of `MarkerListing::new` in `src/markers.rt`.
use Rattle.std.proofs.Common.{◌≡◌, length, ap, ◌∙◌, subst}
use Rattle.mpw_replies.specs.Internal.Ranks.{AreNumbers, AreRanks}
use Rattle.mpw_replies.proofs.RankLemmas.{met_are}
use Rattle.mpw_replies.proofs.MarkerLemmas.{lines_are}
use Rattle.mpw_replies.proofs.markers.MarkerListing.new.Goals as goal

pub returns : goal.returns
returns c =
    let shelf = c.args.shelf.now in
    let cells = c.in_ok-cells.cells in
    let seen = c.args.seen.items in
    let ranks : AreRanks cells shelf c.in_ok-ranks.ranks.items =
    subst (λ ss. AreRanks cells ss c.in_ok-ranks.ranks.items) c.submissions.ensures
    (subst (λ cs. AreRanks cs c.submissions.result.now c.in_ok-ranks.ranks.items) c.as_slice.ensures
    c.in_ok-ranks.ensures) in
    let many : length c.in_ok-numbers.numbers.items ≡ length c.args.rules =
    c.in_ok-numbers.ensures.many ∙ ap length c.as_slice-2.ensures in
    let numbers : AreNumbers seen c.args.book c.in_ok-numbers.numbers.items =
    subst (λ ms. AreNumbers seen ms c.in_ok-numbers.numbers.items) c.as_slice-3.ensures.markers
    (subst (λ bs. AreNumbers bs c.as_slice-3.result.now c.in_ok-numbers.numbers.items)
    c.deref.ensures.value c.in_ok-numbers.ensures.numbers) in
    lines_are c.args.rules shelf seen c.args.book cells c.in_ok-ranks.ranks.items
    c.in_ok-numbers.numbers.items
    (met_are shelf cells c.in_ok-ranks.ranks.items c.in_ok-cells.ensures ranks) many numbers
