-- Answers to the goals of `follow_on` in `src/whole.rt`.
use Rattle.std.proofs.Common.{◌≡◌, ◌∙◌, ◌+◌, ◌≤◌, length, sym, subst}
use Rattle.std.proofs.lemmas.Bool.{false≢true}
use Rattle.std.proofs.lemmas.List.{take_all}
use Rattle.mpw_firm_parts.specs.Parts.{Found}
use Rattle.mpw_firm_parts.specs.Stitching.{FollowOn}
use Rattle.mpw_firm_parts.proofs.Following.{part_more, stays_within}
use Rattle.mpw_firm_parts.proofs.Faults.{fault_here, ends_early}
use Rattle.mpw_firm_parts.proofs.whole.follow_on.Goals as goal

pub loop-part-preserved : goal.loop-part-preserved
loop-part-preserved c =
    let part = c.part-item.result in
    let less = c.loop-part-test.true in
    let begins = c.begins_at.ensures.0 c.if-not-begins_at.false in
    let own = subst (λ (p : Found). p.subject.columns ≡ c.args.columns) (sym c.part-item.is)
    (c.requires.own c.loop-part.part-index part less) in
    rw c.lists-more.ensures.lists (
      part_more c.args.parts.now c.loop-part.part-index part c.loop-part.reached less
          (sym c.part-item.is) c.loop-part.invariant.0 begins,
      stays_within c.args.columns part c.loop-part.reached begins c.loop-part.invariant.1
          c.lists-more.ensures.within.few own,
    )

pub returns-then-not-begins_at-clause-faults : goal.returns-then-not-begins_at-clause-faults
returns-then-not-begins_at-clause-faults c =
    let part = c.part-item.result in
    let less = c.loop-part-test.true in
    let own = subst (λ (p : Found). p.subject.columns ≡ c.args.columns) (sym c.part-item.is)
    (c.requires.own c.loop-part.part-index part less) in
    rw (c.fault_at.ensures, c.first.ensures)
    (fault_here c.args.columns c.args.parts.now c.loop-part.part-index part c.loop-part.reached
    c.requires.ordered less (sym c.part-item.is) c.loop-part.invariant.0
    (λ begins. false≢true (sym c.if-not-begins_at.true ∙ c.begins_at.ensures.1 begins))
    (subst (λ t. part.first + length part.lists ≤ t) own c.lists-more.ensures.within.few))

pub returns-then-reached-columns-clause-faults : goal.returns-then-reached-columns-clause-faults
returns-then-reached-columns-clause-faults c =
    let whole = take_all c.loop-part.part-index c.args.parts.now c.loop-part-test.false in
    ends_early c.args.columns c.args.parts.now c.loop-part.reached
    (subst (λ ps. FollowOn 0 ps c.loop-part.reached) whole c.loop-part.invariant.0)
    c.if-reached-columns.true
