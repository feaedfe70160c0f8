-- Answers to the goals of `firsts_of` in `src/group_firsts.rt`.
use Rattle.std.proofs.Common.{subst}
use Rattle.std.specs.Prelude.{IfSome}
use Rattle.mpw_check.specs.Internal.Groups.{AreGroupFirsts}
use Rattle.mpw_check.proofs.GroupLemmas.{group_all, group_more}
use Rattle.mpw_check.proofs.group_firsts.firsts_of.Goals as goal

pub loop-group-preserved : goal.loop-group-preserved
loop-group-preserved g c =
    let Is = AreGroupFirsts c.args.sought.now.most c.args.sought.now.snapshot.now in
    group_more Is c.args.groups.now c.loop-group.group-index
    c.group-item.result c.loop-group.firsts.items c.push.new.self.items c.in-Some.first
    c.loop-group-test.true c.group-item.is c.in_ok-push.ensures.items
    c.loop-group.invariant
    (subst (λ o. IfSome o (Is c.group-item.result)) c.in-Some.is c.in_ok-first.ensures)

pub returns : goal.returns
returns g c =
    group_all (AreGroupFirsts c.args.sought.now.most c.args.sought.now.snapshot.now)
    c.args.groups.now c.loop-group.group-index
    c.loop-group.firsts.items c.loop-group-test.false c.loop-group.invariant
