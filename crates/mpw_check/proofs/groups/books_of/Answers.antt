-- Answers to the goals of `books_of` in `src/groups.rt`.
use Rattle.std.proofs.Common.{subst}
use Rattle.std.specs.Prelude.{IfSome}
use Rattle.mpw_check_groups.specs.Joined.{AreGroupMarkers}
use Rattle.mpw_check.proofs.GroupLemmas.{group_all, group_more}
use Rattle.mpw_check.proofs.groups.books_of.Goals as goal

pub loop-group-preserved : goal.loop-group-preserved
loop-group-preserved g c =
    group_more (AreGroupMarkers c.args.snapshot.now) c.args.groups.now c.loop-group.group-index
    c.group-item.result c.loop-group.books.items c.push.new.self.items c.in-Some.book
    c.loop-group-test.true c.group-item.is c.in_ok-push.ensures.items
    c.loop-group.invariant
    (subst (λ o. IfSome o (AreGroupMarkers c.args.snapshot.now c.group-item.result)) c.in-Some.is
    c.in_ok-book.ensures)

pub returns : goal.returns
returns g c =
    group_all (AreGroupMarkers c.args.snapshot.now) c.args.groups.now c.loop-group.group-index
    c.loop-group.books.items c.loop-group-test.false c.loop-group.invariant
