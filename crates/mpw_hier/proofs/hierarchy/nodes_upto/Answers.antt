-- Answers to the goals of `nodes_upto` in `src/hierarchy.rt`.
use Rattle.std.proofs.Common.{◌<◌, ◌≤◌, length, get_or, Err, refl, sym, ap, subst, ◌∙◌, arith}
use Rattle.mpw_hier.specs.declared.fault.HierFault.{HierFault}
use Rattle.mpw_hier.specs.declared.submission.Submission.{Submission}
use Rattle.mpw_hier.specs.Internal.Building.{IsPlace}
use Rattle.mpw_hier.proofs.Reached.{none_numbered, order_place, order_ready, order_few, order_far, none_reached, one_more, not_yet, not_at_all, whole, extent_given}
use Rattle.mpw_hier.proofs.hierarchy.nodes_upto.Goals as goal

pub loop-place-init : goal.loop-place-init
loop-place-init c =
    let made = c.args.hierarchy in record {
      made = record {
        linked = c.requires.linked;
        many = ap length c.requires.none;
        known = none_numbered made.numbers.items;
        reached = none_reached made.submission.now made.nodes.items c.requires.none;
      };
      same = (refl, refl);
      before = λ k lt is. omega (arith, lt);
    }

pub add-requires : goal.add-requires
add-requires c =
    let made = c.loop-place.made in
    let inv = c.loop-place.invariant in
    let i = c.loop-place.place-index in
    let h = c.loop-place-test.true in record {
      linked = rw (inv.same.0, inv.same.1) inv.made.linked;
      place =
          subst (λ (t : Submission). IsPlace t.library (get_or c.args.order.now i 0))
          (sym inv.same.1)
          (order_place c.requires.bound c.requires.top c.requires.order i h);
      ready =
          rw (inv.same.0, inv.same.1)
          (order_ready c.requires.bound c.requires.top c.requires.order i h made.numbers.items
          inv.made.known);
      few =
          subst (λ (t : Submission). length made.nodes.items < length t.library)
          (sym inv.same.1)
          (order_few c.requires.bound c.requires.top c.requires.order i
          (length made.nodes.items) inv.made.many h);
    }

pub returns-in_err-add-clause-far : goal.returns-in_err-add-clause-far
returns-in_err-add-clause-far c =
    λ h.
    let inv = c.loop-place.invariant in
    let given =
    extent_given c.from_residual.result c.in_err-add.field-0.0 h c.from_residual.ensures.1 in
    let far = c.add.ensures.far (c.in_err-add.was ∙ ap (λ (fault : HierFault). Err fault) given) in
    order_far c.requires.bound c.requires.top c.requires.order c.loop-place.place-index
    c.loop-place-test.true (rw (← inv.same.0, ← inv.same.1) far)

pub returns-then-place-top-clause-ok : goal.returns-then-place-top-clause-ok
returns-then-place-top-clause-ok c =
    let inv = c.loop-place.invariant in
    let added = c.in_ok-add.ensures in
    let made = one_more c.requires.bound c.requires.top c.requires.order inv.same
    c.loop-place-test.true inv.made added.linked added.numbers added.one in
    rw c.into_nodes.ensures (whole c.requires.bound c.requires.top c.requires.order
    c.loop-place-test.true c.if-place-top.true made added.one)

pub loop-place-preserved : goal.loop-place-preserved
loop-place-preserved c =
    let inv = c.loop-place.invariant in
    let added = c.in_ok-add.ensures in record {
      made =
          one_more c.requires.bound c.requires.top c.requires.order inv.same
          c.loop-place-test.true inv.made added.linked added.numbers added.one;
      same = (added.same.0 ∙ inv.same.0, added.same.1 ∙ inv.same.1);
      before =
          not_yet c.args.order.now c.args.top c.loop-place.place-index inv.before
          c.if-place-top.false;
    }

pub returns-clause-faults : goal.returns-clause-faults
returns-clause-faults c =
    let past : length c.args.order.now ≤ c.loop-place.place-index =
    omega (arith, c.loop-place-test.false) in
    not_at_all c.args.order.now c.args.top c.loop-place.place-index c.requires.order.whole past
    c.loop-place.invariant.before
