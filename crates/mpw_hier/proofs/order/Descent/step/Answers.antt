-- Answers to the goals of `Descent::step` in `src/order.rt`.
use Rattle.std.proofs.Common.{◌≡◌, ◌-◌, ◌+◌, length, get_or, refl, ap, arith, ◌∙◌}
use Rattle.mpw_hier.proofs.Steps.{ended, passed, entered_next, cycle_found, work_ended, work_passed, work_entered}
use Rattle.mpw_hier.proofs.StepReads.{read, at_place, at_target}
use Rattle.mpw_hier.proofs.order.Descent.step.Goals as goal

pub returns-then-steps-le1 : goal.returns-then-steps-le1
returns-then-steps-le1 c =
    let s = c.args.self.now in
    let p = c.index-place.result.now in
    let a = at_place s c.requires.under_way c.len.ensures c.if-is_empty.ensures c.index-place.ensures
    c.index-steps.ensures in
    let m : c.len-then-steps-le1.result ≡ length s.path.items =
    omega (arith, c.len-then-steps-le1.ensures, s.path.ok.0) in
    record {
      under_way =
          rw (c.truncate.ensures.items, c.in_ok-push.ensures.items, m)
          (ended c.args.graph.now s.top s.left.items s.path.items s.order.items p c.requires.graph
          c.requires.under_way a.some a.last (omega (arith, a.left_are, c.if-steps-le1.true)));
      top = refl;
      less = λ _. work_ended s.left.items s.path.items c.truncate.new.self.items p a.inside a.some
          (rw m at c.truncate.ensures.items);
      done = λ e. cc;
      cycle = λ e. absurd cc;
    }

pub returns-then-index-eq0 : goal.returns-then-index-eq0
returns-then-index-eq0 c =
    let s = c.args.self.now in
    let p = c.index-place.result.now in
    let steps = c.index-steps.result.now in
    let a = at_place s c.requires.under_way c.len.ensures c.if-is_empty.ensures c.index-place.ensures
    c.index-steps.ensures in
    let b = at_target s c.requires.graph c.requires.under_way a
    (omega (arith, c.if-steps-le1.false)) c.target-target.ensures in
    let down : steps - 1 ≡ (steps - 2) + 1 = omega (arith, c.if-steps-le1.false) in
    let zero =
    read s.left.items c.target-target.result c.index.result.now b.inside c.index.ensures
    ∙ c.if-index-eq0.true in
    record {
      under_way =
          rw down (passed c.args.graph.now s.top s.left.items s.path.items s.order.items p
          (steps - 2) c.requires.under_way a.some a.last b.left_are
          (ap (λ k. get_or s.left.items k 0) b.is ∙ zero));
      top = refl;
      less = λ _. work_passed s.left.items s.path.items p (steps - 1) a.inside
          (omega (arith, a.left_are, c.if-steps-le1.false));
      done = λ e. cc;
      cycle = λ e. absurd cc;
    }

pub returns-then-index-entered-clause-cycle : goal.returns-then-index-entered-clause-cycle
returns-then-index-entered-clause-cycle c =
    λ _.
    let s = c.args.self.now in
    let t = c.target-target.result in
    let a = at_place s c.requires.under_way c.len.ensures c.if-is_empty.ensures c.index-place.ensures
    c.index-steps.ensures in
    let b = at_target s c.requires.graph c.requires.under_way a
    (omega (arith, c.if-steps-le1.false)) c.target-target.ensures in
    let first = read s.left.items t c.index.result.now b.inside c.index.ensures in
    let second = read s.left.items t c.index-2.result.now b.inside c.index-2.ensures in
    cycle_found c.args.graph.now s.top s.left.items s.path.items s.order.items
    c.index-place.result.now (c.index-steps.result.now - 2) t c.requires.graph c.requires.under_way
    a.some a.last b.within b.is (omega (arith, first, c.if-index-eq0.false))
    (omega (arith, second, c.if-index-entered.true, c.count-entered.ensures.count))

pub returns : goal.returns
returns c =
    let s = c.args.self.now in
    let t = c.target-target.result in
    let a = at_place s c.requires.under_way c.len.ensures c.if-is_empty.ensures c.index-place.ensures
    c.index-steps.ensures in
    let b = at_target s c.requires.graph c.requires.under_way a
    (omega (arith, c.if-steps-le1.false)) c.target-target.ensures in
    let second = read s.left.items t c.index-2.result.now b.inside c.index-2.ensures in
    record {
      under_way =
          rw (c.in_ok-push-2.ensures.items, c.count-entered.ensures.count)
          (entered_next c.args.graph.now s.top s.left.items s.path.items s.order.items
          c.index-place.result.now (c.index-steps.result.now - 2) t c.requires.graph
          c.requires.under_way a.some a.last b.within b.is
          (omega (arith, second, c.if-index-entered.false, c.count-entered.ensures.count)));
      top = refl;
      less = λ _. work_entered s.left.items s.path.items c.push-2.new.self.items t
          (c.count-entered.result + 1) b.inside
          (omega (arith, second, c.if-index-entered.false)) c.in_ok-push-2.ensures.items;
      done = λ e. cc;
      cycle = λ e. absurd cc;
    }
