-- Answers to the goals of `owners_of` in `src/joining.rt`.
use Rattle.std.proofs.Common.{ℕ, ◌≡◌, subst, arith}
use Rattle.std.specs.Prelude.{IfSome}
use Rattle.mpw_check_groups.specs.Joined.{AreOwners, IsOwner}
use Rattle.mpw_check_groups.proofs.Owning.{owners_more, owners_none}
use Rattle.mpw_check_groups.proofs.joining.owners_of.Goals as goal

pub loop-rule-init : goal.loop-rule-init
loop-rule-init c = (
  omega arith,
  owners_none c.args.groups.now c.in_ok-owners.owners.items c.in_ok-owners.ensures.items,
)

pub loop-rule-preserved : goal.loop-rule-preserved
loop-rule-preserved c = (
  omega (arith, c.loop-rule-test.true),
  owners_more c.args.groups.now c.loop-rule.rule c.loop-rule.owners.items c.push.new.self.items
      c.in-Some.owner
      (subst (λ o. IfSome o (IsOwner c.args.groups.now c.loop-rule.rule)) c.in-Some.is
      c.owner_of.ensures)
      c.in_ok-push-in-Some.ensures.items c.loop-rule.invariant.1,
)

pub returns : goal.returns
returns c =
    let end : c.loop-rule.rule ≡ c.args.rules =
    omega (arith, c.loop-rule-test.false, c.loop-rule.invariant.0) in
    subst (λ (n : ℕ). AreOwners c.args.groups.now n c.loop-rule.owners.items) end
    c.loop-rule.invariant.1
