-- The roles are those without it.
use Rattle.std.proofs.Common.{◌≤◌, ◌∙◌, sym, ap, subst, length, arith}
use Rattle.mpw_roles.specs.Hierarchy.{without_role, is_role}
use Rattle.mpw_roles.specs.Order.{IsHierarchy}
use Rattle.mpw_roles.specs.Places.{IsRoles}
use Rattle.mpw_roles.proofs.HierarchyLemmas.{IsHierarchy-without_role, shrinks}
use Rattle.mpw_roles.proofs.PlacesLemmas.{written-back}
use Rattle.mpw_roles.proofs.TableLemmas.{remove-ok}
use Rattle.mpw_roles.proofs.roles.Roles.remove.Goals as goal

pub remove-requires : goal.remove-requires
remove-requires c = ap (λ k. is_role k c.args.role.now) c.self.view_is
    ∙ sym c.contains.ensures ∙ c.if-not-contains.false

pub invariant_of-self : goal.invariant_of-self
invariant_of-self c =
    let back = written-back c.remask.new.masks c.self.inside.masks.items c.self.inside.masks.len
    (let long = c.remask.ensures.same in omega arith) (omega arith) in
    subst (IsRoles c.remove.new.self) (sym back) (record {
      kept = subst IsHierarchy (sym c.remove.ensures)
          (IsHierarchy-without_role c.self.inside.table c.args.role.now c.self.invariant.kept);
      masked = c.remask.ensures.masked;
    })

pub returns-clause-ok : goal.returns-clause-ok
returns-clause-ok c = remove-ok c.args.self.now c.remove.new.self c.args.role.now
    (sym c.contains.ensures ∙ c.if-not-contains.false)
    (c.remove.ensures ∙ ap (λ k. without_role k c.args.role.now) c.self.view_is)

pub remask-requires-clause-small : goal.remask-requires-clause-small
remask-requires-clause-small c =
    let fewer : length c.remove.new.self ≤ length c.self.inside.table =
    subst (λ k. length k ≤ length c.self.inside.table) (sym c.remove.ensures)
    (shrinks c.self.inside.table c.args.role.now) in
    let small = c.self.invariant.kept.small in
    omega arith

pub remask-requires-clause-long : goal.remask-requires-clause-long
remask-requires-clause-long c =
    let fewer : length c.remove.new.self ≤ length c.self.inside.table =
    subst (λ k. length k ≤ length c.self.inside.table) (sym c.remove.ensures)
    (shrinks c.self.inside.table c.args.role.now) in
    let room = c.self.invariant.masked.long in
    let value = ap length c.deref_mut.ensures.value in
    omega arith
