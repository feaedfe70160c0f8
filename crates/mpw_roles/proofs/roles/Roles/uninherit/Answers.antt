-- The pair is removed, and the others of its senior stay.
use Rattle.std.proofs.Common.{◌≡◌, ◌∙◌, sym, subst, true, arith, ap, length}
use Rattle.mpw_roles.specs.Hierarchy.{is_role, is_immediate, without_pair}
use Rattle.mpw_roles.specs.Order.{IsHierarchy}
use Rattle.mpw_roles.specs.Places.{IsRoles}
use Rattle.mpw_roles.proofs.HierarchyLemmas.{IsHierarchy-without_pair, length-with_juniors}
use Rattle.mpw_roles.proofs.RoleLemmas.{first_role}
use Rattle.mpw_roles.proofs.PlacesLemmas.{written-back}
use Rattle.mpw_roles.proofs.TableLemmas.{uninherit-ok}
use Rattle.mpw_roles.proofs.roles.Roles.uninherit.Goals.{After-remove_pair}
use Rattle.mpw_roles.proofs.roles.Roles.uninherit.Goals as goal

pub remove_pair-requires-clause-senior : goal.remove_pair-requires-clause-senior
remove_pair-requires-clause-senior c = ap (λ k. is_role k c.args.senior.now) c.self.view_is
    ∙ first_role c.args.self.now c.args.senior.now c.args.junior.now
    (sym c.is_immediate.ensures ∙ c.if-not-is_immediate.false)

pub remove_pair-requires-clause-junior : goal.remove_pair-requires-clause-junior
remove_pair-requires-clause-junior c =
    let pair : is_immediate c.self.inside.table c.args.senior.now c.args.junior.now ≡ true =
    ap (λ k. is_immediate k c.args.senior.now c.args.junior.now) c.self.view_is
    ∙ sym c.is_immediate.ensures ∙ c.if-not-is_immediate.false in
    c.self.invariant.kept.pairs_of_roles c.args.senior.now c.args.junior.now pair

-- the pair existed, its senior is a role, and the roles are those without it
gone : (c : After-remove_pair) → (is_immediate c.args.self.now c.args.senior.now c.args.junior.now
    ≡ true) × (is_role c.args.self.now c.args.senior.now ≡ true)
    × (c.remove_pair.new.self ≡ without_pair c.args.self.now c.args.senior.now c.args.junior.now)
gone c =
    let there = sym c.is_immediate.ensures ∙ c.if-not-is_immediate.false in (
      there,
      first_role c.args.self.now c.args.senior.now c.args.junior.now there,
      c.remove_pair.ensures
          ∙ ap (λ k. without_pair k c.args.senior.now c.args.junior.now) c.self.view_is,
    )

-- there are as many roles as before
as_many : (c : After-remove_pair) → length c.remove_pair.new.self ≡ length c.args.self.now
as_many c = ap length (gone c).2 ∙ length-with_juniors c.args.self.now c.args.senior.now _

pub invariant_of-self : goal.invariant_of-self
invariant_of-self c =
    let h = c.args.self.now in
    let t = gone (goal.at.invariant_of-self c).After-remove_pair in
    let back = written-back c.remask.new.masks c.self.inside.masks.items c.self.inside.masks.len
    (let long = c.remask.ensures.same in omega arith) (omega arith) in
    subst (IsRoles c.remove_pair.new.self) (sym back) (record {
      kept = subst IsHierarchy (sym t.2)
          (IsHierarchy-without_pair h c.args.senior.now c.args.junior.now t.1
          (subst IsHierarchy c.self.view_is c.self.invariant.kept));
      masked = c.remask.ensures.masked;
    })

pub returns-clause-ok : goal.returns-clause-ok
returns-clause-ok c =
    let t = gone (goal.at.returns-clause-ok c).After-remove_pair in
    uninherit-ok c.args.self.now c.remove_pair.new.self c.args.senior.now c.args.junior.now t.0 t.2

pub remask-requires-clause-small : goal.remask-requires-clause-small
remask-requires-clause-small c =
    let same = as_many (goal.at.remask-requires-clause-small c).After-remove_pair in
    let view = ap length c.self.view_is in
    let small = c.self.invariant.kept.small in
    omega arith

pub remask-requires-clause-long : goal.remask-requires-clause-long
remask-requires-clause-long c =
    let same = as_many (goal.at.remask-requires-clause-long c).After-remove_pair in
    let view = ap length c.self.view_is in
    let room = c.self.invariant.masked.long in
    let value = ap length c.deref_mut.ensures.value in
    omega arith
