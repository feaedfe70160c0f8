-- A new pair is added after the others of its senior.
use Rattle.std.proofs.Common.{◌≡◌, ◌∙◌, sym, ap, arith, length, subst, true, false}
use Rattle.mpw_roles.specs.Hierarchy.{role_names, with_pair, is_role, is_immediate}
use Rattle.mpw_roles.specs.Order.{at_least}
use Rattle.mpw_roles.specs.Places.{IsRoles, IsMasked}
use Rattle.mpw_roles.proofs.HierarchyLemmas.{IsHierarchy-with_pair, names-with_juniors, length-with_juniors}
use Rattle.mpw_roles.proofs.PlacesLemmas.{written-back}
use Rattle.mpw_roles.proofs.TableLemmas.{inherit-ok}
use Rattle.mpw_roles.proofs.roles.Roles.inherit.Goals.{In_ok-add_pair}
use Rattle.mpw_roles.proofs.roles.Roles.inherit.Goals as goal

-- the tests of the pair
tested : (c : In_ok-add_pair) → (is_role c.args.self.now c.args.senior.now ≡ true)
    × (is_role c.args.self.now c.args.junior.now ≡ true)
    × (is_immediate c.args.self.now c.args.senior.now c.args.junior.now ≡ false)
    × (at_least c.args.self.now c.args.junior.now c.args.senior.now ≡ false)
tested c = (
  sym c.contains.ensures ∙ c.if-not-contains.false,
  sym c.contains-else-not-contains.ensures ∙ c.if-not-contains-2.false,
  sym c.is_immediate.ensures ∙ c.if-is_immediate.false,
  sym c.at_least.ensures ∙ c.if-at_least.false,
)

-- and the roles with it
paired : (c : In_ok-add_pair)
    → c.add_pair.new.self ≡ with_pair c.args.self.now c.args.senior.now c.args.junior.now
paired c = c.in_ok-add_pair.ensures.ok
    ∙ ap (λ k. with_pair k c.args.senior.now c.args.junior.now) c.self.view_is

pub add_pair-requires-clause-senior : goal.add_pair-requires-clause-senior
add_pair-requires-clause-senior c = ap (λ k. is_role k c.args.senior.now) c.self.view_is
    ∙ sym c.contains.ensures ∙ c.if-not-contains.false

pub add_pair-requires-clause-junior : goal.add_pair-requires-clause-junior
add_pair-requires-clause-junior c = ap (λ k. is_role k c.args.junior.now) c.self.view_is
    ∙ sym c.contains-else-not-contains.ensures ∙ c.if-not-contains-2.false

pub invariant_of-self-2 : goal.invariant_of-self-2
invariant_of-self-2 c =
    let h = c.args.self.now in
    let s = c.args.senior.now in
    let at = (goal.at.invariant_of-self-2 c).In_ok-add_pair in
    let t = tested at in
    let old : IsRoles h c.self.inside.masks.items = subst (λ k. IsRoles k c.self.inside.masks.items)
    c.self.view_is c.self.invariant in
    let table = paired at in
    let names : role_names h ≡ role_names c.add_pair.new.self =
    sym (ap role_names table ∙ names-with_juniors h s _) in
    let back = written-back c.join.new.masks c.self.inside.masks.items c.self.inside.masks.len
    (let long = c.join.ensures.long in omega arith) (omega arith) in
    subst (IsRoles c.add_pair.new.self) (sym back)
    (subst (λ k. IsRoles k c.join.new.masks) (sym table) (record {
      kept = IsHierarchy-with_pair h s c.args.junior.now t.0 t.1 t.2 t.3 old.kept;
      masked = c.join.ensures.masked h names t.0 t.1
          (subst (IsMasked h) (sym c.deref_mut.ensures.value) old.masked);
    }))

pub returns-clause-ok : goal.returns-clause-ok
returns-clause-ok c =
    let at = (goal.at.returns-clause-ok c).In_ok-add_pair in
    let t = tested at in
    inherit-ok c.args.self.now c.add_pair.new.self c.args.senior.now c.args.junior.now t.0 t.1 t.2
    t.3 (paired at)

pub join-requires : goal.join-requires
join-requires c =
    let h = c.args.self.now in
    let at = (goal.at.join-requires c).In_ok-add_pair in
    let same : length c.add_pair.new.self ≡ length h =
    ap length (paired at) ∙ length-with_juniors h c.args.senior.now _ in
    let room = c.self.invariant.masked.long in
    let view = ap length c.self.view_is in
    let value = ap length c.deref_mut.ensures.value in
    omega arith
