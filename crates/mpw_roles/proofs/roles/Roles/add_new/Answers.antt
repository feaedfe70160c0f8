-- A new role is added at the end, without pairs.
use Rattle.std.proofs.Common.{◌≡◌, ◌∙◌, sym, ap, subst, arith, false, ◌<◌, length, eqb}
use Rattle.mpw_roles.specs.Hierarchy.{is_role, with_role}
use Rattle.mpw_roles.specs.Mask.{has}
use Rattle.mpw_roles.specs.Places.{IsRoles, mask_at}
use Rattle.mpw_roles.proofs.RoleLemmas.{IsHierarchy-with_role}
use Rattle.mpw_roles.proofs.PlacesLemmas.{IsMasked-with_role, written-back}
use Rattle.mpw_roles.proofs.roles.Roles.add_new.Goals as goal

pub invariant_of-self-2 : goal.invariant_of-self-2
invariant_of-self-2 c =
    let h = c.self.inside.table in
    let new : is_role h c.args.role ≡ false = ap (λ k. is_role k c.args.role) c.self.view_is
    ∙ c.requires.new in
    let room : length h < 512 = let same = ap length c.self.view_is in let less = c.requires.room in omega arith in
    let new_masks = c.write_own.new.masks in
    let place = c.len-place.ensures in
    let back = written-back new_masks c.reserve_mask.new.masks.items c.reserve_mask.new.masks.len
    (omega arith) (omega arith) in
    subst (IsRoles c.add.new.self) (sym back)
    (subst (λ k. IsRoles k new_masks) (sym c.in_ok-add.ensures.ok) (record {
      kept = IsHierarchy-with_role h c.args.role room new c.self.invariant.kept;
      masked = IsMasked-with_role h c.args.role c.self.inside.masks.items new_masks new
          c.self.invariant.kept c.self.invariant.masked
          (let more = c.in_ok-reserve_mask.ensures.ok in omega arith)
          (λ p inside. c.write_own.ensures.others p (omega arith)
          ∙ ap (λ l. mask_at l p) c.deref_mut.ensures.value
          ∙ c.reserve_mask.ensures.same p (omega arith))
          (λ q. subst (λ n. has (mask_at new_masks n) q ≡ eqb q n) place
          (c.write_own.ensures.own q));
    }))

pub returns-clause-ok : goal.returns-clause-ok
returns-clause-ok c = c.in_ok-add.ensures.ok ∙ ap (λ k. with_role k c.args.role) c.self.view_is

pub add-requires : goal.add-requires
add-requires c = ap (λ k. is_role k c.args.role) c.self.view_is ∙ c.requires.new
