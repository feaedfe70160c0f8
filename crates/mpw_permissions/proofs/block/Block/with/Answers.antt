-- The slots of the new grant are there too.
use Rattle.std.proofs.Common.{◌≡◌, ◌∙◌, sym, ap, subst, [], ◌∷◌, ◌++◌}
use Rattle.mpw_permissions.specs.Internal.Grants.{AreCovered, object_slot, role_slot}
use Rattle.mpw_permissions.proofs.BlockLemmas.{covered-more}
use Rattle.mpw_permissions.proofs.block.Block.with.Goals as goal

pub of-requires : goal.of-requires
of-requires c =
    let in' = c.self.inside in
    let grant = c.args.grant.now in
    let old = in'.grants.value.items in
    let is : c.in_ok-grants.grants.items ≡ old ++ grant ∷ [] =
    c.in_ok-grants.ensures ∙ ap (λ l. l ++ grant ∷ []) (c.as_slice.ensures ∙ sym c.self.view_is) in
    subst (AreCovered c.insert.new.self c.insert-2.new.self) (sym is) (
      covered-more object_slot in'.objects c.insert.new.self old grant c.of-slots.result.object
          c.of-slots.ensures.slots.0 c.insert.ensures c.self.invariant.0,
      covered-more role_slot in'.roles c.insert-2.new.self old grant c.of-slots.result.role
          c.of-slots.ensures.slots.1 c.insert-2.ensures c.self.invariant.1,
    )
