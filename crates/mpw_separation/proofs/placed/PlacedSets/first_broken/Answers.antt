-- The sets of the kind, with their masks.
use Rattle.std.proofs.Common.{◌∙◌, sym, ap, subst, filter, List}
use Rattle.mpw_roles.specs.Hierarchy.{Hierarchy, role_names}
use Rattle.mpw_roles.specs.declared.mask.Mask.{Mask}
use Rattle.mpw_geom.specs.Least.{least_name}
use Rattle.mpw_separation.specs.Placed.{KeptSets, ArePlaced, AreSetsPlaced, masks_of}
use Rattle.mpw_separation.specs.Separation.{breaks, set_names, sets_of}
use Rattle.mpw_separation.specs.Set.{SeparationSet}
use Rattle.mpw_separation.specs.declared.set.Kind.{Kind}
use Rattle.mpw_separation.specs.declared.set.Kind.TheVariants.{Static, Dynamic}
use Rattle.mpw_separation.proofs.BrokenLemmas.{broken-one}
use Rattle.mpw_separation.proofs.placed.PlacedSets.first_broken.Goals as goal

of-kind : (h : Hierarchy) (kept : KeptSets) (kind : Kind) → AreSetsPlaced (role_names h) kept
    → ArePlaced (role_names h) (sets_of kind kept.sets) (masks_of kind kept)
of-kind h kept Static placed = placed.static
of-kind h kept Dynamic placed = placed.dynamic

pub returns : goal.returns
returns c = λ h seniors is placed below.
    let kind = c.args.kind in
    let kept = c.args.self.now in
    let sets_is = c.of_kind.ensures ∙ ap (λ (k : KeptSets). sets_of kind k.sets) c.self.view_is in
    let here = subst (λ (s : List SeparationSet). ArePlaced (role_names h) s c.masks.result.now)
    (sym sets_is) (subst (λ (m : List Mask). ArePlaced (role_names h) (sets_of kind kept.sets) m)
    (sym c.masks.ensures.masks) (of-kind h kept kind placed)) in
    c.least_placed.ensures h seniors is here below
    ∙ ap (λ (s : List SeparationSet). least_name (set_names (filter (breaks h seniors) s))) sets_is
    ∙ ap least_name (sym (broken-one h (sets_of kind kept.sets) seniors))
