-- The indexes in common are those of the roles that are reached.
use Rattle.std.proofs.Common.{◌≡◌, ◌∙◌, ap, subst, true}
use Rattle.std.specs.Prelude.{nat_le}
use Rattle.mpw_roles.specs.Mask.{common}
use Rattle.mpw_separation.specs.Set.{SeparationSet, has_form}
use Rattle.mpw_separation.proofs.PlacedLemmas.{broken-places}
use Rattle.mpw_separation.proofs.set.SeparationSet.is_broken_at.Goals as goal

pub returns : goal.returns
returns c = λ h seniors is own below.
    let form : has_form c.args.self.now ≡ true =
    subst (λ (s : SeparationSet). has_form s ≡ true) c.self.view_is c.self.invariant in
    ap (nat_le c.self.inside.cardinality) c.common.ensures
    ∙ ap (λ (s : SeparationSet). nat_le s.cardinality
    (common c.args.own.now c.args.below.now)) c.self.view_is
    ∙ broken-places h seniors c.args.self.now c.args.own.now c.args.below.now is form own below
