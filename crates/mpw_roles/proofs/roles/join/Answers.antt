-- The indexes of both roles are found.
use Rattle.std.proofs.Common.{◌∙◌, sym, ap, true≢false}
use Rattle.std.specs.Prelude.{position}
use Rattle.mpw_geom.specs.Names.{name_eq}
use Rattle.mpw_roles.proofs.PlacesLemmas.{IsMasked-with_pair, same-role}
use Rattle.mpw_roles.proofs.roles.join.Goals as goal

pub returns-in_default-clause-masked : goal.returns-in_default-clause-masked
returns-in_default-clause-masked c = λ h names s j masked.
    absurd (true≢false (sym s ∙ same-role h c.args.table.now c.args.senior.now names
    ∙ sym c.in_default.ensures.found))

pub returns-in_default-place-clause-masked :
    goal.returns-in_default-place-clause-masked
returns-in_default-place-clause-masked c = λ h names s j masked.
    absurd (true≢false (sym j ∙ same-role h c.args.table.now c.args.junior.now names
    ∙ sym c.in_default-place.ensures.found))

pub returns-clause-masked : goal.returns-clause-masked
returns-clause-masked c = λ h names s j masked.
    IsMasked-with_pair h c.args.senior.now c.args.junior.now c.in-Some.above
    c.in-Some-place.below c.args.masks.now c.join_places.new.masks s
    (c.in-Some.ensures.place ∙ ap (λ l. position (name_eq c.args.senior.now) l) (sym names))
    (c.in-Some-place.ensures.place ∙ ap (λ l. position (name_eq c.args.junior.now) l)
    (sym names))
    masked c.join_places.ensures.long c.join_places.ensures.joined
