-- Answers to the goals of `PlacementMap::root` in `src/map.rt`.
use Rattle.std.proofs.Common.{◌≡◌, ◌∙◌, List, ap, rules}
use Rattle.mpw_placings.specs.declared.placement.Placement.{Placement}
use Rattle.mpw_placings.specs.Internal.Maps.{placements_of, root_at}
use Rattle.mpw_placings.proofs.Maps.{lookup_is}
use Rattle.mpw_placings.proofs.map.PlacementMap.root.Goals as goal

pub returns-in-Some : goal.returns-in-Some
returns-in-Some c =
    let cell = c.args.cell.now in
    let label = c.args.label.now in
    let same : placements_of c.deref.result.now.entries ≡ c.args.self.now = search rules in
    c.copied.ensures ∙ c.get.ensures.value ∙ lookup_is cell label c.deref.result.now.entries
    ∙ ap (λ (ps : List Placement). root_at ps cell label) same
