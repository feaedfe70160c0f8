-- Answers to the goals of `Placings::root` in `src/placings.rt`.
use Rattle.std.proofs.Common.{◌∙◌, List, ap}
use Rattle.mpw_placings.specs.declared.placement.Placement.{Placement}
use Rattle.mpw_placings.specs.Internal.Maps.{root_at}
use Rattle.mpw_placings.proofs.Parts.{root_settled, root_latest}
use Rattle.mpw_placings.proofs.placings.Placings.root.Goals as goal

pub returns-in-Some : goal.returns-in-Some
returns-in-Some c =
    let cell = c.args.cell.now in
    let label = c.args.label.now in
    root_settled c.self.inside.settled c.self.inside.latest cell label c.in-Some.root
    c.in-Some.ensures ∙ ap (λ (ps : List Placement). root_at ps cell label) c.self.view_is

pub returns-in-None : goal.returns-in-None
returns-in-None c =
    let cell = c.args.cell.now in
    let label = c.args.label.now in
    c.root-in-None.ensures
    ∙ root_latest c.self.inside.settled c.self.inside.latest cell label c.in-None.ensures
    ∙ ap (λ (ps : List Placement). root_at ps cell label) c.self.view_is
