-- Answers to the goals of `list_thing` in `src/things.rt`.
use Rattle.std.proofs.Common.{◌∙◌, List, ap}
use Rattle.std.proofs.lemmas.Result.{on_ok_weaker}
use Rattle.mpw_hier.specs.declared.submission.Submission.{Submission}
use Rattle.mpw_columns_contents.specs.Things.{element_in}
use Rattle.mpw_columns.proofs.ThingsListed.{nothing_listed, something_listed}
use Rattle.mpw_columns.proofs.things.list_thing.Goals as goal

pub returns-in_default : goal.returns-in_default
returns-in_default c =
    let shape = c.args.shape.now in
    nothing_listed c.args.task.now.layout.now.layers.now c.args.task.now.axis shape.placing _
    c.element_of.result c.args.listed.now.items (c.element_of.ensures.is
    ∙ ap (λ (ss : List Submission). element_in ss shape.structure shape.element) c.shelf.ensures)
    c.in_default.is

pub returns : goal.returns
returns c =
    let shape = c.args.shape.now in
    on_ok_weaker c.list_shape.result (λ h.
    something_listed c.args.task.now.layout.now.layers.now c.args.task.now.axis shape.placing _
    c.element_of.result c.in-Some.element c.args.listed.now.items c.list_shape.new.listed.items
    (c.element_of.ensures.is
    ∙ ap (λ (ss : List Submission). element_in ss shape.structure shape.element) c.shelf.ensures)
    c.in-Some.is h) c.list_shape.ensures
