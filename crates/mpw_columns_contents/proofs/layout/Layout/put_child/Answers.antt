-- Answers to the goals of `Layout::put_child` in `src/opening.rt`.
use Rattle.std.proofs.Common.{[], map, ap}
use Rattle.std.specs.Prelude.{slice_get}
use Rattle.mpw_hier.specs.Items.{placed_item}
use Rattle.mpw_columns_contents.specs.Things.{element_at}
use Rattle.mpw_columns_contents.specs.Internal.Opening.{name_shown, child_shown, reference_shown}
use Rattle.mpw_columns_contents.proofs.Adding.{adds_none, shows_same}
use Rattle.mpw_columns_contents.proofs.Layouts.{child_leads}
use Rattle.mpw_columns_contents.proofs.Read.{copied_none, copied_some}
use Rattle.mpw_columns_contents.proofs.layout.Layout.put_child.Goals as goal

pub returns-in_default : goal.returns-in_default
returns-in_default c =
    let l = c.args.self.now in
    let below = name_shown l.shelf.now in
    let items = map (placed_item c.args.placing) (child_shown below
    (element_at (slice_get l.structures.now c.args.node.now.structure) c.args.child.element)) in
    adds_none l items c.args.things.now.items (shows_same l.window items []
    (ap (λ o. map (placed_item c.args.placing) (reference_shown below o))
    (copied_none c.reference.result _ c.in_default.is c.reference.ensures.is)))

pub put_reference-requires-clause-target : goal.put_reference-requires-clause-target
put_reference-requires-clause-target c =
    child_leads c.args.self.now c.requires.layout c.args.node.now c.requires.node c.args.child
    c.in-Some.reference.now c.requires.child
    (copied_some c.reference.result c.in-Some.reference _ c.in-Some.is c.reference.ensures.is)
