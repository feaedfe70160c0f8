-- Answers to the goals of `stays` in `src/layers.rt`.
use Rattle.mpw_columns_contents.proofs.Layered.{stays_some, stays_none}
use Rattle.mpw_columns_contents.proofs.Read.{copied_none, copied_some}
use Rattle.mpw_columns_contents.proofs.layers.stays.Goals as goal

pub returns-in-Some : goal.returns-in-Some
returns-in-Some c =
    stays_some c.args.shelf.now c.args.layers.now c.in-Shape.shape c.args.thing.now c.in-Shape.is
    c.in-Some.element.now c.is_on.result
    (copied_some c.element_of.result c.in-Some.element _ c.in-Some.is c.element_of.ensures.is)
    c.is_on.ensures

pub returns-in-None : goal.returns-in-None
returns-in-None c =
    stays_none c.args.shelf.now c.args.layers.now c.in-Shape.shape c.args.thing.now c.in-Shape.is
    (copied_none c.element_of.result _ c.in-None.is c.element_of.ensures.is)
