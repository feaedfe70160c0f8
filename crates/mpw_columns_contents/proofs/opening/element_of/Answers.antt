-- Answers to the goals of `element_of` in `src/opening.rt`.
use Rattle.std.proofs.Common.{◌∙◌, sym, ap}
use Rattle.mpw_columns_contents.specs.Things.{element_in}
use Rattle.mpw_columns_contents.proofs.Layouts.{shape_is}
use Rattle.mpw_columns_contents.proofs.opening.element_of.Goals as goal

pub returns-clause-is : goal.returns-clause-is
returns-clause-is c =
    let shape = c.args.shape.now in
    c.element.ensures.is ∙ sym (shape_is c.of-layout.result c.of-layout.ensures.layout shape.structure shape.element)
    ∙ ap (λ ss. element_in ss shape.structure shape.element) c.of-layout.ensures.shelf
