-- Answers to the goals of `Layout::of` in `src/layout.rt`.
use Rattle.mpw_columns_contents.proofs.Tops.{layout_is}
use Rattle.mpw_columns_contents.proofs.layout.Layout.of.Goals as goal

pub returns-clause-layout : goal.returns-clause-layout
returns-clause-layout c =
    layout_is (record {
      shelf = c.args.shelf;
      nodes = c.unwrap.result;
      structures = c.structures.result;
      window = c.args.window;
      most = c.args.most;
      opened = c.args.opened;
      boxes = c.args.boxes;
    })
    c.nodes.result c.unwrap.ensures c.nodes.ensures.some c.get.result c.unwrap-2.result
    c.unwrap-2.ensures c.get.ensures c.structures.ensures c.requires.boxes
