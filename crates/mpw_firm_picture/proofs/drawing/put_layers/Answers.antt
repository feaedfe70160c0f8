-- Answers to the goals of `put_layers` in `src/drawing.rt`.
use Rattle.std.proofs.Common.{take, subst}
use Rattle.std.specs.List.{flat_map, enumerate_from}
use Rattle.std.specs.Io.KnownBytes.{Appends}
use Rattle.std.proofs.KnownBytes.{Appends-trans}
use Rattle.mpw_firm_picture.specs.Text.{layer_text}
use Rattle.mpw_firm_report.proofs.Rows.{rows_more, rows_all}
use Rattle.mpw_firm_picture.proofs.drawing.put_layers.Goals as goal

pub loop-place-preserved : goal.loop-place-preserved
loop-place-preserved g c =
    let at = g.W.Write.contents in
    let i = c.loop-place.place in
    subst (λ text. Appends (at c.args.writer.now) (at c.put_layer.new.writer) text)
    (rows_more (layer_text c.args.picture.now) c.args.layers.now i _ c.loop-place-test.true)
    (Appends-trans (at c.args.writer.now) (at c.loop-place.writer) (at c.put_layer.new.writer)
    (flat_map (layer_text c.args.picture.now) (take i (enumerate_from 0 c.args.layers.now))) _
    c.loop-place.invariant
    c.in_ok-put_layer.ensures)

pub returns : goal.returns
returns g c =
    let at = g.W.Write.contents in
    subst (λ text. Appends (at c.args.writer.now) (at c.loop-place.writer) text)
    (rows_all (layer_text c.args.picture.now) c.args.layers.now c.loop-place.place
    c.loop-place-test.false) c.loop-place.invariant
