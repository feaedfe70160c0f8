-- Answers to the goals of `on_layer` in `src/layers.rt`.
use Rattle.std.proofs.Common.{◌-◌, length, take, drop}
use Rattle.std.proofs.lemmas.List.{take_rest}
use Rattle.mpw_work.proofs.ByLayer.{found_between}
use Rattle.mpw_work.proofs.layers.on_layer.Goals as goal

pub returns : goal.returns
returns c =
    let xs = c.args.rectangles.now in
    let m = c.count_before.result in
    let ys = take (length xs - m) (drop m xs) in
    found_between xs ys m c.count_before-2.result c.layer_code-code.result c.args.layer
    (take_rest xs m) c.layer_code-code.ensures.code c.count_before.ensures.before
    c.count_before-2.ensures.behind
