-- Answers to the goals of `row_bands` in `src/cut.rt`.
use Rattle.std.proofs.Common.{get_or}
use Rattle.std.proofs.lemmas.Result.{IfOk-weaker}
use Rattle.std.proofs.lemmas.List.Elements.{Contains-get_or}
use Rattle.mpw_region.proofs.Sweeping.{covers-same, covered_by_filled}
use Rattle.mpw_region.proofs.cut.row_bands.Goals as goal

pub returns-clause-squares : goal.returns-clause-squares
returns-clause-squares c =
    IfOk-weaker c.sweep_up.result _ _
    (λ v h. covers-same v.items c.args.boxes.now (λ i j.
    let kept =
    covered_by_filled c.args.boxes.now c.in_ok-boxes.boxes.items c.in_ok-boxes.ensures i j in
    (λ p. kept.0 ((h i j).0 p), λ p. (h i j).1 (kept.1 p))))
    c.sweep_up.ensures.squares

pub sweep_up-requires : goal.sweep_up-requires
sweep_up-requires c = λ k d l.
    let boxes = c.in_ok-boxes.boxes.items in
    (c.in_ok-boxes.ensures.sound (get_or boxes k d) (Contains-get_or boxes k d l)).1

pub returns-clause-banded : goal.returns-clause-banded
returns-clause-banded c = c.sweep_up.ensures.banded
