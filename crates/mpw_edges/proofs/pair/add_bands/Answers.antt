-- Answers to the goals of `add_bands` in `src/pair.rt`.
use Rattle.mpw_edges.proofs.Pairing.{Passes, past, past_low_from, past_low_to}
use Rattle.mpw_edges.proofs.pair.add_bands.Goals as goal
use Rattle.mpw_edges.proofs.pair.add_bands.Goals.{In_ok-add_band_pairs}

passes : (c : In_ok-add_band_pairs) → Passes c.args.runs.now.items
    c.add_band_pairs.new.runs.items c.args.side c.args.limits.now c.args.froms.now c.args.tos.now
    c.band_length-band.result c.band_length-other.result
passes c =
    past c.args.runs.now.items c.add_band_pairs.new.runs.items c.args.side c.args.limits.now
    c.args.froms.now c.args.tos.now c.band_length-band.result c.band_length-other.result
    c.band_length-band.ensures c.band_length-other.ensures c.in_ok-add_band_pairs.ensures

pub returns-then-low-gt0-clause-moves : goal.returns-then-low-gt0-clause-moves
returns-then-low-gt0-clause-moves c =
    past_low_from c.args.runs.now.items c.args.side c.args.limits.now c.args.froms.now
    c.args.tos.now c.count_below-low.result c.requires.tos c.count_below-low.ensures.below

pub returns-then-lower-gt0-clause-moves : goal.returns-then-lower-gt0-clause-moves
returns-then-lower-gt0-clause-moves c =
    past_low_to c.args.runs.now.items c.args.side c.args.limits.now c.args.froms.now
    c.args.tos.now c.count_below-lower.result c.requires.froms c.count_below-lower.ensures.below

pub returns-then-end_together-clause-moves : goal.returns-then-end_together-clause-moves
returns-then-end_together-clause-moves c =
    (passes (goal.at.returns-then-end_together-clause-moves c).In_ok-add_band_pairs).both
    c.if-end_together.ensures

pub returns-then-ends_first-clause-moves : goal.returns-then-ends_first-clause-moves
returns-then-ends_first-clause-moves c =
    (passes (goal.at.returns-then-ends_first-clause-moves c).In_ok-add_band_pairs).from
    c.if-ends_first.ensures

pub returns-else-ends_first-clause-moves : goal.returns-else-ends_first-clause-moves
returns-else-ends_first-clause-moves c =
    (passes (goal.at.returns-else-ends_first-clause-moves c).In_ok-add_band_pairs).to
    c.if-ends_first.ensures
