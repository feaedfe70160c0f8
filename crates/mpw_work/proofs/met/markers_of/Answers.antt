-- Answers to the goals of `markers_of` in `src/met.rt`.
use Rattle.mpw_work.proofs.Meeting.{of_one}
use Rattle.mpw_work.proofs.met.markers_of.Goals as goal

pub returns-in_ok-markers-in-Some : goal.returns-in_ok-markers-in-Some
returns-in_ok-markers-in-Some c = of_one c.args.window.now c.in-Some.origin c.args.keys.now
    c.in_ok-markers-in-Some.markers.items c.in-Some.ensures c.requires.some c.in_ok-markers-in-Some.ensures.keys
    c.in_ok-markers-in-Some.ensures.mets
