-- Answers to the goals of `add_runs` in `src/strips.rt`.
use Rattle.std.proofs.Common.{◌∙◌, ◌++◌, List, ap}
use Rattle.mpw_region.specs.declared.runs.Run.{Run}
use Rattle.mpw_checks.specs.Strips.{HasStepIn}
use Rattle.mpw_checks.proofs.Halving.{Adds-found, places_in}
use Rattle.mpw_checks.proofs.strips.add_runs.Goals as goal

pub returns : goal.returns
returns c =
    Adds-found c.args.found.now.items c.in_ok-runs.runs.items _
    (λ line j. HasStepIn c.args.rule.now line j c.args.strip.now)
    (c.in_ok-extend_from_slice.ensures.items ∙ ap (λ (rs : List Run). c.args.found.now.items ++ rs)
    c.as_slice.ensures.value)
    (places_in c.in_ok-runs.runs.items c.args.rule.now _ _ c.args.strip.now
    c.as_slice-first.ensures.value c.as_slice-second.ensures.value c.in_ok-runs.ensures.places)
    c.in_ok-runs.ensures.apart.filled
