-- Answers to the goals of `runs_in` in `src/strips.rt`.
use Rattle.std.proofs.Common.{[], subst, sym}
use Rattle.std.proofs.lemmas.List.Elements.{All-nil}
use Rattle.std.proofs.lemmas.Result.{IfOk-weaker}
use Rattle.mpw_region.specs.Runs.{IsFilled}
use Rattle.mpw_region.specs.Internal.Runs.{Adds}
use Rattle.mpw_region.proofs.Adding.{Adds-start, Adds-more, Adds-all}
use Rattle.mpw_checks.specs.declared.strips.Strip.{Strip}
use Rattle.mpw_checks.specs.Strips.{IsStrip, HasStepIn, FindsIn}
use Rattle.mpw_checks.proofs.Halving.{joined_places}
use Rattle.mpw_checks.proofs.strips.runs_in.Goals as goal

pub loop-strip-init : goal.loop-strip-init
loop-strip-init c =
    rw c.new-found.ensures.items (Adds-start [] (λ s line j. HasStepIn c.args.rule.now line j s))

pub loop-strip-preserved : goal.loop-strip-preserved
loop-strip-preserved c =
    Adds-more [] _ _ (λ s line j. HasStepIn c.args.rule.now line j s) c.args.strips.now
    c.loop-strip.strip-index c.strip-item.result c.loop-strip-test.true c.loop-strip.invariant
    (subst (λ (s : Strip). Adds c.loop-strip.found.items c.add_runs.new.found.items
    (λ line j. HasStepIn c.args.rule.now line j s)) c.strip-item.is c.in_ok-add_runs.ensures)

pub add_runs-requires : goal.add_runs-requires
add_runs-requires c = subst IsStrip (sym c.strip-item.is)
    (c.requires c.loop-strip.strip-index c.strip-item.result c.loop-strip-test.true)

pub join_runs-requires : goal.join_runs-requires
join_runs-requires c = c.loop-strip.invariant.filled (All-nil IsFilled)

pub returns-clause-places : goal.returns-clause-places
returns-clause-places c =
    let all = Adds-all [] _ (λ s line j. HasStepIn c.args.rule.now line j s) c.args.strips.now
    c.loop-strip.strip-index c.loop-strip-test.false c.loop-strip.invariant in
    IfOk-weaker c.join_runs.result _ _ (λ v h line j. joined_places c.loop-strip.found.items v.items
    (λ l k. FindsIn c.args.strips.now c.args.rule.now l k) all h line j) c.join_runs.ensures.places
