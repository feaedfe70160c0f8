-- Answers to the goals of `prepare` in `src/answer.rt`.
use Rattle.std.proofs.Common.{refl, subst}
use Rattle.mpw_job.specs.Jobs.{CutWindows, FoundMarkers}
use Rattle.mpw_run.specs.Prepared.{IsPrepared}
use Rattle.mpw_run.specs.Step as run
use Rattle.mpw_core.specs.Internal.Answer.{open_state}
use Rattle.mpw_events.specs.Step.{State, event_outcome}
use Rattle.mpw_core.proofs.answer.prepare.Goals as goal

pub returns-in_ok-prepare_take-in-Take : goal.returns-in_ok-prepare_take-in-Take
unfolding event_outcome
returns-in_ok-prepare_take-in-Take c =
    let state : State = open_state c.args.tables.now in
    rw c.in-Take.is (c.of_run.ensures state (run.taken state.run) refl
    c.in_ok-prepare_take-in-Take.ensures)

pub returns-in_ok-prepare_cut-in-Cut : goal.returns-in_ok-prepare_cut-in-Cut
unfolding event_outcome
returns-in_ok-prepare_cut-in-Cut c =
    let state : State = open_state c.args.tables.now in
    let made = c.in_ok-prepare_cut-in-Cut.field-0 in
    let is = subst (λ (a : CutWindows). IsPrepared made state.run (run.cut_answered state.run a))
    c.get-in-Cut.ensures c.in_ok-prepare_cut-in-Cut.ensures in
    rw c.in-Cut.is (c.of_run-in-Cut.ensures state (run.cut_answered state.run c.in-Cut.answer) refl
    is)

pub returns-in_ok-prepare_tile-in-Tile : goal.returns-in_ok-prepare_tile-in-Tile
unfolding event_outcome
returns-in_ok-prepare_tile-in-Tile c =
    let state : State = open_state c.args.tables.now in
    let made = c.in_ok-prepare_tile-in-Tile.field-0 in
    let is = subst (λ (a : FoundMarkers). IsPrepared made state.run (run.tile_answered state.run a))
    c.get-in-Tile.ensures c.in_ok-prepare_tile-in-Tile.ensures in
    rw c.in-Tile.is (c.of_run-in-Tile.ensures state (run.tile_answered state.run c.in-Tile.answer)
    refl is)

pub returns-in-Gone : goal.returns-in-Gone
unfolding event_outcome
returns-in-Gone c =
    let state : State = open_state c.args.tables.now in
    rw c.in-Gone.is (c.parting.ensures state refl)
