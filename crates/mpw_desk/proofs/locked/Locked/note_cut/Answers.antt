-- Answers to the goals of `Locked::note_cut` in `src/locked.rt`.
use Rattle.mpw_events.specs.History.{state_of}
use Rattle.mpw_desk.proofs.Hinting.{as-fit}
use Rattle.mpw_desk.proofs.locked.Locked.note_cut.Goals as goal

pub invariant_of-self : goal.invariant_of-self
invariant_of-self g c = (
  c.self.invariant.0,
  c.self.invariant.1,
  as-fit c.self.inside.hints c.after_cut-self-inside.result (state_of (g.H.Handler.desk c.self.inside.core.value)).run
      c.after_cut-self-inside.ensures.work c.self.invariant.2,
)
