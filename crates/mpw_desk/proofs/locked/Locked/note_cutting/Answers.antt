-- Answers to the goals of `Locked::note_cutting` in `src/locked.rt`.
use Rattle.mpw_events.specs.History.{state_of}
use Rattle.mpw_desk.proofs.Hinting.{as-fit}
use Rattle.mpw_desk.proofs.locked.Locked.note_cutting.Goals as goal

pub invariant_of-self : goal.invariant_of-self
invariant_of-self g c = (
  c.self.invariant.0,
  c.self.invariant.1,
  as-fit c.self.inside.hints c.while_cut-self-inside.result (state_of (g.H.Handler.desk c.self.inside.core.value)).run
      c.while_cut-self-inside.ensures.work c.self.invariant.2,
)
