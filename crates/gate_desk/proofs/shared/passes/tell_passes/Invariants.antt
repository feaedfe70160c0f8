-- The invariants of the loops of `tell_passes` in `src/shared/passes.rt`.
use Rattle.std.specs.Prelude.{None}
use Rattle.mpw_events.specs.History.{kept_desk}
use Rattle.gate_desk.proofs.shared.passes.tell_passes.Given as goal

abbrev pub ghosts-count_passes-N-Ledger : goal.ghosts-count_passes-N-Ledger
ghosts-count_passes-N-Ledger g a = record { name = a.blank.name; parts = a.blank.parts }

abbrev pub ghosts-count_passes-N-Naming : goal.ghosts-count_passes-N-Naming
ghosts-count_passes-N-Naming g a = record { table = a.blank.table }

abbrev pub ghosts-count_passes-N-Room : goal.ghosts-count_passes-N-Room
ghosts-count_passes-N-Room g a = record {
  all = a.blank.parts;
  begun = kept_desk (g.H.Handler.desk a.core.value) None 0;
  first = 2;
}
