-- The invariants of the loops of `tell_day` in `src/shared/shared_day.rt`.
use Rattle.std.specs.Prelude.{None}
use Rattle.mpw_events.specs.History.{kept_desk}
use Rattle.gate_desk.proofs.shared.shared_day.tell_day.Given as goal

abbrev pub ghosts-run_day-N-Ledger : goal.ghosts-run_day-N-Ledger
ghosts-run_day-N-Ledger g a = record { name = a.blank.name; parts = a.blank.parts }

abbrev pub ghosts-run_day-N-Naming : goal.ghosts-run_day-N-Naming
ghosts-run_day-N-Naming g a = record { table = a.blank.table }

abbrev pub ghosts-run_day-N-Room : goal.ghosts-run_day-N-Room
ghosts-run_day-N-Room g a = record {
  all = a.blank.parts;
  begun = kept_desk (g.H.Handler.desk a.core.value) None 0;
  first = 2;
}
