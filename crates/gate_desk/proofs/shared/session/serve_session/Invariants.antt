-- The invariants of the loops of `serve_session` in `src/shared/session.rt`.
use Rattle.std.specs.Prelude.{None}
use Rattle.mpw_events.specs.History.{kept_desk}
use Rattle.gate_desk.proofs.shared.session.serve_session.Given as goal

abbrev pub ghosts-serve_named-N-Ledger : goal.ghosts-serve_named-N-Ledger
ghosts-serve_named-N-Ledger g a = record { name = a.blank.name; parts = a.blank.parts }

abbrev pub ghosts-serve_named-N-Naming : goal.ghosts-serve_named-N-Naming
ghosts-serve_named-N-Naming g a = record { table = a.blank.table }

abbrev pub ghosts-serve_named-N-Room : goal.ghosts-serve_named-N-Room
ghosts-serve_named-N-Room g a = record {
  all = a.blank.parts;
  begun = kept_desk (g.H.Handler.desk a.core.value) None 0;
  first = 2;
}
