-- a desk is named by what it is made of: its blank's ledger and register, and its core with its store writer before any call of the service
use Rattle.mpw_events.specs.History.{kept_desk}
use Rattle.mpw_service.proofs.service.serve_desk.Given as goal

abbrev pub ghosts-serve_named-N-Ledger : goal.ghosts-serve_named-N-Ledger
ghosts-serve_named-N-Ledger g a = record { name = a.blank.name; parts = a.blank.parts }

abbrev pub ghosts-serve_named-N-Naming : goal.ghosts-serve_named-N-Naming
ghosts-serve_named-N-Naming g a = record { table = a.blank.table }

abbrev pub ghosts-serve_named-N-Room : goal.ghosts-serve_named-N-Room
ghosts-serve_named-N-Room g a = record {
  all = a.blank.parts;
  begun = kept_desk (g.H.Handler.desk a.begun.core.value) (g.K.Keeper.kept a.begun.keeper) (g.K.Keeper.failures a.begun.keeper);
  first = a.begun.first;
}
