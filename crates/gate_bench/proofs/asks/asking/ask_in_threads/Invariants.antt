-- the name of the new desk consists of the ledger and the register of its blank, and its core
use Rattle.std.specs.Prelude.{None}
use Rattle.mpw_events.specs.History.{kept_desk}
use Rattle.gate_bench.proofs.asks.asking.ask_in_threads.Given as goal

abbrev pub ghosts-ask_named-N-Ledger : goal.ghosts-ask_named-N-Ledger
ghosts-ask_named-N-Ledger g a = record { name = a.blank.name; parts = a.blank.parts }

abbrev pub ghosts-ask_named-N-Naming : goal.ghosts-ask_named-N-Naming
ghosts-ask_named-N-Naming g a = record { table = a.blank.table }

abbrev pub ghosts-ask_named-N-Room : goal.ghosts-ask_named-N-Room
ghosts-ask_named-N-Room g a = record {
  all = a.blank.parts;
  begun = kept_desk a.core.value None 0;
  first = 1;
}
