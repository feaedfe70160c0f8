-- The exit status of `mpw help`.
use Rattle.std.specs.Prelude.{ℕ, Result, Ok, Err}
use Rattle.mpw_manual.specs.declared.fault.HelpFault.{HelpFault}
use Rattle.mpw_manual.specs.declared.fault.HelpFault.TheVariants.{Usage, Unknown, Output, Memory}

-- 2 if the command line is wrong or nothing has the word, 3 if the output failed, 5 if memory ran out
abbrev pub status_of : HelpFault → ℕ
status_of Usage = 2
status_of (Unknown word) = 2
status_of Output = 3
status_of Memory = 5

-- 0 if the help was printed, else the fault's
abbrev pub exit_of : Result (Unit {0}) HelpFault → ℕ
exit_of (Ok told) = 0
exit_of (Err fault) = status_of fault
