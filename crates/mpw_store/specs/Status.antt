-- The exit status of a program that a store's fault ends.
use Rattle.std.specs.Prelude.{ℕ}
use Rattle.mpw_store.specs.declared.fault.StoreFault.{StoreFault}
use Rattle.mpw_store.specs.declared.fault.StoreFault.TheVariants as store
use Rattle.mpw_store.specs.declared.file_fault.FileFault.{FileFault}
use Rattle.mpw_store.specs.declared.file_fault.FileFault.TheVariants as file

-- 5 if memory ran out, else 3
abbrev pub status_of_store : StoreFault → ℕ
status_of_store (store.Sql error) = 3
status_of_store (store.Rows place) = 3
status_of_store store.Memory = 5
status_of_store store.Other = 3

abbrev pub status_of : FileFault → ℕ
status_of file.Missing = 3
status_of file.Empty = 3
status_of file.Taken = 3
status_of file.Shared = 3
status_of file.BareLog = 3
status_of file.NoFile = 3
status_of file.Linked = 3
status_of file.Unmade = 3
status_of (file.Store fault) = status_of_store fault
