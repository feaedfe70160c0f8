-- Faults that are handed on.
use Rattle.std.proofs.Common.{◌≡◌, sym, subst, Result, Ok, Err}
use Rattle.std.specs.Prelude.{IfErr}
use Rattle.std.specs.Result.{IsErrAnd}
use Rattle.mpw_store.specs.declared.file_fault.FileFault.{FileFault}

pub handed_on : {X : Type 0} (result : Result X FileFault) (fault : FileFault)
    (P : FileFault → Type 0) → IsErrAnd result (λ told. told ≡ fault) → P fault → IfErr result P
handed_on (Ok x) fault P is holds = tt
handed_on (Err told) fault P is holds = subst P (sym is) holds
