-- How a script over a file ends, by how it ends over a store.
use Rattle.std.proofs.Common.{◌≡◌, ◌∙◌, ℕ, Option, Some, None, Result, Ok, Err, refl, ap}
use Rattle.std.specs.Prelude.{IfOk, IfErr, IsSomeAnd}
use Rattle.sqlite.specs.State.{State}
use Rattle.mpw_events.specs.History.{kept_desk}
use Rattle.mpw_serve.specs.Status.{Devices}
use Rattle.mpw_serve.specs.declared.serve.End.{End}
use Rattle.mpw_settings.specs.declared.officer.Officer.{Officer}
use Rattle.mpw_store.specs.declared.file_fault.FileFault.{FileFault}
use Rattle.mpw_stored_desk.specs.Ending.{EndsAs, EndsAsServed, EndsOver, EndsOverFile, ExitsWith}
use Rattle.mpw_stored_desk.specs.Serving.{IsUnopened}
use Rattle.mpw_stored_desk.specs.Status.{exit_of}
use Rattle.mpw_wire.specs.declared.fault.WireFault.{WireFault}
use Rattle.mpw_wire.specs.declared.fault.WireFault.TheVariants as wire
use Rattle.mpw_stored_desk.specs.declared.fault.StoredFault.{StoredFault}
use Rattle.mpw_stored_desk.specs.declared.fault.StoredFault.TheVariants.{File, Stranger, Full, Wire, Closed}

unserved : (officer : Officer) (s s' : State) (fault : StoredFault) (status : ℕ)
    → IsUnopened officer s s' fault → status ≡ exit_of (Err fault) → EndsOverFile status
unserved officer s s' (File fault) status why is = EndsOverFile.unopened fault status is
unserved officer s s' Stranger status why is = EndsOverFile.strange status is
unserved officer s s' Full status why is = EndsOverFile.unnumbered status is
unserved officer s s' (Wire fault) status why is = absurd why
unserved officer s s' (Closed fault) status why is = absurd why

ends_as : (officer : Officer) (s s' : State) (d d' : Devices) (status : ℕ)
    (ended : Result End StoredFault) → d.failed_reads ≡ 0 → d.failed_writes ≡ 0
    → EndsAs officer s s' d d' ended → status ≡ exit_of ended → EndsOverFile status
ends_as officer s s' d d' status _ reads writes (EndsAs.served ended e) is =
    let over = e.serves.over in
    EndsOverFile.served d d' e.serves.connection (kept_desk e.serves.desk e.serves.kept 0) over.left
    e.served e.fault status reads writes over.serves refl over.told e.reads e.writes
    (is ∙ ap exit_of e.ends)
ends_as officer s s' d d' status _ reads writes (EndsAs.unopened fault why same) is =
    unserved officer s s' fault status why is

pub ends_over : (officer : Officer) (s s' : State) (d d' : Devices) (status : ℕ)
    → ExitsWith officer s s' d d' status → d.failed_reads ≡ 0 → d.failed_writes ≡ 0
    → EndsOverFile status
ends_over officer s s' d d' status exits reads writes =
    ends_as officer s s' d d' status exits.0 reads writes exits.1 exits.2

-- over a store that was opened or wasn't, between devices that there was room for or wasn't
pub ends_opened : {X Y : Type 0} (store : Result X FileFault) (io : Result Y WireFault) (left : Option X)
    (officer : Officer) (state_of : X → State) (devices_of : Y → Devices) (status : ℕ)
    → IfErr store (λ fault. status ≡ exit_of (Err (File fault)))
    → IfOk store (λ _. IfErr io (λ fault. status ≡ exit_of (Err (Wire fault))))
    → IfOk store (λ conn. IfOk io (λ d. IsSomeAnd left (λ l. EndsOver officer (state_of conn)
    (state_of l) (devices_of d) status)))
    → IfErr io (λ fault. fault ≡ wire.Memory)
    → IfOk io (λ d. (devices_of d).failed_reads ≡ 0)
    → IfOk io (λ d. (devices_of d).failed_writes ≡ 0) → EndsOverFile status
ends_opened (Err fault) io left officer state_of devices_of status unopened _ _ _ _ _ =
    EndsOverFile.unopened fault status unopened
ends_opened (Ok conn) (Err fault) left officer state_of devices_of status _ unbuffered _ memory _ _ =
    EndsOverFile.unbuffered status (unbuffered ∙ ap (λ f. exit_of (Err (Wire f))) memory)
ends_opened (Ok conn) (Ok d) (Some l) officer state_of devices_of status _ _ ends _ reads writes =
    ends_over officer (state_of conn) (state_of l) (devices_of d) ends.0 status ends.1 reads writes
ends_opened (Ok conn) (Ok d) None officer state_of devices_of status _ _ ends _ reads writes =
    absurd ends
