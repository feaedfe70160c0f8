-- How a service over a store ends, and what the store's rows have then.
use Rattle.std.proofs.Common.{◌≡◌, ◌↔◌, ◌∙◌, ℕ, Bool, true, false, List, [], ◌++◌, Option, None, Some, Result, Ok, Err, IsTrue, refl, sym, ap, subst, append-nil}
use Rattle.sqlite.specs.State.{HasCleanDisk, State}
use Rattle.std.proofs.lemmas.List.Elements.{All-nil}
use Rattle.mpw_desk.specs.Finished.{IsFinished}
use Rattle.mpw_desk.specs.Values.{PassView}
use Rattle.mpw_receipts.specs.Calls.{calls_of}
use Rattle.mpw_receipts.specs.Owner.{owner_of}
use Rattle.mpw_events.specs.declared.keeper.KeptChange.{KeptChange}
use Rattle.mpw_events.specs.GoingOn.{GoesOnTo, changes_of}
use Rattle.mpw_events.specs.History.{Desk, KeptDesk, kept_desk, state_of}
use Rattle.mpw_events.specs.Keeping.{Grows}
use Rattle.mpw_store_keeper.specs.Kept.{IsKeptIn, Keeping, changes_in, failures_of, kept_by, rows_from}
use Rattle.mpw_settings.specs.declared.officer.Officer.{Officer}
use Rattle.mpw_store.specs.Changes.{HasRows}
use Rattle.mpw_store.specs.declared.fault.StoreFault.{StoreFault}
use Rattle.mpw_stored_desk.specs.declared.fault.StoredFault.{StoredFault}
use Rattle.mpw_stored_desk.specs.declared.fault.StoredFault.TheVariants.{Closed}
use Rattle.mpw_server.specs.Stored.{BeginsOver, Ends, GoesOnStored, HasStored, IsNoStore, Leaves, StoresItsChanges, ended_with}
use Rattle.mpw_server.specs.declared.fault.ServiceFault.{ServiceFault}
use Rattle.mpw_server.specs.declared.fault.ServiceFault.TheVariants as service

-- ---- the rows at the end

same-list : (a b : List KeptChange) → Some a ≡ Some b → a ≡ b
same-list a b e = cc

-- a list that is known at the end was known before, and has just the further changes after it
known-before : (old new : Option (List KeptChange)) (now more : List KeptChange) → new ≡ Some now
    → Grows old new more → (known : List KeptChange) × (old ≡ Some known) × (now ≡ known ++ more)
known-before None None now more is grows = absurd (cc)
known-before None (Some new) now more is grows = absurd grows
known-before (Some old) None now more is grows = absurd (cc)
known-before (Some old) (Some new) now more is grows =
    (old, refl, sym (same-list new now is) ∙ grows)

goes_on : (officer : Officer) (s s' : State) (begun left : KeptDesk) → BeginsOver officer s begun
    → GoesOnTo begun left → IsKeptIn s' left.kept → GoesOnStored officer s s'
goes_on officer s s' begun left begins goes is_kept =
    let before = known-before begun.kept left.kept is_kept.changes
    (changes_of (state_of begun.desk) goes.calls) is_kept.is goes.grows in
    record {
      desk = begun.desk;
      known = before.0;
      begins = begins.begins before.0 before.1;
      calls = goes.calls;
      ready = is_kept.ready;
      rows = subst (λ changes. HasRows s'.now.trees (rows_from 1 changes)) before.2 is_kept.rows;
      told = subst (λ changes. changes_in (rows_from 1 changes) ≡ Some changes) before.2
          is_kept.told;
    }

pub stores_its_changes : (s s' : State) → StoresItsChanges s s'
stores_its_changes s s' officer begun ended begins ends clean is_open =
    goes_on officer s s' begun ends.left begins ends.goes (ends.comes.stored clean is_open)

-- ---- a store writer's store

pub told_by : (keeper : Option Keeping) (keeping : Keeping) (fault : Option StoreFault)
    → Some keeping ≡ keeper → (fault ≡ None) ↔ (keeping.failures ≡ 0)
    → (fault ≡ None) ↔ (failures_of keeper ≡ 0)
told_by keeper keeping fault is told =
    subst (λ k. (fault ≡ None) ↔ (failures_of k ≡ 0)) is told

pub told_of_none : (keeper : Option Keeping) (fault : Option StoreFault) → fault ≡ None
    → None ≡ keeper → (fault ≡ None) ↔ (failures_of keeper ≡ 0)
told_of_none keeper fault none is =
    subst (λ k. (fault ≡ None) ↔ (failures_of k ≡ 0)) is (λ _. refl, λ _. none)

pub stored_by : (keeper : Option Keeping) (keeping : Keeping) (s : State) (fault : Option StoreFault)
    → Some keeping ≡ keeper → (HasCleanDisk s → IsTrue s.is_open → IsKeptIn s keeping.kept)
    → (HasCleanDisk s → keeping.fault ≡ None → IsTrue s.is_open) → fault ≡ keeping.fault
    → HasStored s (kept_by keeper) fault
stored_by keeper keeping s fault is rows opens same =
    subst (λ k. HasStored s (kept_by k) fault) is
    (record { stored = rows; is_open = λ clean none. opens clean (sym same ∙ none) })

pub nothing_kept : (keeper : Option Keeping) → None ≡ keeper → kept_by keeper ≡ None
nothing_kept keeper is = sym (ap kept_by is)

-- ---- the ends

stays : (desk : Desk) → desk ≡ record desk { history = desk.history ++ [] }
stays desk = ap (λ calls. record desk { history = calls }) (sym (append-nil desk.history))

grows-to-itself : (kept : Option (List KeptChange)) → Grows kept kept []
grows-to-itself None = tt
grows-to-itself (Some known) = sym (append-nil known)

-- without a pass and a call
unused : (desk : Desk) (kept left : Option (List KeptChange)) (failures count : ℕ)
    → Grows kept left [] → IsFinished (kept_desk desk kept failures) (kept_desk desk left count) []
unused desk kept left failures count grows = record {
  calls = [];
  history = sym (append-nil desk.history);
  goes = record { calls = []; added = stays desk; grows = grows };
  counted = refl;
  receipts = All-nil (λ (p : PassView). p.receipts ≡ calls_of owner_of p.connection desk.history);
}

grows-to-none : (kept : Option (List KeptChange)) → Grows kept None []
grows-to-none None = tt
grows-to-none (Some known) = tt

none-is-some : (why : StoreFault) → None ≡ Some why → ⊥
none-is-some why is = cc

err-is-ok : (ended : Result (Unit {0}) ServiceFault) (told : ServiceFault) → ended ≡ Err told
    → ended ≡ Ok tt → ⊥
err-is-ok ended told is well = cc

-- a fault that no store gave is reported as none of a store
no-store : (ended : Result (Unit {0}) ServiceFault) (told : ServiceFault) (stored : StoredFault)
    → IsNoStore told → ended ≡ Err told → ended ≡ Err (service.Store stored) → ⊥
no-store ended told stored storeless is other = let same : told ≡ service.Store stored = cc in
    subst IsNoStore same storeless

-- a desk that wasn't shared, of which each change was stored
pub ends_unshared : (desk : Desk) (kept : Option (List KeptChange)) (failures : ℕ)
    (fault : Option StoreFault) (Comes : Option (List KeptChange) → Option StoreFault → Type 0)
    (told : ServiceFault) → IsNoStore told → failures ≡ 0 → (fault ≡ None) ↔ (failures ≡ 0)
    → Comes kept fault → Ends (kept_desk desk kept failures) (Err told) Comes
ends_unshared desk kept failures fault Comes told storeless whole tells comes = record {
  left = kept_desk desk kept failures;
  goes = record { calls = []; added = stays desk; grows = grows-to-itself kept };
  passes = [];
  finished = unused desk kept kept failures failures (grows-to-itself kept);
  fault = fault;
  told = tells;
  comes = comes;
  well = λ is. absurd (err-is-ok (Err told) told refl is);
  closed = λ why is. absurd (none-is-some why (sym (tells.1 whole) ∙ is));
  reason = λ stored is. absurd (no-store (Err told) told stored storeless refl is);
}

-- a desk that didn't come back
pub ends_lost : (desk : Desk) (kept : Option (List KeptChange)) (failures : ℕ)
    (Comes : Option (List KeptChange) → Option StoreFault → Type 0) (told : ServiceFault)
    → IsNoStore told → Comes None None → Ends (kept_desk desk kept failures) (Err told) Comes
ends_lost desk kept failures Comes told storeless comes = record {
  left = kept_desk desk None 0;
  goes = record { calls = []; added = stays desk; grows = grows-to-none kept };
  passes = [];
  finished = unused desk kept None failures 0 (grows-to-none kept);
  fault = None;
  told = (λ _. refl, λ _. refl);
  comes = comes;
  well = λ _. refl;
  closed = λ why is. absurd (none-is-some why is);
  reason = λ stored is. absurd (no-store (Err told) told stored storeless refl is);
}

-- a desk that came back
pub ends_by : (begun : KeptDesk) (calls : ℕ) (fault : Option StoreFault)
    (Comes : Option (List KeptChange) → Option StoreFault → Type 0)
    (ended : Result (Unit {0}) ServiceFault) → Leaves begun calls fault Comes
    → (ended ≡ Ok tt → fault ≡ None)
    → ((why : StoreFault) → fault ≡ Some why → ended ≡ Err (service.Store (Closed why)))
    → ((stored : StoredFault) → ended ≡ Err (service.Store stored)
    → (why : StoreFault) × (fault ≡ Some why) × (stored ≡ Closed why))
    → Ends begun ended Comes
ends_by begun calls fault Comes ended leaves well closed reason = record {
  left = leaves.left;
  goes = leaves.goes;
  passes = leaves.passes;
  finished = leaves.finished;
  fault = fault;
  told = leaves.told;
  comes = leaves.comes;
  well = well;
  closed = closed;
  reason = reason;
}

ok-is-err : (told : ServiceFault) (ended : Result (Unit {0}) ServiceFault) → ended ≡ Ok tt
    → ended ≡ Err told → ⊥
ok-is-err told ended well is = cc

-- so it ends if it is reported as ended with or without its store
pub ends_with : (begun : KeptDesk) (ended : Result (Unit {0}) ServiceFault)
    (Comes : Option (List KeptChange) → Option StoreFault → Type 0) (back : Bool)
    → Ends begun ended Comes → Ends begun (ended_with back ended) Comes
ends_with begun ended Comes true ends = ends
ends_with begun (Err fault) Comes false ends = ends
ends_with begun (Ok done) Comes false ends = record {
  left = ends.left;
  goes = ends.goes;
  passes = ends.passes;
  finished = ends.finished;
  fault = ends.fault;
  told = ends.told;
  comes = ends.comes;
  well = λ is. absurd (err-is-ok (Err service.Mismatch) service.Mismatch refl is);
  closed = λ why is. absurd (ok-is-err (service.Store (Closed why)) (Ok done) refl (ends.closed why is));
  reason = λ stored is. absurd (no-store (Err service.Mismatch) service.Mismatch stored tt refl is);
}
