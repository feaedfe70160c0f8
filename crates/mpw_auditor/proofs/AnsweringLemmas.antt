-- Why nothing is reported of a store, or not all.
use Rattle.std.proofs.Common.{◌≡◌, ◌⊎◌, inl, inr, ℕ, Bool, true, false, Result, Ok, Err, if◌then◌else◌, refl, sym, subst}
use Rattle.std.specs.Prelude.{⊤, IsTrue, IfErr, IfOk}
use Rattle.sqlite.specs.declared.error.Error.TheVariants.{SqliteFailure}
use Rattle.sqlite.specs.declared.error.ErrorCode.TheVariants.{TransactionState}
use Rattle.sqlite.specs.State.{State}
use Rattle.sqlite.specs.Store.{Ghosts}
use Rattle.mpw_store_rows.specs.Rows.{Entry}
use Rattle.mpw_store.specs.Changes.{IsOther, IsReady}
use Rattle.mpw_store.specs.declared.fault.StoreFault.{StoreFault}
use Rattle.mpw_store.specs.declared.fault.StoreFault.TheVariants as store
use Rattle.mpw_store_replay.specs.Replaying.{IsReplayed, IsUnreplayed}
use Rattle.mpw_store_replay.specs.declared.replayed.Replayed.{Replayed}
use Rattle.mpw_store_listing.specs.Failing.{IsUnlisted}
use Rattle.mpw_store_listing.specs.declared.fault.ListingFault.{ListingFault}
use Rattle.mpw_store_listing.specs.declared.fault.ListingFault.TheVariants as listing
use Rattle.mpw_wire.specs.declared.fault.WireFault.TheVariants as wire
use Rattle.mpw_auditor.specs.Answering.{IsSound, IsUnanswered, IsUncounted, IsUnprinted, checked, going_on, is_unsound}
use Rattle.mpw_auditor.specs.Status.{of_listing}
use Rattle.mpw_auditor.specs.declared.fault.AuditFault.{AuditFault}
use Rattle.mpw_auditor.specs.declared.fault.AuditFault.TheVariants as audit

-- what is so of a result that is Err
pub of_err : {X E : Type 0} (P : E → Type 0) (result : Result X E) (e : E) → result ≡ Err e
    → IfErr result P → P e
of_err P result e is holds = subst (λ r. IfErr r P) is holds

-- a database that isn't looked at
pub unlooked : {S : Type 0} (accepts : ⊤ → Entry → ⊤ → Type 0) (g : Ghosts S) (old new : State)
    (fault : StoreFault) → (fault ≡ store.Other → IsOther old)
    → (fault ≡ store.Other)
    ⊎ ((fault ≡ store.Sql (SqliteFailure TransactionState)) × IsTrue old.in_transaction)
    → IsUnanswered accepts g old new fault
unlooked accepts g old new fault other (inl is) =
    subst (IsUnanswered accepts g old new) (sym is) (IsUnanswered.other (other is))
unlooked accepts g old new fault other (inr (is, busy)) =
    subst (IsUnanswered accepts g old new) (sym is) (IsUnanswered.busy busy)

-- a store whose rows can't be handed to a desk
pub uncounted : {S : Type 0} (g : Ghosts S) (old new : State) (why : StoreFault)
    (fault : AuditFault) → fault ≡ checked why → IsUnreplayed g old new why
    → IsUncounted g old new fault
uncounted g old new why fault is unreplayed =
    subst (IsUncounted g old new) (sym is) (by_test (is_unsound why) refl)
  where
    by_test : (b : Bool) → is_unsound why ≡ b
        → IsUncounted g old new (if b then audit.Unsound why else audit.Store why)
    by_test true e = (e, unreplayed)
    by_test false e = (e, unreplayed)

-- rows that aren't listed
pub unprinted : {S : Type 0} (g : Ghosts S) (old new : State) (failed failed' : ℕ)
    (told : ListingFault) (fault : AuditFault) → fault ≡ of_listing told → IsReady old
    → IsUnlisted g old new failed failed' told → IsUnprinted g old new failed failed' fault
unprinted g old new failed failed' (listing.Store why) fault is ready unread =
    subst (IsUnprinted g old new failed failed') (sym is) (IsUnanswered.unread why ready unread)
unprinted g old new failed failed' (listing.Output wire.Write) fault is ready (write, more) =
    subst (IsUnprinted g old new failed failed') (sym is) more
unprinted g old new failed failed' (listing.Output wire.Read) fault is ready (write, more) =
    let e : wire.Read ≡ wire.Write = write in cc
unprinted g old new failed failed' (listing.Output wire.Memory) fault is ready (write, more) =
    let e : wire.Memory ≡ wire.Write = write in cc

-- a store that a desk goes on from, and one that no desk does
pub sound : (old : State) (replayed : Replayed) (result : Result Replayed AuditFault)
    → result ≡ going_on replayed → IsReplayed old replayed → IfOk result (IsSound old)
sound old replayed result is holds = subst (λ r. IfOk r (IsSound old)) (sym is) (by_test replayed.is_full refl)
  where
    by_test : (b : Bool) → replayed.is_full ≡ b
        → IfOk (if b then Err audit.Full else Ok replayed) (IsSound old)
    by_test true e = tt
    by_test false e = (holds, e)

pub full : {S : Type 0} (g : Ghosts S) (old new : State) (replayed : Replayed)
    (result : Result Replayed AuditFault) → result ≡ going_on replayed → IsReplayed old replayed
    → IfErr result (IsUncounted g old new)
full g old new replayed result is holds = subst (λ r. IfErr r (IsUncounted g old new)) (sym is) (by_test replayed.is_full refl)
  where
    by_test : (b : Bool) → replayed.is_full ≡ b
        → IfErr (if b then Err audit.Full else Ok replayed) (IsUncounted g old new)
    by_test true e = (replayed, holds, e)
    by_test false e = tt
