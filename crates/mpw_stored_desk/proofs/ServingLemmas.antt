-- What a store writer begins with over a store that was reopened.
use Rattle.std.proofs.Common.{◌≡◌, ◌∙◌, arith, ℕ, ◌+◌, List, [], ◌∷◌, ◌++◌, length, map, Option, None, Some, option_map, true, false, inl, inr, refl, sym, ap, subst, length-append}
use Rattle.std.specs.Prelude.{◌==◌, IfSome}
use Rattle.std.proofs.lemmas.Bool.{cases_Bool}
use Rattle.std.proofs.lemmas.Bool.Decides.{nat_tests}
use Rattle.sqlite.specs.State.{State, HasCleanDisk, Opens}
use Rattle.sqlite.specs.View.{doubt}
use Rattle.mpw_events.specs.History.{Desk, new_desk}
use Rattle.mpw_events.specs.declared.event.Event.{Event}
use Rattle.mpw_events.specs.declared.keeper.Change.{Change}
use Rattle.mpw_events.specs.declared.keeper.Change.TheVariants as change
use Rattle.mpw_events.specs.declared.keeper.KeptChange.{KeptChange}
use Rattle.mpw_store_keeper.specs.Kept.{HoldsRows, change_in, change_told, changes_in, finished_told, gone_told, kept_from, kept_in, rows_from, with_change}
use Rattle.mpw_store_keeper.proofs.HoldLemmas.{kept_at_first}
use Rattle.mpw_store_keeper.proofs.KeptLemmas as kept
use Rattle.mpw_store_restoring.specs.Restoring.{Folds, IsKeptOf}
use Rattle.mpw_store.specs.Changes.{IsOther}
use Rattle.mpw_store_rows.specs.Rows.{Entry}
use Rattle.mpw_store.proofs.EntryLemmas.{at_their_places}
use Rattle.mpw_stored_desk.specs.Reopening.{CantGoOn, IsIdle, Reopens, gone_rows}
use Rattle.mpw_stored_desk.proofs.ClosingLemmas.{rows-length}
use Rattle.mpw_settings.specs.declared.officer.Officer.{Officer}
use Rattle.mpw_store.specs.declared.fault.StoreFault.{StoreFault}
use Rattle.mpw_store.specs.declared.fault.StoreFault.TheVariants as store
use Rattle.mpw_stored_desk.specs.Serving.{BeginsWith, IsUnopened}
use Rattle.mpw_stored_desk.specs.Status.{refused_as}

pub known_clean : (s : State) (count : ℕ) (known : List KeptChange) → kept_in s count ≡ Some known
    → HasCleanDisk s
unfolding doubt
known_clean s count known is = elim (cases_Bool s.is_clean) [
  | inl clean ↦ rw clean refl
  | inr unclean ↦ let e = rw unclean at is in cc
]

-- ---- the changes of the rows that lead to a desk

row_told : (d : Desk) (e : Entry) (events : List Event) (c : Change) → IsKeptOf d e events c
    → change_in e ≡ Some (kept_from e.connection c)
row_told d e _ _ (IsKeptOf.asked request asks) =
    ap (λ k. option_map (kept_from e.connection) (change_told k e.line e.payload)) asks.kind
    ∙ ap (λ o. option_map (kept_from e.connection) (option_map change.Request o)) asks.reads
row_told d e _ _ (IsKeptOf.gone tells) =
    ap (λ k. option_map (kept_from e.connection) (change_told k e.line e.payload)) tells.kind
    ∙ ap (λ p. option_map (kept_from e.connection) (gone_told p e.line)) tells.payload
    ∙ ap (λ l. option_map (kept_from e.connection) (gone_told None l)) tells.line
row_told d e _ _ (IsKeptOf.finished a found tells job are) =
    ap (λ k. option_map (kept_from e.connection) (change_told k e.line e.payload)) tells.kind
    ∙ ap (λ p. option_map (kept_from e.connection) (finished_told p e.line)) tells.payload
    ∙ ap (λ l. option_map (kept_from e.connection) (finished_told None l)) tells.line
    ∙ kept.finished_told e.place e.connection a.job.run tells.small

pub rows_told : (d : Desk) (entries : List Entry) (d' : Desk) → Folds d entries d'
    → (changes : List KeptChange) × (changes_in entries ≡ Some changes)
rows_told d [] d' folds = ([], refl)
rows_told d (e ∷ entries) d' (near, row, more) =
    let others = rows_told near entries d' more in
    let one = kept_from e.connection row.change in (
      one ∷ others.0,
      ap (λ o. with_change o (changes_in entries)) (row_told d e row.events row.change row.kept_of)
          ∙ ap (with_change (Some one)) others.1,
    )

pub ends_told : (place : ℕ) (connections : List ℕ)
    → changes_in (gone_rows place connections)
    ≡ Some (map (λ connection. kept_from connection change.Gone) connections)
ends_told place [] = refl
ends_told place (connection ∷ connections) =
    ap (with_change (Some (kept_from connection change.Gone))) (ends_told (place + 1) connections)

pub holds : (officer digest : List ℕ) (s opened : State) (d : Desk) (rows : ℕ)
    → Reopens officer digest s opened d rows → HoldsRows opened rows
holds officer digest s opened d rows r =
    let found = rows_told (new_desk officer digest) r.found r.whole r.folds in
    let ends = map (λ connection. kept_from connection change.Gone) r.closing in
    record {
      ready = r.ready;
      entries = r.found ++ gone_rows (length r.found + 1) r.closing;
      rows = r.rows;
      counted = length-append r.found (gone_rows (length r.found + 1) r.closing)
          ∙ ap (λ n. length r.found + n) (rows-length (length r.found + 1) r.closing)
          ∙ sym r.counted;
      changes = found.0 ++ ends;
      are = kept.changes_append r.found (gone_rows (length r.found + 1) r.closing) found.0 ends
          found.1 (ends_told (length r.found + 1) r.closing);
    }

pub begins : (officer : Officer) (s opened : State) (d : Desk) (rows : ℕ) (known : List KeptChange)
    → HasCleanDisk opened → Reopens officer.name officer.digest s opened d rows
    → kept_in opened rows ≡ Some known → BeginsWith officer s d known
begins officer s opened d rows known clean r is =
    let entries = r.found ++ gone_rows (length r.found + 1) r.closing in
    let are : changes_in entries ≡ Some known =
    sym (kept_at_first at_their_places opened rows
    (holds officer.name officer.digest s opened d rows r) clean entries r.rows) ∙ is in
    let exact : entries ≡ rows_from 1 known =
    kept.rows_are 1 entries known are r.rows.numbered in
    record {
      found = r.found;
      finds = r.finds;
      whole = r.whole;
      folds = r.folds;
      closing = r.closing;
      open_ones = r.open_ones;
      restarted = r.restarted;
      rows = exact;
      told = subst (λ es. changes_in es ≡ Some known) exact are;
    }

pub some_is : {X : Type 0} (P : X → Type 0) (o : Option X) (x : X) → o ≡ Some x → IfSome o P → P x
some_is P o x is holds = subst (λ p. IfSome p P) is holds

-- a database that was opened waits between two transactions
pub idle_of : (s : State) → Opens s → IsIdle s
idle_of s opens =
    record { is_open = opens.is_open; alone = opens.autocommit; settled = sym opens.clean }

rows_refused : (officer : Officer) (s s' : State) (place : ℕ)
    → (HasCleanDisk s' → CantGoOn officer.name officer.digest s place)
    → IsUnopened officer s s' (refused_as (store.Rows place))
rows_refused officer s s' place bad = elim (cases_Bool (place == 1)) [
  | inl first ↦ rw first (λ clean. subst (CantGoOn officer.name officer.digest s) (is_first place first) (bad clean))
  | inr later ↦ rw later (is_later place later, bad)
]
  where
    is_first : (place : ℕ) → (place == 1) ≡ true → place ≡ 1
    is_first place first = grind (arith, nat_tests)

    is_later : (place : ℕ) → (place == 1) ≡ false → place ≡ 1 → ⊥
    is_later place later same = let e : true ≡ false = subst (λ p. (p == 1) ≡ false) same later in cc

pub unopened_by : (officer : Officer) (s s' : State) (fault : StoreFault)
    → (HasCleanDisk s' → (place : ℕ) → fault ≡ store.Rows place
    → CantGoOn officer.name officer.digest s place) → (fault ≡ store.Other → IsOther s)
    → IsUnopened officer s s' (refused_as fault)
unopened_by officer s s' (store.Rows place) bad other =
    rows_refused officer s s' place (λ clean. bad clean place refl)
unopened_by officer s s' (store.Sql error) bad other = tt
unopened_by officer s s' store.Memory bad other = tt
unopened_by officer s s' store.Other bad other = other refl
