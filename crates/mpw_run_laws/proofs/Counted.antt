-- Tiles that are being checked, and which of their answers calls store.
use Rattle.std.proofs.Common.{◌≡◌, ℕ, ◌<◌, true, false, List, [], ◌∷◌, ◌++◌, length, Some, refl, sym, subst, ap, ◌∙◌, inl, inr, arith, length-set}
use Rattle.std.specs.Prelude.{slice_get, slice_set}
use Rattle.std.proofs.Math.ListN.{length-replicate}
use Rattle.std.proofs.lemmas.Bool.{true≢false, cases_eq}
use Rattle.std.proofs.lemmas.Option.{slice_get_within, same_Some}
use Rattle.std.proofs.lemmas.List.Elements.{Contains-push, Contains-push_cases, Contains-append_left}
use Rattle.mpw_tiles.specs.declared.listing.Rectangle.{Rectangle}
use Rattle.mpw_tiles.specs.Plan.{tiles}
use Rattle.mpw_job.specs.Jobs.{FoundMarkers}
use Rattle.mpw_run.specs.declared.phase.RunReply.{RunReply}
use Rattle.mpw_run.specs.declared.phase.RunReply.TheVariants as reply
use Rattle.mpw_run.specs.Run.{Planned, Tile, Checks, answered}
use Rattle.mpw_run.specs.Step.{raised, answered_by, with_tiles, new_tiles}
use Rattle.mpw_run.proofs.TileLists.{same_tile, other_tile, raised_same, few_answered, new_answered}
use Rattle.mpw_run.proofs.Opened.{some_tile}
use Rattle.mpw_events.specs.declared.event.Call.{Call}
use Rattle.mpw_events.specs.declared.event.Event.TheVariants as event
use Rattle.mpw_events.specs.declared.event.Response.TheVariants as response
use Rattle.mpw_run_laws.specs.Calls.{GoesOn, is_kept, KeepsTile, WasKept}
use Rattle.mpw_run_laws.proofs.Moves.{tiles_with, keeps}
use Rattle.mpw_run_laws.proofs.Calls.{IsQuiet}

-- ---- tiles that are being checked

-- each tile of the plan is listed, and an unanswered one is left
pub record IsCounted (c : Checks) : Type 0 where
  pub count : length c.tiles ≡ tiles c.planned.plan
  pub left : answered c.tiles < tiles c.planned.plan

pub new_counted : (planned : Planned) (windows : List (List Rectangle))
    → IsCounted (record {
      planned = planned;
      windows = windows;
      tiles = new_tiles (tiles planned.plan);
    })
new_counted planned windows = record {
  count = length-replicate (tiles planned.plan) _;
  left = omega (arith, new_answered (tiles planned.plan), some_tile planned.plan);
}

pub raised_counted : (c : Checks) (k : ℕ) (x : Tile) → slice_get c.tiles k ≡ Some x → IsCounted c
    → IsCounted (with_tiles c (slice_set c.tiles k (raised x)))
raised_counted c k x at h = record {
  count = length-set c.tiles k (raised x) ∙ h.count;
  left = (let l = h.left in omega (arith, l, raised_same c.tiles k x at));
}

pub more_counted : (c : Checks) (answer : FoundMarkers) (x : Tile) → IsCounted c
    → (answered (tiles_with c answer x) ≡ tiles c.planned.plan → ⊥)
    → IsCounted (with_tiles c (tiles_with c answer x))
more_counted c answer x h ne =
    let count = length-set c.tiles answer.job.tile (answered_by answer.markers x) ∙ h.count in
    record {
      count = count;
      left = omega (arith, ne, few_answered (tiles_with c answer x), count);
    }

-- a tile of a list in which one is set
pub set_cases : (xs : List Tile) (k j : ℕ) (x y t : Tile) → slice_get xs k ≡ Some x
    → slice_get (slice_set xs k y) j ≡ Some t → (P : Type 0) → (j ≡ k → y ≡ t → P)
    → ((j ≡ k → ⊥) → slice_get xs j ≡ Some t → P) → P
set_cases xs k j x y t at g P same other = elim (cases_eq j k) [
  | inl s ↦ same s (same_Some y t (sym (same_tile xs k y (slice_get_within xs k x at))
      ∙ ap (slice_get (slice_set xs k y)) (sym s) ∙ g))
  | inr ne ↦ other ne (sym (other_tile xs k j y ne) ∙ g)
]

-- ---- which answers calls store

pub kept_as : (r : RunReply) → is_kept (response.Run r) ≡ keeps r
kept_as (reply.Taken job) = refl
kept_as reply.NoJob = refl
kept_as reply.Kept = refl
kept_as reply.Finished = refl
kept_as reply.Stranger = refl
kept_as reply.Double = refl
kept_as reply.OldRun = refl

pub kept_told : (call : Call) (r : RunReply) → call.response ≡ response.Run r
    → is_kept call.response ≡ keeps r
kept_told call r told = ap is_kept told ∙ kept_as r

pub unkept_quiet : (call : Call) (r : RunReply) → call.response ≡ response.Run r → GoesOn call
    → keeps r ≡ false → IsQuiet call
unkept_quiet call r told goes unkept = record {
  goes_on = goes;
  keeps_none = λ tile k. true≢false (sym k.kept ∙ kept_told call r told ∙ unkept);
}

pub keeps_tile : (call : Call) (answer : FoundMarkers) (r : RunReply)
    → call.event ≡ event.Tile answer
    → call.response ≡ response.Run r → keeps r ≡ true → KeepsTile answer.job.tile call
keeps_tile call answer r is told kept =
    record { answer = answer; is = is; of_tile = refl; kept = kept_told call r told ∙ kept }

pub was_before : (calls : List Call) (call : Call) (k : ℕ) → WasKept calls k
    → WasKept (calls ++ call ∷ []) k
was_before calls call k w =
    (w.0, Contains-append_left calls (call ∷ []) w.0 w.1, w.2)

pub was_now : (calls : List Call) (call : Call) (k : ℕ) → KeepsTile k call
    → WasKept (calls ++ call ∷ []) k
was_now calls call k h = (call, Contains-push calls call, h)

-- an answer that was accepted with one more call was accepted before, or by the call
pub was_cases : (calls : List Call) (call : Call) (k : ℕ) (P : Type 0)
    → WasKept (calls ++ call ∷ []) k → (WasKept calls k → P) → (KeepsTile k call → P) → P
was_cases calls call k P w old new = elim (Contains-push_cases calls call w.0 w.1) [
  | inl c ↦ old (w.0, c, w.2)
  | inr e ↦ new (subst (KeepsTile k) (sym e) w.2)
]

pub tile_is : (a b : FoundMarkers) → event.Tile a ≡ event.Tile b → a ≡ b
tile_is a b e = cc
