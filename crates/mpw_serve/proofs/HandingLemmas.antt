-- Handing in, one event after another.
use Rattle.std.proofs.Common.{◌≡◌, ℕ, Bool, ◌+◌, List, [], ◌∷◌, drop, Option, None, Some, true, false, sym, subst, ap, ◌∙◌, refl}
use Rattle.std.specs.Prelude.{slice_get}
use Rattle.std.proofs.lemmas.List.{drop_more}
use Rattle.std.proofs.lemmas.Option.{slice_get_within, get_or_from_slice_get}
use Rattle.mpw_events.specs.History.{KeptDesk}
use Rattle.mpw_events.specs.declared.event.Event.{Event}
use Rattle.mpw_events.specs.declared.event.Event.TheVariants as event
use Rattle.mpw_job.specs.Jobs.{CutWindows}
use Rattle.mpw_job.specs.declared.job.CutJob.{CutJob}
use Rattle.mpw_serve.specs.Working.{HandsCut, HandsOver, HandsTile, HandsTiles, WorksCut, WorksOff, WorksTiles, cut_of_call, own_worker}
use Rattle.mpw_serve.specs.Internal.Working.{CallsFor}

-- the item at an index is the first of the items from there on
pub drop_item : {X : Type 0} (xs : List X) (k : ℕ) (x : X) → slice_get xs k ≡ Some x
    → drop k xs ≡ x ∷ drop (k + 1) xs
drop_item xs k x is = drop_more xs k x (slice_get_within xs k x is)
    ∙ ap (λ y. y ∷ drop (k + 1) xs) (get_or_from_slice_get xs k x x is)

-- what is handed in from an index on, after what was handed in before it
abbrev pub GoesOnFrom : KeptDesk → List Event → KeptDesk → List Event → Type 0
GoesOnFrom start events d left =
    (reached : KeptDesk) → HandsTiles d left reached → HandsTiles start events reached

pub last_at : (start d : KeptDesk) (events : List Event) (k : ℕ) (tile : Event) (over : Bool)
    (d' : KeptDesk)
    → GoesOnFrom start events d (drop k events) → slice_get events k ≡ Some tile → over ≡ true
    → HandsTile d tile over d' → HandsTiles start events d'
last_at start d events k tile over d' before at ends is =
    let one : HandsTile d tile true d' = subst (λ o. HandsTile d tile o d') ends is in
    before d' (subst (λ left. HandsTiles d left d') (sym (drop_item events k tile at))
    (HandsTiles.last d tile (drop (k + 1) events) d' one))

pub next_at : (start d : KeptDesk) (events : List Event) (k : ℕ) (tile : Event) (over : Bool)
    (d' : KeptDesk)
    → GoesOnFrom start events d (drop k events) → slice_get events k ≡ Some tile → over ≡ false
    → HandsTile d tile over d'
    → GoesOnFrom start events d' (drop (k + 1) events)
next_at start d events k tile over d' before at goes is reached more =
    let one : HandsTile d tile false d' = subst (λ o. HandsTile d tile o d') goes is in
    before reached
    (subst (λ left. HandsTiles d left reached) (sym (drop_item events k tile at))
    (HandsTiles.next d tile (drop (k + 1) events) d' reached one more))

-- after the last one nothing is left
pub none_at : (start d : KeptDesk) (events : List Event) (k : ℕ)
    → GoesOnFrom start events d (drop k events) → drop k events ≡ [] → HandsTiles start events d
none_at start d events k before is =
    before d (subst (λ left. HandsTiles d left d) (sym is) (HandsTiles.none d))

-- ---- one tile

pub tile_uncalled : (d : KeptDesk) (tile : Event) (over : Bool) (d' : KeptDesk)
    → HandsOver d (event.Take own_worker) over d' → over ≡ true → HandsTile d tile true d'
tile_uncalled d tile over d' is ends =
    HandsTile.uncalled d' (subst (λ o. HandsOver d (event.Take own_worker) o d') ends is)

pub tile_handed : (d : KeptDesk) (tile : Event) (called over : Bool) (d' d'' : KeptDesk)
    → HandsOver d (event.Take own_worker) called d' → called ≡ false → HandsOver d' tile over d''
    → HandsTile d tile over d''
tile_handed d tile called over d' d'' is goes more = HandsTile.handed over d' d''
    (subst (λ o. HandsOver d (event.Take own_worker) o d') goes is) more

-- ---- the cut

pub cut_kept : (d : KeptDesk) (a b e : CutWindows) (kept : Bool) (d' d'' : KeptDesk)
    → a ≡ b → e ≡ b → HandsCut d a.job a kept d' → kept ≡ true → WorksTiles d' e d''
    → WorksCut d b.job d''
cut_kept d a b e kept d' d'' same told is ends more =
    let hands : HandsCut d b.job b true d' = subst (λ x. HandsCut d x.job x true d') same
    (subst (λ k. HandsCut d a.job a k d') ends is) in
    WorksCut.kept b d' d'' hands (subst (λ x. WorksTiles d' x d'') told more)

pub cut_unkept : (d : KeptDesk) (a b : CutWindows) (kept : Bool) (d' : KeptDesk)
    → a ≡ b → HandsCut d a.job a kept d' → kept ≡ false → WorksCut d b.job d'
cut_unkept d a b kept d' same is goes =
    WorksCut.unkept b d' (subst (λ x. HandsCut d x.job x false d') same
    (subst (λ k. HandsCut d a.job a k d') goes is))

-- ---- the call

-- a call without a cutting job, or without memory for its copy
pub off_called : (d : KeptDesk) (job : Option CutJob) (d' : KeptDesk) → CallsFor d job d'
    → WorksOff d d'
off_called d job d' calls = go (cut_of_call calls.call) refl
  where
    go : (o : Option CutJob) → cut_of_call calls.call ≡ o → WorksOff d d'
    go None is = WorksOff.uncalled calls.call d' calls.handled is
    go (Some told) is = WorksOff.called calls.call told d' d' calls.handled is WorksCut.uncut

pub off_with : (d : KeptDesk) (found : Option CutJob) (job : CutJob) (d' d'' : KeptDesk)
    → CallsFor d found d' → found ≡ Some job → WorksCut d' job d'' → WorksOff d d''
off_with d found job d' d'' calls is cut =
    let taken : CallsFor d (Some job) d' = subst (λ o. CallsFor d o d') is calls in
    WorksOff.called taken.call job d' d'' taken.handled taken.taken cut
