-- The changes of a desk's calls, as rows are handled again.
use Rattle.std.proofs.Common.{◌≡◌, ◌∙◌, Bool, true, false, List, [], ◌∷◌, ◌++◌, refl, sym, ap, append-nil, append_assoc}
use Rattle.std.specs.Option.{option_to_list}
use Rattle.mpw_events.specs.GoingOn.{changes_of}
use Rattle.mpw_events.specs.History.{Desk, answering, state_of, state_after}
use Rattle.mpw_events.specs.Keeping.{change_to_keep}
use Rattle.mpw_events.specs.Step.{State, new_state, step, after, event_outcome}
use Rattle.mpw_events.specs.declared.event.Call.{Call}
use Rattle.mpw_events.specs.declared.event.Event.{Event}
use Rattle.mpw_events.specs.declared.event.Event.TheVariants as event
use Rattle.mpw_events.specs.declared.keeper.KeptChange.{KeptChange}
use Rattle.mpw_store_rows.specs.Rows.{Entry}
use Rattle.mpw_store_restoring.specs.Restoring.{Restores, behind, changes_by, changes_kept}
use Rattle.mpw_store_restoring.proofs.Again.{again_changes}

changes_of-on : (s : State) (first more : List Call)
    → changes_of s (first ++ more) ≡ changes_of s first ++ changes_of (state_after s first) more
changes_of-on s [] more = refl
changes_of-on s (c ∷ cs) more =
    let one = option_to_list (change_to_keep c.event (step s c.event c.kept).changes) in
    ap (λ l. one ++ l) (changes_of-on (after s c.event c.kept) cs more)
    ∙ sym (append_assoc one (changes_of (after s c.event c.kept) cs)
    (changes_of (state_after (after s c.event c.kept) cs) more))

kept_by_one : (d : Desk) (e : Event)
    → changes_kept (answering d e true).desk ≡ changes_kept d ++ (answering d e true).changes
unfolding answering
kept_by_one d e =
    changes_of-on (new_state d.officer d.digest) d.history _
    ∙ ap (λ l. changes_kept d ++ l)
    (append-nil (option_to_list (change_to_keep e (step (state_of d) e true).changes)))

kept_by_all : (d : Desk) (events : List Event)
    → changes_kept (behind d events) ≡ changes_kept d ++ changes_by d events
unfolding behind changes_by
kept_by_all d [] = sym (append-nil (changes_kept d))
kept_by_all d (e ∷ events) =
    let near = (answering d e true).desk in
    kept_by_all near events
    ∙ ap (λ l. l ++ changes_by near events) (kept_by_one d e)
    ∙ append_assoc (changes_kept d) (answering d e true).changes (changes_by near events)

pub row_adds : (d d' : Desk) (entry : Entry) (r : Restores d entry d')
    → changes_kept d'
    ≡ changes_kept d ++ (let kept : KeptChange =
    record { connection = entry.connection; change = r.change } in kept) ∷ []
row_adds d d' entry r =
    ap changes_kept r.desk ∙ kept_by_all d r.events ∙ ap (λ l. changes_kept d ++ l) r.changes

none_kept : (b : Bool) → option_to_list (change_to_keep event.Restart b) ≡ []
none_kept true = refl
none_kept false = refl

pub restart_adds : (d : Desk)
    → changes_kept (answering d event.Restart true).desk ≡ changes_kept d
restart_adds d =
    kept_by_one d event.Restart
    ∙ ap (λ l. changes_kept d ++ l) (again_changes d event.Restart
    ∙ none_kept (event_outcome (state_of d) event.Restart).changes)
    ∙ append-nil (changes_kept d)
