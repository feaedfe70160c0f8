-- A connection that is served over a private desk adds calls to its history.
use Rattle.std.proofs.Common.{◌≡◌, ℕ, List, Option, sym, subst, Bool, true, false}
use Rattle.mpw_events.specs.declared.event.Event.TheVariants as event
use Rattle.mpw_events.specs.declared.event.Response.{Response}
use Rattle.mpw_events.specs.declared.event.Event.{Event}
use Rattle.mpw_events.specs.History.{KeptDesk, IsHandled}
use Rattle.mpw_requests.specs.declared.request.Request.{Request}
use Rattle.mpw_events.specs.GoingOn.{GoesOnTo}
use Rattle.mpw_serve.specs.declared.serve.Served.{Served}
use Rattle.mpw_laws.specs.WorkLaws.{WorkGoesOn}
use Rattle.mpw_serve.specs.Serving.{Answer, Serves}
use Rattle.mpw_serve.specs.OwnDesk.{IsAnswer, IsGone}
use Rattle.mpw_serve.proofs.ServedLemmas.{served_leads}

-- ---- what the store writer has of it

module _
    (goes : (d left : KeptDesk) (event : Event) (response : Response)
    → IsHandled d event response left → GoesOnTo d left)
    (stays : (d : KeptDesk) → GoesOnTo d d)
    (on : (a b c : KeptDesk) → GoesOnTo a b → GoesOnTo b c → GoesOnTo a c)
    (works : WorkGoesOn)
  where
    unmoved : (d d' : KeptDesk) → d' ≡ d → GoesOnTo d d'
    unmoved d d' same = subst (GoesOnTo d) (sym same) (stays d)

    answer_on : (connection : ℕ) (d d' : KeptDesk) (request : Request) (answer : Answer)
        → IsAnswer connection d request answer d' → GoesOnTo d d'
    answer_on connection d d' request (Answer.replied response) (asked, handled, worked) =
        on d asked d' (goes d asked (event.Ask connection request) response handled)
        (works request response asked d' worked)
    answer_on connection d d' request Answer.starved same = unmoved d d' same

    gone_on : (connection : ℕ) (d d' : KeptDesk) (is_gone : Bool)
        → IsGone connection d is_gone d' → GoesOnTo d d'
    gone_on connection d d' true is = goes d d' (event.Gone connection) is.0 is.1
    gone_on connection d d' false same = unmoved d d' same

    pub served_on : (connection : ℕ) (input left output written : Option (List ℕ)) (d d' : KeptDesk)
        (served : Served)
        → Serves (IsAnswer connection) (IsGone connection) input left output written d d' served
        → GoesOnTo d d'
    served_on connection =
        served_leads (IsAnswer connection) (IsGone connection) GoesOnTo stays on
        (answer_on connection) (gone_on connection)
