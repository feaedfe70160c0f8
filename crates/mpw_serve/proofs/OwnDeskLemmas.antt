-- A private desk, of which a connection sees the desk with its store writer.
use Rattle.std.proofs.Common.{◌≡◌, ◌∙◌, ℕ, List, Option, Result, Ok, Err, Bool, refl, sym, subst}
use Rattle.std.specs.Prelude.{IfOk, OnErr, is_ok}
use Rattle.mpw_requests.specs.declared.request.Request.{Request}
use Rattle.mpw_events.specs.declared.event.Event.TheVariants as event
use Rattle.mpw_events.specs.declared.event.Response.{Response}
use Rattle.mpw_events.specs.History.{KeptDesk, IsHandled}
use Rattle.mpw_serve.specs.declared.serve.Served.{Served}
use Rattle.mpw_serve.specs.Serving.{Answer, Serves}
use Rattle.mpw_serve.specs.OwnDesk.{ConnectedDesk, IsAnswer, IsGone, IsTold, IsParted}
use Rattle.mpw_serve.proofs.ServedLemmas.{served_as}

-- the end of a connection was handled, or memory ran out
pub gone_cases : {E : Type 0} (connection : ℕ) (d d' : KeptDesk) (result : Result Response E)
    (is_gone : Bool) → is_gone ≡ is_ok result
    → IfOk result (λ response. IsHandled d (event.Gone connection) response d')
    → OnErr result (d' ≡ d)
    → IsGone connection d is_gone d'
gone_cases connection d d' (Ok response) is_gone is ok err =
    subst (λ gone. IsGone connection d gone d') (sym is) (response, ok)
gone_cases connection d d' (Err e) is_gone is ok err =
    subst (λ gone. IsGone connection d gone d') (sym is) err

-- the connection and its private desk
pub record IsOf (connection : ℕ) (own : ConnectedDesk) (desk : KeptDesk) : Type 0 where
  pub of : own.connection ≡ connection
  pub desk_is : own.desk ≡ desk

told_of : (connection : ℕ) (own own' : ConnectedDesk) (desk : KeptDesk) (request : Request)
    (answer : Answer) → IsOf connection own desk → IsTold own request answer own'
    → (desk' : KeptDesk) × IsAnswer connection desk request answer desk'
    × IsOf connection own' desk'
told_of connection own own' desk request answer is (stays, told) = (
  own'.desk,
  subst (λ c. IsAnswer c desk request answer own'.desk) is.of
      (subst (λ d. IsAnswer own.connection d request answer own'.desk) is.desk_is told),
  record { of = stays ∙ is.of; desk_is = refl },
)

parted_of : (connection : ℕ) (own own' : ConnectedDesk) (desk : KeptDesk) (is_gone : Bool)
    → IsOf connection own desk → IsParted own is_gone own'
    → (desk' : KeptDesk) × IsGone connection desk is_gone desk' × IsOf connection own' desk'
parted_of connection own own' desk is_gone is (stays, parted) = (
  own'.desk,
  subst (λ c. IsGone c desk is_gone own'.desk) is.of
      (subst (λ d. IsGone own.connection d is_gone own'.desk) is.desk_is parted),
  record { of = stays ∙ is.of; desk_is = refl },
)

-- the connection that was served over a private desk
pub record ServesOwn (input input' output output' : Option (List ℕ)) (own own' : ConnectedDesk)
    (served : Served) : Type 0 where
  pub desk : Serves (IsAnswer own.connection) (IsGone own.connection) input input' output output'
      own.desk own'.desk served
  pub stays : own'.connection ≡ own.connection

-- a connection that was served over a private desk is its connection, over the desk
pub served_own : (input input' output output' : Option (List ℕ)) (own own' : ConnectedDesk)
    (served : Served) → Serves IsTold IsParted input input' output output' own own' served
    → ServesOwn input input' output output' own own' served
served_own input input' output output' own own' served is =
    let seen = served_as IsTold IsParted (IsAnswer own.connection) (IsGone own.connection)
    (IsOf own.connection) (told_of own.connection) (parted_of own.connection) input input'
    output output' own own' own.desk served (record { of = refl; desk_is = refl }) is in
    record {
      desk = subst (λ d. Serves (IsAnswer own.connection) (IsGone own.connection) input input'
          output output' own.desk d served) (sym seen.2.desk_is) seen.1;
      stays = seen.2.of;
    }
