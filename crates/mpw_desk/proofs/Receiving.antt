-- The receipts of a connection that is served over a pass.
use Rattle.std.proofs.Common.{◌≡◌, ◌∙◌, ℕ, Bool, List, [], ◌∷◌, ◌++◌, length-append, Option, refl, sym, ap, subst, ⊎_elim, append_assoc, append-nil, arith}
use Rattle.mpw_requests.specs.declared.request.Request.{Request}
use Rattle.mpw_events.specs.declared.event.Call.{Call}
use Rattle.mpw_events.specs.declared.event.Event.TheVariants as event
use Rattle.mpw_events.specs.declared.event.Response.{Response}
use Rattle.mpw_events.specs.GoingOn.{IsEnded}
use Rattle.mpw_serve.specs.Serving.{Answer, AnsweredLine, IsTrace, IsAnsweredLine}
use Rattle.mpw_serve.specs.Serving as serving
use Rattle.mpw_desk.specs.Serving.{AreCallsOf, IsAsked, Receives, ReceivesEnd, ReceivesLines}
use Rattle.mpw_desk.specs.Steps.{IsAnswer, Records, call_of}
use Rattle.mpw_desk.specs.Values.{PassView}

-- nothing more
receives-nothing : (p : PassView) → Receives p p []
receives-nothing p = record {
  receipts = sym (append-nil p.receipts);
  count = omega arith;
  connection = refl;
}

-- what a pass has of lines, and its state after them
pub record HasLines (p p' : PassView) (turns : List AnsweredLine) : Type 0 where
  pub calls : List Call
  pub of : AreCallsOf p.connection turns calls
  pub more : Receives p p' calls

same-pass : (p p' p'' : PassView) (calls : List Call) → p'' ≡ p' → Receives p p' calls → Receives p p'' calls
same-pass p p' p'' calls is more = subst (λ q. Receives p q calls) (sym is) more

-- one more call
receives-call : (p p' p'' : PassView) (calls : List Call) (request : Request) (response : Response)
    (kept : Bool) → Receives p p' calls
    → Records (event.Ask p'.connection request) response kept p' p''
    → Receives p p'' (calls ++ call_of (event.Ask p.connection request) response kept ∷ [])
receives-call p p' p'' calls request response kept more one =
    let call = call_of (event.Ask p'.connection request) response kept in
    let same : call ≡ call_of (event.Ask p.connection request) response kept =
    ap (λ n. call_of (event.Ask n request) response kept) more.connection in
    record {
      receipts = one.receipts ∙ ap (λ l. l ++ call ∷ []) more.receipts
          ∙ append_assoc p.receipts calls (call ∷ [])
          ∙ ap (λ (c : Call). p.receipts ++ (calls ++ c ∷ [])) same;
      count = omega (
        arith,
        one.count,
        more.count,
        length-append calls (call_of (event.Ask p.connection request) response kept ∷ []),
      );
      connection = one.connection ∙ more.connection;
    }

next-line : (p p' p'' : PassView) (input left : Option (List ℕ)) (turns : List AnsweredLine)
    (turn : AnsweredLine) → HasLines p p' turns
    → IsAnsweredLine IsAsked input p' turn left p'' → HasLines p p'' (turns ++ turn ∷ [])
next-line p p' p'' input left turns (serving.malformed line) has is = record {
  calls = has.calls;
  of = AreCallsOf.malformed turns has.calls line has.of;
  more = same-pass p p' p'' has.calls is.2 has.more;
}
next-line p p' p'' input left turns (serving.asked line request serving.starved) has is = record {
  calls = has.calls;
  of = AreCallsOf.starved turns has.calls line request has.of;
  more = same-pass p p' p'' has.calls is.1 has.more;
}
next-line p p' p'' input left turns (serving.asked line request (serving.replied response)) has is =
    ⊎_elim (λ (stays : (p'' ≡ p') × IsEnded (event.Ask p'.connection request) response). let h :
    HasLines p p'' (turns ++ serving.asked line request (serving.replied response) ∷ []) = record {
      calls = has.calls;
      of = AreCallsOf.ended turns has.calls line request response has.of
          (subst (λ n. IsEnded (event.Ask n request) response) has.more.connection stays.1);
      more = same-pass p p' p'' has.calls stays.0 has.more;
    } in h)
    (λ (one : (kept : Bool) × Records (event.Ask p'.connection request) response kept p' p''). let h :
    HasLines p p'' (turns ++ serving.asked line request (serving.replied response) ∷ []) = record {
      calls = has.calls ++ call_of (event.Ask p.connection request) response one.0 ∷ [];
      of = AreCallsOf.recorded turns has.calls line request response one.0 has.of
          (subst (λ n. IsAnswer (event.Ask n request) response) has.more.connection one.1.answer);
      more = receives-call p p' p'' has.calls request response one.0 has.more one.1;
    } in h)
    is.1

lines : (input : Option (List ℕ)) (p : PassView) (turns : List AnsweredLine)
    (left : Option (List ℕ)) (p' : PassView) → IsTrace IsAsked input p turns left p'
    → HasLines p p' turns
lines input p turns left p' IsTrace.none = record {
  calls = [];
  of = AreCallsOf.none;
  more = receives-nothing p;
}
lines input p turns left p'' (IsTrace.then before turn middle last p' far trace is) =
    next-line p p' p'' middle left before turn (lines input p before middle p' trace) is

pub receives-lines : ReceivesLines
receives-lines p p' input left turns trace =
    let has = lines input p turns left p' trace in (has.calls, has.of, has.more)

gone-received : (p p' : PassView) (response : Response) (kept : Bool)
    → Records (event.Gone p.connection) response kept p p'
    → Receives p p' (call_of (event.Gone p.connection) response kept ∷ [])
gone-received p p' response kept one = record {
  receipts = one.receipts;
  count = omega (arith, one.count);
  connection = one.connection;
}

pub receives-end : ReceivesEnd
receives-end p p' = (
  λ parted. (parted.0, (parted.1.0, gone-received p p' parted.0 parted.1.0 parted.1.1)),
  λ left. left,
)
