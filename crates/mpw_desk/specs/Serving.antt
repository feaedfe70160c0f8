-- What a connection's requests get from a shared desk, and what its pass then has of it.
use Rattle.std.specs.Prelude.{◌≡◌, ◌+◌, ℕ, Bool, true, false, List, [], ◌∷◌, ◌++◌, length, Option}
use Rattle.mpw_requests.specs.declared.request.Request.{Request}
use Rattle.mpw_events.specs.declared.event.Call.{Call}
use Rattle.mpw_events.specs.declared.event.Event.TheVariants as event
use Rattle.mpw_events.specs.declared.event.Response.{Response}
use Rattle.mpw_events.specs.GoingOn.{IsEnded}
use Rattle.mpw_serve.specs.Serving.{Answer, AnsweredLine, IsTrace, Stop}
use Rattle.mpw_serve.specs.Serving as serving
use Rattle.mpw_desk.specs.Passes.{Grows}
use Rattle.mpw_desk.specs.Steps.{IsAnswer, Records, call_of}
use Rattle.mpw_desk.specs.Values.{PassView}

-- a request is answered through the lock, or memory ran out and the pass is unchanged
abbrev pub IsAsked : PassView → Request → Answer → PassView → Type 0
IsAsked p request (serving.replied response) p' =
    Grows p (event.Ask p.connection request) response p'
IsAsked p request serving.starved p' = p' ≡ p

-- the receipts have the connection's end; or the pass is unchanged: memory ran out, or the desk was closed or
-- its history full
abbrev pub IsParted : PassView → Bool → PassView → Type 0
IsParted p true p' =
    (response : Response) × ((kept : Bool) × Records (event.Gone p.connection) response kept p p')
IsParted p false p' = p' ≡ p

-- the calls of answered lines: each request that was recorded, with its response, in the order of the lines.
-- A line that is no request has none, nor one that ran out of memory, nor one whose response is that the desk
-- is closed or its history full
pub data AreCallsOf (connection : ℕ) : List AnsweredLine → List Call → Type 0 where
  none : AreCallsOf connection [] []
  malformed : (turns : List AnsweredLine) (calls : List Call) (line : List ℕ)
      → AreCallsOf connection turns calls
      → AreCallsOf connection (turns ++ serving.malformed line ∷ []) calls
  starved : (turns : List AnsweredLine) (calls : List Call) (line : List ℕ) (request : Request)
      → AreCallsOf connection turns calls
      → AreCallsOf connection (turns ++ serving.asked line request serving.starved ∷ []) calls
  ended : (turns : List AnsweredLine) (calls : List Call) (line : List ℕ) (request : Request)
      (response : Response) → AreCallsOf connection turns calls
      → IsEnded (event.Ask connection request) response
      → AreCallsOf connection (turns ++ serving.asked line request (serving.replied response) ∷ [])
      calls
  recorded : (turns : List AnsweredLine) (calls : List Call) (line : List ℕ) (request : Request)
      (response : Response) (kept : Bool) → AreCallsOf connection turns calls
      → IsAnswer (event.Ask connection request) response
      → AreCallsOf connection (turns ++ serving.asked line request (serving.replied response) ∷ [])
      (calls ++ call_of (event.Ask connection request) response kept ∷ [])

-- a pass has exactly these calls more
pub record Receives (p p' : PassView) (calls : List Call) : Type 0 where
  pub receipts : p'.receipts ≡ p.receipts ++ calls
  pub count : p'.count ≡ p.count + length calls
  pub connection : p'.connection ≡ p.connection

-- what a pass has of answered lines: the calls of these, each once, in their order
abbrev pub ReceivesLines : Type 0
ReceivesLines = (p p' : PassView) (input left : Option (List ℕ)) (turns : List AnsweredLine)
    → IsTrace IsAsked input p turns left p'
    → (calls : List Call) × AreCallsOf p.connection turns calls × Receives p p' calls

-- what it has of the connection's end: that call, exactly if the result says so
abbrev pub ReceivesEnd : Type 0
ReceivesEnd = (p p' : PassView) → (IsParted p true p' → (response : Response) × ((kept : Bool)
    × Receives p p' (call_of (event.Gone p.connection) response kept ∷ [])))
    × (IsParted p false p' → p' ≡ p)
