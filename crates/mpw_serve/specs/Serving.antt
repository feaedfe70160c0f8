-- Serving a connection: the lines that were answered, one by one, and what ended it.
use Rattle.std.specs.Prelude.{◌≡◌, ◌<◌, ⊤, ℕ, Bool, false, ◌+◌, List, [], ◌∷◌, ◌++◌, length, Option, None, Some, Result, Ok, Err}
use Rattle.std.specs.List.{flat_map}
use Rattle.std.specs.Io.KnownBytes.{Appends}
use Rattle.std.specs.Io.Iter.{u64_saturate}
use Rattle.mpw_requests.specs.declared.request.Request.{Request}
use Rattle.mpw_events.specs.declared.event.Response.{Response}
use Rattle.mpw_events.specs.declared.event.Response.TheVariants as response
use Rattle.mpw_wire.specs.declared.fault.WireFault.{WireFault}
use Rattle.mpw_wire.specs.declared.fault.WireFault.TheVariants.{Read, Write, Memory}
use Rattle.mpw_serve.specs.declared.serve.End.{End}
use Rattle.mpw_serve.specs.declared.serve.End.TheVariants as end
use Rattle.mpw_serve.specs.declared.serve.Served.{Served}
use Rattle.mpw_reply_text.specs.declared.reply.LineRefusal.TheVariants as refusal
use Rattle.mpw_wire.specs.Reading.{TakesLine, TakesTooLong, TakesCut, TakesNothing, BreaksRead, BreaksMemory, IsText}
use Rattle.mpw_reply_text.specs.Reply.{reply_text, refusal_text}
use Rattle.mpw_wire.specs.declared.request.LineAsk.TheVariants as ask
use Rattle.mpw_wire.specs.Request.{ask_of}
use Rattle.mpw_wire.specs.Writing.{fault_of}

-- the answer to a request: a response, or that memory ran out
pub data Answer : Type 0 where
  replied : Response → Answer
  starved : Answer

-- an answered line: it has a request, or it is no request's text
pub data AnsweredLine : Type 0 where
  asked : List ℕ → Request → Answer → AnsweredLine
  malformed : List ℕ → AnsweredLine

-- what ended the connection: the end of the input (`closed`, which says nothing of the desk), a line that is
-- too long or asks for too large a payload, an input that ends within a payload, no memory for a request, a
-- source that failed, as many lines as one connection may have, or a sink that failed at the text of a line
pub data Stop : Type 0 where
  closed : Stop
  long : Stop
  cut : Stop
  starving : Stop
  unreadable : Stop
  spent : Stop
  unwritten : AnsweredLine → Stop

-- the text of a response, which is the reply to a request. The other events get no reply
abbrev pub response_text : Response → List ℕ
response_text (response.Told reply) = reply_text reply
response_text _ = []

abbrev pub answer_text : Answer → List ℕ
answer_text (replied response) = response_text response
answer_text starved = refusal_text refusal.Memory

abbrev pub answered_text : AnsweredLine → List ℕ
answered_text (asked line request answer) = answer_text answer
answered_text (malformed line) = refusal_text refusal.Form

abbrev pub stop_text : Stop → List ℕ
stop_text closed = []
stop_text long = refusal_text refusal.Long
stop_text cut = refusal_text refusal.Cut
stop_text starving = refusal_text refusal.Memory
stop_text unreadable = []
stop_text spent = []
stop_text (unwritten turn) = answered_text turn

-- the answer by the response: `starved` if there is none, since memory ran out
abbrev pub answer_of : Option Response → Answer
answer_of None = starved
answer_of (Some response) = replied response

-- the greatest number of lines of one connection
abbrev pub max_lines : ℕ
max_lines = 4096

-- ---- lines, by their responder: `told` says which answer a request may get in a state, and the state after it

module _ {A : Type 0} (told : A → Request → Answer → A → Type 0) where
  -- the text is taken off the input, and its request gets the answer; a line that is no request's text leaves
  -- the state unchanged
  abbrev pub IsAnsweredLine : Option (List ℕ) → A → AnsweredLine → Option (List ℕ) → A → Type 0
  IsAnsweredLine input a (asked line request answer) input' a' =
      IsText input input' line request × told a request answer a'
  IsAnsweredLine input a (malformed line) input' a' =
      TakesLine input input' line × (ask_of line ≡ ask.Form) × (a' ≡ a)

  -- the lines were answered one after another
  pub data IsTrace (input : Option (List ℕ)) (a : A) : List AnsweredLine → Option (List ℕ) → A
      → Type 0 where
    none : IsTrace input a [] input a
    then : (turns : List AnsweredLine) (turn : AnsweredLine) (input' input'' : Option (List ℕ))
        (a' a'' : A)
        → IsTrace input a turns input' a'
        → IsAnsweredLine input' a' turn input'' a''
        → IsTrace input a (turns ++ turn ∷ []) input'' a''

  -- what ended the connection, after that many lines
  abbrev pub IsStop : ℕ → Option (List ℕ) → A → Stop → Option (List ℕ) → A → Type 0
  IsStop lines input a closed input' a' =
      (lines < max_lines) × TakesNothing input input' × (a' ≡ a)
  IsStop lines input a long input' a' =
      (lines < max_lines) × TakesTooLong input input' × (a' ≡ a)
  IsStop lines input a cut input' a' =
      (lines < max_lines) × TakesCut input input' × (a' ≡ a)
  IsStop lines input a starving input' a' =
      (lines < max_lines) × BreaksMemory input input' × (a' ≡ a)
  IsStop lines input a unreadable input' a' =
      (lines < max_lines) × BreaksRead input input' × (a' ≡ a)
  IsStop lines input a spent input' a' =
      (lines ≡ max_lines) × (input' ≡ input) × (a' ≡ a)
  IsStop lines input a (unwritten turn) input' a' =
      (lines < max_lines) × IsAnsweredLine input a turn input' a'

-- the end that is returned if no device failed
abbrev pub end_of : Stop → Option End
end_of closed = Some end.Closed
end_of long = Some end.Long
end_of cut = Some end.Cut
end_of starving = Some end.Memory
end_of unreadable = None
end_of spent = Some end.Spent
end_of (unwritten turn) = None

-- whether a text is written at the end: a refusal, or an answer
abbrev pub HasText : Stop → Type 0
HasText closed = ⊥
HasText unreadable = ⊥
HasText spent = ⊥
HasText _ = ⊤

-- a source or a sink that failed is returned as that fault; else the end is returned
abbrev pub Tells : Stop → Result End WireFault → Type 0
Tells stop (Ok end) = end_of stop ≡ Some end
Tells stop (Err Read) = stop ≡ unreadable
Tells stop (Err Write) = HasText stop
Tells stop (Err Memory) = ⊥

-- the sink has the text before and the last text. If it failed, it has the text before and a front of the
-- last text
abbrev pub Written : Option (List ℕ) → Option (List ℕ) → Option WireFault → List ℕ → List ℕ → Type 0
Written output output' None before last = Appends output output' (before ++ last)
Written output output' (Some Read) before last = Appends output output' (before ++ last)
Written output output' (Some Write) before last = (front : List ℕ) × (rest : List ℕ)
    × (front ++ rest ≡ last) × Appends output output' (before ++ front)
Written output output' (Some Memory) before last = ⊥

-- how many failures the sink has after a call with this fault: a fault of writing counts as one
abbrev pub write_failures : Option WireFault → ℕ → ℕ
write_failures (Some Write) failures = u64_saturate (failures + 1)
write_failures _ failures = failures

-- ---- a connection

-- the lines of a connection: those that were answered, what ended it, and their whole text
pub record ServesLines {A : Type 0} (told : A → Request → Answer → A → Type 0)
    (input input' output output' : Option (List ℕ)) (a a' : A) (result : Result End WireFault) :
    Type 0 where
  pub turns : List AnsweredLine
  pub left : Option (List ℕ)
  pub reached : A
  pub stop : Stop
  pub answered : IsTrace told input a turns left reached
  pub stopped : IsStop told (length turns) left reached stop input' a'
  pub tells : Tells stop result
  pub written : Written output output' (fault_of result) (flat_map answered_text turns)
      (stop_text stop)

-- a connection: its lines, and then its end, however the lines ended. `parted` says whether that end may be
-- handed in, and the state after it
abbrev pub Serves : {A : Type 0} (told : A → Request → Answer → A → Type 0)
    (parted : A → Bool → A → Type 0)
    → Option (List ℕ) → Option (List ℕ) → Option (List ℕ) → Option (List ℕ) → A → A → Served
    → Type 0
Serves {A} told parted input input' output output' a a' served =
    (reached : A) × ServesLines told input input' output output' a reached served.ended
    × parted reached served.is_gone a'

-- if nothing was pending in the sink before, nothing is after, unless the sink failed
abbrev pub LeavesNothingPending : Option WireFault → Bool → Bool → Type 0
LeavesNothingPending None before behind = before ≡ false → behind ≡ false
LeavesNothingPending (Some Read) before behind = before ≡ false → behind ≡ false
LeavesNothingPending (Some Write) before behind = ⊤
LeavesNothingPending (Some Memory) before behind = before ≡ false → behind ≡ false

-- the end, if its text was written; else the fault
abbrev pub with_end : {A : Type 0} → Option End → Result A WireFault → Result (Option End) WireFault
with_end end (Ok answer) = Ok end
with_end end (Err fault) = Err fault
