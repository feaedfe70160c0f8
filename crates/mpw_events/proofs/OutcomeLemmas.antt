-- What the outcome of a decision table says of the table, whatever the group of requests.
use Rattle.std.proofs.Common.{◌≡◌, List, Result, Ok, Err, refl, sym}
use Rattle.mpw_replies.specs.Listing.{Listed}
use Rattle.mpw_replies.specs.Rows.{ended_by}
use Rattle.mpw_replies.specs.declared.reply.Reply.TheVariants as reply
use Rattle.mpw_replies.specs.declared.row.Done.{Done}
use Rattle.mpw_replies.specs.declared.row.Done.TheVariants.{Lists, Changes}
use Rattle.mpw_replies.specs.declared.row.Ending.{Ending}
use Rattle.mpw_replies.specs.declared.row.Ending.TheVariants as ending
use Rattle.mpw_events.specs.declared.event.Response.TheVariants as response
use Rattle.mpw_events.specs.Step.{State, outcome_by}

pub no_lines : (e : Ending) (lines : List Listed)
    → response.Told (ended_by e) ≡ response.Told (reply.Ok lines) → ⊥
no_lines (ending.Denied why) lines told = cc
no_lines (ending.Refused code) lines told = cc

pub ended_same : (e why : Ending) → response.Told (ended_by e) ≡ response.Told (ended_by why)
    → e ≡ why
ended_same (ending.Denied a) (ending.Denied b) same = cc
ended_same (ending.Denied a) (ending.Refused b) same = absurd cc
ended_same (ending.Refused a) (ending.Denied b) same = absurd cc
ended_same (ending.Refused a) (ending.Refused b) same = cc

-- A denial or a refusal is that of the table's test that failed.
pub ended_at : {E P : Type 0} (how : E → Ending) (over : P → State) (state : State)
    (row : Result (Done P) E) (why : Ending)
    → (outcome_by how over state row).response ≡ response.Told (ended_by why)
    → (e : E) × ((row ≡ Err e) × (how e ≡ why))
ended_at how over state (Ok (Lists lines)) why is = absurd (no_lines why lines (sym is))
ended_at how over state (Ok (Changes part lines)) why is = absurd (no_lines why lines (sym is))
ended_at how over state (Err e) why is = (e, (refl, ended_same (how e) why is))
