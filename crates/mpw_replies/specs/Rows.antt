-- Decision tables of requests: the tests in order. The first that fails decides the reply.
use Rattle.std.specs.Prelude.{◌≡◌, List, map, Option, None, Some, Result, Ok, Err}
use Rattle.mpw_permissions.specs.declared.permission.Operation.{Operation}
use Rattle.mpw_permissions.specs.declared.permission.Object.{Object}
use Rattle.mpw_replies.specs.Listing.{Listed, stored}
use Rattle.mpw_replies.specs.declared.reply.Line.{Line}
use Rattle.mpw_trail.specs.declared.verdict.Denial.TheVariants as denial
use Rattle.mpw_replies.specs.declared.reply.Reply.{Reply}
use Rattle.mpw_replies.specs.declared.reply.Reply.TheVariants as reply
use Rattle.mpw_replies.specs.declared.row.Done.{Done}
use Rattle.mpw_replies.specs.declared.row.Done.TheVariants.{Lists, Changes}
use Rattle.mpw_replies.specs.declared.row.Ending.{Ending}
use Rattle.mpw_replies.specs.declared.row.Ending.TheVariants as ending
use Rattle.mpw_replies.specs.declared.row.Fault.{Fault}
use Rattle.mpw_replies.specs.declared.row.Fault.TheVariants as fault

-- One part of a decision table after another: a failed test takes the place of a value.
infixl 10 ◌>>=◌
abbrev pub ◌>>=◌ : {A B E : Type 0} → Result A E → (A → Result B E) → Result B E
(Ok x) >>= f = f x
(Err e) >>= f = Err e

-- A decision table that lists: its lines, by what passed.
abbrev pub listing : {A E P : Type 0} → (A → List Listed) → Result A E → Result (Done P) E
listing lines (Ok x) = Ok (Lists (lines x))
listing lines (Err e) = Err e

-- A decision table that changes a part of the desk: the changed part and the lines, by what passed.
abbrev pub changing : {A E P : Type 0} → (A → P) → (A → List Line) → Result A E → Result (Done P) E
changing part lines (Ok x) = Ok (Changes (part x) (map stored (lines x)))
changing part lines (Err e) = Err e

-- The reply of the test that failed.
abbrev pub ended_by : Ending → Reply
ended_by (ending.Denied why) = reply.Denied why
ended_by (ending.Refused why) = reply.Refused why

abbrev pub denied : Operation → Object → Ending
denied operation object = ending.Denied (denial.Permission operation object)

-- A value that must be there: if it isn't, that ends the table.
abbrev pub needed : {A E : Type 0} → E → Option A → Result A E
needed e None = Err e
needed e (Some x) = Ok x

-- The answer of a function of a decision table: its value, as contracts see it, or the test that
-- failed, or out of memory.
abbrev pub Told : {B E : Type 0} → Fault E → Result B E → Type 0
Told fault.Memory row = Unit {0}
Told (fault.Told e) row = row ≡ Err e

abbrev pub Answers : {A B E : Type 0} → (A → B) → Result A (Fault E) → Result B E → Type 0
Answers view (Ok x) row = row ≡ Ok (view x)
Answers view (Err e) row = Told e row

-- The answer of a function of a whole decision table, where the part that the code made stands for the
-- table's.
abbrev pub AnswersBy : {P Q E : Type 0} → (P → Q → Type 0) → Result (Done P) (Fault E)
    → Result (Done Q) E → Type 0
AnswersBy stands (Ok (Lists lines)) row = row ≡ Ok (Lists lines)
AnswersBy {Q = Q} stands (Ok (Changes part lines)) row =
    (q : Q) × (stands part q × (row ≡ Ok (Changes q lines)))
AnswersBy stands (Err e) row = Told e row

-- A reply that denies or refuses.
abbrev pub IsNegative : Reply → Type 0
IsNegative (reply.Ok lines) = ⊥
IsNegative (reply.Denied why) = Unit {0}
IsNegative (reply.Refused why) = Unit {0}
