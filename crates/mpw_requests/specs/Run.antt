-- The requests of the run: what each needs, its line, and its parts.
use Rattle.std.specs.Prelude.{ℕ, Bool, true, false, List, codes, Option, None, Some}
use Rattle.mpw_permissions.specs.declared.permission.Object.TheVariants.{Desk}
use Rattle.mpw_permissions.specs.declared.permission.Operation.TheVariants as to
use Rattle.mpw_requests.specs.declared.run.RunRequest.{RunRequest}
use Rattle.mpw_requests.specs.declared.run.RunRequest.TheVariants as ask
use Rattle.mpw_requests.specs.declared.run.RunVerb.{RunVerb}
use Rattle.mpw_requests.specs.declared.run.RunVerb.TheVariants.{Run, Cancel, Status, Markers}
use Rattle.mpw_requests.specs.declared.need.Need.{Need}
use Rattle.mpw_requests.specs.declared.need.Need.TheVariants.{Session, Permission}
use Rattle.mpw_requests.specs.declared.parts.Operands.{Operands}
use Rattle.mpw_requests.specs.declared.parts.Operands.TheVariants as operands
use Rattle.mpw_requests.specs.declared.request.Request.{Request}
use Rattle.mpw_requests.specs.declared.request.Request.TheVariants as group
use Rattle.mpw_requests.specs.declared.table.Shape.{Shape}
use Rattle.mpw_requests.specs.declared.table.Shape.TheVariants as shape
use Rattle.mpw_requests.specs.declared.table.Verb.{Verb}
use Rattle.mpw_requests.specs.declared.table.Verb.TheVariants as verb

-- what a request needs
abbrev pub run_need : RunRequest → Need
run_need ask.Run = Permission to.Run Desk
run_need ask.Cancel = Permission to.Run Desk
run_need ask.Status = Session
run_need ask.Markers = Session

-- the word of a verb, and the shape of its operands
abbrev pub run_form : RunVerb → List ℕ × Shape
run_form Run = (codes "run", shape.Alone)
run_form Cancel = (codes "cancel", shape.Alone)
run_form Status = (codes "status", shape.Alone)
run_form Markers = (codes "markers", shape.Alone)

-- whether a request of the verb only lists
abbrev pub run_lists : RunVerb → Bool
run_lists Run = false
run_lists Cancel = false
run_lists verb = true

-- the verb and the operands of a request
abbrev pub run_parts : RunRequest → Verb × Operands
run_parts ask.Run = (verb.Run Run, operands.Alone)
run_parts ask.Cancel = (verb.Run Cancel, operands.Alone)
run_parts ask.Status = (verb.Run Status, operands.Alone)
run_parts ask.Markers = (verb.Run Markers, operands.Alone)

-- the request of a verb and its operands, if they have the verb's shape
abbrev pub run_request : RunVerb → Operands → Option Request
run_request Run operands.Alone = Some (group.Run ask.Run)
run_request Cancel operands.Alone = Some (group.Run ask.Cancel)
run_request Status operands.Alone = Some (group.Run ask.Status)
run_request Markers operands.Alone = Some (group.Run ask.Markers)
run_request verb operands = None
