-- The requests of the wafer: what each needs, its line, and its parts.
use Rattle.std.specs.Prelude.{ℕ, Bool, false, List, codes, Option, None, Some}
use Rattle.mpw_permissions.specs.declared.permission.Object.TheVariants.{Cell, Desk}
use Rattle.mpw_permissions.specs.declared.permission.Operation.TheVariants as to
use Rattle.mpw_requests.specs.declared.wafer.WaferRequest.{WaferRequest}
use Rattle.mpw_requests.specs.declared.wafer.WaferRequest.TheVariants as ask
use Rattle.mpw_requests.specs.declared.wafer.WaferVerb.{WaferVerb}
use Rattle.mpw_requests.specs.declared.wafer.WaferVerb.TheVariants.{Place, Unplace, Deck}
use Rattle.mpw_requests.specs.declared.need.Need.{Need}
use Rattle.mpw_requests.specs.declared.need.Need.TheVariants.{Permission}
use Rattle.mpw_requests.specs.declared.parts.Operands.{Operands}
use Rattle.mpw_requests.specs.declared.parts.Operands.TheVariants as operands
use Rattle.mpw_requests.specs.declared.request.Request.{Request}
use Rattle.mpw_requests.specs.declared.request.Request.TheVariants as group
use Rattle.mpw_requests.specs.declared.table.Shape.{Shape}
use Rattle.mpw_requests.specs.declared.table.Shape.TheVariants as shape
use Rattle.mpw_requests.specs.declared.table.Verb.{Verb}
use Rattle.mpw_requests.specs.declared.table.Verb.TheVariants as verb

-- what a request needs
abbrev pub wafer_need : WaferRequest → Need
wafer_need (ask.Place cell label placing) = Permission to.Place (Cell cell)
wafer_need (ask.Unplace cell label) = Permission to.Place (Cell cell)
wafer_need (ask.Deck text) = Permission to.Deck Desk

-- the word of a verb, and the shape of its operands
abbrev pub wafer_form : WaferVerb → List ℕ × Shape
wafer_form Place = (codes "place", shape.Placement)
wafer_form Unplace = (codes "unplace", shape.Pair)
wafer_form Deck = (codes "deck", shape.Alone)

-- whether a request of the verb only lists
abbrev pub wafer_lists : WaferVerb → Bool
wafer_lists verb = false

-- the verb and the operands of a request
abbrev pub wafer_parts : WaferRequest → Verb × Operands
wafer_parts (ask.Place cell label placing) =
    (verb.Wafer Place, operands.Placement cell label placing)
wafer_parts (ask.Unplace cell label) = (verb.Wafer Unplace, operands.Pair cell label)
wafer_parts (ask.Deck text) = (verb.Wafer Deck, operands.Alone)

-- the request of a verb and its operands, if they have the verb's shape and no payload follows
abbrev pub wafer_request : WaferVerb → Operands → Option Request
wafer_request Place (operands.Placement cell label placing) =
    Some (group.Wafer (ask.Place cell label placing))
wafer_request Unplace (operands.Pair cell label) = Some (group.Wafer (ask.Unplace cell label))
wafer_request verb operands = None
