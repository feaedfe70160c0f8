-- The sign-off requests: what each needs, its line, and its parts.
use Rattle.std.specs.Prelude.{ℕ, Bool, true, false, List, codes, Option, None, Some}
use Rattle.mpw_permissions.specs.declared.permission.Object.TheVariants.{Desk}
use Rattle.mpw_permissions.specs.declared.permission.Operation.TheVariants as to
use Rattle.mpw_requests.specs.declared.sign_off.SignOffRequest.{SignOffRequest}
use Rattle.mpw_requests.specs.declared.sign_off.SignOffRequest.TheVariants as ask
use Rattle.mpw_requests.specs.declared.sign_off.SignOffVerb.{SignOffVerb}
use Rattle.mpw_requests.specs.declared.sign_off.SignOffVerb.TheVariants.{Waive, Sign, Waivers, Verdict}
use Rattle.mpw_requests.specs.declared.need.Need.{Need}
use Rattle.mpw_requests.specs.declared.need.Need.TheVariants.{Session, Permission}
use Rattle.mpw_requests.specs.declared.parts.Operands.{Operands}
use Rattle.mpw_requests.specs.declared.parts.Operands.TheVariants as operands
use Rattle.mpw_requests.specs.declared.request.Request.{Request}
use Rattle.mpw_requests.specs.declared.request.Request.TheVariants as group
use Rattle.mpw_requests.specs.declared.table.Shape.{Shape}
use Rattle.mpw_requests.specs.declared.table.Shape.TheVariants as shape
use Rattle.mpw_requests.specs.declared.table.Verb.{Verb}
use Rattle.mpw_requests.specs.declared.table.Verb.TheVariants as verb

-- what a request needs
abbrev pub sign_off_need : SignOffRequest → Need
sign_off_need (ask.Waive marker) = Permission to.Waive Desk
sign_off_need (ask.Sign marker) = Permission to.Sign Desk
sign_off_need ask.Waivers = Session
sign_off_need ask.Verdict = Permission to.Verdict Desk

-- the word of a verb, and the shape of its operands
abbrev pub sign_off_form : SignOffVerb → List ℕ × Shape
sign_off_form Waive = (codes "waive", shape.Key)
sign_off_form Sign = (codes "sign", shape.Key)
sign_off_form Waivers = (codes "waivers", shape.Alone)
sign_off_form Verdict = (codes "verdict", shape.Alone)

-- whether a request of the verb only lists
abbrev pub sign_off_lists : SignOffVerb → Bool
sign_off_lists Waive = false
sign_off_lists Sign = false
sign_off_lists verb = true

-- the verb and the operands of a request
abbrev pub sign_off_parts : SignOffRequest → Verb × Operands
sign_off_parts (ask.Waive marker) = (verb.SignOff Waive, operands.Key marker)
sign_off_parts (ask.Sign marker) = (verb.SignOff Sign, operands.Key marker)
sign_off_parts ask.Waivers = (verb.SignOff Waivers, operands.Alone)
sign_off_parts ask.Verdict = (verb.SignOff Verdict, operands.Alone)

-- the request of a verb and its operands, if they have the verb's shape
abbrev pub sign_off_request : SignOffVerb → Operands → Option Request
sign_off_request Waive (operands.Key marker) = Some (group.SignOff (ask.Waive marker))
sign_off_request Sign (operands.Key marker) = Some (group.SignOff (ask.Sign marker))
sign_off_request Waivers operands.Alone = Some (group.SignOff ask.Waivers)
sign_off_request Verdict operands.Alone = Some (group.SignOff ask.Verdict)
sign_off_request verb operands = None
