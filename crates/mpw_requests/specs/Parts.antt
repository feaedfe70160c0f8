-- The parts of a request: its verb, its operands and its payload. Each request is that of its parts. The file of each
-- group has the parts of its requests.
use Rattle.std.specs.Prelude.{◌≡◌, ◌↔◌, ℕ, List, Option, None, Some, option_map}
use Rattle.mpw_requests.specs.declared.request.Request.{Request}
use Rattle.mpw_requests.specs.declared.request.Request.TheVariants as group
use Rattle.mpw_requests.specs.declared.layouts.LayoutRequest.TheVariants as layout
use Rattle.mpw_requests.specs.declared.layouts.LayoutVerb.TheVariants.{Submit}
use Rattle.mpw_requests.specs.declared.wafer.WaferRequest.TheVariants as wafer
use Rattle.mpw_requests.specs.declared.wafer.WaferVerb.TheVariants.{Deck}
use Rattle.mpw_requests.specs.declared.parts.Operands.{Operands}
use Rattle.mpw_requests.specs.declared.parts.Operands.TheVariants.{Alone, Name, Pair, Login, Grant, Set, Placement, Key}
use Rattle.mpw_requests.specs.declared.parts.Parts.{Parts}
use Rattle.mpw_requests.specs.declared.parts.Parts.TheVariants as part
use Rattle.mpw_requests.specs.declared.parts.Upload.{Upload}
use Rattle.mpw_requests.specs.declared.parts.Upload.TheVariants as upload
use Rattle.mpw_requests.specs.declared.table.Shape.{Shape}
use Rattle.mpw_requests.specs.declared.table.Shape.TheVariants as shape
use Rattle.mpw_requests.specs.declared.table.Verb.{Verb}
use Rattle.mpw_requests.specs.declared.table.Verb.TheVariants as verb
use Rattle.mpw_requests.specs.Layouts.{layout_parts, layout_request}
use Rattle.mpw_requests.specs.Policy.{policy_parts, policy_request}
use Rattle.mpw_requests.specs.Run.{run_parts, run_request}
use Rattle.mpw_requests.specs.SignOff.{sign_off_parts, sign_off_request}
use Rattle.mpw_requests.specs.Wafer.{wafer_parts, wafer_request}

-- the operands that the borrowed ones are of
abbrev pub seen : Parts → Operands
seen part.Alone = Alone
seen (part.Name name) = Name name.now
seen (part.Pair first second) = Pair first.now second.now
seen (part.Login user digest) = Login user.now digest.now
seen (part.Grant grant) = Grant grant.now
seen (part.Set set) = Set set.now
seen (part.Placement cell label placing) = Placement cell.now label.now placing.now
seen (part.Key marker) = Key marker.now

abbrev pub shape_of : Operands → Shape
shape_of Alone = shape.Alone
shape_of (Name name) = shape.Name
shape_of (Pair first second) = shape.Pair
shape_of (Login user digest) = shape.Login
shape_of (Grant grant) = shape.Grant
shape_of (Set set) = shape.Set
shape_of (Placement cell label placing) = shape.Placement
shape_of (Key marker) = shape.Key

-- the verb and the operands of a request
unfoldable pub parts_of : Request → Verb × Operands
parts_of (group.Policy request) = policy_parts request
parts_of group.Whoami = (verb.Whoami, Alone)
parts_of (group.Layout request) = layout_parts request
parts_of (group.Wafer request) = wafer_parts request
parts_of (group.Run request) = run_parts request
parts_of (group.SignOff request) = sign_off_parts request
parts_of group.Trail = (verb.Trail, Alone)

-- the payload of a request: the bytes that it submits, or those of its deck
unfoldable pub payload_of : Request → Option (List ℕ)
payload_of (group.Layout (layout.Submit cell top text)) = Some text
payload_of (group.Wafer (wafer.Deck text)) = Some text
payload_of request = None

-- the request of a verb and its operands, if they have the verb's shape and no payload follows
unfoldable pub request_of : Verb → Operands → Option Request
request_of (verb.Policy asked) operands = policy_request asked operands
request_of verb.Whoami Alone = Some group.Whoami
request_of (verb.Layout asked) operands = layout_request asked operands
request_of (verb.Wafer asked) operands = wafer_request asked operands
request_of (verb.Run asked) operands = run_request asked operands
request_of (verb.SignOff asked) operands = sign_off_request asked operands
request_of verb.Trail Alone = Some group.Trail
request_of verb operands = None

-- the upload of a verb and its operands, if they have the verb's shape and a payload follows
unfoldable pub upload_of : Verb → Operands → Option Upload
upload_of (verb.Layout Submit) (Pair cell top) = Some (upload.Library cell top)
upload_of (verb.Wafer Deck) Alone = Some upload.Deck
upload_of verb operands = None

-- the request of an upload with its payload
abbrev pub uploaded : Upload → List ℕ → Request
uploaded (upload.Library cell top) payload = group.Layout (layout.Submit cell top payload)
uploaded upload.Deck payload = group.Wafer (wafer.Deck payload)

-- ---- laws

-- the request of a verb, of operands and of a payload
abbrev pub put_together : Verb → Operands → Option (List ℕ) → Option Request
put_together verb operands None = request_of verb operands
put_together verb operands (Some payload) =
    option_map (λ upload. uploaded upload payload) (upload_of verb operands)

-- these make a request exactly if they are its parts
abbrev pub RequestsHaveTheirParts : Type 0
RequestsHaveTheirParts = (verb : Verb) (operands : Operands) (payload : Option (List ℕ))
    (request : Request) → (put_together verb operands payload ≡ Some request)
    ↔ ((parts_of request ≡ (verb, operands)) × (payload_of request ≡ payload))
