-- The text of a request line: its words, and the request that they ask for. A line comes from a connection or
-- from a store. Both have the same forms, but they read some words differently.
use Rattle.std.specs.Prelude.{ℕ, ◌-◌, Bool, true, false, List, [], ◌∷◌, length, take, get_or, codes, Option, Some, None, option_map, not, ◌==◌, if◌then◌else◌}
use Rattle.sha2.specs.Sha256.{sha256}
use Rattle.std.specs.Result.{result_ok}
use Rattle.hex.specs.Hex.{decode_sized}
use Rattle.mpw_geom.specs.Name.{is_visible_word}
use Rattle.mpw_text.specs.Text.{number_of, is_decimal}
use Rattle.mpw_geom.specs.Names.{name_eq}
use Rattle.mpw_geom.specs.declared.placing.Placing.{Placing}
use Rattle.mpw_separation.specs.Set.{formed}
use Rattle.mpw_permissions.specs.declared.permission.Operation.{Operation}
use Rattle.mpw_permissions.specs.declared.permission.Object.{Object}
use Rattle.mpw_permissions.specs.declared.permission.Object.TheVariants.{Cell, Desk}
use Rattle.mpw_requests.specs.declared.parts.Operands.{Operands}
use Rattle.mpw_requests.specs.declared.parts.Operands.TheVariants.{Alone, Name, Pair, Login, Grant, Set, Placement, Key}
use Rattle.mpw_requests.specs.declared.parts.Upload.{Upload}
use Rattle.mpw_requests.specs.declared.request.Request.{Request}
use Rattle.mpw_requests.specs.declared.table.Shape.{Shape}
use Rattle.mpw_requests.specs.declared.table.Shape.TheVariants as shape
use Rattle.mpw_requests.specs.declared.table.Verb.{Verb}
use Rattle.mpw_requests.specs.Parts.{request_of, upload_of}
use Rattle.mpw_requests.specs.Table.{verb_shape, has_payload, verb_of}
use Rattle.mpw_requests.specs.Words.{is_on_cells, operation_of, orient_of}
use Rattle.mpw_wire.specs.declared.operand.Origin.{Origin}
use Rattle.mpw_wire.specs.declared.operand.Origin.TheVariants.{Connection, Store}
use Rattle.mpw_wire.specs.declared.request.LineAsk.{LineAsk}
use Rattle.mpw_wire.specs.declared.request.LineAsk.TheVariants as ask
use Rattle.mpw_wire.specs.Placement.{coordinate_of}
use Rattle.mpw_wire.specs.Names.{◌>>=◌, name_of}
use Rattle.mpw_wire.specs.Keys.{key_of}
use Rattle.mpw_wire.specs.Words.{words}

-- the digest of the token that a word is
unfoldable pub token_of : List ℕ → Option (List ℕ)
token_of word = if is_visible_word word then Some (sha256 word) else None

-- the digest of a word: that of a token, or in a store the one that 64 hexadecimal digits spell
unfoldable pub digest_of : Origin → List ℕ → Option (List ℕ)
digest_of Connection word = token_of word
digest_of Store word = result_ok (decode_sized word 32)

-- a cell by its name, or the desk by the word `desk`
unfoldable pub object_by : Origin → Bool → List ℕ → Option Object
object_by origin true word = option_map Cell (name_of origin word)
object_by origin false word = if name_eq word (codes "desk") then Some Desk else None

-- an operation on cells has a cell's name as object, and one on the desk the word `desk`. A grant's value may
-- have an object of the other kind: no line of a connection asks for it, and in a store a tab comes before
-- that object's word
abbrev pub stored_object : Bool → List ℕ → Option Object
stored_object on_cells [] = object_by Store on_cells []
stored_object on_cells (first ∷ rest) =
    if first == 0x09 then object_by Store (not on_cells) rest
    else object_by Store on_cells (first ∷ rest)

unfoldable pub object_of : Origin → Operation → List ℕ → Option Object
object_of Connection operation word = object_by Connection (is_on_cells operation) word
object_of Store operation word = stored_object (is_on_cells operation) word

-- ---- operands

-- two names
unfoldable pub pair_of : Origin → List ℕ → List ℕ → Option Operands
pair_of origin first second = do
  first ← name_of origin first
  second ← name_of origin second
  Some (Pair first second)

-- a user's name, and the digest of its token
unfoldable pub login_of : Origin → List ℕ → List ℕ → Option Operands
login_of origin user digest = do
  user ← name_of origin user
  digest ← digest_of origin digest
  Some (Login user digest)

-- a grant is an operation, an object of it and a role
unfoldable pub grant_of : Origin → List ℕ → List ℕ → List ℕ → Option Operands
grant_of origin operation object role = do
  operation ← operation_of operation
  object ← object_of origin operation object
  role ← name_of origin role
  Some (Grant (record { operation = operation; object = object; role = role }))

-- names, one a word
unfoldable pub names_of : Origin → List (List ℕ) → Option (List (List ℕ))
names_of origin [] = Some []
names_of origin (word ∷ words) =
    name_of origin word >>= λ name. option_map (λ names. name ∷ names) (names_of origin words)

-- a set of roles of which nobody may have that many: its name, that number and the roles, if they have the
-- form of one
unfoldable pub set_of : Origin → List ℕ → List ℕ → List (List ℕ) → Option Operands
set_of origin name cardinality roles = do
  name ← name_of origin name
  roles ← names_of origin roles
  cardinality ← number_of 0 (length roles) cardinality
  option_map Set (formed (record { name = name; cardinality = cardinality; roles = roles }))

-- the placing that an orientation and two coordinates give
unfoldable pub placing_of : Origin → List ℕ → List ℕ → List ℕ → Option Placing
placing_of origin orient x y = do
  orient ← orient_of orient
  x ← coordinate_of origin x
  y ← coordinate_of origin y
  Some (record { orient = orient; by = record { x = x; y = y } })

-- a cell and a label, with a placing
unfoldable pub placement_of : Origin → List ℕ → List ℕ → Option Placing → Option Operands
placement_of origin cell label placing = do
  cell ← name_of origin cell
  label ← name_of origin label
  option_map (Placement cell label) placing

-- the operands of that shape
unfoldable pub operands_of : Origin → Shape → List (List ℕ) → Option Operands
operands_of origin shape.Alone [] = Some Alone
operands_of origin shape.Name (word ∷ []) = option_map Name (name_of origin word)
operands_of origin shape.Pair (first ∷ second ∷ []) = pair_of origin first second
operands_of origin shape.Login (user ∷ digest ∷ []) = login_of origin user digest
operands_of origin shape.Grant (operation ∷ object ∷ role ∷ []) =
    grant_of origin operation object role
operands_of origin shape.Set (name ∷ cardinality ∷ roles) = set_of origin name cardinality roles
operands_of origin shape.Placement (cell ∷ label ∷ orient ∷ x ∷ y ∷ []) =
    placement_of origin cell label (placing_of origin orient x y)
operands_of origin shape.Key (word ∷ []) = option_map Key (key_of origin word)
operands_of origin shape words = None

-- ---- lines

-- the greatest number of bytes of a payload
unfoldable pub max_payload : ℕ
max_payload = 16777216

-- the greatest number that a length word may give: in a store that of the bytes of a slice
unfoldable pub longest : Origin → ℕ
longest Connection = max_payload
longest Store = 9223372036854775807

-- what a request asks for, or `Form` if there is none
abbrev pub asked : Option Request → LineAsk
asked (Some request) = ask.Request request
asked None = ask.Form

-- an upload with its length: no form if the word is no decimal, too long if its number is above the greatest
abbrev pub with_length : Upload → Bool → Option ℕ → LineAsk
with_length upload false length = ask.Form
with_length upload true (Some length) = ask.Upload upload length
with_length upload true None = ask.Long

-- the same for the word of that number, and the upload that the other words make, if they make one
abbrev pub offered : Origin → Option Upload → List ℕ → LineAsk
offered origin None word = ask.Form
offered origin (Some upload) word =
    with_length upload (is_decimal word) (number_of 0 (longest origin) word)

-- what a verb and the words after it ask for
abbrev pub request_by : Origin → Verb → List (List ℕ) → LineAsk
request_by origin verb words =
    asked (operands_of origin (verb_shape verb) words >>= request_of verb)

-- the same if a payload follows: the last word is its length, and the others are the operands. Without words
-- the length is the empty word, which is no decimal
abbrev pub upload_by : Origin → Verb → List (List ℕ) → LineAsk
upload_by origin verb words = let before = length words - 1 in
    offered origin (operands_of origin (verb_shape verb) (take before words) >>= upload_of verb)
    (get_or words before [])

abbrev pub ask_for : Origin → List (List ℕ) → Option Verb → LineAsk
ask_for origin words None = ask.Form
ask_for origin words (Some verb) =
    if has_payload verb then upload_by origin verb words else request_by origin verb words

-- what the words of a line ask for
abbrev pub ask_by : Origin → List (List ℕ) → LineAsk
ask_by origin [] = ask.Form
ask_by origin (verb ∷ words) = ask_for origin words (verb_of verb)

-- what a line of a connection asks for
abbrev pub ask_of : List ℕ → LineAsk
ask_of line = ask_by Connection (words line)
