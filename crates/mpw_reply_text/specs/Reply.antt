-- The text of a reply: `OK`, the number of lines and the lines, or one line that denies or refuses.
use Rattle.std.specs.Prelude.{◌≡◌, ℕ, List, [], ◌∷◌, ◌++◌, length, codes}
use Rattle.std.specs.List.{concat, flat_map}
use Rattle.std.specs.Fmt.{decimal, signed_decimal}
use Rattle.mpw_geom.specs.declared.plane.Layer.{Layer}
use Rattle.mpw_geom.specs.declared.plane.Point.{Point}
use Rattle.mpw_geom.specs.declared.placing.Placing.{Placing}
use Rattle.mpw_geom.specs.Placing.{placed_point}
use Rattle.mpw_structures.specs.declared.element.Path.{Path}
use Rattle.mpw_structures.specs.declared.element.Element.{Element}
use Rattle.mpw_structures.specs.declared.element.Element.TheVariants as elements
use Rattle.mpw_markers.specs.declared.marker.Key.{Key}
use Rattle.mpw_requests.specs.declared.sign_off.MarkerName.{MarkerName}
use Rattle.mpw_replies.specs.Listing.{Listed, stored, shape, marker, masked, entry}
use Rattle.mpw_replies.specs.FirstLines.{first_line_of}
use Rattle.mpw_replies.specs.declared.reply.Line.{Line}
use Rattle.mpw_replies.specs.declared.reply.Line.TheVariants.{User, Active, Authorized, Version}
use Rattle.mpw_replies.specs.declared.reply.Line.TheVariants as line
use Rattle.mpw_replies.specs.declared.reply.Reply.{Reply}
use Rattle.mpw_replies.specs.declared.reply.Reply.TheVariants as reply
use Rattle.mpw_reply_text.specs.declared.reply.LineRefusal.{LineRefusal}
use Rattle.mpw_reply_text.specs.declared.reply.LineRefusal.TheVariants as refusal
use Rattle.mpw_requests.specs.Words.{marker_key}
use Rattle.mpw_wire.specs.Keys.{key_text}
use Rattle.mpw_trail.specs.EntryText.{entry_text}
use Rattle.mpw_reply_text.specs.Lines.{line_feed}
use Rattle.mpw_trail.specs.FirstLineText.{count_text, denial_text, refused_text, refusal_of, first_line_text}

-- a line of a word and a name
abbrev pub named_text : List ℕ → List ℕ → List ℕ
named_text word name = concat (word ∷ name ∷ line_feed ∷ [])

-- a line of a word and a number
abbrev pub numbered_text : List ℕ → ℕ → List ℕ
numbered_text word number = concat (word ∷ decimal number ∷ line_feed ∷ [])

-- the line of a run whose tiles are being checked: its number, how many are checked, and how many there are
abbrev pub checking_text : ℕ → ℕ → ℕ → List ℕ
checking_text run done total = concat (codes "checking " ∷ decimal run ∷ codes " " ∷ decimal done
    ∷ codes " " ∷ decimal total ∷ line_feed ∷ [])

-- the line of a cell: its name, the version of its present submission, and who submitted it
abbrev pub cell_text : List ℕ → ℕ → List ℕ → List ℕ
cell_text cell version submitter =
    concat (cell ∷ codes " " ∷ decimal version ∷ codes " " ∷ submitter ∷ line_feed ∷ [])

-- what comes after the key of a marker for which a waiver was asked, and of one whose waiver is signed
abbrev pub asked_part : List ℕ → List ℕ
asked_part asker = concat (codes " asked " ∷ asker ∷ line_feed ∷ [])

abbrev pub signed_part : List ℕ → List ℕ → List ℕ
signed_part asker signer = concat (codes " signed " ∷ asker ∷ codes " " ∷ signer ∷ line_feed ∷ [])

-- the line of such a marker
unfoldable pub asked_text : MarkerName → List ℕ → List ℕ
asked_text m asker = marker_key m ++ asked_part asker

unfoldable pub signed_text : MarkerName → List ℕ → List ℕ → List ℕ
signed_text m asker signer = marker_key m ++ signed_part asker signer

-- a line of an accepted request's reply, with its line feed
unfoldable pub line_text : Line → List ℕ
line_text (User name) = named_text (codes "user ") name
line_text (Active name) = named_text (codes "active ") name
line_text (Authorized name) = named_text (codes "authorized ") name
line_text (Version version) = numbered_text (codes "version ") version
line_text (line.Cell cell version submitter) = cell_text cell version submitter
line_text (line.Run run) = numbered_text (codes "run ") run
line_text line.Idle = concat (codes "idle" ∷ line_feed ∷ [])
line_text (line.Cutting run) = numbered_text (codes "cutting ") run
line_text (line.Checking run done total) = checking_text run done total
line_text (line.Finished run) = numbered_text (codes "finished ") run
line_text (line.Asked m asker) = asked_text m asker
line_text (line.Signed m asker signer) = signed_text m asker signer
line_text line.Clean = concat (codes "clean" ∷ line_feed ∷ [])
line_text (line.Open number) = numbered_text (codes "open ") number
line_text line.Stale = concat (codes "stale" ∷ line_feed ∷ [])

-- a point, after a space: its coordinates in nm
abbrev pub point_text : Point → List ℕ
point_text p = concat (codes " " ∷ signed_decimal p.x ∷ codes " " ∷ signed_decimal p.y ∷ [])

-- points after a placing
unfoldable pub points_text : Placing → List Point → List ℕ
points_text placing points = flat_map (λ p. point_text (placed_point placing p)) points

-- the points of a shape, and the end of its line
unfoldable pub shape_end : Placing → List Point → List ℕ
shape_end placing points = points_text placing points ++ line_feed

-- the beginning of the line of a boundary: the cell and the version that it comes from, and its layer and
-- datatype
abbrev pub boundary_head : List ℕ → ℕ → Layer → List ℕ
boundary_head cell version layer =
    concat (cell ∷ codes " " ∷ decimal version ∷ codes " " ∷ decimal layer.layer ∷ codes "/"
    ∷ decimal layer.datatype ∷ codes " boundary" ∷ [])

-- that of a path, with its width, and the extensions at its beginning and its end, in nm
abbrev pub path_head : List ℕ → ℕ → Path → List ℕ
path_head cell version p =
    concat
    (cell
    ∷ codes " "
    ∷ decimal version
    ∷ codes " "
    ∷ decimal p.layer.layer
    ∷ codes "/"
    ∷ decimal p.layer.datatype
    ∷ codes " path "
    ∷ signed_decimal p.width
    ∷ codes " "
    ∷ signed_decimal p.begin
    ∷ codes " "
    ∷ signed_decimal p.end
    ∷ [])

-- the line of a shape: a boundary with its corners in file order, without the closing point, or a path with
-- the points of its centre line, each point after the placing. A reference is no shape
unfoldable pub shape_text : List ℕ → ℕ → Placing → Element → List ℕ
shape_text cell version placing (elements.Boundary b) =
    boundary_head cell version b.layer ++ shape_end placing b.points
shape_text cell version placing (elements.Path p) =
    path_head cell version p ++ shape_end placing p.points
shape_text cell version placing (elements.Reference r) = []

-- a cell that a marker touches, after a space
abbrev pub cell_part : List ℕ → List ℕ
cell_part cell = concat (codes " " ∷ cell ∷ [])

-- the cells that a marker touches, and the end of its line
unfoldable pub met_text : List (List ℕ) → List ℕ
met_text cells = flat_map cell_part cells ++ line_feed

-- the line of a marker
unfoldable pub marker_text : List ℕ → Key → List (List ℕ) → List ℕ
marker_text rule key cells = key_text rule key.piece ++ met_text cells

-- the line of a rule with masked markers, and their count
abbrev pub masked_text : List ℕ → ℕ → List ℕ
masked_text rule number =
    concat (codes "masked " ∷ rule ∷ codes " " ∷ decimal number ∷ line_feed ∷ [])

-- the text of a line
abbrev pub listed_text : Listed → List ℕ
listed_text (stored line) = line_text line
listed_text (shape cell version placing element) = shape_text cell version placing element
listed_text (marker rule key cells) = marker_text rule key cells
listed_text (masked rule number) = masked_text rule number
listed_text (entry number e) = entry_text number e

-- the number and the word of a refusal before the desk is asked
unfoldable pub refusal_words : LineRefusal → List ℕ
refusal_words refusal.Memory = codes "17 memory"
refusal_words refusal.Form = codes "40 form"
refusal_words refusal.Long = codes "41 long"
refusal_words refusal.Cut = codes "42 cut"

unfoldable pub refusal_text : LineRefusal → List ℕ
refusal_text refusal = refusal_of (refusal_words refusal) ++ line_feed

-- the number of lines, and the lines
unfoldable pub accepted_text : List Listed → List ℕ
accepted_text lines = (count_text (length lines) ++ line_feed) ++ flat_map listed_text lines

unfoldable pub reply_text : Reply → List ℕ
reply_text (reply.Ok lines) = accepted_text lines
reply_text (reply.Denied denial) = denial_text denial ++ line_feed
reply_text (reply.Refused code) = refused_text code ++ line_feed

-- ---- what the trail has of a reply

-- the text begins with what the first line says, and a line feed
abbrev pub IsLedBy : List ℕ → List ℕ → Type 0
IsLedBy first text = (rest : List ℕ) × (text ≡ first ++ (line_feed ++ rest))

-- what the trail has of a request is the first line of its reply
abbrev pub AreLedByFirstLines : Type 0
AreLedByFirstLines = (r : Reply) → IsLedBy (first_line_text (first_line_of r)) (reply_text r)
