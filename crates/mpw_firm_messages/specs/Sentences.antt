-- The sentences of faults: what each means, and what to do.
use Rattle.std.specs.Prelude.{ℕ, List, ◌++◌, codes}
use Rattle.mpw_deck.specs.declared.deck.DeckKind.{DeckKind}
use Rattle.mpw_deck.specs.declared.deck.DeckKind.TheVariants as deck
use Rattle.mpw_hier.specs.declared.fault.HierFault.{HierFault}
use Rattle.mpw_hier.specs.declared.fault.HierFault.TheVariants as hier
use Rattle.mpw_records.specs.declared.fault.Code.{Code}
use Rattle.mpw_records.specs.declared.fault.Code.TheVariants as code
use Rattle.mpw_records.specs.declared.fault.ReadFault.{ReadFault}
use Rattle.mpw_firm_messages.specs.declared.cause.Cause.{Cause}
use Rattle.mpw_firm_messages.specs.declared.cause.Cause.TheVariants as cause
use Rattle.mpw_firm_messages.specs.Causes.{cause_of}

-- Of a library's records, by the fault's code.
unfoldable pub record_sentence : Code → List ℕ
record_sentence code.Short = codes "the file ends too early: copy or export it again"
record_sentence code.BadLength =
    codes "a record's length is odd or below 4: the file is damaged, or is no GDSII"
record_sentence code.BadType =
    codes "a record has data of another type: the file is damaged, or is no GDSII"
record_sentence code.Unexpected =
    codes "the format has no such record at this place: export without what isn't "
    ++ codes "geometry, as properties"
record_sentence code.BadSize =
    codes "a record has too much or too little data: polygons of more than 8191 points have to "
    ++ codes "be split (gdspy: .fracture(max_points=8190))"
record_sentence code.BadName =
    codes "a name is empty, longer than 255 bytes, or has a blank or another byte outside 21 "
    ++ codes "to 7E hex: rename the structure (KLayout: 'Rename cell'; gdspy: rename_cell())"
record_sentence code.Unit =
    codes "the database unit isn't a whole number of nm from 1 to 1000, as 0.5 isn't: export "
    ++ codes "with a unit of 1 nm (KLayout: 'Database unit' 0.001; gdspy: precision=1e-9)"
record_sentence code.Magnification =
    codes "a reference is magnified: resolve it before the export (KLayout: 'Flatten' that "
    ++ codes "instance; gdspy: flatten() the cell that has it)"
record_sentence code.Angle =
    codes "an angle isn't a multiple of 90 degrees, or is beyond -360 to 360: turn the "
    ++ codes "reference by such an angle; flattened at another one, its edges would be refused too"
record_sentence code.NotManhattan =
    codes "an edge is neither horizontal nor vertical, as one at 45 degrees: only such edges "
    ++ codes "are checked; draw it in steps, or export without that shape"
record_sentence code.RoundPath =
    codes "a path has round ends (type 1): give it ends of type 0, 2 or 4 (KLayout: the path's "
    ++ codes "properties; gdspy: ends='flush' or 'extended'); a polygon of it would be refused too"
record_sentence code.OddWidth =
    codes "a path's width is odd: make it even, or export the path as a polygon (KLayout: "
    ++ codes "'Convert to polygon'; gdspy: gdsii_path=False)"
record_sentence code.PointPath = codes "all points of a path are one: remove it"
record_sentence code.Columns =
    codes "an array has fewer than one column or row: remove it, or export its elements"
record_sentence code.Pitch =
    codes "an array's step isn't a whole number of nm: export its elements one by one (KLayout: "
    ++ codes "open the file and save it again)"
record_sentence code.DoubleName = codes "two structures have one name: rename one of them"
record_sentence code.Absolute = codes "an angle is absolute: export it relative to the reference"

-- The same, if the code says what caused it; else by the cause.
unfoldable pub cause_sentence : Code → Cause → List ℕ
cause_sentence told cause.Code = record_sentence told
cause_sentence told cause.Split =
    codes "an element's points stand in several XY records: export polygons and paths of at "
    ++ codes "most 8191 points, each in one XY record (KLayout: switch off 'Multi-XY record mode "
    ++ codes "for boundaries'; gdspy: .fracture(max_points=8190))"
cause_sentence told cause.Property =
    codes "a property of the library stands behind UNITS or between structures: export without "
    ++ codes "it (KLayout: switch off 'Write file properties'; gdspy writes none)"
cause_sentence told cause.Foreign =
    codes "the file doesn't begin as GDSII does: where it is compressed or another format "
    ++ codes "(OASIS), export it as GDSII"

abbrev pub library_sentence : ReadFault → List ℕ → List ℕ
library_sentence fault text = cause_sentence fault.code (cause_of fault text)

-- Of what a top shows. That it names a cell, or that a shelf is full, is no fault of a check by itself.
unfoldable pub structure_sentence : HierFault → List ℕ
structure_sentence hier.Memory = codes "the structure can't be placed"
structure_sentence hier.NoTop =
    codes "the library has no structure of that name: name another with --top"
structure_sentence hier.Cycle =
    codes "a structure contains itself, directly or through others: take one of the references away"
structure_sentence hier.NoCell = codes "the structure can't be placed"
structure_sentence hier.Extent =
    codes "a structure goes beyond 2^30 nm: move it nearer to its origin"
structure_sentence hier.Shapes =
    codes "the structure shows more than 2^40 shapes: split it, and check each piece with --top"
structure_sentence hier.Deep = codes "the structure has more than 64 levels: flatten some of them"
structure_sentence hier.Full = codes "the structure can't be placed"

-- Of a deck's line.
unfoldable pub deck_sentence : DeckKind → List ℕ
deck_sentence deck.Word =
    codes "a line is 'tile SIDE', or 'CHECK NAME LAYER.. DISTANCE' with width, space, "
    ++ codes "separation or enclosing; no line is empty or a comment"
deck_sentence deck.Number =
    codes "a distance is 1 to 65535 nm, and a tile's side 256 to 2^30 nm; lines end with a "
    ++ codes "line feed alone"
deck_sentence deck.Layer = codes "a layer is two numbers to 65535 with a slash between them, as 1/0"
deck_sentence deck.SameLayer = codes "separation and enclosing take two different layers"
deck_sentence deck.DoubleRule = codes "each rule has a name of its own"
deck_sentence deck.Tile = codes "the first line is 'tile SIDE', and no other"
deck_sentence deck.Rules = codes "a deck has at most 256 rules"
deck_sentence deck.Memory = codes "there is no room for it"

-- Of one whose rule's name has a colon.
unfoldable pub colon_sentence : List ℕ
colon_sentence =
    codes "a rule's name has a colon, which parts the words of a marker's key: take another "
    ++ codes "sign for it, as _"
