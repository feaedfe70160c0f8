-- Parts put together.
use Rattle.std.specs.Prelude.{◌≡◌, ◌<◌, ◌≤◌, ◌+◌, ◌==◌, ◌&&◌, ◌⊎◌, not, nat_le, nat_lt, ℕ, Bool, true, false, List, [], ◌∷◌, ◌++◌, codes, length, map, slice_get, take, All, Contains, Option, None, Some, if◌then◌else◌}
use Rattle.std.specs.List.{flat_map, count_by, AllZip}
use Rattle.std.specs.List.Sorted.{IsPermutation}
use Rattle.std.specs.Ordering.{int_eq}
use Rattle.mpw_geom.specs.declared.plane.Box2.{Box2}
use Rattle.mpw_geom.specs.Names.{name_eq}
use Rattle.mpw_edges.specs.declared.run.Axis.TheVariants.{V, H}
use Rattle.mpw_markers.specs.declared.marker.Key.{Key}
use Rattle.mpw_markers.specs.declared.marker.Marker.{Marker}
use Rattle.mpw_markers.specs.Book.{IsBook}
use Rattle.mpw_columns_keys.specs.declared.column.Column.{Column}
use Rattle.mpw_columns_keys.specs.Columns.{AreColumnsOf}
use Rattle.mpw_columns_keys.specs.Keys.{together, of_first}
use Rattle.mpw_firm_parts.specs.declared.fault.Difference.{Difference}
use Rattle.mpw_firm_parts.specs.declared.fault.Difference.TheVariants as other
use Rattle.mpw_firm_parts.specs.declared.fault.PartsFault.{PartsFault}
use Rattle.mpw_firm_parts.specs.declared.fault.PartsFault.TheVariants as faults
use Rattle.mpw_firm_parts.specs.Parts.{Checked, Found}

-- the columns of parts and their lists, those of one part after those of another
abbrev pub columns_of : List Found → List Column
columns_of parts = flat_map (λ (part : Found). part.columns) parts

abbrev pub lists_of : List Found → List (List Key)
lists_of parts = flat_map (λ (part : Found). part.lists) parts

-- the part begins at the column, or it has no column
abbrev pub BeginsAt : ℕ → Found → Type 0
BeginsAt column part = (part.first ≡ column) ⊎ (part.lists ≡ [])

-- of the parts that have columns the first begins at a column, each other one where the one before ends, and the last ends at another
abbrev pub FollowOn : ℕ → List Found → ℕ → Type 0
FollowOn from [] end = from ≡ end
FollowOn from (part ∷ parts) end =
    BeginsAt from part × FollowOn (from + length part.lists) parts end

-- The parts are of this check.
abbrev pub AreAllOf : Checked → List Found → Type 0
AreAllOf subject parts = All (λ (part : Found). part.subject ≡ subject) parts

-- They are parts of one check, and in that order they have each of its columns once.
pub record ArePartsOf (subject : Checked) (parts ordered : List Found) : Type 0 where
  pub same : AreAllOf subject parts
  pub reordered : IsPermutation parts ordered
  pub once : FollowOn 0 ordered subject.columns

-- Each key of the part is of one of so many rules, and of side 0 or 1.
abbrev pub IsRuled : ℕ → Key → Type 0
IsRuled rules k = (k.rule < rules) × (k.piece.side < 2)

abbrev pub AreRuledLists : ℕ → List (List Key) → Type 0
AreRuledLists rules lists = All (λ (keys : List Key). All (IsRuled rules) keys) lists

abbrev pub HasRules : ℕ → Found → Type 0
HasRules rules part = AreRuledLists rules part.lists

abbrev pub HaveRules : ℕ → List Found → Type 0
HaveRules rules parts = All (HasRules rules) parts

-- Columns of axis V, and columns of axis H, follow on one another over the extent; if there is none, there is no column.
abbrev pub CoverExtent : Option Box2 → (upright across : List Column) → Type 0
CoverExtent None upright across = (upright ≡ []) × (across ≡ [])
CoverExtent (Some extent) upright across =
    AreColumnsOf V extent upright × AreColumnsOf H extent across

-- Parts in an order: their columns are those of axis V and those of axis H over the extent, and their lists those of these.
pub record AreOfBoth (extent : Option Box2) (ordered : List Found) (upright across : List Column)
    (vs hs : List (List Key)) : Type 0 where
  pub columns : columns_of ordered ≡ upright ++ across
  pub lists : lists_of ordered ≡ vs ++ hs
  pub counted : length vs ≡ length upright
  pub cover : CoverExtent extent upright across

-- The parts are of one check, of so many rules; in some order they have each column once, and these follow on one another over the
-- extent, so the lists are those of columns of axis V, and of axis H.
pub record AreWhole (rules : ℕ) (parts : List Found) (vs hs : List (List Key)) : Type 0 where
  pub first : Found
  pub at : slice_get parts 0 ≡ Some first
  pub ruled : HaveRules rules parts
  pub ordered : List Found
  pub of : ArePartsOf first.subject parts ordered
  pub upright : List Column
  pub across : List Column
  pub both : AreOfBoth first.subject.extent ordered upright across vs hs

-- The book has the markers of these lists, put together.
pub record IsBookOf (rules : ℕ) (parts : List Found) (book : List Marker) : Type 0 where
  pub vs : List (List Key)
  pub hs : List (List Key)
  pub whole : AreWhole rules parts vs hs
  pub made : book ≡ map of_first (together rules vs hs)

-- Whether two boxes are one, and two extents.
abbrev pub box_eq : Box2 → Box2 → Bool
box_eq a b = (int_eq a.x0 b.x0 && int_eq a.y0 b.y0) && (int_eq a.x1 b.x1 && int_eq a.y1 b.y1)

abbrev pub extent_eq : Option Box2 → Option Box2 → Bool
extent_eq None None = true
extent_eq None (Some b) = false
extent_eq (Some a) None = false
extent_eq (Some a) (Some b) = box_eq a b

-- What the first of two checks doesn't share with the second: the library, the deck, the structure, or the columns, by the extent and how
-- many there are.
unfoldable pub difference_of : Checked → Checked → Option Difference
difference_of a b =
    if not (name_eq a.library b.library) then Some other.Library
    else if not (name_eq a.deck b.deck) then Some other.Deck
    else if not (name_eq a.top b.top) then Some other.Top
    else if not (extent_eq a.extent b.extent && (a.columns == b.columns)) then Some other.Plan
    else None

-- The word of that.
unfoldable pub word_of : Difference → List ℕ
word_of other.Library = codes "library"
word_of other.Deck = codes "deck"
word_of other.Top = codes "structure"
word_of other.Plan = codes "plan of columns"

-- The part at a place is of another check than this one, and those before it are of this one.
abbrev pub IsOther : Checked → List Found → ℕ → Difference → Type 0
IsOther first parts place what = (part : Found) × (slice_get parts place ≡ Some part)
    × (difference_of first part.subject ≡ Some what) × AreAllOf first (take place parts)

-- The part at a place has a key of another rule or side, and those before it have none.
abbrev pub IsUnruled : ℕ → List Found → ℕ → Type 0
IsUnruled rules parts place = (part : Found) × (slice_get parts place ≡ Some part)
    × (HasRules rules part → ⊥) × HaveRules rules (take place parts)

-- How many of the parts have the column.
abbrev pub has_column : ℕ → Found → Bool
has_column column part =
    nat_le part.first column && nat_lt column (part.first + length part.lists)

abbrev pub holders : ℕ → List Found → ℕ
holders column parts = count_by (has_column column) parts

-- Of so many columns, no part has the one that is missing, and more than one has the one that is doubled.
abbrev pub IsOfColumns : ℕ → List Found → PartsFault → Type 0
IsOfColumns columns parts (faults.Missing column) =
    (column < columns) × (holders column parts ≡ 0)
IsOfColumns columns parts (faults.Doubled column) = 2 ≤ holders column parts
IsOfColumns columns parts fault = ⊥

-- Parts in an order have each of so many columns once, but these don't follow on one another over the extent.
pub record AreApart (extent : Option Box2) (columns : ℕ) (parts : List Found) : Type 0 where
  pub ordered : List Found
  pub reordered : IsPermutation parts ordered
  pub once : FollowOn 0 ordered columns
  pub apart : (upright across : List Column) → columns_of ordered ≡ upright ++ across
      → CoverExtent extent upright across → ⊥

-- Why parts aren't stitched: there are none; one is of another check than the first; all are of one check, and one has a key of a rule
-- or a side that there isn't; none has, and a column is in none of them, or in more than one, or each is in one and they don't follow on
-- one another over the extent; they do, and what is put together is no book, as when two runs on one line overlap or touch; or
-- memory runs out.
abbrev pub IsFaultOf : ℕ → List Found → PartsFault → Type 0
IsFaultOf rules parts faults.Memory = Unit {0}
IsFaultOf rules parts faults.NoPart = parts ≡ []
IsFaultOf rules parts (faults.Other place what) = (first : Found)
    × (slice_get parts 0 ≡ Some first) × IsOther first.subject parts place what
IsFaultOf rules parts (faults.NoRule place) = (first : Found) × (slice_get parts 0 ≡ Some first)
    × AreAllOf first.subject parts × IsUnruled rules parts place
IsFaultOf rules parts (faults.Missing column) = (first : Found) × (slice_get parts 0 ≡ Some first)
    × AreAllOf first.subject parts × HaveRules rules parts
    × IsOfColumns first.subject.columns parts (faults.Missing column)
IsFaultOf rules parts (faults.Doubled column) = (first : Found) × (slice_get parts 0 ≡ Some first)
    × AreAllOf first.subject parts × HaveRules rules parts
    × IsOfColumns first.subject.columns parts (faults.Doubled column)
IsFaultOf rules parts faults.Apart = (first : Found) × (slice_get parts 0 ≡ Some first)
    × AreAllOf first.subject parts × HaveRules rules parts
    × AreApart first.subject.extent first.subject.columns parts
IsFaultOf rules parts faults.NoBook = (vs hs : List (List Key)) × AreWhole rules parts vs hs
    × (IsBook (map of_first (together rules vs hs)) → ⊥)

-- The column and its list are one part's, at one place.
abbrev pub IsFrom : List Found → Column → List Key → Type 0
IsFrom parts c keys = (part : Found) × (k : ℕ) × Contains parts part
    × (slice_get part.columns k ≡ Some c) × (slice_get part.lists k ≡ Some keys)

-- If parts have each column once, there are as many lists, and each column of either axis has the list that it has in one of the parts.
abbrev pub EachColumnHasItsList : Type 0
EachColumnHasItsList =
    (rules : ℕ) (parts : List Found) (vs hs : List (List Key)) (whole : AreWhole rules parts vs hs)
    → All (λ (part : Found). length part.columns ≡ length part.lists) parts
    → (length vs + length hs ≡ whole.first.subject.columns)
    × AllZip (IsFrom parts) whole.upright vs × AllZip (IsFrom parts) whole.across hs
