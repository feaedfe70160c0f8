-- What is printed about parts, and about columns that a layout hasn't.
use Rattle.std.specs.Prelude.{◌+◌, ◌&&◌, ℕ, Bool, nat_le, nat_lt, List, [], ◌++◌, codes, length, slice_get, Option, None, Some, if◌then◌else◌}
use Rattle.std.specs.List.{flat_map}
use Rattle.std.specs.Fmt.{decimal}
use Rattle.mpw_firm_parts.specs.Parts.{Found}
use Rattle.mpw_firm_parts.specs.Stitching.{word_of}
use Rattle.mpw_firm_parts.specs.declared.fault.Difference.{Difference}
use Rattle.mpw_firm_parts.specs.declared.fault.PartsFault.{PartsFault}
use Rattle.mpw_firm_parts.specs.declared.fault.PartsFault.TheVariants.{Memory, NoPart, Other, NoRule, Missing, Doubled, Apart, NoBook}

-- A part's file, by its name, with the part's first column and the one after its last.
pub record Holder : Type 0 where
  pub name : List ℕ
  pub first : ℕ
  pub end : ℕ

abbrev pub holder_of : List ℕ → Found → Holder
holder_of name part =
    record { name = name; first = part.first; end = part.first + length part.lists }

-- ---- files that are no parts, and parts that no check prints

unfoldable pub no_part_text : List ℕ → List ℕ
no_part_text file =
    file ++ codes ": no part, or a changed one: run that part again with 'mpw check --tiles'"

unfoldable pub older_text : List ℕ → List ℕ
older_text file = file ++ codes ": a part of an older mpw: run that part again with this one"

unfoldable pub damaged_text : List ℕ → List ℕ
damaged_text file = file ++ codes ": the part was changed or cut off: run that part again"

unfoldable pub no_markers_text : List ℕ
no_markers_text = codes "the parts have markers that no check finds: print them again"

-- ---- parts that aren't stitched

unfoldable pub nothing_text : List ℕ
nothing_text = codes "there is no part"

-- The part of another check, and the first part.
unfoldable pub other_text : List ℕ → List ℕ → List ℕ → List ℕ
other_text part what first =
    part ++ (codes ": a part of another " ++ (what ++ (codes " than " ++ first)))

unfoldable pub unnamed_text : List ℕ → List ℕ
unnamed_text what = codes "a part is of another " ++ what

abbrev pub other_of : Option Holder → Option Holder → Difference → List ℕ
other_of None part what = unnamed_text (word_of what)
other_of (Some first) None what = unnamed_text (word_of what)
other_of (Some first) (Some part) what = other_text part.name (word_of what) first.name

-- The part that has a marker of a rule that its deck hasn't.
unfoldable pub unruled_text : List ℕ → List ℕ
unruled_text part = part ++ codes ": a marker of a rule that its deck hasn't: print it again"

abbrev pub unruled_of : Option Holder → List ℕ
unruled_of None = no_markers_text
unruled_of (Some part) = unruled_text part.name

unfoldable pub missing_text : ℕ → ℕ → List ℕ
missing_text column columns =
    codes "column "
    ++ (decimal column
    ++ (codes " is in no part: the layout has "
    ++ (decimal columns
    ++ codes " columns, counted from 0")))

-- The files that have a column, with a space before each.
abbrev pub has_column : ℕ → Holder → Bool
has_column column holder = nat_le holder.first column && nat_lt column holder.end

abbrev pub name_with : ℕ → Holder → List ℕ
name_with column holder = if has_column column holder then codes " " ++ holder.name else []

abbrev pub names_with : ℕ → List Holder → List ℕ
names_with column holders = flat_map (name_with column) holders

unfoldable pub doubled_text : ℕ → List ℕ → List ℕ
doubled_text column names =
    codes "column " ++ (decimal column ++ (codes " is in more than one part:" ++ names))

unfoldable pub apart_text : List ℕ
apart_text =
    codes "the columns of the parts don't follow on one another: print them again with one mpw"

-- Why parts aren't stitched, of these files and a layout with so many columns; out of memory has no text of its own.
abbrev pub fault_text : List Holder → ℕ → PartsFault → Option (List ℕ)
fault_text holders columns Memory = None
fault_text holders columns NoPart = Some nothing_text
fault_text holders columns (Other place what) =
    Some (other_of (slice_get holders 0) (slice_get holders place) what)
fault_text holders columns (NoRule place) = Some (unruled_of (slice_get holders place))
fault_text holders columns (Missing column) = Some (missing_text column columns)
fault_text holders columns (Doubled column) =
    Some (doubled_text column (names_with column holders))
fault_text holders columns Apart = Some apart_text
fault_text holders columns NoBook = Some no_markers_text

-- ---- columns that a layout hasn't

unfoldable pub no_columns_text : List ℕ
no_columns_text =
    codes
    "error: --tiles: the structure shows no shape, so it has no columns: --tiles 1/1 prints its part"

unfoldable pub beyond_text : ℕ → List ℕ
beyond_text columns =
    codes "error: --tiles: the layout has " ++ decimal columns ++ codes " columns, counted from 0"

abbrev pub range_text : ℕ → List ℕ
range_text columns = if nat_lt 0 columns then beyond_text columns else no_columns_text
