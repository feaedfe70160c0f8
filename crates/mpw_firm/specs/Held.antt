-- Which markers of a check are held: all of them, or the first of each rule if no more are printed.
use Rattle.std.specs.Prelude.{◌≡◌, ℕ, Bool, true, false, List, length, Option, None, Some, option_map}
use Rattle.std.specs.String.{string_bytes}
use Rattle.mpw_firm_options.specs.declared.options.Options.{Options}
use Rattle.mpw_firm_options.specs.declared.picture_options.Wanted.{Wanted}
use Rattle.mpw_firm.specs.declared.checked.Checked.{Checked}
use Rattle.mpw_firm.specs.declared.found.Findings.{Findings}
use Rattle.mpw_firm.specs.declared.found.Held.{Held}
use Rattle.mpw_firm.specs.declared.found.Held.TheVariants as held
use Rattle.mpw_job.specs.Layout.{AreLayoutMarkers}
use Rattle.mpw_markers.specs.declared.marker.Marker.{Marker}
use Rattle.mpw_firm_outputs.specs.Counted.{capped, rule_counts}
use Rattle.mpw_firm_report.specs.Content.{AgreeFirst}
use Rattle.mpw_tiles.specs.Snapshots.{Snapshot}

-- ---- how many of each rule are enough, if not all are wanted

-- Of a listing and a report: none if the numbers alone are printed, and else as many as the limit.
abbrev pub enough_listed : (report : Option (List ℕ)) → (summary : Bool) → (limit : Option ℕ)
    → Option ℕ
enough_listed None true limit = Some 0
enough_listed None false limit = limit
enough_listed (Some file) summary limit = limit

-- A picture wants all.
abbrev pub enough_with : Option Wanted → (report : Option (List ℕ)) → (summary : Bool)
    → (limit : Option ℕ) → Option ℕ
enough_with None report summary limit = enough_listed report summary limit
enough_with (Some wanted) report summary limit = None

-- Of what a command line asks for.
abbrev pub enough_for : Options → (summary : Bool) → (limit : Option ℕ) → Option ℕ
enough_for options summary limit =
    enough_with options.picture (option_map string_bytes options.report) summary limit

-- ---- what is held of a book

-- All of its markers; or the first of each rule, if so many are enough.
abbrev pub AreHeld : (enough : Option ℕ) → Held → List Marker → Type 0
AreHeld enough (held.All all) book = all ≡ book
AreHeld None (held.First first) book = ⊥
AreHeld (Some most) (held.First first) book = AgreeFirst most first.items book

-- With how many markers each of so many rules has, and how many there are.
pub record IsFoundOf (enough : Option ℕ) (rules : ℕ) (found : Findings) (book : List Marker) :
    Type 0
  where
    pub held : AreHeld enough found.held book
    pub counts : found.counts.items ≡ rule_counts rules book
    pub all : found.all ≡ capped (length book)

-- The book is that of a layout.
abbrev pub IsFoundIn : (enough : Option ℕ) → Snapshot → Findings → Type 0
IsFoundIn enough layout found =
    (book : List Marker) × AreLayoutMarkers layout book
    × IsFoundOf enough (length layout.deck.rules) found book

-- It is that of what was checked.
abbrev pub IsOfBook : (enough : Option ℕ) → Checked → List Marker → Type 0
IsOfBook enough c book = IsFoundOf enough (length c.rules.now) c.found.now book
