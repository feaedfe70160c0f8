-- Which marker a key names.
use Rattle.std.specs.Prelude.{◌≡◌, ◌⊎◌, ◌++◌, codes, ℕ, Bool, false, List, Option, Some, None, slice_get}
use Rattle.std.specs.List.{find}
use Rattle.mpw_deck.specs.declared.rule.Rule.{Rule}
use Rattle.mpw_geom.specs.Names.{name_eq}
use Rattle.mpw_firm_listing.specs.Keys.{key_text}
use Rattle.mpw_markers.specs.declared.marker.Marker.{Marker}
use Rattle.mpw_firm_picture.specs.Windows.{marker_window, whole_window}
use Rattle.mpw_firm_picture.specs.declared.picture.View.{View}
use Rattle.mpw_tiles.specs.Snapshots.{Snapshot, shown_extent}
use Rattle.mpw_firm_messages.specs.declared.fault.FirmFault.{FirmFault}
use Rattle.mpw_firm_messages.specs.declared.fault.FirmFault.TheVariants.{Memory}
use Rattle.mpw_firm_messages.specs.Told.{Misuses}

-- Whether a marker of that rule has the key, as the listing prints it.
abbrev pub is_keyed : (parts : ℕ) → List ℕ → Marker → Option Rule → Bool
is_keyed parts word m None = false
is_keyed parts word m (Some rule) = name_eq (key_text parts rule.name m.key.piece) word

abbrev pub has_key : (parts : ℕ) → List Rule → List ℕ → Marker → Bool
has_key parts rules word m = is_keyed parts word m (slice_get rules m.key.rule)

-- The first marker of that key, if there is one.
abbrev pub marker_named : (parts : ℕ) → List Rule → List ℕ → List Marker → Option Marker
marker_named parts rules word markers = find (has_key parts rules word) markers

-- ---- the view of a picture round a marker

-- It is that round the first marker of the key, which is wanted there.
abbrev pub IsRound : (parts : ℕ) → List Rule → List ℕ → List Marker → (limit : ℕ) → View → Type 0
IsRound parts rules word markers limit view =
    (m : Marker) × (marker_named parts rules word markers ≡ Some m)
    × (view ≡ record { window = marker_window rules m; wanted = Some m.key; limit = limit })

unfoldable pub unknown_text : List ℕ → List ℕ
unknown_text key =
    codes "error: --marker "
    ++ (key ++ codes ": no marker has this key: take a line of the listing up to the blank")

-- No marker has the key, which is reported; or memory runs out.
abbrev pub IsUnknown : (parts : ℕ) → List Rule → List ℕ → List Marker → FirmFault → Type 0
IsUnknown parts rules word markers fault =
    (fault ≡ Memory)
    ⊎ ((marker_named parts rules word markers ≡ None) × Misuses (unknown_text word) fault)

-- ---- the view of the picture that is asked for: round the marker of its key, or round all if it names none

abbrev pub IsViewOf : Option (List ℕ) → (parts : ℕ) → List Rule → Snapshot → List Marker
    → (limit : ℕ) → View → Type 0
IsViewOf None parts rules s markers limit view =
    view ≡ record { window = whole_window (shown_extent s); wanted = None; limit = limit }
IsViewOf (Some word) parts rules s markers limit view = IsRound parts rules word markers limit view

-- It isn't there: no marker has the key.
abbrev pub IsOfKey : Option (List ℕ) → (parts : ℕ) → List Rule → List Marker → FirmFault → Type 0
IsOfKey None parts rules markers fault = ⊥
IsOfKey (Some word) parts rules markers fault = IsUnknown parts rules word markers fault
