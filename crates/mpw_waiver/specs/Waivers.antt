-- The waivers of a finished run: for each marker of its book, in order, the waiver that was asked for, if one was.
use Rattle.std.specs.Prelude.{ℕ, Bool, false, not, List, length, filter, slice_get, slice_set, replicate, is_some, Option, None, Some}
use Rattle.std.specs.Option.{option_flatten}
use Rattle.mpw_waiver.specs.declared.waiver.Waiver.{Waiver}

-- None was asked for, of that many markers.
abbrev pub none_asked : ℕ → List (Option Waiver)
none_asked size = replicate size None

-- The waiver of the marker at an index, if there is one.
abbrev pub waiver_at : List (Option Waiver) → ℕ → Option Waiver
waiver_at waivers place = option_flatten (slice_get waivers place)

-- Whether there is a signed waiver.
abbrev pub is_signed : Option Waiver → Bool
is_signed None = false
is_signed (Some waiver) = is_some waiver.signer

-- How many markers have no signed waiver.
unfoldable pub unsigned : List (Option Waiver) → ℕ
unsigned waivers = length (filter (λ waiver. not (is_signed waiver)) waivers)

-- The waivers with an unsigned one that the user asked for, of the marker at that index, if there is such a
-- marker.
abbrev pub with_asker : List (Option Waiver) → ℕ → List ℕ → List (Option Waiver)
with_asker waivers place asker =
    slice_set waivers place (Some (record { asker = asker; signer = None }))

-- The waiver as signed by that user.
abbrev pub signed_by : List ℕ → Option Waiver → Option Waiver
signed_by signer None = None
signed_by signer (Some waiver) = Some (record { asker = waiver.asker; signer = Some signer })

-- The waivers with the one at that index signed by that user.
abbrev pub with_signer : List (Option Waiver) → ℕ → List ℕ → List (Option Waiver)
with_signer waivers place signer =
    slice_set waivers place (signed_by signer (waiver_at waivers place))
