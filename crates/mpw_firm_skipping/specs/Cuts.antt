-- A text without some of its bytes, and the offsets in the text of those that are left.
use Rattle.std.specs.Prelude.{ℕ, ◌+◌, ◌-◌, ◌^◌, nat_lt, min, Bool, false, List, [], ◌∷◌, ◌++◌, take, drop, map, filter, Option, Some, None, if◌then◌else◌}
use Rattle.std.specs.List.{list_any}
use Rattle.mpw_geom.specs.declared.plane.Layer.{Layer}
use Rattle.mpw_geom.specs.Layers.{same_layer}
use Rattle.mpw_firm_skipping.specs.Elements.{elements_of}
use Rattle.mpw_firm_skipping.specs.declared.cut.Cut.{Cut}
use Rattle.mpw_firm_skipping.specs.declared.span.ElementSpan.{ElementSpan}

-- What is left of a text from an offset on.
unfoldable pub left_from : ℕ → List Cut → List ℕ → List ℕ
left_from reached [] text = drop reached text
left_from reached (cut ∷ cuts) text =
    take (cut.start - reached) (drop reached text) ++ left_from cut.end cuts text

abbrev pub without : List Cut → List ℕ → List ℕ
without cuts text = left_from 0 cuts text

-- The offset in the text of a byte of what is left from an offset on.
unfoldable pub original_from : ℕ → List Cut → ℕ → ℕ
original_from reached [] at = min (reached + at) (2 ^ 64 - 1)
original_from reached (cut ∷ cuts) at =
    if nat_lt at (cut.start - reached) then min (reached + at) (2 ^ 64 - 1)
    else original_from cut.end cuts (at - (cut.start - reached))

abbrev pub original : List Cut → ℕ → ℕ
original cuts at = original_from 0 cuts at

-- ---- the elements on some layers

abbrev pub is_on : List Layer → Option ℕ → Option ℕ → Bool
is_on layers None datatype = false
is_on layers (Some layer) None = false
is_on layers (Some layer) (Some datatype) =
    list_any (same_layer (record { layer = layer; datatype = datatype })) layers

abbrev pub is_named : List Layer → ElementSpan → Bool
is_named layers e = is_on layers e.layer e.datatype

abbrev pub cut_of : ElementSpan → Cut
cut_of e = record { start = e.start; end = e.end }

abbrev pub cuts_of_layers : List Layer → List ℕ → List Cut
cuts_of_layers layers text = map cut_of (filter (is_named layers) (elements_of text))

-- The text without its elements on these layers.
abbrev pub without_layers : List Layer → List ℕ → List ℕ
without_layers layers text = without (cuts_of_layers layers text) text
