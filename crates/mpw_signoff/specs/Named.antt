-- The markers that requests name, by the names of their rules.
use Rattle.std.specs.Prelude.{ℕ, List, slice_get, Option, None, Some}
use Rattle.std.specs.List.{position}
use Rattle.mpw_geom.specs.Names.{name_eq}
use Rattle.mpw_deck.specs.declared.rule.Rule.{Rule}
use Rattle.mpw_markers.specs.declared.marker.Key.{Key}
use Rattle.mpw_markers.specs.declared.marker.Marker.{Marker}
use Rattle.mpw_markers.specs.Book.{place_in}
use Rattle.mpw_requests.specs.declared.sign_off.MarkerName.{MarkerName}

-- The index of the first rule of that name.
abbrev pub rule_place : List Rule → List ℕ → Option ℕ
rule_place rules name = position (λ rule. name_eq rule.name name) rules

-- The key of the named marker, of the rule at that index.
abbrev pub key_by : MarkerName → ℕ → Key
key_by name rule = record { rule = rule; piece = name.piece }

-- The name of a marker of a rule of that name.
abbrev pub name_for : List ℕ → Marker → MarkerName
name_for rule m = record { rule = rule; piece = m.key.piece }

-- A marker of a book with its index.
pub record Named : Type 0 where
  pub place : ℕ
  pub marker : Marker

abbrev pub with_place : ℕ → Option Marker → Option Named
with_place place None = None
with_place place (Some m) = Some (record { place = place; marker = m })

abbrev pub found_at : List Marker → Option ℕ → Option Named
found_at book None = None
found_at book (Some place) = with_place place (slice_get book place)

abbrev pub found_by : List Marker → MarkerName → Option ℕ → Option Named
found_by book name None = None
found_by book name (Some rule) = found_at book (place_in book (key_by name rule))

-- The marker of the book with that name, if there is one.
unfoldable pub named_in : List Rule → List Marker → MarkerName → Option Named
named_in rules book name = found_by book name (rule_place rules name.rule)
