-- The marker that a request names.
use Rattle.std.proofs.Common.{[], ◌≡◌, ◌∙◌, ℕ, List, get_or, slice_get, Option, None, Some, refl, sym, ap}
use Rattle.std.proofs.lemmas.List.Quantifiers.{position-Some}
use Rattle.std.proofs.lemmas.Option.{slice_get-get_or, none-some, same_Some}
use Rattle.mpw_geom.specs.declared.plane.Layer.{Layer}
use Rattle.mpw_geom.specs.Names.{name_eq}
use Rattle.mpw_geom.proofs.Linked.{same_name}
use Rattle.mpw_deck.specs.declared.rule.Check.TheVariants.{Width}
use Rattle.mpw_deck.specs.declared.rule.Rule.{Rule}
use Rattle.mpw_markers.specs.Book.{place_in}
use Rattle.mpw_markers.specs.declared.marker.Key.{Key}
use Rattle.mpw_markers.specs.declared.marker.Marker.{Marker}
use Rattle.mpw_markers.specs.Laws.{PlacesAreOfKeys}
use Rattle.mpw_requests.specs.declared.sign_off.MarkerName.{MarkerName}
use Rattle.mpw_signoff.specs.Named.{Named, rule_place, key_by, name_for, with_place, found_at, found_by, named_in}

abbrev no_rule : Rule
no_rule = record {
  name = [];
  check = Width (let l : Layer = record { layer = 0; datatype = 0 } in
      l);
  distance = 0;
}

-- the rule, and the index of the marker
pub record IsNamed (rules : List Rule) (book : List Marker) (name : MarkerName) (n : Named) :
    Type 0 where
  pub rule : Rule
  pub at : slice_get book n.place ≡ Some n.marker
  pub of_rule : slice_get rules n.marker.key.rule ≡ Some rule
  pub named : name ≡ name_for rule.name n.marker

with_is : (place : ℕ) (o : Option Marker) (n : Named) → with_place place o ≡ Some n
    → (place ≡ n.place) × (o ≡ Some n.marker)
with_is place None n e = absurd (none-some n e)
with_is place (Some m) n e =
    let made : Named = record { place = place; marker = m } in
    let same = same_Some made n e in
    (ap (λ (x : Named). x.place) same, ap Some (ap (λ (x : Named). x.marker) same))

at_is : (book : List Marker) (o : Option ℕ) (n : Named) → found_at book o ≡ Some n
    → (o ≡ Some n.place) × (slice_get book n.place ≡ Some n.marker)
at_is book None n e = absurd (none-some n e)
at_is book (Some place) n e =
    let both = with_is place (slice_get book place) n e in
    (ap Some both.0, ap (slice_get book) (sym both.0) ∙ both.1)

by_is : (book : List Marker) (name : MarkerName) (o : Option ℕ) (n : Named)
    → found_by book name o ≡ Some n
    → (rule : ℕ) × (o ≡ Some rule) × (place_in book (key_by name rule) ≡ Some n.place)
    × (slice_get book n.place ≡ Some n.marker)
by_is book name None n e = absurd (none-some n e)
by_is book name (Some rule) n e =
    let both = at_is book (place_in book (key_by name rule)) n e in (rule, refl, both.0, both.1)

-- a marker with the key of a name has the name
name_is : (name : MarkerName) (place : ℕ) (rule : Rule) (m : Marker) → m.key ≡ key_by name place
    → name.rule ≡ rule.name → name ≡ name_for rule.name m
name_is name place rule m same first =
    λ i. record { rule = first i; piece = sym (ap (λ (k : Key). k.piece) same) i }

pub named_is : PlacesAreOfKeys → (rules : List Rule) (book : List Marker) (name : MarkerName)
    (n : Named)
    → named_in rules book name ≡ Some n → IsNamed rules book name n
unfolding named_in
named_is keys rules book name n e =
    let found = by_is book name (rule_place rules name.rule) n e in
    let first = position-Some (λ rule. name_eq rule.name name.rule) rules found.0 no_rule found.1 in
    let rule = get_or rules found.0 no_rule in
    let m = keys book (key_by name found.0) n.place found.2 in
    let same : m.0 ≡ n.marker = same_Some m.0 n.marker (sym m.1 ∙ found.3) in
    let key : n.marker.key ≡ key_by name found.0 = (λ i. (sym same i).key) ∙ m.2 in
    record {
      rule = rule;
      at = found.3;
      of_rule = ap (slice_get rules) (ap (λ (k : Key). k.rule) key)
          ∙ slice_get-get_or rules found.0 no_rule first.0;
      named = name_is name found.0 rule n.marker key (sym (same_name rule.name name.rule first.1));
    }
