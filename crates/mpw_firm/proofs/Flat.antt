-- The markers of a structure, whatever the side of the tiles is.
use Rattle.std.proofs.Common.{◌≡◌, ◌∙◌, ℕ, false, List, [], Option, None, Some, ap, subst, refl}
use Rattle.mpw_check.specs.Drawn.{drawn_shelf, IsDrawnFrom}
use Rattle.mpw_check.specs.Tiled.{MarkersAreTheLibrarys}
use Rattle.mpw_firm_choices.specs.Sides.{with_side}
use Rattle.mpw_deck.specs.Decks.{Deck}
use Rattle.mpw_deck.specs.declared.rule.Rule.{Rule}
use Rattle.mpw_hier.specs.Values.{flat}
use Rattle.mpw_job.specs.Layout.{AreFlatMarkers, AreLayoutMarkers}
use Rattle.mpw_firm.specs.Drawings.{AreFlatByEachSide, AreFlatOf, IsDeckOf, IsDrawnBy, IsDrawnOf, IsReadBy, IsReadFrom, IsTopOf}
use Rattle.mpw_firm.specs.Grids.{deck_for, rules_for}
use Rattle.mpw_firm_sources.specs.Sources.{Source, IsSourceOf, kept_text}
use Rattle.mpw_firm.specs.declared.checked.Drawn.{Drawn}
use Rattle.mpw_firm_grid.specs.Texts.{grid_parts}
use Rattle.mpw_firm_options.specs.declared.choices.Choices.{Choices}
use Rattle.mpw_markers.specs.declared.marker.Marker.{Marker}
use Rattle.mpw_tiles.specs.Snapshots.{Snapshot}

-- A side changes no rule, on no grid.
same_rules : (grid side : Option ℕ) (deck : Deck)
    → (deck_for grid (with_side side deck)).rules ≡ rules_for grid deck.rules
same_rules None None deck = refl
same_rules None (Some side) deck = refl
same_rules (Some parts) None deck = refl
same_rules (Some parts) (Some side) deck = refl

pub flat_by : MarkersAreTheLibrarys → AreFlatByEachSide
flat_by law grid side deck top library made layout book of drawn are =
    let by_made = law made top drawn.library layout book drawn.drawn are in
    let items = flat (drawn_shelf top drawn.library) 0 in
    let read = of.1 in
    let same = of.2 ∙ ap (deck_for grid) read.2 in
    let by_side = subst (λ (d : Deck). AreFlatMarkers d.rules items book) same by_made in (
      read.0,
      drawn.library,
      read.1,
      drawn.read,
      subst (λ (rules : List Rule). AreFlatMarkers rules items book)
          (same_rules grid side read.0) by_side,
    )

-- Without a side of its own the texts are read as a part's are.
read_from : (deck top library : List ℕ) (made : Deck) (layout : Snapshot)
    → IsDeckOf None deck made → IsDrawnFrom made top library layout
    → IsReadFrom deck top library layout
read_from deck top library made layout of drawn =
    (of.0, of.1, subst (λ d. IsDrawnFrom d top library layout) of.2 drawn)

-- If nothing is left out, the text is read as it is.
kept_plain : (library : List ℕ) (source : Source) → IsSourceOf [] None false library source
    → kept_text source ≡ library
kept_plain library source of = rw (of.faulty, of.structures, of.layers) of.text_is

drawn_plain : (top : Option (List ℕ)) (deck : Deck) (library : List ℕ) (source : Source)
    (drawn : Drawn) → IsSourceOf [] None false library source → IsDrawnBy top deck source drawn
    → IsTopOf top library drawn.top × IsDrawnFrom deck drawn.top library drawn.layout
drawn_plain top deck library source drawn of by =
    let same = kept_plain library source of in (
      subst (λ text. IsTopOf top text drawn.top) same by.named,
      subst (λ text. IsDrawnFrom deck drawn.top text drawn.layout) same by.from,
    )

pub part_read : (top : Option (List ℕ)) (side : Option ℕ) (deck library : List ℕ)
    (source : Source) (drawn : Drawn) → side ≡ None → IsSourceOf [] None false library source
    → IsDrawnOf top side deck source drawn
    → IsReadFrom deck drawn.top library drawn.layout
part_read top side deck library source drawn none is of =
    read_from deck drawn.top library of.made drawn.layout
    (subst (λ s. IsDeckOf s deck of.made) none of.read)
    (drawn_plain top of.made library source drawn is of.by).1

pub part_named : (top : Option (List ℕ)) (side : Option ℕ) (deck library : List ℕ)
    (source : Source) (drawn : Drawn) → IsSourceOf [] None false library source
    → IsDrawnOf top side deck source drawn
    → IsTopOf top library drawn.top
part_named top side deck library source drawn is of =
    (drawn_plain top of.made library source drawn is of.by).0

-- The markers of what is read so are flat.
pub flat_of : AreFlatByEachSide → (top : Option (List ℕ)) (choices : Choices)
    (deck library : List ℕ) (drawn : Drawn) (book : List Marker)
    → (read : IsReadBy top choices deck library drawn) → AreLayoutMarkers drawn.layout book
    → AreFlatOf (grid_parts library) deck drawn.top (kept_text read.source) book
flat_of law top choices deck library drawn book read are =
    law (grid_parts library) choices.tile deck drawn.top (kept_text read.source) read.made
    drawn.layout book read.read read.by.from are
