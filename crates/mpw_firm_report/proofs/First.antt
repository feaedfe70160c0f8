-- The report of the first markers of each rule.
use Rattle.std.proofs.Common.{◌≡◌, ◌∙◌, ℕ, List, [], ◌∷◌, ◌++◌, Option, Some, refl, ap}
use Rattle.std.specs.List.{enumerate_from, flat_map}
use Rattle.mpw_deck.specs.declared.rule.Rule.{Rule}
use Rattle.mpw_markers.specs.declared.marker.Marker.{Marker}
use Rattle.mpw_firm_report.specs.Content.{Content, counted, AgreeFirst, with_markers}
use Rattle.mpw_firm_report.specs.Report.{category_text, item_text, rule_items, head_text, full_text, FirstMarkersHaveTheItems}

-- Texts that are equal for each entry make equal texts.
pub texts_same : {X : Type 0} (f g : X → List ℕ) (xs : List X) → ((x : X) → f x ≡ g x)
    → flat_map f xs ≡ flat_map g xs
texts_same f g [] same = refl
texts_same f g (x ∷ xs) same =
    ap (λ t. t ++ flat_map f xs) (same x) ∙ ap (λ t. g x ++ t) (texts_same f g xs same)

-- A number that is given doesn't depend on the markers.
counted_same : (given : Option (List ℕ)) (counts : List ℕ) (a b : List Marker) (place : ℕ)
    → given ≡ Some counts → counted given a place ≡ counted given b place
counted_same given counts a b place is = rw is refl

category_same : (c : Content) (counts : List ℕ) (first : List Marker) (row : ℕ × Rule)
    → c.counts ≡ Some counts → category_text (with_markers c first) row ≡ category_text c row
unfolding category_text
category_same c counts first row is =
    rw (counted_same c.counts counts first c.markers row.0 is) refl

items_same : (c : Content) (first : List Marker) (row : ℕ × Rule) → AgreeFirst c.limit first c.markers
    → rule_items (with_markers c first) row ≡ rule_items c row
items_same c first row agree = ap (flat_map (item_text c.top row.1)) (agree row.0)

pub first_have_items : FirstMarkersHaveTheItems
unfolding full_text head_text
first_have_items c counts first is agree =
    rw (
      texts_same (category_text (with_markers c first)) (category_text c) (enumerate_from 0 c.rules)
          (λ row. category_same c counts first row is),
      texts_same (rule_items (with_markers c first)) (rule_items c) (enumerate_from 0 c.rules)
          (λ row. items_same c first row agree),
    )
    refl
