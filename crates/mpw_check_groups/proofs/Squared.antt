-- What a part shows on the layers of its rules is what the layout shows there; so the steps of a rule are the same.
use mathlib.Core.Path.{fun_ext}
use Rattle.std.proofs.Common.{◌≡◌, ◌∙◌, ℕ, Bool, true, false, ◌&&◌, ◌||◌, List, Some, refl, sym, ap}
use Rattle.std.specs.Prelude.{ℤ, slice_get}
use Rattle.std.proofs.lemmas.Bool.{and_parts}
use Rattle.std.proofs.lemmas.Map.Views.{any-filter_same}
use Rattle.mpw_geom.specs.declared.plane.Layer.{Layer}
use Rattle.mpw_geom.specs.Layers.{same_layer}
use Rattle.mpw_deck.specs.declared.rule.Check.{Check}
use Rattle.mpw_deck.specs.declared.rule.Check.TheVariants.{Width, Space, Separation, Enclosing}
use Rattle.mpw_deck.specs.declared.rule.Rule.{Rule}
use Rattle.mpw_edges.specs.Edges.{Squares}
use Rattle.mpw_structures.specs.declared.element.Element.{Element}
use Rattle.mpw_structures.specs.declared.element.Element.TheVariants as elements
use Rattle.mpw_hier.specs.Items.{Item}
use Rattle.mpw_tiles.specs.Shown.{layer_of}
use Rattle.mpw_tiles.specs.Snapshots.{Snapshot, shown}
use Rattle.mpw_markers.specs.declared.marker.Key.{Key}
use Rattle.mpw_markers.specs.declared.marker.Line.{Line}
use Rattle.mpw_markers.specs.Markers.{line_of_key}
use Rattle.mpw_markers.specs.Whole.{IsMaximal}
use Rattle.mpw_job.specs.Computed.{has_step_of, has_step_on, is_layer, item_has, shown_on, steps_of}
use Rattle.mpw_job.specs.Layers.{Coverage, first_squares, second_squares}
use Rattle.mpw_job.proofs.Tests.{get_contains, passes_some, same_as, same_from}
use Rattle.mpw_check_groups.specs.Layers.{is_named, is_of, items_on, stays}
use Rattle.mpw_check_groups.specs.Parts.{IsPartOf}

-- ---- layers

or_right : (a b : Bool) → b ≡ true → (a || b) ≡ true
or_right true b e = refl
or_right false b e = e

or_left : (a b : Bool) → a ≡ true → (a || b) ≡ true
or_left a b e = ap (λ c. c || b) e

stays_on : (test : Layer → Bool) (layer : Layer) (e : Element) → test layer ≡ true
    → is_layer (layer_of e) layer ≡ true → stays test e ≡ true
stays_on test layer (elements.Boundary b) h e =
    ap test (same_from b.layer layer e) ∙ h
stays_on test layer (elements.Path p) h e = ap test (same_from p.layer layer e) ∙ h
stays_on test layer (elements.Reference r) h e = refl

kept_on : (test : Layer → Bool) (layer : Layer) (items : List Item) → test layer ≡ true
    → shown_on (items_on test items) layer ≡ shown_on items layer
kept_on test layer items h = fun_ext (λ i. fun_ext (λ j.
    any-filter_same
    (λ (item : Item). is_layer (layer_of item.element) layer
    && item_has item (record { column = i; row = j }))
    (λ (item : Item). stays test item.element) true
    (λ item e. stays_on test layer item.element h
    (and_parts (is_layer (layer_of item.element) layer)
    (item_has item (record { column = i; row = j })) e).0) items))

same_first : (check : Check) (on other : Coverage)
    → ((layer : Layer) → is_of check layer ≡ true → on layer ≡ other layer)
    → first_squares check on ≡ first_squares check other
same_first (Width l) on other h = h l (same_as l l refl)
same_first (Space l) on other h = h l (same_as l l refl)
same_first (Separation l m) on other h =
    h l (or_left (same_layer l l) (same_layer m l) (same_as l l refl))
same_first (Enclosing l m) on other h =
    h l (or_left (same_layer l l) (same_layer m l) (same_as l l refl))

same_second : (check : Check) (on other : Coverage)
    → ((layer : Layer) → is_of check layer ≡ true → on layer ≡ other layer)
    → second_squares check on ≡ second_squares check other
same_second (Width l) on other h = refl
same_second (Space l) on other h = refl
same_second (Separation l m) on other h =
    h m (or_right (same_layer l m) (same_layer m m) (same_as m m refl))
same_second (Enclosing l m) on other h =
    h m (or_right (same_layer l m) (same_layer m m) (same_as m m refl))

-- ---- steps of a rule

-- The line, and the run, of another rule.
abbrev pub line_at : ℕ → Line → Line
line_at rule l = record l { rule = rule }

abbrev pub key_at : ℕ → Key → Key
key_at rule k = record k { rule = rule }

module _ (s part : Snapshot) (places : List ℕ) (is_part : IsPartOf s places part)
    (rule place : ℕ) (r : Rule) (of_deck : slice_get s.deck.rules rule ≡ Some r)
    (of_part : slice_get part.deck.rules place ≡ Some r) where
  named : (layer : Layer) → is_of r.check layer ≡ true → is_named part.deck.rules layer ≡ true
  named layer h = passes_some (λ (other : Rule). is_of other.check layer) part.deck.rules r
      (get_contains part.deck.rules place r of_part) h

  same_on : (layer : Layer) → is_of r.check layer ≡ true
      → shown_on (shown part) layer ≡ shown_on (shown s) layer
  same_on layer h =
      ap (λ (items : List Item). shown_on items layer) is_part.shown
      ∙ kept_on (is_named part.deck.rules) layer (shown s) (named layer h)

  steps_same : (l : Line) (j : ℤ)
      → steps_of part.deck.rules (shown_on (shown part)) (line_at place l) j
      ≡ steps_of s.deck.rules (shown_on (shown s)) (line_at rule l) j
  steps_same l j =
      ap (λ o. has_step_of o (shown_on (shown part)) (line_at place l) j) of_part
      ∙ ap (λ (a : Squares). has_step_on r a (second_squares r.check (shown_on (shown part)))
      l.axis l.side l.x1 l.x2 j)
      (same_first r.check (shown_on (shown part)) (shown_on (shown s)) same_on)
      ∙ ap (λ (b : Squares). has_step_on r (first_squares r.check (shown_on (shown s))) b
      l.axis l.side l.x1 l.x2 j)
      (same_second r.check (shown_on (shown part)) (shown_on (shown s)) same_on)
      ∙ sym (ap (λ o. has_step_of o (shown_on (shown s)) (line_at rule l) j) of_deck)

  pub to_deck : (k : Key)
      → IsMaximal (steps_of part.deck.rules (shown_on (shown part))) (key_at place k)
      → IsMaximal (steps_of s.deck.rules (shown_on (shown s))) (key_at rule k)
  to_deck k m = record {
    filled = m.filled;
    rows = λ j l h. sym (steps_same (line_of_key k) j) ∙ m.rows j l h;
    below = sym (steps_same (line_of_key k) _) ∙ m.below;
    above = sym (steps_same (line_of_key k) _) ∙ m.above;
  }

  pub to_part : (k : Key)
      → IsMaximal (steps_of s.deck.rules (shown_on (shown s))) (key_at rule k)
      → IsMaximal (steps_of part.deck.rules (shown_on (shown part))) (key_at place k)
  to_part k m = record {
    filled = m.filled;
    rows = λ j l h. steps_same (line_of_key k) j ∙ m.rows j l h;
    below = steps_same (line_of_key k) _ ∙ m.below;
    above = steps_same (line_of_key k) _ ∙ m.above;
  }
