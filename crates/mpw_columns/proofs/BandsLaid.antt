-- The bands of layers have the squares of the layers.
use Rattle.std.proofs.Common.{◌≡◌, ℕ, ◌+◌, ◌<◌, ℤ, Bool, true, false, cond, List, [], ◌∷◌, ◌++◌, length, get_or, take, drop, map, inl, inr, refl, sym, subst, ap, ◌∙◌, arith}
use mathlib.Core.Path.{fun_ext}
use Rattle.std.specs.Prelude.{All, Contains}
use Rattle.std.proofs.lemmas.Bool.{false≢true}
use Rattle.std.proofs.lemmas.List.{at_drop_more, take_more, map_push}
use Rattle.std.proofs.lemmas.List.Elements.{All-nil, All-push, All-head, All-tail, Contains-append_cases, Contains-push_cases}
use Rattle.std.proofs.lemmas.Option.{slice_get_within}
use Rattle.mpw_geom.specs.declared.plane.Box2.{Box2}
use Rattle.mpw_geom.specs.declared.plane.Layer.{Layer}
use Rattle.mpw_deck.specs.declared.rule.Rule.{Rule}
use Rattle.mpw_region.specs.Banded.{AreBands}
use Rattle.mpw_region.specs.Squares.{covers}
use Rattle.mpw_edges.specs.declared.run.Axis.{Axis}
use Rattle.mpw_edges.specs.Edges.{Squares}
use Rattle.mpw_markers.specs.declared.marker.Key.{Key}
use Rattle.mpw_geom.specs.Layers.{same_layer}
use Rattle.mpw_job.specs.Layers.{Coverage}
use Rattle.mpw_job.proofs.Tests.{same_from, same_as}
use Rattle.mpw_columns_keys.specs.Columns.{across}
use Rattle.mpw_columns.specs.declared.leaf.Banded.{Banded}
use Rattle.mpw_columns.specs.Internal.Bands.{banded_on, IsBanded, layer_of, HasSquaresOf, AreBandsOf}
use Rattle.mpw_columns.specs.Internal.Found.{AddsFirst, AddsFound, IsLook, AgreeIn}
use Rattle.mpw_columns.proofs.Agreeing.{found_agree, agree_back}

-- ---- looking for a layer

abbrev on_first : Layer → Banded → Squares → Squares
on_first layer b rest = cond (same_layer b.layer layer) (covers b.boxes.items) rest

pub found_here : (bs : List Banded) (n : ℕ) (b : Banded) (layer : Layer) → n < length bs
    → b ≡ get_or bs n b → banded_on (drop n bs) layer ≡ banded_on bs layer
    → same_layer b.layer layer ≡ true → covers b.boxes.items ≡ banded_on bs layer
found_here bs n b layer lt is h e =
    ap (λ (t : Bool). cond t (covers b.boxes.items) (banded_on (drop (n + 1) bs) layer)) (sym e)
    ∙ ap (λ (x : Banded). on_first layer x (banded_on (drop (n + 1) bs) layer)) is
    ∙ sym (at_drop_more (λ xs. banded_on xs layer) bs n b lt) ∙ h

pub found_later : (bs : List Banded) (n : ℕ) (b : Banded) (layer : Layer) → n < length bs
    → b ≡ get_or bs n b → banded_on (drop n bs) layer ≡ banded_on bs layer
    → same_layer b.layer layer ≡ false → banded_on (drop (n + 1) bs) layer ≡ banded_on bs layer
found_later bs n b layer lt is h e =
    ap (λ (t : Bool). cond t (covers b.boxes.items) (banded_on (drop (n + 1) bs) layer)) (sym e)
    ∙ ap (λ (x : Banded). on_first layer x (banded_on (drop (n + 1) bs) layer)) is
    ∙ sym (at_drop_more (λ xs. banded_on xs layer) bs n b lt) ∙ h

-- ---- bands of all layers

pub no_bands : (on : Coverage) → AreBandsOf [] on []
no_bands on = record {
  layers_are = refl;
  each = All-nil IsBanded;
  squares = All-nil (HasSquaresOf on);
}

pub bands_more : (layers : List Layer) (on : Coverage) (n : ℕ) (d : Layer) (old new : List Banded)
    (b : Banded) → n < length layers → AreBandsOf (take n layers) on old → new ≡ old ++ b ∷ []
    → b.layer ≡ get_or layers n d → AreBands b.boxes.items
    → ((i j : ℤ) → covers b.boxes.items i j ≡ on b.layer i j)
    → AreBandsOf (take (n + 1) layers) on new
bands_more layers on n d old new b lt h e same banded squares =
    subst (AreBandsOf (take (n + 1) layers) on) (sym e) (record {
      layers_are = map_push layer_of old b ∙ ap (λ (ls : List Layer). ls ++ b.layer ∷ [])
          h.layers_are ∙ ap (λ (l : Layer). take n layers ++ l ∷ []) same
          ∙ sym (take_more layers n d lt);
      each = All-push IsBanded old b h.each banded;
      squares = All-push (HasSquaresOf on) old b h.squares squares;
    })

laid : (on : Coverage) (bs : List Banded) (layer : Layer) → All (HasSquaresOf on) bs
    → Contains (map layer_of bs) layer → banded_on bs layer ≡ on layer
laid on [] layer h c = absurd (omega (arith, c.1))
laid on (b ∷ bs) layer h c = by_test (same_layer b.layer layer) refl
    (λ there. laid on bs layer (All-tail (HasSquaresOf on) b bs h) there)
  where
    behind : same_layer b.layer layer ≡ false → Contains (map layer_of bs) layer
    behind e = elim (Contains-append_cases (b.layer ∷ []) (map layer_of bs) layer c) [
      | inl here ↦ elim (Contains-push_cases [] b.layer layer here) [
        | inl none ↦ absurd (omega (arith, none.1))
        | inr same ↦ absurd (false≢true (sym e ∙ same_as b.layer layer same))
      ]
      | inr there ↦ there
    ]

    by_test : (t : Bool) → same_layer b.layer layer ≡ t
        → (Contains (map layer_of bs) layer → banded_on bs layer ≡ on layer)
        → banded_on (b ∷ bs) layer ≡ on layer
    by_test true e rest =
        ap (λ (t : Bool). cond t (covers b.boxes.items) (banded_on bs layer)) e
        ∙ fun_ext (λ i. fun_ext (λ j. All-head (HasSquaresOf on) b bs h i j))
        ∙ ap on (same_from b.layer layer e)
    by_test false e rest =
        ap (λ (t : Bool). cond t (covers b.boxes.items) (banded_on bs layer)) e
        ∙ rest (behind e)

pub bands_agree : (layers : List Layer) (on : Coverage) (banded : List Banded) (window : Box2)
    → AreBandsOf layers on banded → AgreeIn layers window on (banded_on banded)
bands_agree layers on banded window h layer c i j l u low high =
    ap (λ (a : Squares). a i j) (sym (laid on banded layer h.squares
    (subst (λ (ls : List Layer). Contains ls layer) (sym h.layers_are) c)))

-- what all rules find between the bands is what they find of the squares
pub leaf_added : (rules : List Rule) (layers : List Layer) (distance : ℕ) (axis : Axis)
    (on : Coverage) (core : Box2) (banded : List Banded) (old new : List Key)
    → IsLook rules layers distance → AreBandsOf layers on banded
    → AddsFirst (length rules) rules axis (banded_on banded) core old new
    → AddsFound rules axis on core old new
leaf_added rules layers distance axis on core banded old new look h f k =
    let agree = bands_agree layers on banded (across core (distance + 1)) h in (
      λ c. elim ((f k).0 c) [
        | inl o ↦ inl o
        | inr s ↦ inr (found_agree rules layers distance axis (banded_on banded) on core k look
            (agree_back layers (across core (distance + 1)) on (banded_on banded) agree) s.1)
      ],
      λ c. elim c [
        | inl o ↦ (f k).1 (inl o)
        | inr s ↦ (f k).1 (inr (
          slice_get_within rules k.rule s.rule s.at,
          found_agree rules layers distance axis on (banded_on banded) core k look agree s,
        ))
      ],
    )
