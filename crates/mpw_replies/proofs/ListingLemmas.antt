-- Listings of shapes: how many lines they have, and that they show what may be read.
use Rattle.std.proofs.Common.{◌≡◌, ℕ, ◌<◌, inl, inr, Bool, true, false, cond, Option, Some, None, List, [], ◌∷◌, ◌++◌, length, refl, sym, ap, ◌∙◌, arith}
use Rattle.std.specs.Prelude.{slice_get, All}
use Rattle.std.specs.List.{flat_map}
use Rattle.std.proofs.lemmas.List.{length-append}
use Rattle.std.proofs.lemmas.List.Elements.{All-head, All-tail}
use Rattle.std.proofs.lemmas.List.Sums.{sum_by-cons}
use Rattle.std.proofs.lemmas.Option.{slice_get_cases}
use Rattle.mpw_hier.specs.declared.submission.Submission.{Submission}
use Rattle.mpw_hier.specs.Items.{Item}
use Rattle.mpw_hier.specs.Shelved.{ShapesAreOfEarlier}
use Rattle.mpw_hier.specs.Values.{flat}
use Rattle.mpw_walk.specs.declared.root.Root.{Root}
use Rattle.mpw_walk.specs.Turns.{flat_roots}
use Rattle.mpw_walk.specs.Walk.{IsRoot}
use Rattle.mpw_seen.specs.Seen.{is_seen, seen_items}
use Rattle.mpw_replies.specs.Listing.{Listed, line_if, seen_line, seen_lines, IsListing}

-- ---- how many lines

-- a shape that is seen has one line
abbrev one_if : List Bool → Item → ℕ
one_if seen i = cond (is_seen (slice_get seen i.origin)) 1 0

one_line : (seen : Bool) (o : Option Submission) (item : Item) → (o ≡ None → ⊥)
    → length (line_if (λ s. seen) o item) ≡ cond seen 1 0
one_line true (Some s) item there = refl
one_line false (Some s) item there = refl
one_line true None item there = absurd (there refl)
one_line false None item there = absurd (there refl)

there_within : {X : Type 0} (xs : List X) (i : ℕ) → i < length xs → slice_get xs i ≡ None → ⊥
there_within xs i h none = elim (slice_get_cases xs i).1 [
  | inl p ↦ let e = sym p.2 ∙ none in absurd cc
  | inr p ↦ absurd (omega (arith, h, p.0))
]

-- a line for each shape that is seen, if all come from the shelf
pub lines_many : (shelf : List Submission) (seen : List Bool) (items : List Item)
    → All (λ (i : Item). i.origin < length shelf) items
    → length (seen_lines shelf seen items) ≡ seen_items seen items
unfolding seen_lines seen_items
lines_many shelf seen [] within = refl
lines_many shelf seen (item ∷ items) within =
    let on = All-head (λ (i : Item). i.origin < length shelf) item items within in
    let p = length-append (seen_line shelf seen item) (flat_map (seen_line shelf seen) items) in
    let q = one_line (is_seen (slice_get seen item.origin)) (slice_get shelf item.origin) item
    (there_within shelf item.origin on) in
    let r = lines_many shelf seen items
    (All-tail (λ (i : Item). i.origin < length shelf) item items within) in
    let t = sum_by-cons (one_if seen) item items in
    omega (arith, p, q, r, t)

-- a listing of a submission has as many lines as were counted
pub listing_is : (shelf : List Submission) (seen : List Bool) (number count : ℕ) (root : Root)
    → IsRoot shelf root → flat_roots shelf (root ∷ []) ≡ flat shelf number → ShapesAreOfEarlier
    → count ≡ seen_items seen (flat shelf number) → IsListing shelf root seen count
listing_is shelf seen number count root is shapes origins counted = record {
  root_is = is;
  count_is = counted ∙ sym (lines_many shelf seen (flat shelf number)
      (λ k d h. (origins shelf number k d h).within))
      ∙ ap (λ items. length (seen_lines shelf seen items)) (sym shapes);
}

-- ---- one more shape

pub seen_next : (shelf : List Submission) (seen : List Bool) (item : Item) (items : List Item)
    → seen_lines shelf seen (item ∷ items) ≡ seen_line shelf seen item
    ++ seen_lines shelf seen items
unfolding seen_lines
seen_next shelf seen item items = refl

pub seen_none : (shelf : List Submission) (seen : List Bool) → seen_lines shelf seen [] ≡ []
unfolding seen_lines
seen_none shelf seen = refl

-- ---- one turn of a listing

-- a shape that is seen is the next line
pub view_on : (shelf : List Submission) (seen : List Bool) (lines : List Listed) (old : List Item)
    (item : Item) (new : List Item) (view : List Listed)
    → lines ≡ seen_lines shelf seen old → old ≡ item ∷ new → view ≡ seen_line shelf seen item
    → lines ≡ view ++ seen_lines shelf seen new
view_on shelf seen lines old item new view before is seen_is =
    before ∙ ap (seen_lines shelf seen) is ∙ seen_next shelf seen item new
    ∙ ap (λ ls. ls ++ seen_lines shelf seen new) (sym seen_is)

-- after the last shape no line is left
pub view_over : (shelf : List Submission) (seen : List Bool) (lines : List Listed) (old : List Item)
    → lines ≡ seen_lines shelf seen old → old ≡ [] → lines ≡ []
view_over shelf seen lines old before none =
    before ∙ ap (seen_lines shelf seen) none ∙ seen_none shelf seen
