-- Shelves: their limits, and what a later submission leaves unchanged.
use Rattle.std.proofs.Common.{◌≡◌, ℕ, ◌+◌, ◌<◌, ◌≤◌, ◌^◌, Bool, true, false, cond, inl, inr, List, [], ◌∷◌, ◌++◌, length, get_or, take, Option, Some, None, refl, sym, ap, subst, ◌∙◌, arith}
use Rattle.std.specs.Prelude.{slice_get, nat_lt}
use Rattle.std.proofs.lemmas.Bool.{cases_lt}
use Rattle.std.proofs.lemmas.Bool.Decides.{nat_tests}
use Rattle.std.proofs.lemmas.List.{length-append, get_or_append_left, get_or_past}
use Rattle.std.proofs.lemmas.Option.{slice_get_within, slice_get-get_or}
use Rattle.std.proofs.Math.Seq.{take-append_seam}
use Rattle.mpw_geom.specs.declared.plane.Box2.{Box2}
use Rattle.mpw_geom.specs.Names.{name_eq}
use Rattle.mpw_hier.specs.declared.submission.Submission.{Submission}
use Rattle.mpw_hier.specs.Structures.{itself}
use Rattle.mpw_hier.specs.Boxes.{extent_of, is_box_near}
use Rattle.mpw_hier.specs.Shelf.{present_from, present}
use Rattle.mpw_hier.specs.Sizes.{IsExtentNear}
use Rattle.mpw_hier.specs.Limits.{IsSubmitted, IsShelf}
use Rattle.mpw_hier.specs.Values.{from_first, flat_of, flats, flat, height_of, heights, height}
use Rattle.mpw_hier.specs.Shelved.{PresentAreOfTheirCell, LastIsPresent, IsLimited, ShelvesAreLimited, EarlierStay}
use Rattle.mpw_hier.proofs.Firsts.{firsts_at, firsts_earlier, firsts_length}
use Rattle.mpw_hier.proofs.Shelving.{present_push}
use Rattle.mpw_hier.proofs.Versions.{present_is}

-- ---- numbers

pub present_cells : PresentAreOfTheirCell
present_cells ss cell number e =
    let h = present_is ss cell number e in
    record { within = slice_get_within ss number h.0 h.1; submission = h.0; is = h.1; same = h.2 }

pub last_present : LastIsPresent
unfolding present
last_present ss s cell =
    let sum : 0 + length ss ≡ length ss = omega arith in
    present_push 0 ss s cell ∙ ap (λ n. cond (name_eq s.cell cell) (Some n)
    (present_from 0 ss cell)) sum

-- ---- limits

not_more : (most n : ℕ) → nat_lt most n ≡ false → n ≤ most
not_more most n e = grind (arith, nat_tests)

within_some : (ss : List Submission) (n : ℕ) → n < length ss
    → (s : Submission) × (slice_get ss n ≡ Some s)
within_some [] n h = absurd (omega (arith, h))
within_some (s ∷ ss) n h = (get_or (s ∷ ss) n s, slice_get-get_or (s ∷ ss) n s h)

-- what isn't far is near
near_top : (ss : List Submission) (s : Submission) → IsSubmitted ss s
    → IsExtentNear (extent_of (flat_of (flats ss) s))
near_top ss s w = go (extent_of (flat_of (flats ss) s)) refl
  where
    tell : (box : Box2) → extent_of (flat_of (flats ss) s) ≡ Some box → (b : Bool)
        → is_box_near box ≡ b → is_box_near box ≡ true
    tell box e true q = q
    tell box e false q =
        let outside = w.bound.externals in
        absurd (w.kept.near (record {
          structure = s.top;
          place = outside.place;
          inside = outside.found;
          below = itself;
          box = box;
          extent = e;
          far = q;
        }))

    go : (o : Option Box2) → extent_of (flat_of (flats ss) s) ≡ o → IsExtentNear o
    go None e = tt
    go (Some box) e = tell box e (is_box_near box) refl

limited_at : (ss : List Submission) → IsShelf ss → (n : ℕ) → n < length ss → IsLimited ss n
unfolding flats heights
limited_at ss w n lt =
    let s = within_some ss n lt in
    let was = w n s.0 s.1 in
    let items = firsts_at flat_of ss n s.0 [] s.1 in
    let levels = firsts_at height_of ss n s.0 0 s.1 in
    record {
      few = let small = not_more (2 ^ 40) _ was.kept.small in omega (arith, small, ap length items);
      low = let low = not_more 64 _ was.kept.low in omega (arith, low, levels);
      near = subst (λ is. IsExtentNear (extent_of is)) (sym items) (near_top (take n ss) s.0 was);
    }

limited_past : (ss : List Submission) (n : ℕ) → length ss ≤ n → IsLimited ss n
unfolding flats heights extent_of
limited_past ss n past =
    let items : flat ss n ≡ [] = get_or_past (from_first flat_of [] ss) n []
    (omega (arith, firsts_length flat_of [] ss, past)) in
    let levels : height ss n ≡ 0 = get_or_past (from_first height_of [] ss) n 0
    (omega (arith, firsts_length height_of [] ss, past)) in
    record {
      few = omega (arith, ap length items);
      low = omega (arith, levels);
      near = subst (λ is. IsExtentNear (extent_of is)) (sym items) tt;
    }

pub shelves_limited : ShelvesAreLimited
shelves_limited ss w n = elim (cases_lt n (length ss)) [
  | inl lt ↦ limited_at ss w n lt
  | inr past ↦ limited_past ss n past
]

-- ---- later submissions

-- the content of the first submissions
front_stays : {V : Type 0} (shown : List V → Submission → V) (ss later : List Submission) (n : ℕ)
    (d : V) → n < length ss → get_or (from_first shown [] (ss ++ later)) n d
    ≡ get_or (from_first shown [] ss) n d
front_stays shown ss later n d lt =
    let enough : length ss ≤ length (ss ++ later) = omega (arith, length-append ss later) in
    sym (firsts_earlier shown (ss ++ later) (length ss) n d lt enough)
    ∙ ap (λ front. get_or (from_first shown [] front) n d) (take-append_seam ss later)

get_stays : (ss later : List Submission) (n : ℕ) → n < length ss
    → slice_get (ss ++ later) n ≡ slice_get ss n
get_stays ss later n lt =
    let s = within_some ss n lt in
    let here : n < length (ss ++ later) = omega (arith, length-append ss later, lt) in
    slice_get-get_or (ss ++ later) n s.0 here
    ∙ ap (λ x. Some x) (get_or_append_left ss later s.0 n lt)
    ∙ sym (slice_get-get_or ss n s.0 lt)

pub earlier_stay : EarlierStay
unfolding flats heights
earlier_stay ss later n lt =
    let items : flat (ss ++ later) n ≡ flat ss n = front_stays flat_of ss later n [] lt in
    record {
      submission = get_stays ss later n lt;
      shapes = items;
      many = ap length items;
      levels = front_stays height_of ss later n 0 lt;
      reach = ap extent_of items;
    }
