-- Removing a placement, and its version.
use Rattle.std.proofs.Common.{◌≡◌, ℕ, Bool, true, false, not, ◌||◌, List, [], ◌∷◌, ◌++◌, Some, None, Ok, refl, sym, ap, subst, ◌∙◌, append-nil}
use Rattle.std.specs.Prelude.{filter, slice_get}
use Rattle.std.specs.List.{list_any, find}
use Rattle.std.proofs.lemmas.List.Elements.{filter-append}
use Rattle.std.proofs.lemmas.List.Folds.{list_any-append, find-append}
use Rattle.mpw_geom.specs.declared.placing.Placing.{Placing}
use Rattle.mpw_hier.specs.declared.submission.Submission.{Submission}
use Rattle.mpw_hier.specs.Shelved.{PresentAreOfTheirCell}
use Rattle.mpw_placings.specs.declared.placement.Placement.{Placement}
use Rattle.mpw_placings.specs.Placements.{is_at, is_taken, version_of, version_placed, version_at}
use Rattle.mpw_laws.specs.PlacingLaws.{HasVersion}
use Rattle.mpw_placings.specs.Rows.{placings_with, placings_without}
use Rattle.mpw_placings.proofs.Inverted.{placement_of, placed_is}
use Rattle.mpw_placings.proofs.Tests.{is_at_itself}

-- ---- lists

-- if no item passes a test, those that don't are all of them, and none is found
all_left : {X : Type 0} (p : X → Bool) (xs : List X) → list_any p xs ≡ false
    → filter (λ x. not (p x)) xs ≡ xs
all_left p [] e = refl
all_left p (x ∷ xs) e = go (p x) refl e (all_left p xs)
  where
    go : (b : Bool) → p x ≡ b → (b || list_any p xs) ≡ false
        → (list_any p xs ≡ false → filter (λ y. not (p y)) xs ≡ xs)
        → filter (λ y. not (p y)) (x ∷ xs) ≡ x ∷ xs
    go true is e rest = absurd cc
    go false is e rest = rw is (ap (λ ys. x ∷ ys) (rest e))

none_found : {X : Type 0} (p : X → Bool) (xs : List X) → list_any p xs ≡ false → find p xs ≡ None
none_found p [] e = refl
none_found p (x ∷ xs) e = go (p x) refl e (none_found p xs)
  where
    go : (b : Bool) → p x ≡ b → (b || list_any p xs) ≡ false
        → (list_any p xs ≡ false → find p xs ≡ None) → find p (x ∷ xs) ≡ None
    go true is e rest = absurd cc
    go false is e rest = rw is (rest e)

or_last : (a b : Bool) → b ≡ true → (a || b) ≡ true
or_last true b e = refl
or_last false b e = e

any_last : {X : Type 0} (p : X → Bool) (xs : List X) (x : X) → p x ≡ true
    → list_any p (xs ++ x ∷ []) ≡ true
any_last p xs x is =
    list_any-append p xs (x ∷ []) ∙ or_last (list_any p xs) (list_any p (x ∷ [])) (rw is refl)

others_left : {X : Type 0} (p : X → Bool) (xs : List X) (x : X) → list_any p xs ≡ false → p x ≡ true
    → filter (λ y. not (p y)) (xs ++ x ∷ []) ≡ xs
others_left p xs x none is =
    let last : filter (λ y. not (p y)) (x ∷ []) ≡ [] = rw is refl in
    filter-append (λ y. not (p y)) xs (x ∷ []) ∙ rw last (append-nil (filter (λ y. not (p y)) xs))
    ∙ all_left p xs none

last_found : {X : Type 0} (p : X → Bool) (xs : List X) (x : X) → list_any p xs ≡ false → p x ≡ true
    → find p (xs ++ x ∷ []) ≡ Some x
last_found p xs x none is =
    let last : find p (x ∷ []) ≡ Some x = rw is refl in
    find-append p xs (x ∷ []) ∙ rw (none_found p xs none) last

-- ---- placings

last_taken : (ps : List Placement) (p : Placement) (cell label : List ℕ)
    → is_taken ps cell label ≡ false → is_at cell label p ≡ true
    → placings_without (ps ++ p ∷ []) cell label ≡ Ok ps
unfolding placings_without
last_taken ps p cell label new at =
    rw (any_last (is_at cell label) ps p at, others_left (is_at cell label) ps p new at) refl

pub undone : (ss : List Submission) (ps after : List Placement) (cell label : List ℕ)
    (placing : Placing) → placings_with ss ps cell label placing ≡ Ok after
    → placings_without after cell label ≡ Ok ps
undone ss ps after cell label placing e =
    let is = placed_is ss ps after cell label placing e in
    let p : Placement = placement_of cell label placing is.number in
    subst (λ (all : List Placement). placings_without all cell label ≡ Ok ps) (sym is.all)
    (last_taken ps p cell label is.new (is_at_itself cell label p refl refl))

version_is : (ss : List Submission) (ps : List Placement) (p : Placement) (s : Submission)
    (cell label : List ℕ) → find (is_at cell label) ps ≡ Some p
    → slice_get ss p.root.submission ≡ Some s → version_at ss ps cell label ≡ Some s.version
unfolding version_at
version_is ss ps p s cell label found at = ap (version_placed ss) found ∙ ap version_of at

pub place_gives_version : PresentAreOfTheirCell
    → (ss : List Submission) (ps after : List Placement) (cell label : List ℕ) (placing : Placing)
    → placings_with ss ps cell label placing ≡ Ok after → HasVersion ss after cell label
place_gives_version present_are ss ps after cell label placing e =
    let is = placed_is ss ps after cell label placing e in
    let p : Placement = placement_of cell label placing is.number in
    let of = present_are ss cell is.number is.is in
    let found : find (is_at cell label) after ≡ Some p = ap (find (is_at cell label)) is.all
    ∙ last_found (is_at cell label) ps p is.new (is_at_itself cell label p refl refl) in
    record {
      number = is.number;
      submission = of.submission;
      present_is = is.is;
      is = of.is;
      told = version_is ss after p of.submission cell label found of.is;
    }
