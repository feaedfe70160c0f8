-- The meaning of the tests of boxes' squares, and when two of them are equal.
use Rattle.std.proofs.Common.{◌≡◌, pos, List, [], ◌∷◌, get_or, map, refl, sym, subst, Decides}
use Rattle.std.specs.Prelude.{Contains}
use Rattle.std.proofs.lemmas.Bool.Decides.{Decides-by_or, Decides-like, same_from_decides}
use Rattle.std.proofs.lemmas.List.Elements.{Contains-get_or, at_from_Contains}
use Rattle.mpw_geom.specs.declared.plane.Box2.{Box2}
use Rattle.mpw_geom.specs.Plane.{Square, has_square, any_has_square}
use Rattle.mpw_geom.proofs.Tests.{SquareIn, SquareIn-from_test, test_from_SquareIn}

pub Decides-has_square : (b : Box2) (s : Square) → Decides (has_square b s) (SquareIn b s)
Decides-has_square b s = (SquareIn-from_test b s, test_from_SquareIn b s)

-- some box of the list has the square
abbrev pub SquareInSome : List Box2 → Square → Type 0
SquareInSome boxes s = (b : Box2) × Contains boxes b × SquareIn b s

-- the box of an index past the end
abbrev pub no_box : Box2
no_box = record { x0 = pos 0; y0 = pos 0; x1 = pos 0; y1 = pos 0 }

pub Decides-any_has_square : (boxes : List Box2) (s : Square)
    → Decides (any_has_square boxes s) (SquareInSome boxes s)
unfolding any_has_square
Decides-any_has_square boxes s =
    Decides-like (any_has_square boxes s)
    (λ w. (get_or boxes w.0 no_box, Contains-get_or boxes w.0 no_box w.1, w.2 no_box))
    (λ h. let at = at_from_Contains boxes h.0 h.1 in
    (at.0, at.1, λ d. subst (λ b. SquareIn b s) (sym (at.2 d)) h.2))
    (Decides-by_or (λ b. has_square b s) (λ b. SquareIn b s) (λ bs. any_has_square bs s)
    (λ b. Decides-has_square b s) refl (λ _ _. refl) boxes)

-- two lists that have the same squares
pub any_has_square-same : (xs ys : List Box2) (s t : Square)
    → (SquareInSome xs s → SquareInSome ys t) → (SquareInSome ys t → SquareInSome xs s)
    → any_has_square xs s ≡ any_has_square ys t
any_has_square-same xs ys s t f g =
    same_from_decides (any_has_square xs s) (any_has_square ys t) (Decides-any_has_square xs s)
    (Decides-like (any_has_square ys t) g f (Decides-any_has_square ys t))

-- if this holds for each box and its image, it holds for the lists: one has a square exactly if the other has the square's image
pub any_has_square-map : (f : Box2 → Box2) (s t : Square)
    → ((b : Box2) → has_square (f b) t ≡ has_square b s) → (boxes : List Box2)
    → any_has_square (map f boxes) t ≡ any_has_square boxes s
unfolding any_has_square
any_has_square-map f s t each [] = refl
any_has_square-map f s t each (b ∷ boxes) =
    rw (each b, any_has_square-map f s t each boxes) refl
