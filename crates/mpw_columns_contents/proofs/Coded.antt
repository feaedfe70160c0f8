-- The code of entries doesn't depend on their position.
use Rattle.std.proofs.Common.{◌≡◌, ◌<◌, ℕ, ℤ, ◌+ℤ◌, ◌-ℤ◌, List, [], ◌∷◌, length, get_or, map, refl, sym, ap, ◌∙◌, arith}
use Rattle.std.specs.Prelude.{fold, unsigned_abs}
use Rattle.std.proofs.lemmas.Int.{ints}
use Rattle.mpw_geom.specs.Placing.{moved_point}
use Rattle.mpw_geom.specs.declared.plane.Point.{Point}
use Rattle.mpw_columns_contents.specs.declared.thing.Thing.{Thing}
use Rattle.mpw_columns_contents.specs.declared.thing.Thing.TheVariants as things
use Rattle.mpw_columns_contents.specs.Codes.{mixed, with_place, thing_code, code_of}
use Rattle.mpw_columns_contents.specs.Displaced.{place_of_thing, bare, moved_thing, AreMoved}
use Rattle.mpw_columns_contents.proofs.Moved.{place_moved, place_bare}

same_way : (x y d : ℤ) → unsigned_abs ((x +ℤ d) -ℤ (y +ℤ d)) ≡ unsigned_abs (x -ℤ y)
same_way x y d = ap unsigned_abs (let e : (x +ℤ d) -ℤ (y +ℤ d) ≡ x -ℤ y = omega (arith, ints) in e)

place_stays : (d : Point) (code : ℕ) (from at : Point)
    → with_place code (moved_point d from) (moved_point d at) ≡ with_place code from at
place_stays d code from at =
    ap (λ n. mixed (mixed code n) (unsigned_abs ((at.y +ℤ d.y) -ℤ (from.y +ℤ d.y))))
    (same_way at.x from.x d.x)
    ∙ ap (mixed (mixed code (unsigned_abs (at.x -ℤ from.x)))) (same_way at.y from.y d.y)

thing_stays : (d from : Point) (code : ℕ) (t : Thing)
    → thing_code (moved_point d from) code (moved_thing d t) ≡ thing_code from code t
thing_stays d from code (things.Shape s) =
    place_stays d (mixed (mixed code s.structure) s.element) from s.placing.by
thing_stays d from code (things.Array a) =
    place_stays d (mixed (mixed (mixed code a.structure) a.columns) a.rows) from a.first.by

things_stay : (d from : Point) (code : ℕ) (ts : List Thing)
    → fold (thing_code (moved_point d from)) code (map (moved_thing d) ts) ≡ fold (thing_code from)
    code ts
things_stay d from code [] = refl
things_stay d from code (t ∷ ts) =
    ap (λ n. fold (thing_code (moved_point d from)) n (map (moved_thing d) ts))
    (thing_stays d from code t)
    ∙ things_stay d from (thing_code from code t) ts

codes_stay : (d : Point) (ts : List Thing) → code_of (map (moved_thing d) ts) ≡ code_of ts
unfolding code_of
codes_stay d [] = refl
codes_stay d (t ∷ ts) =
    ap (λ p. fold (thing_code p) 0 (map (moved_thing d) (t ∷ ts))) (place_moved d t)
    ∙ things_stay d (place_of_thing t) 0 (t ∷ ts)

-- the area doesn't matter
thing_bare : (from : Point) (code : ℕ) (t : Thing)
    → thing_code from code (bare t) ≡ thing_code from code t
thing_bare from code (things.Shape s) = refl
thing_bare from code (things.Array a) = refl

things_bare : (from : Point) (code : ℕ) (ts : List Thing)
    → fold (thing_code from) code (map bare ts) ≡ fold (thing_code from) code ts
things_bare from code [] = refl
things_bare from code (t ∷ ts) =
    ap (λ n. fold (thing_code from) n (map bare ts)) (thing_bare from code t)
    ∙ things_bare from (thing_code from code t) ts

codes_bare : (ts : List Thing) → code_of (map bare ts) ≡ code_of ts
unfolding code_of
codes_bare [] = refl
codes_bare (t ∷ ts) =
    ap (λ p. fold (thing_code p) 0 (map bare (t ∷ ts))) (place_bare t)
    ∙ things_bare (place_of_thing t) 0 (t ∷ ts)

pub code_stays : (d : Point) (ts others : List Thing) (code : ℕ) → code ≡ code_of ts
    → AreMoved d ts others → code_of others ≡ code
code_stays d ts others code is h = sym (codes_bare others) ∙ ap code_of h ∙ codes_stay d ts ∙ sym is

pub no_code : (ts : List Thing) → length ts ≡ 0 → 0 ≡ code_of ts
unfolding code_of
no_code [] h = refl
no_code (t ∷ ts) h = absurd (omega (arith, h))

-- from the position of the first entry
pub code_is : (ts : List Thing) (x : Thing) (from : Point) (code : ℕ) → 0 < length ts
    → from ≡ place_of_thing (get_or ts 0 x)
    → code ≡ fold (thing_code from) 0 ts → code ≡ code_of ts
unfolding code_of
code_is [] x from code some first is = absurd (omega (arith, some))
code_is (t ∷ ts) x from code some first is = is ∙ ap (λ p. fold (thing_code p) 0 (t ∷ ts)) first
