-- The stored boxes are those of the elements at their indices.
use Rattle.std.proofs.Common.{◌≡◌, ℕ, ◌+◌, ◌<◌, List, [], ◌∷◌, ◌++◌, length, get_or, map, take, Option, Some, None, refl, sym, ap, subst, ◌∙◌}
use Rattle.std.specs.Prelude.{slice_get, unwrap_or, option_map, IsSomeAnd, MatchOption}
use Rattle.std.specs.Global.{Vec}
use Rattle.std.specs.List.{AllZip}
use Rattle.std.proofs.lemmas.Option.{slice_get-map}
use Rattle.std.proofs.lemmas.Slice.Zip.{AllZip-right}
use Rattle.std.proofs.lemmas.List.{take_more}
use Rattle.mpw_geom.specs.declared.plane.Box2.{Box2}
use Rattle.mpw_structures.specs.declared.structures.Structure.{Structure}
use Rattle.mpw_hier.specs.declared.submission.Submission.{Submission}
use Rattle.mpw_columns_contents.specs.Boxes.{AreBoxesOf, box_of}
use Rattle.mpw_columns_contents.specs.Things.{element_at}
use Rattle.mpw_columns_contents.specs.Internal.Held.{HoldsBoxes}
use Rattle.mpw_columns_contents.proofs.Layouts.{element_is}

-- one more of both lists
zip_more : {X Y : Type 0} (R : X → Y → Type 0) (xs : List X) (ys : List Y) (x : X) (y : Y)
    → AllZip R xs ys → R x y → AllZip R (xs ++ x ∷ []) (ys ++ y ∷ [])
zip_more R [] [] x y h k = (k, tt)
zip_more R [] (w ∷ ys) x y h k = absurd h
zip_more R (v ∷ xs) [] x y h k = absurd h
zip_more R (v ∷ xs) (w ∷ ys) x y h k = (h.0, zip_more R xs ys x y h.1 k)

pub held_more : (ss : List Structure) (i : ℕ) (d : Structure) (old new : List (Vec (Option Box2)))
    (boxes : Vec (Option Box2)) → i < length ss → AllZip HoldsBoxes (take i ss) old
    → new ≡ old ++ boxes ∷ [] → HoldsBoxes (get_or ss i d) boxes
    → AllZip HoldsBoxes (take (i + 1) ss) new
held_more ss i d old new boxes less h is held =
    subst (AllZip HoldsBoxes (take (i + 1) ss)) (sym is)
    (subst (λ xs. AllZip HoldsBoxes xs (old ++ boxes ∷ [])) (sym (take_more ss i d less))
    (zip_more HoldsBoxes (take i ss) old (get_or ss i d) boxes h held))

-- a list that belongs to a structure of the library
one_held : (library : List Structure) (structure place : ℕ) (b : Option Box2) (o : Option Structure)
    (boxes : Vec (Option Box2)) → IsSomeAnd o (λ s. HoldsBoxes s boxes)
    → slice_get boxes.items place ≡ Some b → box_of (element_at o place) ≡ b
one_held library structure place b None boxes h at = absurd h
one_held library structure place b (Some s) boxes h at = h place b at

pub held_are : (ss : List Submission) (s : Submission) → slice_get ss 0 ≡ Some s
    → (boxes : List (Vec (Option Box2))) → AllZip HoldsBoxes s.library boxes
    → AreBoxesOf ss (map (λ v. v.items) boxes)
held_are ss s is boxes h structure place b at =
    ap box_of (element_is ss s is structure place)
    ∙ go (slice_get boxes structure) refl (AllZip-right HoldsBoxes s.library boxes h structure)
    (subst (λ o. slice_get (unwrap_or o []) place ≡ Some b)
    (slice_get-map (λ (v : Vec (Option Box2)). v.items) boxes structure) at)
  where
    go : (o : Option (Vec (Option Box2))) → slice_get boxes structure ≡ o
        → MatchOption o (Unit {0})
        (λ v. IsSomeAnd (slice_get s.library structure) (λ x. HoldsBoxes x v))
        → slice_get (unwrap_or (option_map (λ (v : Vec (Option Box2)). v.items) o) []) place
        ≡ Some b → box_of (element_at (slice_get s.library structure) place) ≡ b
    go None e found there = absurd (let none : None ≡ Some b = there in cc)
    go (Some v) e found there =
        one_held s.library structure place b (slice_get s.library structure) v found there
