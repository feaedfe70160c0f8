-- The lists of columns, from the results for all of them.
use Rattle.std.proofs.Common.{◌≡◌, List, [], ◌∷◌, map, subst}
use Rattle.std.specs.Prelude.{Ok, IfOk}
use Rattle.std.specs.List.{AllZip}
use Rattle.std.specs.declared.result.Result.{Result}

module _ {X Y : Type 0} (E : Type 0) (R : X → Y → Type 0) where
  -- a result is related, if it is Ok
  abbrev pub IsFor : X → Result Y E → Type 0
  IsFor x result = IfOk result (R x)

  zipped : (xs : List X) (ys : List Y) → AllZip IsFor xs (map Ok ys) → AllZip R xs ys
  zipped [] [] h = tt
  zipped [] (y ∷ ys) h = absurd h
  zipped (x ∷ xs) [] h = absurd h
  zipped (x ∷ xs) (y ∷ ys) h = (h.0, zipped xs ys h.1)

  -- if all are Ok, they are related in their order
  pub all_zipped : (xs : List X) (results : List (Result Y E)) (ys : List Y)
      → results ≡ map Ok ys → AllZip IsFor xs results → AllZip R xs ys
  all_zipped xs results ys all h = zipped xs ys (subst (AllZip IsFor xs) all h)
