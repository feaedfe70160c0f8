-- The texts of chunks, one after another.
use Rattle.std.proofs.Common.{◌≡◌, ◌∙◌, ◌++◌, ◌<◌, ℕ, List, [], ◌∷◌, Bor, map, refl, sym, ap, subst, arith}
use Rattle.std.specs.Prelude.{Ok, IfOk, max}
use Rattle.std.specs.List.{AllZip, flat_map}
use Rattle.std.specs.declared.result.Result.{Result}
use Rattle.std.proofs.lemmas.List.Concat.{flat_map-append}
use Rattle.rayon.proofs.ToStd.{chunks_of-concat, slice-AllZip}
use Rattle.rayon.specs.Lists.{chunks_of}

module _ {X T : Type 0} (E : Type 0) (line : X → List ℕ) (bytes : T → List ℕ) where
  -- a text has the lines of a chunk, if it is Ok
  abbrev pub IsFor : List X → Result T E → Type 0
  IsFor chunk result = IfOk result (λ text. bytes text ≡ flat_map line chunk)

  joined_texts : (chunks : List (List X)) (texts : List T) → AllZip IsFor chunks (map Ok texts)
      → flat_map bytes texts ≡ flat_map line (flat_map (λ chunk. chunk) chunks)
  joined_texts [] [] h = refl
  joined_texts [] (t ∷ ts) h = absurd h
  joined_texts (c ∷ cs) [] h = absurd h
  joined_texts (c ∷ cs) (t ∷ ts) h =
      ap (λ bs. bs ++ flat_map bytes ts) h.0
      ∙ ap (λ bs. flat_map line c ++ bs) (joined_texts cs ts h.1)
      ∙ sym (flat_map-append line c (flat_map (λ chunk. chunk) cs))

  -- if all are Ok, they have the lines of the whole
  pub joined : (size : ℕ) (xs : List X) (chunks : List (Bor (List X))) (results : List (Result T E))
      (texts : List T) → map (λ (chunk : Bor (List X)). chunk.now) chunks ≡ chunks_of (max size 1) xs
      → results ≡ map Ok texts → AllZip (λ (chunk : Bor (List X)) result. IsFor chunk.now result) chunks results
      → flat_map bytes texts ≡ flat_map line xs
  joined size xs chunks results texts shown all h =
      let some : 0 < max size 1 = omega arith in
      joined_texts (chunks_of (max size 1) xs) texts (subst (AllZip IsFor (chunks_of (max size 1) xs)) all
      (slice-AllZip chunks (chunks_of (max size 1) xs) shown IsFor results h))
      ∙ ap (flat_map line) (chunks_of-concat (max size 1) xs some)
