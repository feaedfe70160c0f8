-- A stack whose frames are in the first places of an array.
use Rattle.std.proofs.Common.{◌≡◌, ◌<◌, ◌+◌, ◌++◌, ℕ, suc, true, true≢false, List, [], ◌∷◌, length, take, Option, Some, None, refl, sym, subst, ap, ◌∙◌, arith}
use Rattle.std.specs.Prelude.{is_some, slice_set}
use Rattle.std.specs.List.{AllPass, flat_map}
use Rattle.std.specs.Option.{option_to_list}
use Rattle.std.proofs.lemmas.Grind.{flat_map-append}
use Rattle.std.proofs.lemmas.List.{take_more_set, length-set, length-take-le}
use Rattle.std.proofs.lemmas.List.Elements.{All-tail, All-push}
use Rattle.mpw_walk.specs.declared.frame.Frame.{Frame}
use Rattle.mpw_walk.specs.Internal.Stack.{Stack, stack_of, AreFrames}

as_many : {X : Type 0} (places : List (Option X)) → AllPass is_some places
    → length (flat_map option_to_list places) ≡ length places
as_many {X} [] all = refl
as_many {X} (Some x ∷ places) all =
    ap suc (as_many places (All-tail (λ (o : Option X). is_some o ≡ true) (Some x) places all))
as_many {X} (None ∷ places) all = absurd (true≢false (sym (all 0 None (omega arith))))

-- A stack with fewer frames than places.
module _ (stack : Stack) (places : List (Option Frame)) (taken : ℕ) (ok : AreFrames places taken)
    (is : stack_of places taken ≡ stack) (few : length stack.items < 64) where
  -- The place after those in use is one of the array.
  pub is_place : taken < length places
  is_place =
      let same : length (stack_of places taken).items ≡ length stack.items =
      ap (λ (s : Stack). length s.items) is in
      let many : length (stack_of places taken).items ≡ taken =
      as_many (take taken places) ok.2 ∙ length-take-le taken places (omega (arith, ok.0, ok.1)) in
      omega (arith, few, same, many, ok.0)

  -- A frame put there comes after the others.
  pub put_behind : (frame : Frame)
      → (stack_of (slice_set places taken (Some frame)) (taken + 1)).items
      ≡ stack.items ++ frame ∷ []
  put_behind frame =
      ap (λ (ps : List (Option Frame)). flat_map option_to_list ps)
      (take_more_set places taken (Some frame) is_place)
      ∙ flat_map-append (option_to_list {X = Frame}) (take taken places) (Some frame ∷ [])
      ∙ ap (λ (s : Stack). s.items ++ frame ∷ []) is

  -- Then again each place in use has a frame.
  pub all_with : (frame : Frame) → AreFrames (slice_set places taken (Some frame)) (taken + 1)
  all_with frame = (
    length-set places taken (Some frame) ∙ ok.0,
    omega (arith, is_place, ok.0),
    subst (AllPass is_some) (sym (take_more_set places taken (Some frame) is_place))
        (All-push (λ (o : Option Frame). is_some o ≡ true) (take taken places) (Some frame) ok.2 refl),
  )
