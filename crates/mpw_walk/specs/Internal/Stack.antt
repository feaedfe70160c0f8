-- A stack of frames as the first places of an array.
use Rattle.std.specs.Prelude.{◌≡◌, ◌≤◌, ℕ, List, Option, is_some, length, take}
use Rattle.std.specs.Option.{option_to_list}
use Rattle.std.specs.List.{flat_map, AllPass}
use Rattle.mpw_walk.specs.declared.frame.Frame.{Frame}

pub record Stack : Type 0 where
  pub items : List Frame

-- The frames in the first places, as many as are in use.
abbrev pub stack_of : List (Option Frame) → (taken : ℕ) → Stack
stack_of places taken = record { items = flat_map option_to_list (take taken places) }

-- Each place in use has a frame.
abbrev pub AreFrames : List (Option Frame) → (taken : ℕ) → Type 0
AreFrames places taken = (length places ≡ 64) × (taken ≤ 64) × AllPass is_some (take taken places)
