-- For private functions and proofs: the structures that a walk has entered, and the invariant of its path.
use Rattle.std.specs.Prelude.{◌≡◌, ◌<◌, ◌+◌, ◌-◌, ◌*◌, ℕ, List, [], length, Some}
use Rattle.mpw_hier.specs.declared.submission.Submission.{Submission}
use Rattle.mpw_walk.specs.declared.frame.Frame.{Frame}
use Rattle.mpw_walk.specs.declared.root.Root.{Root}
use Rattle.mpw_walk.specs.declared.root.Placed.{Placed}
use Rattle.mpw_walk.specs.declared.way.Way.{Way}
use Rattle.mpw_walk.specs.declared.way.Step.{Step}
use Rattle.mpw_walk.specs.declared.way.Step.TheVariants as steps
use Rattle.mpw_walk.specs.Turns.{Walked, behind_first}
use Rattle.mpw_walk.specs.Internal.Turns.{first_given}
use Rattle.mpw_walk.specs.Way.{left_of, walked, item_of, IsPlaceable}

-- The number that falls with each step.
abbrev pub work_left : List Submission → List Root → ℕ → List Frame → ℕ
work_left ss roots root frames =
    2 * length (left_of ss roots root frames) + length frames + (length roots - root)

abbrev pub work : Way → List Frame → ℕ
work w frames = work_left w.shelf.now w.roots.now w.root frames

-- A walk has continued without giving a shape.
pub record GoesOn (old new : Walked) : Type 0 where
  pub first : first_given old.left ≡ first_given new.left
  pub behind : behind_first old.left ≡ behind_first new.left
  pub count : old.turns + length old.left ≡ new.turns + length new.left

-- A walk has given its first shape.
pub record GivesFirst (old new : Walked) (placed : Placed) : Type 0 where
  pub placeable : IsPlaceable placed
  pub first : first_given old.left ≡ Some (item_of placed)
  pub behind : behind_first old.left ≡ new.left
  pub count : old.turns + length old.left ≡ new.turns + length new.left

-- A walk is at its end.
pub record IsOver (old new : Walked) : Type 0 where
  pub none : old.left ≡ []
  pub same : new ≡ old

-- The effect of a step on a walk and on the work that is left.
abbrev pub Did : Step → Walked → ℕ → Walked → ℕ → Type 0
Did steps.On old most new less = GoesOn old new × (less < most)
Did (steps.Given placed) old most new less = GivesFirst old new placed
Did steps.Ended old most new less = IsOver old new

-- Its effect on a path with these frames.
abbrev pub Does : Step → Way → List Frame → Way → Type 0
Does step old frames new = Did step (walked old frames) (work old frames)
    (walked new new.frames.items) (work new new.frames.items)
