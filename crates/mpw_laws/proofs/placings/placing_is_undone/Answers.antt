-- Answers to the goals of `placing_is_undone` in `src/placings.rt`.
use Rattle.mpw_laws.proofs.Undoing.{undone, place_gives_version}
use Rattle.mpw_laws.proofs.placings.placing_is_undone.Goals as goal

pub returns : goal.returns
returns c =
    record {
      undone = undone;
      version = place_gives_version
          c.shelves_have_their_numbers.ensures.cells;
    }
