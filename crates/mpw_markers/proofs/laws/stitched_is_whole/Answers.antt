-- Answers to the goals of `stitched_is_whole` in `src/laws.rt`.
use Rattle.std.proofs.Common.{◌≡◌, true}
use Rattle.mpw_markers.proofs.Maximal.{stitched}
use Rattle.mpw_markers.proofs.laws.stitched_is_whole.Goals as goal

pub returns : goal.returns
returns c = λ steps cores has lists book a h. stitched steps cores (λ origin s. has origin s ≡ true)
    lists book a h
