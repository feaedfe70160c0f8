-- Each marker of an answer has a row.
use Rattle.std.proofs.Common.{List, get_or}
use Rattle.std.specs.Prelude.{All}
use Rattle.std.proofs.lemmas.List.Elements.{Contains-get_or}
use Rattle.mpw_markers.specs.declared.marker.Marker.{Marker}
use Rattle.mpw_markers.specs.Markers.{IsFilled}
use Rattle.mpw_job.specs.Answers.{TileJob, Answers}

pub all_filled : (job : TileJob) (markers : List Marker) → Answers job markers → All IsFilled markers
all_filled job markers h k d l =
    (h.sound (get_or markers k d) (Contains-get_or markers k d l)).run.filled
