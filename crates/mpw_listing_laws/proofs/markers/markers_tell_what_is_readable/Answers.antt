-- Answers to the goals of `markers_tell_what_is_readable` in `src/markers.rt`.
use Rattle.mpw_listing_laws.proofs.Handled.{markers_told}
use Rattle.mpw_listing_laws.proofs.OneListing.{one_listing}
use Rattle.mpw_listing_laws.proofs.markers.markers_tell_what_is_readable.Goals as goal

pub returns : goal.returns
returns c = record {
  told = markers_told c.args.core.now c.run_is_sound.ensures.finished;
  one = one_listing;
}
