-- Answers to the goals of `found` in `src/find.rt`.
use Rattle.std.proofs.Common.{List, sym, subst, ◌∙◌}
use Rattle.std.specs.Prelude.{All}
use Rattle.mpw_geom.specs.Plane.{IsOrdered}
use Rattle.mpw_tiles.specs.declared.listing.Rectangle.{Rectangle}
use Rattle.mpw_markers.specs.declared.marker.Key.{Key}
use Rattle.mpw_work.specs.Internal.Found.{key_box, MeetsSome, AreMarkersOfKeys}
use Rattle.mpw_work.proofs.Adding.{boxes_ordered, answers_from}
use Rattle.mpw_work.proofs.RunsMeet.{keys_meet}
use Rattle.mpw_work.proofs.find.found.Goals as goal

pub markers_of-requires-clause-ordered : goal.markers_of-requires-clause-ordered
markers_of-requires-clause-ordered c =
    subst (λ (ks : List Key). All (λ (k : Key). IsOrdered (key_box k)) ks)
    (sym c.as_slice-2.ensures.value)
    (boxes_ordered c.args.job.now c.in_ok-keys.keys.items c.in_ok-keys.ensures)

pub markers_of-requires-clause-some : goal.markers_of-requires-clause-some
markers_of-requires-clause-some c =
    subst (λ (w : List Rectangle). All (MeetsSome w) c.as_slice-2.result.now)
    (sym (c.as_slice.ensures ∙ c.window.ensures))
    (subst (λ (ks : List Key). All (MeetsSome c.args.job.now.window) ks)
    (sym c.as_slice-2.ensures.value)
    (keys_meet c.args.job.now c.in_ok-keys.keys.items c.in_ok-keys.ensures))

pub returns : goal.returns
returns c =
    answers_from c.args.job.now c.in_ok-keys.keys.items c.in_ok-markers.markers.items
    c.in_ok-keys.ensures
    (subst (λ (w : List Rectangle). AreMarkersOfKeys w c.in_ok-keys.keys.items
    c.in_ok-markers.markers.items) (c.as_slice.ensures ∙ c.window.ensures)
    (subst (λ (ks : List Key). AreMarkersOfKeys c.as_slice.result.now ks
    c.in_ok-markers.markers.items) c.as_slice-2.ensures.value c.in_ok-markers.ensures))
