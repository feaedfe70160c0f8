-- Answers to the goals of `stitch` in `src/stitching.rt`.
use Rattle.std.proofs.Common.{List, ap, subst, sym}
use Rattle.std.specs.Prelude.{All, Contains}
use Rattle.std.proofs.lemmas.Result.{IfOk-weaker}
use Rattle.std.proofs.lemmas.List.Sorted.{All-permutation}
use Rattle.mpw_markers.specs.declared.marker.Marker.{Marker}
use Rattle.mpw_markers.specs.Markers.{IsFilled}
use Rattle.mpw_markers.specs.Stitched.{IsListed, IsStitched}
use Rattle.mpw_markers.proofs.Gathered.{same_parts}
use Rattle.mpw_markers.proofs.Joins.{IsJoined-same}
use Rattle.mpw_markers.proofs.Referred.{seen}
use Rattle.mpw_markers.proofs.stitching.stitch.Goals as goal

pub join-requires-clause-filled : goal.join-requires-clause-filled
join-requires-clause-filled c =
    subst (λ (ms : List Marker). All IsFilled ms) (sym (ap seen c.as_slice.ensures.value))
    (All-permutation IsFilled (seen c.in_ok-all.all.items) (seen c.in_ok-all-2.all.items)
    c.in_ok-all-2.ensures.moved c.in_ok-all.ensures.filled)

pub returns : goal.returns
returns c =
    IfOk-weaker c.from_vec.result _ _
    (λ book e. subst (IsStitched c.args.lists.now) (sym e)
    (IsJoined-same (Contains (seen c.as_slice.result.now)) (IsListed c.args.lists.now)
    c.in_ok-markers.markers.items (same_parts c.args.lists.now (seen c.in_ok-all.all.items)
    (seen c.in_ok-all-2.all.items) (seen c.as_slice.result.now) c.in_ok-all.ensures.markers
    c.in_ok-all-2.ensures.moved (ap seen c.as_slice.ensures.value)) c.in_ok-markers.ensures))
    c.from_vec.ensures
