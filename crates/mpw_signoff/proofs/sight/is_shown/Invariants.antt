-- The invariants of the loops of `is_shown` in `src/sight.rt`.
use Rattle.std.proofs.Common.{◌≡◌, slice_get, take, true}
use Rattle.std.specs.List.{list_all}
use Rattle.mpw_replies.specs.Listing.{is_seen}
use Rattle.mpw_access.specs.Seen.{seen_by}
use Rattle.mpw_signoff.proofs.sight.is_shown.Given as goal

-- the numbers so far may be seen
abbrev pub invariant-loop-number : goal.invariant-loop-number
invariant-loop-number l =
    list_all (λ number. is_seen (slice_get (seen_by l.policy l.connection l.shelf) number))
    (take l.number-index l.marker.met) ≡ true
