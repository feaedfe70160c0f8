-- The invariants of the loops of `links_of` in `src/link.rt`.
use Rattle.std.proofs.Common.{◌≡◌, ◌++◌, length, map}
use Rattle.mpw_firm_skipping.specs.Internal.Passes.{link_of}
use Rattle.mpw_firm_skipping.specs.Structures.{links_in, links_of}
use Rattle.mpw_firm_skipping.proofs.link.links_of.Given as goal

-- with those in the remaining records these are all
abbrev pub invariant-loop-found : goal.invariant-loop-found
invariant-loop-found l =
    map link_of l.links.items ++ links_in l.text l.standing l.finds ≡ links_of l.text

abbrev pub decreases-loop-found : goal.decreases-loop-found
decreases-loop-found l = length l.finds
