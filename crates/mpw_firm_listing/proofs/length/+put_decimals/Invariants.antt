-- The invariants of the loops of `put_decimals` in `src/length.rt`.
use Rattle.mpw_firm_listing.proofs.length.+put_decimals.Given as goal

abbrev pub decreases-put_decimals : goal.decreases-put_decimals
decreases-put_decimals g l = l.left
