-- Definitions for private functions and proofs: the markers that requests name, by the names of their rules.
use Rattle.mpw_signoff.specs.declared.named.Named.{Named as NamedLook}
use Rattle.mpw_signoff.specs.Named.{Named}

-- The named marker that a function's view shows.
abbrev pub seen_named : NamedLook → Named
seen_named n = record { place = n.place; marker = n.marker.now }
