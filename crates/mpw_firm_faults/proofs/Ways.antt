-- A list with at most one element.
use Rattle.std.proofs.Common.{ℕ, List, [], ◌∷◌, Option, None, Some}
use Rattle.mpw_firm_skipping.specs.declared.span.ElementSpan.{ElementSpan}

abbrev pub listed : Option ElementSpan → List ElementSpan
listed None = []
listed (Some e) = e ∷ []
