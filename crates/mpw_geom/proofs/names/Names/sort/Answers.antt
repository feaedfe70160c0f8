-- Sorted and without repeats, the names are `by_name` of those before.
use Rattle.std.proofs.Common.{sym, ◌∙◌}
use Rattle.std.proofs.lemmas.List.Filters.{dedup_is}
use Rattle.mpw_geom.specs.Names.{name_eq}
use Rattle.mpw_geom.proofs.NamesLemmas.{by_name-sorted}
use Rattle.mpw_geom.proofs.names.Names.sort.Goals as goal

pub returns-clause-ok : goal.returns-clause-ok
returns-clause-ok c = rw (← c.self.view_is) (dedup_is name_eq _ _ c.dedup.ensures.filtered
    ∙ sym (by_name-sorted _ _ c.in_ok-sort.ensures.permutation c.in_ok-sort.ensures.sorted))
