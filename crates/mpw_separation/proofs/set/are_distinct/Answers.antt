-- Answers to the goals of `are_distinct` in `src/set.rt`.
use Rattle.std.proofs.Common.{◌≡◌, List, length, nat_eq, ap, ◌∙◌}
use Rattle.mpw_geom.specs.Names.{by_name}
use Rattle.mpw_roles.specs.Hierarchy.{Name}
use Rattle.mpw_separation.proofs.FormLemmas.{as-many}
use Rattle.mpw_separation.proofs.set.are_distinct.Goals as goal

pub returns : goal.returns
returns c =
    let names : List Name = c.args.names.now in
    let sorted : c.as_slice.result.now ≡ by_name names = c.as_slice.ensures
    ∙ c.in_ok-sort.ensures.ok ∙ ap by_name c.in_ok-sorted.ensures in
    ap (λ (ns : List Name). nat_eq (length ns) (length c.as_slice-2.result.now)) sorted
    ∙ ap (λ (ns : List Name). nat_eq (length (by_name names)) (length ns)) c.as_slice-2.ensures
    ∙ as-many names
