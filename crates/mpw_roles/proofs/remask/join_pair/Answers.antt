-- Both numbers have their indexes.
use Rattle.std.proofs.Common.{sym}
use Rattle.mpw_roles.specs.Internal.Table.{has_number}
use Rattle.mpw_roles.proofs.MaskedLemmas.{table-front, placed, masked-more}
use Rattle.mpw_roles.proofs.BoolLemmas.{and_parts}
use Rattle.mpw_roles.proofs.remask.join_pair.Goals as goal

pub returns-in_default-clause-masked : goal.returns-in_default-clause-masked
returns-in_default-clause-masked c = λ names done table masked.
    let os = c.args.order.now in
    let p = c.args.pair.now in
    let ends = and_parts (has_number os p.senior) (has_number os p.junior)
    (table-front names done p os table).1 in
    absurd (placed os p.senior ends.0 (sym c.in_default.ensures))

pub returns-in_default-place_of-clause-masked : goal.returns-in_default-place_of-clause-masked
returns-in_default-place_of-clause-masked c = λ names done table masked.
    let os = c.args.order.now in
    let p = c.args.pair.now in
    let ends = and_parts (has_number os p.senior) (has_number os p.junior)
    (table-front names done p os table).1 in
    absurd (placed os p.junior ends.1 (sym c.in_default-place_of.ensures))

pub returns-clause-masked : goal.returns-clause-masked
returns-clause-masked c = λ names done table masked.
    masked-more names done c.args.pair.now c.args.order.now c.in-Some.above
    c.in-Some-place_of.below c.args.masks.now c.join_places.new.masks table c.in-Some.ensures
    c.in-Some-place_of.ensures c.join_places.ensures.long c.join_places.ensures.joined masked
