-- Answers to the goals of `add_firsts` in `src/first.rt`.
use Rattle.std.proofs.Common.{List, [], append-nil, sym, subst}
use Rattle.std.proofs.lemmas.List.{take_all}
use Rattle.mpw_markers.specs.declared.marker.Key.{Key}
use Rattle.mpw_columns.specs.Internal.Firsts.{AddsFirsts}
use Rattle.mpw_columns.proofs.ListingMade.{next_firsts}
use Rattle.mpw_columns.proofs.first.add_firsts.Goals as goal

pub loop-list-init : goal.loop-list-init
loop-list-init c = record { more = []; is = sym (append-nil c.args.firsts.now.items); are = tt }

pub loop-list-preserved : goal.loop-list-preserved
loop-list-preserved c =
    next_firsts c.args.most c.args.count c.args.lists.now c.loop-list.list-index c.list-item.result
    c.args.firsts.now.items c.loop-list.firsts.items c.push.new.self.items c.in_ok-column.column
    c.loop-list-test.true c.list-item.is c.loop-list.invariant c.in_ok-push.ensures.items
    c.in_ok-column.ensures

pub returns : goal.returns
returns c =
    subst (λ (each : List (List Key)). AddsFirsts c.args.most c.args.count each c.args.firsts.now.items
    c.loop-list.firsts.items) (take_all c.loop-list.list-index c.args.lists.now c.loop-list-test.false)
    c.loop-list.invariant
