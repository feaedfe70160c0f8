-- Answers to the goals of `all_firsts` in `src/first.rt`.
use Rattle.std.proofs.Common.{◌∙◌, ◌+◌, ◌*◌, ℕ, List, length, take, sym, subst, arith}
use Rattle.std.specs.List.{AllZip}
use Rattle.std.proofs.lemmas.List.{take_all}
use Rattle.mpw_markers.specs.declared.marker.Key.{Key}
use Rattle.mpw_columns_keys.specs.declared.column.Column.{Column}
use Rattle.mpw_columns.specs.Internal.Firsts.{AddsFirsts, HasFirsts}
use Rattle.mpw_columns.proofs.ListingMade.{next_batch}
use Rattle.mpw_columns.proofs.first.all_firsts.Goals as goal

pub loop-reached-init : goal.loop-reached-init
loop-reached-init g c =
    let s = c.args.batches.now.layout.now.snapshot.now in (
      omega arith,
      subst (AllZip (HasFirsts s c.args.most (2 * length s.deck.rules)) (take 0 c.args.batches.now.own.now.columns.now))
          (sym c.in_ok-firsts.ensures.items) tt,
    )

pub loop-reached-preserved : goal.loop-reached-preserved
loop-reached-preserved g c =
    let s = c.args.batches.now.layout.now.snapshot.now in
    let columns = c.args.batches.now.own.now.columns.now in
    let lists = 2 * length s.deck.rules in
    let reached = c.loop-reached.reached in
    let more = c.in_ok-more.more.items in
    let next = c.in_ok-more.ensures in
    let within = next.within in
    let same = c.len-reached.ensures in
    let ok = c.in_ok-more.more.ok in
    let old = c.loop-reached.firsts.items in
    let new = c.add_firsts.new.firsts.items in
    let adds = subst (λ (n : ℕ). AddsFirsts c.args.most n more old new) c.list_count-count.ensures
    (subst (λ (each : List (List Key)). AddsFirsts c.args.most c.list_count-count.result each old new)
    c.as_slice-in-loop-reached.ensures.value c.in_ok-added.ensures) in (
      omega (arith, within, same, ok),
      subst (λ (n : ℕ). AllZip (HasFirsts s c.args.most lists) (take (reached + n) columns) new) (sym (same ∙ ok.0))
          (next_batch s c.args.most lists columns reached more old new next c.loop-reached.invariant.1 adds),
    )

pub returns : goal.returns
returns g c =
    let s = c.args.batches.now.layout.now.snapshot.now in
    let columns = c.args.batches.now.own.now.columns.now in
    subst (λ (cs : List Column). AllZip (HasFirsts s c.args.most (2 * length s.deck.rules)) cs c.loop-reached.firsts.items)
    (take_all c.loop-reached.reached columns c.loop-reached-test.false) c.loop-reached.invariant.1
