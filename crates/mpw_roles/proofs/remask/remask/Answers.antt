-- At first each role has its own index. Then the pairs follow one by one.
use Rattle.std.proofs.Common.{◌≡◌, ◌∙◌, ◌+◌, ◌++◌, ◌∷◌, [], sym, subst, take, get_or, arith}
use Rattle.std.proofs.lemmas.List.{take_more}
use Rattle.mpw_roles.specs.declared.pairs.Pair.{Pair}
use Rattle.mpw_roles.specs.Internal.Table.{IsTable, entries_of}
use Rattle.mpw_roles.specs.Places.{IsMasked}
use Rattle.mpw_roles.proofs.MaskedLemmas.{masked-alone, table-take}
use Rattle.mpw_roles.proofs.remask.remask.Goals as goal

pub loop-pair-init : goal.loop-pair-init
loop-pair-init c =
    let room = c.requires.long in
    let same = c.write_all_own.ensures.long in
    record {
      masked = λ names table. masked-alone names c.args.pairs.now c.args.order.now
          c.write_all_own.new.masks table (omega (arith, room, same)) c.write_all_own.ensures.own;
      long = same;
    }

pub loop-pair-preserved : goal.loop-pair-preserved
loop-pair-preserved c =
    let ps = c.args.pairs.now in
    let os = c.args.order.now in
    let i = c.loop-pair.pair-index in
    let done = take i ps in
    let pair : Pair = get_or ps i (record { senior = 0; junior = 0 }) in
    let more : take (i + 1) ps ≡ done ++ pair ∷ [] =
    take_more ps i (record { senior = 0; junior = 0 }) c.loop-pair-test.true in
    record {
      masked = λ names table. subst (λ l. IsMasked (entries_of names l os) c.join_pair.new.masks)
          (sym more) (c.join_pair.ensures.masked names done
          (subst (λ l. IsTable names l os) more (table-take names ps os (i + 1) table))
          (c.loop-pair.invariant.masked names table));
      long = c.join_pair.ensures.same ∙ c.loop-pair.invariant.long;
    }
