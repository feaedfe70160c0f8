-- Answers to the goals of `Own::keys_from` in `src/check.rt`.
use Rattle.std.proofs.Common.{◌≡◌, ◌∙◌, ℕ, ◌+◌, length, ap, sym, arith}
use Rattle.std.specs.List.{range_with_len}
use Rattle.std.proofs.lemmas.List.FromFn.{length-range_with_len, get_or-range_with_len}
use Rattle.mpw_columns_keys.specs.Firsts.{capped}
use Rattle.mpw_columns_keys.proofs.Room.{capped_same, counted_more, counted_all}
use Rattle.mpw_columns.specs.Internal.Counted.{keys_at}
use Rattle.mpw_columns.proofs.check.Own.keys_from.Goals as goal

pub loop-k-preserved : goal.loop-k-preserved
loop-k-preserved c =
    let lists = c.args.lists.now in
    let of = keys_at c.args.self.now.shares.now c.args.from lists in
    let many = length lists in
    let long = length-range_with_len 0 many in
    let at : c.loop-k.k ≡ 0 + c.loop-k.k = omega arith in (
      omega (arith, c.loop-k-test.true),
      counted_more of (range_with_len 0 many) c.loop-k.k 0 c.loop-k.keys c.keys_at.result
          c.saturating_add-keys.result (omega (arith, long, c.loop-k-test.true))
          c.loop-k.invariant.1 (capped_same _ _ (c.keys_at.ensures
          ∙ ap (λ (n : ℕ). capped (of n)) (at
          ∙ sym (get_or-range_with_len 0 many c.loop-k.k 0
          c.loop-k-test.true)))) c.saturating_add-keys.ensures,
    )

pub returns : goal.returns
returns c =
    let lists = c.args.lists.now in
    let long = length-range_with_len 0 (length lists) in
    counted_all (keys_at c.args.self.now.shares.now c.args.from lists)
    (range_with_len 0 (length lists)) c.loop-k.k c.loop-k.keys
    (omega (arith, long, c.loop-k-test.false)) c.loop-k.invariant.1
