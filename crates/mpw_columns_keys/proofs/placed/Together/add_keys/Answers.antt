-- Answers to the goals of `Together::add_keys` in `src/placed.rt`.
use Rattle.std.proofs.Common.{◌∙◌, ◌-◌, ℕ, ℤ, w64, map, take, length, ap, subst, rules}
use Rattle.std.proofs.lemmas.Int.{to_z-of_z}
use Rattle.mpw_columns_keys.specs.Keys.{displaced_key, of_first}
use Rattle.mpw_columns_keys.specs.Firsts.{AddsFirst}
use Rattle.mpw_columns_keys.specs.declared.placed.Together.{Together}
use Rattle.mpw_columns_keys.proofs.Room.{next_displaced, room_filled}
use Rattle.mpw_columns_keys.proofs.placed.Together.add_keys.Goals as goal

pub loop-key-preserved : goal.loop-key-preserved
loop-key-preserved c = (
  c.loop-key.invariant.0,
  next_displaced _ c.args.self.now.markers.items c.loop-key.self.markers.items c.push.new.self.items
      c.split_at.result.0.now c.loop-key.key-index _ _ c.loop-key-test.true
      c.loop-key.invariant.1 c.in_ok-push.ensures.items
      (λ i. record { key = c.displaced_key-key.ensures i; met = c.in_ok-met.ensures i }),
)

pub returns : goal.returns
returns c =
    let new : Together = record {
      markers = c.loop-key.self.markers;
      room = c.saturating_sub-self.result;
    } in
    subst (λ (z : ℤ). AddsFirst (map (displaced_key z) c.args.keys.now) c.args.self.now new)
    (to_z-of_z w64 c.args.by (search rules))
    (room_filled _ c.args.self.now c.loop-key.self c.args.keys.now c.split_at.result.0.now
    c.loop-key.key-index c.saturating_sub-self.result
    (c.split_at.ensures.front ∙ ap (λ (n : ℕ). take n c.args.keys.now) c.min.ensures)
    c.loop-key-test.false c.loop-key.invariant.1
    (c.saturating_sub-self.ensures ∙ ap (λ (n : ℕ). n - length c.args.keys.now)
    c.loop-key.invariant.0))
