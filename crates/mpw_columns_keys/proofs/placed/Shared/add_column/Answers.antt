-- Answers to the goals of `Shared::add_column` in `src/placed.rt`.
use Rattle.std.proofs.Common.{ℤ, w64, List, Option, map, ap, subst, rules}
use Rattle.std.proofs.lemmas.Int.{to_z-of_z}
use Rattle.std.proofs.lemmas.Result.{on_ok_weaker}
use Rattle.mpw_markers.specs.declared.marker.Key.{Key}
use Rattle.mpw_columns_keys.specs.Keys.{displaced_key}
use Rattle.mpw_columns_keys.specs.Firsts.{AddsFirst, keys_in}
use Rattle.mpw_columns_keys.specs.declared.first.First.{First}
use Rattle.mpw_columns_keys.proofs.Room.{adds_none, placed_there}
use Rattle.mpw_columns_keys.proofs.placed.Shared.add_column.Goals as goal

pub returns-in-Some : goal.returns-in-Some
returns-in-Some c =
    let keys = c.as_slice.result.now in
    let p = c.args.column.now in
    let old = c.args.together.now in
    let new = c.add_keys.new.self in
    on_ok_weaker c.add_keys.result
    (λ e. subst (λ (ks : List Key). AddsFirst ks old new)
    (placed_there c.args.self.now.firsts.now c.args.number p c.in-Some.first.now keys
    c.as_slice.ensures.value c.in-Some.ensures)
    (subst (λ (z : ℤ). AddsFirst (map (displaced_key z) keys) old new)
    (to_z-of_z w64 p.by (search rules)) e)) c.add_keys.ensures

pub returns-in-None : goal.returns-in-None
returns-in-None c =
    let old = c.args.together.now in
    subst (λ (ks : List Key). AddsFirst ks old old)
    (ap (λ (o : Option First). map (displaced_key c.args.column.now.by) (keys_in o))
    c.in-None.ensures)
    (adds_none old)
