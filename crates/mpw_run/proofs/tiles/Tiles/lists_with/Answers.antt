-- Answers to the goals of `Tiles::lists_with` in `src/tiles.rt`.
use Rattle.std.proofs.Common.{◌≡◌, ◌<◌, ◌++◌, [], ◌∷◌, length, take, ap, ◌∙◌, arith}
use Rattle.mpw_run.specs.Run.{answers_of}
use Rattle.mpw_run.specs.Internal.Prepared.{answers_with}
use Rattle.mpw_run.proofs.TileLists.{lists_are}
use Rattle.mpw_run.proofs.tiles.Tiles.lists_with.Goals as goal

pub returns : goal.returns
returns c =
    let xs = c.as_slice-items.result.now in
    let same : xs ≡ c.args.self.now = c.as_slice-items.ensures.value ∙ c.self.view_is in
    let within : c.args.tile < length xs = omega (arith, c.requires, ap length same) in
    let before : c.add_answers.new.lists.items ≡ c.new-lists.result.items
    ++ answers_of (take c.args.tile xs) = c.in_ok-add_answers.ensures in
    let along : c.push.new.self.items ≡ c.add_answers.new.lists.items ++ c.in_ok-copy.field-0
    ∷ [] = c.in_ok-push.ensures.items in
    lists_are xs c.args.tile c.args.markers.now c.in_ok-copy.field-0 c.new-lists.result.items
    c.add_answers.new.lists.items c.push.new.self.items c.add_answers-2.new.lists.items
    within c.new-lists.ensures.items before c.in_ok-copy.ensures along c.in_ok-add_answers-2.ensures
    ∙ ap (answers_with c.args.markers.now c.args.tile) same
