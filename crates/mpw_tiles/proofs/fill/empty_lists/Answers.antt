-- Answers to the goals of `empty_lists` in `src/fill.rt`.
use Rattle.std.proofs.Common.{◌≡◌, ◌∙◌, ◌+◌, ◌++◌, [], ◌∷◌, List, length, ap, subst, sym, arith}
use Rattle.std.specs.Prelude.{All}
use Rattle.std.proofs.lemmas.List.{length_push}
use Rattle.std.proofs.lemmas.List.Elements.{All-push}
use Rattle.mpw_tiles.specs.declared.listing.Rectangle.{Rectangle}
use Rattle.mpw_tiles.proofs.fill.empty_lists.Goals as goal

pub loop-tile-preserved : goal.loop-tile-preserved
loop-tile-preserved c =
    let IsEmpty = λ (w : List Rectangle). w ≡ [] in
    rw c.in_ok-push.ensures.items (
      length_push c.loop-tile.lists.items c.new.result ∙ ap (λ n. n + 1) c.loop-tile.invariant.0,
      All-push IsEmpty c.loop-tile.lists.items c.new.result c.loop-tile.invariant.1 c.new.ensures,
    )

pub returns-clause-count : goal.returns-clause-count
returns-clause-count c =
    omega (arith, c.loop-tile.invariant.0, c.loop-tile-test.false, c.loop-tile.auto.tile-end)

pub returns-clause-empty : goal.returns-clause-empty
returns-clause-empty c = c.loop-tile.invariant.1
