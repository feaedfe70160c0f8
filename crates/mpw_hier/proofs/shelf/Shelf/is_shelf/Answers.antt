-- Answers to the goals of `Shelf::is_shelf` in `src/shelf.rt`.
use Rattle.std.proofs.Common.{◌≡◌, subst, rules}
use Rattle.mpw_hier.specs.Limits.{IsShelf}
use Rattle.mpw_hier.proofs.shelf.Shelf.is_shelf.Goals as goal

pub returns-in-Some : goal.returns-in-Some
returns-in-Some c =
    let same : c.deref.result.now ≡ c.args.self.now = search rules in
    subst IsShelf same c.is_shelf.ensures
