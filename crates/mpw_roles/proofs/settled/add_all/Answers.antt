-- The next name is none of those in the set.
use Rattle.std.proofs.Common.{◌≡◌, ◌∙◌, ◌+◌, ◌++◌, ◌∷◌, sym, ap, drop}
use Rattle.indexmap.specs.IndexSet.{insert_key}
use Rattle.mpw_geom.specs.Names.{name_eq}
use Rattle.mpw_roles.proofs.PlacesLemmas.{item-cons}
use Rattle.mpw_roles.proofs.RegisterLemmas.{next-inserted}
use Rattle.mpw_roles.proofs.settled.add_all.Goals as goal

pub loop-name-preserved : goal.loop-name-preserved
loop-name-preserved c =
    let i = c.loop-name.name-index in
    let rest = drop (i + 1) c.args.names.now in
    let cons : drop i c.args.names.now ≡ c.name-item.result ∷ rest =
    item-cons c.args.names.now i c.name-item.result c.loop-name-test.true c.name-item.is in
    ap (λ l. l ++ rest) (c.in_ok-insert.ensures.keys
    ∙ ap (insert_key name_eq c.loop-name.set.keys) c.in_ok-copy.ensures)
    ∙ next-inserted c.loop-name.set.keys rest _ c.name-item.result c.requires
    (ap (λ l. c.loop-name.set.keys ++ l) (sym cons) ∙ c.loop-name.invariant)
