-- Each turn adds one holder.
use Rattle.std.proofs.Common.{◌≡◌, ◌∙◌, ◌+◌, slice_index_or, sym, ap, subst, take, map, [], ◌∷◌, ◌≤◌, length, arith}
use Rattle.std.specs.Option.{option_copied}
use Rattle.std.proofs.lemmas.Option.{slice_get-get_or}
use Rattle.mpw_geom.specs.Least.{lesser, IsLeast}
use Rattle.mpw_separation.specs.Separation.{broken_names, least_broken}
use Rattle.mpw_rbac.proofs.SessionLemmas.{active_in, active-lists}
use Rattle.mpw_rbac.proofs.HolderLemmas.{least-entry, least-all, least-nobody}
use Rattle.mpw_rbac.proofs.separation.least_dynamic.Goals as goal

pub loop-index-init : goal.loop-index-init
loop-index-init c = least-nobody c.args.roles.now c.args.sets.now.sets.dsd

pub loop-index-preserved : goal.loop-index-preserved
loop-index-preserved c =
    let h = c.args.roles.now in
    let sets = c.args.sets.now.sets.dsd in
    let es = c.args.sessions.now in
    let e = slice_index_or es c.loop-index.index c.index-sessions-index.result in
    let at = slice_get-get_or es c.loop-index.index c.index-sessions-index.result
    c.loop-index-test.true in
    let turn = least-entry active_in h sets es c.loop-index.index e
    (option_copied c.loop-index.least) at c.loop-index.invariant in
    let next : option_copied c.lesser-least.result ≡ lesser (option_copied c.loop-index.least)
    (least_broken h sets (e.1.session.active ∷ [])) =
    c.lesser-least.ensures ∙ ap (lesser (option_copied c.loop-index.least))
    (c.first_broken-broken.ensures ∙ ap (λ l. least_broken h sets (l ∷ []))
    c.as_slice.ensures) in
    subst (IsLeast (broken_names h sets (map active_in (take (c.loop-index.index + 1) es))))
    (sym next) turn

pub returns : goal.returns
returns c =
    let end : length c.args.sessions.now ≤ c.loop-index.index = omega arith in
    let all =
    least-all active_in c.args.roles.now c.args.sets.now.sets.dsd c.args.sessions.now
    c.loop-index.index (option_copied c.loop-index.least) end c.loop-index.invariant in
    all ∙ ap (least_broken c.args.roles.now c.args.sets.now.sets.dsd)
    (active-lists c.args.sessions.now)
