-- The value is at the index of the name, or at the end.
use Rattle.std.proofs.Common.{◌∙◌, ◌+◌, sym, ap, is_some, [], ◌∷◌, ◌++◌, length, length-append}
use Rattle.std.specs.Prelude.{zip}
use Rattle.std.proofs.lemmas.Result.{on_ok_weaker}
use Rattle.mpw_geom.specs.Names.{name_eq, contains_name}
use Rattle.mpw_roles.proofs.PositionLemmas.{position-any}
use Rattle.mpw_rbac.proofs.RosterLemmas.{put-present, put-new}
use Rattle.mpw_rbac.proofs.roster.put.Goals as goal

pub returns-in-Some-clause-put : goal.returns-in-Some-clause-put
returns-in-Some-clause-put c = put-present c.args.names.now c.args.values.now.items c.args.user.now
    c.args.value c.in-Some.number c.requires c.in-Some.ensures.number

pub push-requires-2 : goal.push-requires-2
push-requires-2 c = ap (contains_name c.args.names.now) c.in_ok-copy.ensures
    ∙ sym (ap is_some c.in_default.ensures.number
    ∙ position-any (name_eq c.args.user.now) c.args.names.now)

pub returns-clause-put : goal.returns-clause-put
returns-clause-put c =
    let ns = c.args.names.now in
    let user = c.args.user.now in
    on_ok_weaker c.push-2.result (λ named.
    (λ i. zip ((named ∙ ap (λ n. ns ++ n ∷ []) c.in_ok-copy.ensures) i)
    (c.in_ok-push.ensures.items i))
    ∙ put-new ns c.args.values.now.items user c.args.value c.requires
    (sym (ap is_some c.in_default.ensures.number ∙ position-any (name_eq user) ns)))
    c.push-2.ensures.ok

pub returns-clause-long : goal.returns-clause-long
returns-clause-long c =
    let ns = c.args.names.now in
    let us = c.args.values.now.items in
    on_ok_weaker c.push-2.result (λ named.
    ap length named ∙ length-append ns (c.in_ok-copy.field-0 ∷ [])
    ∙ ap (λ n. n + 1) c.requires
    ∙ sym (ap length c.in_ok-push.ensures.items ∙ length-append us (c.args.value ∷ [])))
    c.push-2.ensures.ok
