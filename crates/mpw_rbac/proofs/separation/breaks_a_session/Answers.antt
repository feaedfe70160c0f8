-- Each turn tests one holder, by its mask.
use Rattle.std.proofs.Common.{◌≡◌, ◌∙◌, ℕ, Some, sym, ap, map, ◌≤◌, length, slice_index_or, arith}
use Rattle.std.specs.Prelude.{slice_get}
use Rattle.std.proofs.lemmas.Option.{slice_get-get_or}
use Rattle.std.proofs.lemmas.List.{take_all}
use Rattle.mpw_roles.specs.Hierarchy.{role_names}
use Rattle.mpw_roles.specs.Places.{is_place_of}
use Rattle.mpw_separation.specs.Placed.{IsPlaced}
use Rattle.mpw_separation.specs.Separation.{breaks, is_broken}
use Rattle.mpw_rbac.specs.declared.active.Active.{Active}
use Rattle.mpw_rbac.proofs.SessionLemmas.{active_in, active-lists}
use Rattle.mpw_rbac.proofs.HolderLemmas.{unbroken-entry, broken-entry}
use Rattle.mpw_rbac.proofs.PlacedLemmas.{acting-at}
use Rattle.mpw_rbac.proofs.separation.breaks_a_session.Goals.{After-is_broken_at}
use Rattle.mpw_rbac.proofs.separation.breaks_a_session.Goals as goal

-- the session at the index
abbrev place : After-is_broken_at → ℕ × Active
place c = slice_index_or c.args.sessions.now c.loop-index.index c.index-sessions-index.result

at : (c : After-is_broken_at) → slice_get c.args.sessions.now c.loop-index.index ≡ Some (place c)
at c = slice_get-get_or c.args.sessions.now c.loop-index.index c.index-sessions-index.result
    c.loop-index-test.true

-- the call has tested it
asked : (c : After-is_broken_at) → c.is_broken_at.result ≡ breaks c.args.roles.now
    (place c).1.session.active c.args.set.now
asked c =
    let h = c.args.roles.now in
    let own : IsPlaced (role_names h) c.args.set.now.roles c.places-own.result =
    λ q. c.places-own.ensures q ∙ ap (λ l. is_place_of (role_names h) l q) c.roles.ensures.roles in
    let below = acting-at h c.args.sessions.now c.loop-index.index (place c) (at c) c.requires in
    c.is_broken_at.ensures h (place c).1.session.active c.is_hierarchy.ensures own below

pub loop-index-preserved : goal.loop-index-preserved
loop-index-preserved c =
    let after = (goal.at.loop-index-preserved c).After-is_broken_at in
    unbroken-entry active_in c.args.roles.now c.args.set.now c.args.sessions.now c.loop-index.index
    (place after) (at after) c.loop-index.invariant (sym (asked after) ∙ c.if-is_broken_at.false)

pub returns-then-is_broken_at : goal.returns-then-is_broken_at
returns-then-is_broken_at c =
    let after = (goal.at.returns-then-is_broken_at c).After-is_broken_at in
    let es = c.args.sessions.now in
    sym (broken-entry active_in c.args.roles.now c.args.set.now es c.loop-index.index (place after)
    (at after) (sym (asked after) ∙ c.if-is_broken_at.true))
    ∙ ap (λ l. is_broken c.args.roles.now l c.args.set.now) (active-lists es)

pub returns : goal.returns
returns c =
    let end : length c.args.sessions.now ≤ c.loop-index.index = omega arith in
    let all = take_all c.loop-index.index c.args.sessions.now end in
    sym c.loop-index.invariant ∙ ap (λ es. is_broken c.args.roles.now (map active_in es)
    c.args.set.now) all ∙ ap (λ l. is_broken c.args.roles.now l c.args.set.now)
    (active-lists c.args.sessions.now)
