-- The next name is added at the end.
use Rattle.std.proofs.Common.{◌∙◌, ◌++◌, ◌∷◌, ◌<◌, [], sym, get_or, length, refl, arith}
use Rattle.std.proofs.lemmas.List.{take_more}
use Rattle.std.proofs.lemmas.Option.{get_or_from_slice_get}
use Rattle.mpw_roles.proofs.PositionLemmas.{item-there}
use Rattle.mpw_rbac.proofs.roster.names_of.Goals.{in-Some+in_ok-copy+in_ok-push, in_default}
use Rattle.mpw_rbac.proofs.roster.names_of.Goals as goal

pub loop-number-preserved : goal.loop-number-preserved
loop-number-preserved c =
    let ns = c.args.register.now in
    let i = c.loop-number.number in
    let inside : i < length ns = omega (arith, c.loop-number-test.true, c.len-number-end.ensures) in
    elim c.match-name.branch [
      | in-Some+in_ok-copy+in_ok-push w ↦
          let is = get_or_from_slice_get ns i w.in-Some.name.now [] (sym w.in-Some.ensures) in
          w.names-is ∙ w.in_ok-push.ensures.ok
          ∙ (λ t. c.loop-number.invariant t ++ (w.in_ok-copy.ensures ∙ sym is) t ∷ [])
          ∙ sym (take_more ns i [] inside)
      | in_default w ↦
          let never = w.in_default.ensures ∙ item-there ns i (get_or ns i []) [] inside refl in cc
    ]
