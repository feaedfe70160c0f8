-- The session at the index of the connection, or at the end.
use Rattle.std.proofs.Common.{◌≡◌, ◌∙◌, ℕ, List, Option, ap, position, slice_set}
use Rattle.mpw_rbac.specs.declared.active.Active.{Active}
use Rattle.mpw_rbac.proofs.SessionLemmas.{is_connected, put-at, put-last}
use Rattle.mpw_rbac.proofs.active.put.Goals as goal

-- the index in the slice is that in the vector
placed : (connection : ℕ) {o : Option ℕ} {es fs : List (ℕ × Active)}
    → o ≡ position (is_connected connection) es → es ≡ fs
    → o ≡ position (is_connected connection) fs
placed connection is same = is ∙ ap (position (is_connected connection)) same

pub returns-in-Some-clause-ok : goal.returns-in-Some-clause-ok
returns-in-Some-clause-ok c =
    ap (λ (e : ℕ × Active). slice_set c.args.table.now.items c.in-Some.place (e.0, c.args.active))
    c.index_mut.ensures.value
    ∙ put-at c.args.table.now.items c.args.connection c.in-Some.place c.args.active
    c.index_mut.result.now
    (placed c.args.connection c.in-Some.ensures.place c.as_slice.ensures.value)

pub returns-in_ok-push-in-None-clause-ok : goal.returns-in_ok-push-in-None-clause-ok
returns-in_ok-push-in-None-clause-ok c = c.in_ok-push-in-None.ensures.items
    ∙ put-last c.args.table.now.items c.args.connection c.args.active
    (placed c.args.connection c.in-None.ensures.place c.as_slice.ensures.value)
