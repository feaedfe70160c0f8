-- Answers to the goals of `Table::has_room` in `src/table.rt`.
use Rattle.std.proofs.Common.{◌≡◌, Bool, true, false, ◌&&◌, ◌||◌, nat_lt, is_some, length, refl, ap, subst, ◌∙◌, rules}
use Rattle.mpw_hier.specs.Shelf.{present}
use Rattle.mpw_hier.specs.Limits.{has_room_for}
use Rattle.mpw_hier.proofs.Versions.{cells_of}
use Rattle.mpw_hier.proofs.table.Table.has_room.Goals as goal

else_room : (a b t : Bool) → a ≡ true → b ≡ false → t ≡ (a && (b || t))
else_room true false t h k = refl
else_room true true t h k = absurd cc
else_room false b t h k = absurd cc

pub returns-else-is_some : goal.returns-else-is_some
returns-else-is_some c =
    let ss = c.self.inside.submissions.items in
    let few : nat_lt (length ss) 4096 ≡ true = search rules in
    let none : is_some (present ss c.args.cell.now) ≡ false = search rules in
    let count = c.len-else-is_some.ensures.len
    ∙ cells_of c.self.inside.present ss c.len-else-is_some.ensures.ordered
    c.self.invariant.present_at in
    subst (λ xs. nat_lt c.len-else-is_some.result 1024 ≡ has_room_for xs c.args.cell.now)
    c.self.view_is (ap (λ n. nat_lt n 1024) count ∙ else_room _ _ _ few none)
