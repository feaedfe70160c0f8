-- What each change of the table means for its decision table.
use Rattle.std.proofs.Common.{◌≡◌, ◌<◌, true, false, length, Ok, refl}
use Rattle.std.specs.Prelude.{nat_lt}
use borrow.Author.Tests.{lt-ltb}
use Rattle.mpw_roles.specs.Hierarchy.{Name, Hierarchy, is_role, is_immediate, with_role, with_pair, without_pair, without_role}
use Rattle.mpw_roles.specs.Order.{at_least}
use Rattle.mpw_roles.specs.Rows as rows

pub add-ok : (h after : Hierarchy) (role : Name) → is_role h role ≡ false → length h < 512
    → after ≡ with_role h role → rows.add h role ≡ Ok after
add-ok h after role new room is =
    let fits : nat_lt (length h) 512 ≡ true = lt-ltb _ _ room in
    rw (new, fits, is) refl

pub remove-ok : (h after : Hierarchy) (role : Name) → is_role h role ≡ true
    → after ≡ without_role h role → rows.remove h role ≡ Ok after
remove-ok h after role there is = rw (there, is) refl

pub inherit-ok : (h after : Hierarchy) (senior junior : Name) → is_role h senior ≡ true
    → is_role h junior ≡ true → is_immediate h senior junior ≡ false
    → at_least h junior senior ≡ false → after ≡ with_pair h senior junior
    → rows.inherit h senior junior ≡ Ok after
inherit-ok h after senior junior s j new apart is = rw (s, j, new, apart, is) refl

pub uninherit-ok : (h after : Hierarchy) (senior junior : Name)
    → is_immediate h senior junior ≡ true → after ≡ without_pair h senior junior
    → rows.uninherit h senior junior ≡ Ok after
uninherit-ok h after senior junior there is = rw (there, is) refl
