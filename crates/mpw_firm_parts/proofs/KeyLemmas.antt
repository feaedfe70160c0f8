-- A key that is read of a column is one of it.
use Rattle.std.proofs.Common.{◌≡◌, ◌&&◌, ℕ, Bool, true, false, cond, List, [], ◌∷◌, Option, None, Some, refl, arith}
use Rattle.std.specs.Prelude.{IfSome, int_le, int_lt}
use Rattle.std.proofs.lemmas.Bool.{and_parts}
use Rattle.std.proofs.lemmas.Int.{ints}
use Rattle.mpw_text.specs.Text.{number_of}
use Rattle.mpw_markers.specs.declared.marker.Key.{Key}
use Rattle.mpw_columns_keys.specs.declared.column.Column.{Column}
use Rattle.mpw_firm_parts.specs.Parts.{IsKeyOf}
use Rattle.mpw_firm_parts.specs.Reading.{edges_by, key_with, is_in_column, key_in, key_from, key_by, ◌>>=◌}

of_test : (c : Column) (k : Key) (b : Bool) → is_in_column c k ≡ b → k.piece.axis ≡ c.axis
    → IfSome (cond b (Some k) None) (IsKeyOf c)
of_test c k false e on = tt
of_test c k true e on =
    let p = and_parts (int_le c.from k.piece.x1)
    (int_lt k.piece.x1 c.to && int_lt k.piece.y0 k.piece.y1) e in
    let q = and_parts (int_lt k.piece.x1 c.to) (int_lt k.piece.y0 k.piece.y1) p.1 in
    let left = p.0 in
    let right = q.0 in
    let filled = q.1 in record {
      on_axis = on;
      left = grind (arith, ints, left);
      right = grind (arith, ints, right);
      filled = grind (arith, ints, filled);
    }

in_column : (c : Column) (k : Key) → k.piece.axis ≡ c.axis → IfSome (key_in c k) (IsKeyOf c)
unfolding key_in
in_column c k on = of_test c k (is_in_column c k) refl on

then_some : {A B : Type 0} (o : Option A) (next : A → Option B) (P : B → Type 0)
    → ((a : A) → IfSome (next a) P) → IfSome (o >>= next) P
then_some None next P each = tt
then_some (Some a) next P each = each a

from_words : (c : Column) (rule side : List ℕ) (words : List (List ℕ))
    → IfSome (key_from c rule side words) (IsKeyOf c)
unfolding key_from
from_words c rule side words =
    then_some (number_of 0 4294967295 rule) _ (IsKeyOf c) (λ r.
    then_some (number_of 0 255 side) _ (IsKeyOf c) (λ s.
    then_some (edges_by words) _ (IsKeyOf c) (λ e. in_column c (key_with c.axis r s e) refl)))

pub key_of_column : (c : Column) (words : List (List ℕ)) → IfSome (key_by c words) (IsKeyOf c)
unfolding key_by
key_of_column c [] = tt
key_of_column c (rule ∷ []) = tt
key_of_column c (rule ∷ side ∷ words) = from_words c rule side words
