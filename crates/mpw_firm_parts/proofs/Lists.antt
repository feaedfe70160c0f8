-- Columns and their lists, read line by line; and two lists, related place by place.
use Rattle.std.proofs.Common.{◌≡◌, ◌∙◌, ℕ, suc, ◌<◌, ◌+◌, List, [], ◌∷◌, ◌++◌, length, drop, get_or, map, Option, None, Some, refl, ap, sym, subst, append-nil, arith}
use Rattle.std.specs.List.{AllZip}
use Rattle.mpw_markers.specs.declared.marker.Key.{Key}
use Rattle.mpw_columns_keys.specs.declared.column.Column.{Column}
use Rattle.mpw_firm_parts.specs.declared.line.Listed.{Listed}
use Rattle.mpw_firm_parts.specs.Internal.Reading.{AreOf}
use Rattle.mpw_firm_parts.specs.Reading.{all_of, column_of}
use Rattle.mpw_firm_parts.proofs.AllOf.{with_front, next_of, none_of}

-- ---- place by place

pub zip_length : {X Y : Type 0} (R : X → Y → Type 0) (xs : List X) (ys : List Y) → AllZip R xs ys
    → length xs ≡ length ys
zip_length R [] [] h = refl
zip_length R [] (y ∷ ys) h = absurd h
zip_length R (x ∷ xs) [] h = absurd h
zip_length R (x ∷ xs) (y ∷ ys) h = ap suc (zip_length R xs ys h.1)

pub zip_append : {X Y : Type 0} (R : X → Y → Type 0) (xs vs : List X) (ys ws : List Y)
    → AllZip R xs ys → AllZip R vs ws → AllZip R (xs ++ vs) (ys ++ ws)
zip_append R [] vs [] ws h k = k
zip_append R [] vs (y ∷ ys) ws h k = absurd h
zip_append R (x ∷ xs) vs [] ws h k = absurd h
zip_append R (x ∷ xs) vs (y ∷ ys) ws h k = (h.0, zip_append R xs vs ys ws h.1 k)

pub zip_none : {X Y : Type 0} (R : X → Y → Type 0) (xs : List X) (ys : List Y) → xs ≡ []
    → ys ≡ [] → AllZip R xs ys
zip_none R xs ys first second =
    subst (λ vs. AllZip R vs ys) (sym first) (subst (AllZip R []) (sym second) tt)

pub zip_push : {X Y : Type 0} (R : X → Y → Type 0) (xs : List X) (ys : List Y) (x : X) (y : Y)
    → AllZip R xs ys → R x y → AllZip R (xs ++ x ∷ []) (ys ++ y ∷ [])
zip_push R xs ys x y h r = zip_append R xs (x ∷ []) ys (y ∷ []) h (r, tt)

-- those of two fronts that are as long, and those after
pub zip_parts : {X Y : Type 0} (R : X → Y → Type 0) (xs vs : List X) (ys ws : List Y)
    → length ys ≡ length xs → AllZip R (xs ++ vs) (ys ++ ws) → AllZip R xs ys × AllZip R vs ws
zip_parts R [] vs [] ws long h = (tt, h)
zip_parts R [] vs (y ∷ ys) ws long h = absurd (omega (arith, long))
zip_parts R (x ∷ xs) vs [] ws long h = absurd (omega (arith, long))
zip_parts R (x ∷ xs) vs (y ∷ ys) ws long h =
    let rest = zip_parts R xs vs ys ws (omega (arith, long)) h.1 in ((h.0, rest.0), rest.1)

pub map_push : {X Y : Type 0} (f : X → Y) (xs : List X) (x : X)
    → map f (xs ++ x ∷ []) ≡ map f xs ++ f x ∷ []
map_push f [] x = refl
map_push f (y ∷ ys) x = ap (λ zs. f y ∷ zs) (map_push f ys x)

-- ---- line by line

-- what was found so far, with what is left, is what all are; and these are its columns, and the lists of these
pub record AreFront (found left : Option (List Listed)) (columns : List Column)
    (lists : List (List Key)) : Type 0 where
  pub front : List Listed
  pub is : with_front front left ≡ found
  pub own_columns : columns ≡ map (λ (l : Listed). l.column) front
  pub own_lists : lists ≡ map (λ (l : Listed). l.keys) front

none_front : (found : Option (List Listed)) → with_front [] found ≡ found
none_front None = refl
none_front (Some ls) = refl

pub none_yet : (found : Option (List Listed)) (columns : List Column) (lists : List (List Key))
    → columns ≡ [] → lists ≡ [] → AreFront found found columns lists
none_yet found columns lists first second =
    record { front = []; is = none_front found; own_columns = first; own_lists = second }

pub one_more : (found : Option (List Listed)) (columns : List Column) (lists : List (List Key))
    (lines : List (List ℕ)) (i : ℕ) (d line : List ℕ) (l : Listed)
    → AreFront found (all_of column_of (drop i lines)) columns lists → i < length lines
    → get_or lines i d ≡ line → column_of line ≡ Some l
    → AreFront found (all_of column_of (drop (i + 1) lines)) (columns ++ l.column ∷ [])
    (lists ++ l.keys ∷ [])
one_more found columns lists lines i d line l h less at told = record {
  front = h.front ++ l ∷ [];
  is = next_of column_of h.front lines i d line l less at told ∙ h.is;
  own_columns = ap (λ (cs : List Column). cs ++ l.column ∷ []) h.own_columns
      ∙ sym (map_push (λ (l : Listed). l.column) h.front l);
  own_lists = ap (λ (ls : List (List Key)). ls ++ l.keys ∷ []) h.own_lists
      ∙ sym (map_push (λ (l : Listed). l.keys) h.front l);
}

pub no_more : (found : Option (List Listed)) (columns : List Column) (lists : List (List Key))
    (lines : List (List ℕ)) (i : ℕ) (d line : List ℕ)
    → AreFront found (all_of column_of (drop i lines)) columns lists → i < length lines
    → get_or lines i d ≡ line → column_of line ≡ None → found ≡ None
no_more found columns lists lines i d line h less at told =
    sym h.is ∙ none_of column_of h.front lines i d line less at told

pub all_found : (found : Option (List Listed)) (columns : List Column) (lists : List (List Key))
    → AreFront found (Some []) columns lists → AreOf found columns lists
all_found found columns lists h = record {
  listed = h.front;
  is = sym h.is ∙ ap (λ (ls : List Listed). Some ls) (append-nil h.front);
  own_columns = h.own_columns;
  own_lists = h.own_lists;
}
