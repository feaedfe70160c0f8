-- Parts that follow on one another.
use Rattle.std.proofs.Common.{◌≡◌, ◌∙◌, ◌<◌, ◌≤◌, ◌+◌, inl, inr, ℕ, zero, suc, List, [], ◌∷◌, ◌++◌, length, take, get_or, Some, refl, sym, ap, subst, arith, length-append}
use Rattle.std.specs.Prelude.{All, slice_get}
use Rattle.std.specs.List.{AllZip}
use Rattle.std.proofs.lemmas.List.{take_more}
use Rattle.std.proofs.lemmas.List.Elements.{All-head, All-tail, Contains-get_or}
use Rattle.std.proofs.lemmas.List.Sorted.{All-permutation}
use Rattle.mpw_markers.specs.declared.marker.Key.{Key}
use Rattle.mpw_columns_keys.specs.declared.column.Column.{Column}
use Rattle.mpw_firm_parts.specs.Parts.{Found}
use Rattle.mpw_firm_parts.specs.Stitching.{columns_of, lists_of, BeginsAt, FollowOn, IsFrom, EachColumnHasItsList}
use Rattle.mpw_firm_parts.proofs.Lists.{zip_append, zip_parts}

-- another part after parts
follow_more : (from : ℕ) (parts : List Found) (end : ℕ) (part : Found) → FollowOn from parts end
    → BeginsAt end part → FollowOn from (parts ++ part ∷ []) (end + length part.lists)
follow_more from [] end part so begins =
    (subst (λ n. BeginsAt n part) (sym so) begins, ap (λ n. n + length part.lists) so)
follow_more from (p ∷ parts) end part so begins =
    (so.0, follow_more (from + length p.lists) parts end part so.1 begins)

pub part_more : (parts : List Found) (i : ℕ) (part : Found) (n : ℕ) → i < length parts
    → get_or parts i part ≡ part → FollowOn 0 (take i parts) n → BeginsAt n part
    → FollowOn 0 (take (i + 1) parts) (n + length part.lists)
part_more parts i part n less at so begins =
    let taken : take (i + 1) parts ≡ take i parts ++ part ∷ [] = take_more parts i part less
    ∙ ap (λ p. take i parts ++ p ∷ []) at in
    subst (λ ps. FollowOn 0 ps (n + length part.lists)) (sym taken)
    (follow_more 0 (take i parts) n part so begins)

-- the columns so far are of the whole, and with those of the part too
pub stays_within : (count : ℕ) (part : Found) (n : ℕ) → BeginsAt n part → n ≤ count
    → part.first + length part.lists ≤ part.subject.columns → part.subject.columns ≡ count
    → n + length part.lists ≤ count
stays_within count part n (inl begins) few within own = omega (arith, begins, within, own)
stays_within count part n (inr none) few within own =
    let empty : length part.lists ≡ 0 = ap length none in omega (arith, few, empty)

-- ---- each column has its list

all_counted : (from : ℕ) (parts : List Found) (end : ℕ) → FollowOn from parts end
    → from + length (lists_of parts) ≡ end
all_counted from [] end so = omega (arith, so)
all_counted from (p ∷ parts) end so =
    let rest = all_counted (from + length p.lists) parts end so.1 in
    let counted = length-append p.lists (lists_of parts) in omega (arith, rest, counted)

zip_from : {X Y : Type 0} (R : X → Y → Type 0) (xs : List X) (ys : List Y) → length xs ≡ length ys
    → ((k : ℕ) (x : X) (y : Y) → slice_get xs k ≡ Some x → slice_get ys k ≡ Some y → R x y)
    → AllZip R xs ys
zip_from R [] [] long each = tt
zip_from R [] (y ∷ ys) long each = absurd (omega (arith, long))
zip_from R (x ∷ xs) [] long each = absurd (omega (arith, long))
zip_from R (x ∷ xs) (y ∷ ys) long each = (
  each zero x y refl refl,
  zip_from R xs ys (omega (arith, long)) (λ k v w e f. each (suc k) v w e f),
)

zip_flat : (R : Column → List Key → Type 0) (parts : List Found)
    → All (λ (part : Found). AllZip R part.columns part.lists) parts
    → AllZip R (columns_of parts) (lists_of parts)
zip_flat R [] all = tt
zip_flat R (p ∷ parts) all =
    zip_append R p.columns (columns_of parts) p.lists (lists_of parts)
    (All-head (λ (part : Found). AllZip R part.columns part.lists) p parts all)
    (zip_flat R parts (All-tail (λ (part : Found). AllZip R part.columns part.lists) p parts all))

pub each_column_has_its_list : EachColumnHasItsList
each_column_has_its_list rules parts vs hs whole long =
    let ordered = whole.ordered in
    let Own : Found → Type 0 = λ part. AllZip (IsFrom parts) part.columns part.lists in
    let own : All Own parts = λ i d less.
    let part = get_or parts i d in
    zip_from (IsFrom parts) part.columns part.lists (long i d less)
    (λ k c keys at own. (part, k, Contains-get_or parts i d less, at, own)) in
    let zipped = zip_flat (IsFrom parts) ordered
    (All-permutation Own parts ordered whole.of.reordered own) in
    let apart = zip_parts (IsFrom parts) whole.upright whole.across vs hs whole.both.counted
    (subst (λ (cs : List Column). AllZip (IsFrom parts) cs (vs ++ hs)) whole.both.columns
    (subst (λ (ls : List (List Key)). AllZip (IsFrom parts) (columns_of ordered) ls)
    whole.both.lists
    zipped)) in
    let counted = all_counted 0 ordered whole.first.subject.columns whole.of.once in
    let split = ap length whole.both.lists ∙ length-append vs hs in
    (omega (arith, counted, split), apart.0, apart.1)
