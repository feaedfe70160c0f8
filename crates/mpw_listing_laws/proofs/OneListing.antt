-- A book has one listing for a session.
use Rattle.std.proofs.Common.{◌≡◌, ◌∙◌, ℕ, suc, ◌<◌, List, [], ◌∷◌, ◌++◌, length, get_or, Some, refl, sym, ap, subst, arith}
use Rattle.std.specs.Prelude.{slice_get}
use Rattle.std.specs.Cmp.Lexicographic.{nat_list_cmp_total}
use Rattle.std.specs.Ordering.{ordering_reverse}
use Rattle.std.specs.declared.cmp.Ordering.{Ordering}
use Rattle.std.specs.declared.cmp.Ordering.TheVariants.{Less, Greater}
use Rattle.std.proofs.lemmas.Option.{same_Some, slice_get_within, slice_get-get_or}
use Rattle.mpw_geom.specs.Names.{name_cmp}
use Rattle.mpw_deck.specs.declared.rule.Rule.{Rule}
use Rattle.mpw_markers.specs.declared.marker.Marker.{Marker}
use Rattle.mpw_markers.proofs.Unique.{same_in_order, same_numbers}
use Rattle.mpw_roles.specs.Hierarchy.{Name}
use Rattle.mpw_replies.specs.Listing.{Listed, marker, masked}
use Rattle.mpw_listing_laws.specs.Markers.{Sight, Meets, ArePlaces, AreSoMany, TellOf, IsReadableAt, NamesMarkerAt, IsMaskedAt, HasMasked, CountsMasked, OneListing}

-- ---- indexes

places_one : (P : ℕ → Type 0) (xs ys : List ℕ) → ArePlaces P xs → ArePlaces P ys → xs ≡ ys
places_one P xs ys f g =
    same_numbers xs ys f.ascending g.ascending (λ n. (
      λ c. (g.exact n).1 ((f.exact n).0 c),
      λ c. (f.exact n).1 ((g.exact n).0 c),
    ))

so_many_one : (P : ℕ → Type 0) (n m : ℕ) → AreSoMany P n → AreSoMany P m → n ≡ m
so_many_one P n m f g =
    sym f.many ∙ ap (λ (xs : List ℕ). length xs) (places_one P f.places g.places f.are g.are)
    ∙ g.many

-- ---- lines

by_each : {X : Type 0} (xs ys : List X) → length xs ≡ length ys
    → ((k : ℕ) (x y : X) → slice_get xs k ≡ Some x → slice_get ys k ≡ Some y → x ≡ y) → xs ≡ ys
by_each [] [] e h = refl
by_each [] (y ∷ ys) e h = absurd (omega (arith, e))
by_each (x ∷ xs) [] e h = absurd (omega (arith, e))
by_each {X} (x ∷ xs) (y ∷ ys) e h =
    let first : x ≡ y = h 0 x y refl refl in
    let rest : xs ≡ ys = by_each xs ys (omega (arith, e)) (λ k a b f g. h (suc k) a b f g) in
    cc

lines_one : (P : ℕ → Type 0) (tells : ℕ → Listed → Type 0)
    → ((place : ℕ) (a b : Listed) → tells place a → tells place b → a ≡ b)
    → (xs ys : List Listed) → TellOf P tells xs → TellOf P tells ys → xs ≡ ys
lines_one P tells one xs ys f g =
    let same : f.places ≡ g.places = places_one P f.places g.places f.are g.are in
    by_each xs ys
    (f.as_many ∙ ap (λ (ps : List ℕ). length ps) same ∙ sym g.as_many)
    (λ k a b at bt.
    let within : k < length f.places =
    (let l = slice_get_within xs k a at in let n = f.as_many in omega (arith, l, n)) in
    let place = slice_get-get_or f.places k 0 within in
    one (get_or f.places k 0) a b (f.each k (get_or f.places k 0) a place at)
    (g.each k (get_or f.places k 0) b
    (ap (λ (ps : List ℕ). slice_get ps k) (sym same) ∙ place) bt))

turned : (o : Ordering) → Less ≡ ordering_reverse o → o ≡ Less → ⊥
turned o e f = let g : Less ≡ Greater = e ∙ ap ordering_reverse f in cc

never_both : (a b : Name) → name_cmp a b ≡ Less → name_cmp b a ≡ Less → ⊥
never_both a b e f =
    turned (name_cmp b a) (sym e ∙ nat_list_cmp_total.antisymm a b) f

names_one : (v : Sight) (place : ℕ) (a b : Listed) → NamesMarkerAt v place a
    → NamesMarkerAt v place b → a ≡ b
names_one v place a b f g =
    let own : f.own ≡ g.own = same_Some f.own g.own (sym f.at ∙ g.at) in
    let rule : f.rule ≡ g.rule = same_Some f.rule g.rule (sym f.of_rule
    ∙ ap (λ (m : Marker). slice_get v.rules m.key.rule) own ∙ g.of_rule) in
    let cells : f.cells ≡ g.cells =
    same_in_order (λ x y. name_cmp x y ≡ Less) never_both f.cells g.cells f.by_name g.by_name
    (λ cell. (
      λ c. (g.exact cell).1 (subst (λ (m : Marker). Meets v.shelf m cell) own
          ((f.exact cell).0 c)),
      λ c. (f.exact cell).1 (subst (λ (m : Marker). Meets v.shelf m cell) (sym own)
          ((g.exact cell).0 c)),
    )) in
    f.is ∙ ap (λ (r : Rule). marker r.name f.own.key f.cells) rule
    ∙ ap (λ (m : Marker). marker g.rule.name m.key f.cells) own
    ∙ ap (λ (cs : List Name). marker g.rule.name g.own.key cs) cells ∙ sym g.is

counts_one : (v : Sight) (place : ℕ) (a b : Listed) → CountsMasked v place a
    → CountsMasked v place b → a ≡ b
counts_one v place a b f g =
    let own : f.own ≡ g.own = same_Some f.own g.own (sym f.at ∙ g.at) in
    let number : f.number ≡ g.number =
    so_many_one (IsMaskedAt v place) f.number g.number f.many g.many in
    f.is ∙ ap (λ (r : Rule). masked r.name f.number) own
    ∙ ap (λ (n : ℕ). masked g.own.name n) number ∙ sym g.is

pub one_listing : OneListing
one_listing v a b f g =
    let full : f.full ≡ g.full = lines_one (IsReadableAt v) (NamesMarkerAt v) (names_one v)
    f.full g.full f.shown g.shown in
    let numbers : f.numbers ≡ g.numbers = lines_one (HasMasked v) (CountsMasked v) (counts_one v)
    f.numbers g.numbers f.counted g.counted in
    f.parts ∙ ap (λ (ls : List Listed). ls ++ f.numbers) full
    ∙ ap (λ (ls : List Listed). g.full ++ ls) numbers ∙ sym g.parts
