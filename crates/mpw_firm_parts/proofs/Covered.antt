-- Columns of both axes over an extent: where those of axis V end.
use Rattle.std.proofs.Common.{◌≡◌, ◌∙◌, suc, ◌^◌, ℤ, pos, ◌+ℤ◌, ◌<ℤ◌, List, [], ◌∷◌, ◌++◌, length, take, drop, Option, None, Some, refl, sym, ap, subst, arith}
use Rattle.std.specs.Prelude.{All}
use Rattle.std.proofs.lemmas.Int.{ints}
use Rattle.std.proofs.lemmas.List.Elements.{All-head, All-tail}
use Rattle.mpw_geom.specs.declared.plane.Box2.{Box2}
use Rattle.mpw_edges.specs.declared.run.Axis.{Axis}
use Rattle.mpw_edges.specs.declared.run.Axis.TheVariants.{V, H}
use Rattle.mpw_columns_keys.specs.declared.column.Column.{Column}
use Rattle.mpw_columns_keys.specs.Columns.{seen_box, AreColumns, AreColumnsOf}
use Rattle.mpw_firm_parts.specs.Stitching.{CoverExtent}
use Rattle.mpw_firm_parts.specs.Internal.Stitching.{count_on, upright_count}

-- ---- an extent up to the last number of 64 bits has a place after it, where no column ends

ends_below : (axis : Axis) (low high : ℤ) (cs : List Column) → low <ℤ high
    → All (λ (c : Column). c.to <ℤ high) cs → AreColumns axis low high cs → ⊥
ends_below axis low high [] less below are =
    let same = are in absurd (grind (arith, ints, less, same))
ends_below axis low high (c ∷ cs) less below are =
    ends_below axis c.to high cs (All-head (λ (c : Column). c.to <ℤ high) c cs below)
    (All-tail (λ (c : Column). c.to <ℤ high) c cs below) are.3

pub too_high : (axis : Axis) (extent : Box2) (cs : List Column)
    → (seen_box axis extent).x1 ≡ pos 9223372036854775807
    → {low : ℤ} → low ≡ (seen_box axis extent).x0 → low <ℤ pos (2 ^ 63)
    → All (λ (c : Column). c.to <ℤ pos (2 ^ 63)) cs
    → AreColumnsOf axis extent cs → ⊥
too_high axis extent cs high is low below are =
    let behind : (seen_box axis extent).x1 +ℤ pos 1 ≡ pos (2 ^ 63) = ap (λ z. z +ℤ pos 1) high in
    ends_below axis (seen_box axis extent).x0 (pos (2 ^ 63)) cs
    (subst (λ z. z <ℤ pos (2 ^ 63)) is low) below
    (subst (λ z. AreColumns axis (seen_box axis extent).x0 z cs) behind are)

-- ---- how many columns are of axis V

none_upright : (low high : ℤ) (cs : List Column) → AreColumns H low high cs → upright_count cs ≡ 0
none_upright low high [] are = refl
none_upright low high (c ∷ cs) are = ap (λ a. count_on a (upright_count cs)) are.0

counted : (low high other end : ℤ) (us hs : List Column) → AreColumns V low high us
    → AreColumns H other end hs → upright_count (us ++ hs) ≡ length us
counted low high other end [] hs up over = none_upright other end hs over
counted low high other end (c ∷ us) hs up over =
    ap (λ a. count_on a (upright_count (us ++ hs))) up.0
    ∙ ap suc (counted c.to high other end us hs up.3 over)

front : (us hs : List Column) → take (length us) (us ++ hs) ≡ us
front [] hs = refl
front (c ∷ us) hs = ap (λ cs. c ∷ cs) (front us hs)

back : (us hs : List Column) → drop (length us) (us ++ hs) ≡ hs
back [] hs = refl
back (c ∷ us) hs = back us hs

all_counted : (extent : Option Box2) (us hs : List Column) → CoverExtent extent us hs
    → upright_count (us ++ hs) ≡ length us
all_counted None us hs cover =
    ap (λ cs. upright_count (cs ++ hs)) cover.0 ∙ ap upright_count cover.1
    ∙ sym (ap length cover.0)
all_counted (Some extent) us hs cover = counted _ _ _ _ us hs cover.0 cover.1

-- if columns are divided at all so that they cover the extent, they are divided there
pub divided : (extent : Option Box2) (columns us hs : List Column) → columns ≡ us ++ hs
    → CoverExtent extent us hs
    → CoverExtent extent (take (upright_count columns) columns)
    (drop (upright_count columns) columns)
divided extent columns us hs is cover =
    let at : upright_count columns ≡ length us = ap upright_count is
    ∙ all_counted extent us hs cover in
    let first : take (upright_count columns) columns ≡ us = ap (λ n. take n columns) at
    ∙ ap (take (length us)) is ∙ front us hs in
    let second : drop (upright_count columns) columns ≡ hs = ap (λ n. drop n columns) at
    ∙ ap (drop (length us)) is ∙ back us hs in
    subst (λ (cs : List Column). CoverExtent extent cs (drop (upright_count columns) columns))
    (sym first) (subst (λ (cs : List Column). CoverExtent extent us cs) (sym second) cover)
