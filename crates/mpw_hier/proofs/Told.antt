-- Sizes that represent totals.
use Rattle.std.proofs.Common.{◌≡◌, ℕ, zero, suc, ◌+◌, ◌*◌, ◌^◌, ◌<◌, ◌≤◌, min, max, List, [], ◌∷◌, length, All, inl, inr, refl, ap, sym, subst, ◌∙◌, arith}
use Rattle.std.proofs.Math.Nat.{mul-le-mul_left}
use Rattle.std.specs.Prelude.{nat_lt}
use Rattle.std.proofs.lemmas.Bool.{cases_lt}
use Rattle.std.proofs.lemmas.Bool.Decides.{nat_tests}
use Rattle.std.proofs.lemmas.List.Elements.{All-nil, All-cons}
use Rattle.mpw_structures.specs.declared.element.Reference.{Reference}
use Rattle.mpw_hier.specs.declared.size.Size.{Size}
use Rattle.mpw_hier.specs.Items.{Item}
use Rattle.mpw_hier.specs.Boxes.{hull}
use Rattle.mpw_hier.specs.Sizes.{Total, IsExtentNear, IsToldBy}
use Rattle.mpw_hier.specs.Internal.Sizes.{AreToldBy}
use Rattle.mpw_hier.specs.Internal.SizeParts.{together, array_extent, array_total}
use Rattle.mpw_hier.proofs.Nearness.{near_hull}

-- ---- counts up to a limit

pub least_sum : (limit a b : ℕ) → min limit (min limit a + min limit b) ≡ min limit (a + b)
least_sum limit a b = omega arith

least_past : (limit k n : ℕ) → limit < n → min limit (suc k * limit) ≡ min limit (suc k * n)
least_past limit k n h =
    let p : limit ≤ suc k * limit = omega arith in
    let q : suc k * limit ≤ suc k * n = mul-le-mul_left (suc k) (omega (arith, h)) in
    omega (arith, p, q)

pub least_product : (limit k n : ℕ) → min limit (k * min limit n) ≡ min limit (k * n)
least_product limit zero n = omega arith
least_product limit (suc k) n = elim (cases_lt limit n) [
  | inl h ↦ let e : min limit n ≡ limit = omega (arith, h) in rw e (least_past limit k n h)
  | inr h ↦ let e : min limit n ≡ n = omega (arith, h) in rw e refl
]

-- ---- sizes

pub told_together : (a b : Total) (s o r : Size) → IsToldBy a s → IsToldBy b o
    → r.count ≡ min (2 ^ 40 + 1) (s.count + o.count) → r.height ≡ max s.height o.height
    → r.extent ≡ hull s.extent o.extent → IsToldBy (together a b) r
told_together a b s o r p q count height extent = record {
  count = count ∙ rw (p.count, q.count) (least_sum (2 ^ 40 + 1) a.count b.count);
  height = height ∙ rw (p.height, q.height) (omega arith);
  extent = extent ∙ rw (p.extent, q.extent) refl;
  near = subst IsExtentNear (sym extent) (near_hull s.extent o.extent p.near q.near);
}

pub told_array : (r : Reference) (t : Total) (s o : Size) (h : ℕ) → IsToldBy t s
    → o.count ≡ min (2 ^ 40 + 1) (r.columns * r.rows * s.count) → h ≡ min s.height 64
    → o.height ≡ h + 1 → o.extent ≡ array_extent r s.extent → IsExtentNear o.extent
    → IsToldBy (array_total r t) o
told_array r t s o h p count least height extent near = record {
  count = count ∙ rw p.count (least_product (2 ^ 40 + 1) (r.columns * r.rows) t.count);
  height = height ∙ rw (least, p.height) (omega arith);
  extent = extent ∙ ap (array_extent r) p.extent;
  near = near;
}

-- ---- what a caller reads from a size

-- a number that is capped at one more than a limit is beyond that limit, or beyond a lesser one, exactly if the number itself is
pub told_limit : (limit most told n : ℕ) → most ≤ limit → told ≡ min (limit + 1) n
    → nat_lt most n ≡ nat_lt most told
told_limit limit most told n le e = grind (arith, nat_tests)

-- a size for each name, none of which is out of bounds
pub told_length : (items : List ℕ → List Item) (heights : List ℕ → ℕ) (names : List (List ℕ))
    (sizes : List Size) → AreToldBy items heights names sizes → length sizes ≡ length names
told_length items heights [] [] h = refl
told_length items heights [] (s ∷ ss) h = absurd h
told_length items heights (n ∷ ns) [] h = absurd h
told_length items heights (n ∷ ns) (s ∷ ss) h = ap suc (told_length items heights ns ss h.1)

pub told_near : (items : List ℕ → List Item) (heights : List ℕ → ℕ) (names : List (List ℕ))
    (sizes : List Size) → AreToldBy items heights names sizes
    → All (λ (s : Size). IsExtentNear s.extent) sizes
told_near items heights [] [] h = All-nil (λ (s : Size). IsExtentNear s.extent)
told_near items heights [] (s ∷ ss) h = absurd h
told_near items heights (n ∷ ns) [] h = absurd h
told_near items heights (n ∷ ns) (s ∷ ss) h =
    All-cons (λ (z : Size). IsExtentNear z.extent) s ss h.0.near (told_near items heights ns ss h.1)
