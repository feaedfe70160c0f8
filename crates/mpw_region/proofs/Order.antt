-- The order of lines and of runs.
use Rattle.std.proofs.Common.{◌≡◌, ℕ, ℤ, ◌+◌, ◌-◌, zero, suc, ◌<◌, false, List, length, get_or, sym, refl, ap, ◌∙◌, subst, inl, inr, arith}
use Rattle.std.proofs.lemmas.Int.{ints}
use Rattle.std.specs.Cmp.{IsTotalOrder}
use Rattle.std.specs.Ordering.{nat_cmp, int_cmp, ordering_then, is_lt}
use Rattle.std.specs.declared.cmp.Ordering.TheVariants.{Less, Equal}
use Rattle.std.proofs.lemmas.Cmp.{then_total, on_total, nat_cmp_total, int_cmp_total}
use Rattle.std.proofs.lemmas.Map.Lookups.{exact_unsigned, exact_signed}
use Rattle.mpw_region.specs.declared.runs.Line.{Line}
use Rattle.mpw_region.proofs.Orderings.{then_first, then_second, then_not_less, first_not_less, not_after, reversed, before_itself, chain}
use Rattle.mpw_region.specs.declared.runs.Run.{Run}
use Rattle.mpw_region.specs.Runs.{line_cmp}
use Rattle.mpw_region.specs.Internal.Order.{BeginsFirst, AreInOrder}

pub line_total : IsTotalOrder line_cmp
line_total = then_total (on_total (λ l. l.side) nat_cmp_total)
    (then_total (on_total (λ l. l.first) int_cmp_total) (on_total (λ l. l.second) int_cmp_total))

pub same_line : (a b : Line) → a.side ≡ b.side → a.first ≡ b.first → a.second ≡ b.second → a ≡ b
same_line a b e f g = ap (λ (p : ℕ × ℤ × ℤ).
    let l : Line = record { side = p.0; first = p.1; second = p.2 } in l)
    (let h : (let q : ℕ × ℤ × ℤ = (a.side, a.first, a.second) in q)
    ≡ (b.side, b.first, b.second) = cc in h)

-- lines that compare as equal are equal
pub line_tied : (a b : Line) → line_cmp a b ≡ Equal → a ≡ b
line_tied a b e =
    let rest = then_second (nat_cmp a.side b.side) _ e in
    same_line a b
    (exact_unsigned _ _ (then_first (nat_cmp a.side b.side) _ e))
    (exact_signed _ _ (then_first (int_cmp a.first b.first) _ rest))
    (exact_signed _ _ (then_second (int_cmp a.first b.first) _ rest))

-- no line comes before itself
pub line_before : (a b : Line) → line_cmp a b ≡ Less → a ≡ b → ⊥
line_before = before_itself line_cmp line_total

-- what a sort guarantees for neighbours
pub BeginsFirst-from_sort : (r s : Run)
    → is_lt (ordering_then (line_cmp s.line r.line)
    (ordering_then (int_cmp s.from r.from) (int_cmp s.to r.to))) ≡ false → BeginsFirst r s
BeginsFirst-from_sort r s e =
    elim (then_not_less (line_cmp s.line r.line) _ e) [
      | inl g ↦ inl (reversed _ (sym (line_total.antisymm s.line r.line) ∙ g))
      | inr h ↦ inr (sym (line_tied _ _ h.0), not_after _ _ (first_not_less _ _ h.1))
    ]

pub BeginsFirst-chain : (r s t : Run) → BeginsFirst r s → BeginsFirst s t → BeginsFirst r t
BeginsFirst-chain r s t p q =
    chain line_cmp line_total r.line s.line t.line (λ e f. omega (arith, ints, e, f)) p q

-- what follows for pairs at a distance, from neighbours
far : (xs : List Run) (d : Run) → ((k : ℕ) → k + 1 < length xs
    → BeginsFirst (get_or xs k d) (get_or xs (k + 1) d)) → (n i j : ℕ) → j ≡ i + 1 + n
    → j < length xs → BeginsFirst (get_or xs i d) (get_or xs j d)
far xs d h zero i j e b = subst (λ m. BeginsFirst (get_or xs i d) (get_or xs m d))
    (let g : i + 1 ≡ j = omega arith in g) (h i (omega arith))
far xs d h (suc n) i j e b =
    BeginsFirst-chain (get_or xs i d) (get_or xs (i + 1 + n) d) (get_or xs j d)
    (far xs d h n i (i + 1 + n) refl (omega arith))
    (subst (λ m. BeginsFirst (get_or xs (i + 1 + n) d) (get_or xs m d))
    (let g : i + 1 + n + 1 ≡ j = omega arith in g) (h (i + 1 + n) (omega arith)))

pub AreInOrder-from_neighbours : (xs : List Run)
    → ((k : ℕ) (d : Run) → k + 1 < length xs → BeginsFirst (get_or xs k d) (get_or xs (k + 1) d))
    → AreInOrder xs
AreInOrder-from_neighbours xs h i j d l b = far xs d (λ k. h k d) (j - i - 1) i j (omega arith) b
