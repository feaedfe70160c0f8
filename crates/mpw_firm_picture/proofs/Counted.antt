-- Markers counted by squares.
use Rattle.std.proofs.Common.{◌≡◌, ◌<◌, ◌≤◌, ◌+◌, ◌*◌, ◌^◌, ◌==◌, ℕ, Bool, true, false, cond, eqb, List, [], ◌∷◌, ◌++◌, length, get_or, map, take, eq-eqb, inl, inr, sym, ap, subst, ◌∙◌, refl, arith, rules}
use Rattle.std.specs.Prelude.{sum, min, not}
use Rattle.std.specs.List.{filter, range_with_len}
use Rattle.std.proofs.Math.ListN.{set}
use Rattle.std.proofs.lemmas.Bool.{cases_eq}
use Rattle.std.proofs.lemmas.Bool.Decides.{nat_tests}
use Rattle.std.proofs.lemmas.List.{get_or-set_same, get_or-set_other, length-take}
use Rattle.std.proofs.lemmas.List.Filters.{length-filter_more, length-filter_both}
use Rattle.std.proofs.lemmas.List.FromFn.{sum_by-map-range_with_len_more}
use Rattle.mpw_geom.specs.declared.plane.Box2.{Box2}
use Rattle.mpw_firm_picture.specs.declared.picture.Mark.{Mark}
use Rattle.mpw_firm_picture.specs.Density.{of_rule, drawn_count, cell_of, count_in, cell_count}

-- one rule more
pub drawn_more : (limit rules : ℕ) (marks : List Mark)
    → drawn_count limit (rules + 1) marks
    ≡ drawn_count limit rules marks + min (length (of_rule marks rules)) limit
drawn_more limit rules marks =
    sum_by-map-range_with_len_more (λ n. n) (λ place. min (length (of_rule marks place)) limit) 0
    rules rules (omega arith)

-- one marker more
one_more : (w : Box2) (marks : List Mark) (i : ℕ) (d : Mark) (k : ℕ) → i < length marks
    → count_in w (take (i + 1) marks) k
    ≡ count_in w (take i marks) k + cond (cell_of w (get_or marks i d) == k) 1 0
one_more w marks i d k h = length-filter_more (λ (m : Mark). cell_of w m == k) marks i d h

one_if : Bool → ℕ
one_if b = cond b 1 0

in_cell : (n k : ℕ) → n ≡ k → one_if (n == k) ≡ one_if true
unfolding one_if
in_cell n k e = ap one_if (eq-eqb n k e)

not_in_cell : (n k : ℕ) → (n ≡ k → ⊥) → one_if (n == k) ≡ one_if false
unfolding one_if
not_in_cell n k e =
    let other : (n == k) ≡ false = search (rules, nat_tests, e) in ap one_if other

-- its square has one more, and each other one as many as before
pub counted_more : (w : Box2) (marks : List Mark) (i : ℕ) (d : Mark) (counts : List ℕ) (cell count : ℕ)
    → i < length marks → cell < length counts → cell ≡ cell_of w (get_or marks i d)
    → count ≡ count_in w (take i marks) cell + 1
    → ((k : ℕ) → k < cell_count → get_or counts k 0 ≡ count_in w (take i marks) k)
    → (k : ℕ) → k < cell_count → get_or (set counts cell count) k 0 ≡ count_in w (take (i + 1) marks) k
unfolding one_if
counted_more w marks i d counts cell count h inside is more before k small =
    elim (cases_eq k cell) [
      | inl same ↦
          ap (λ n. get_or (set counts cell count) n 0) same
          ∙ get_or-set_same counts cell count 0 inside
          ∙ more
          ∙ ap (λ n. count_in w (take i marks) cell + n)
          (sym (in_cell (cell_of w (get_or marks i d)) cell (sym is)))
          ∙ sym (one_more w marks i d cell h)
          ∙ ap (λ n. count_in w (take (i + 1) marks) n) (sym same)
      | inr other ↦
          get_or-set_other counts cell k count 0 other
          ∙ before k small
          ∙ sym (one_more w marks i d k h
          ∙ ap (λ n. count_in w (take i marks) k + n)
          (not_in_cell (cell_of w (get_or marks i d)) k (λ e. other (sym e ∙ sym is)))
          ∙ omega arith)
    ]

-- no square has more than there are markers
pub few_counted : (w : Box2) (marks : List Mark) (i k : ℕ) → count_in w (take i marks) k ≤ i
few_counted w marks i k =
    omega (arith, length-filter_both (λ (m : Mark). cell_of w m == k) (λ (m : Mark). not (cell_of w m == k)) (λ x. refl) (take i marks), length-take i marks)
