-- One column of a row, as an edge at x is processed: U and D of the edges left of the column go up and down, of `ups`
-- and `downs` edges so far. A prime marks the values after the edge.
use Rattle.std.proofs.Common.{◌≡◌, ◌≢◌, inl, inr, refl, ℕ, ◌≤ℤ◌, ◌<ℤ◌, ℤ, Bool, true, false, not, ◌&&◌, ◌||◌, arith}
use Rattle.std.specs.Prelude.{int_lt, int_le, ◌==◌}
use Rattle.std.proofs.lemmas.Int.{ints}
use Rattle.std.proofs.lemmas.Bool.{eq-eqb, ne_eqb}
use Rattle.mpw_geom.proofs.Tests.{test_from_le, test_from_lt}
use Rattle.mpw_shapes.proofs.Counts.{cases_lt_z}

pub not_lt_test : (a b : ℤ) → b ≤ℤ a → int_lt a b ≡ false
not_lt_test a b h = grind (arith, ints)

pub not_le_test : (a b : ℤ) → b <ℤ a → int_le a b ≡ false
not_le_test a b h = grind (arith, ints)

-- the column has squares so far: the counts differ, and they are already cut off from the open interval
abbrev pub filled : ℕ → ℕ → ℕ → ℕ → ℤ → ℤ → Bool
filled U D ups downs c start = not (U == D) && ((ups == downs) || int_lt c start)

-- what is known at a column about the edge at x
pub record Passes (U D U' D' ups downs ups' downs' : ℕ) (x c : ℤ) : Type 0 where
  pub left_up : c <ℤ x → U' ≡ U
  pub left_down : c <ℤ x → D' ≡ D
  pub up : x ≤ℤ c → U ≡ ups
  pub down : x ≤ℤ c → D ≡ downs
  pub up' : x ≤ℤ c → U' ≡ ups'
  pub down' : x ≤ℤ c → D' ≡ downs'

pub filled_opening : (U D U' D' ups downs ups' downs' : ℕ) (x c start : ℤ)
    → Passes U D U' D' ups downs ups' downs' x c → ups ≡ downs → ups' ≢ downs'
    → filled U' D' ups' downs' c x ≡ filled U D ups downs c start
filled_opening U D U' D' ups downs ups' downs' x c start p e n =
    elim (cases_lt_z c x) [
      | inl lt ↦ rw (
        p.left_up lt,
        p.left_down lt,
        ne_eqb ups' downs' n,
        test_from_lt c x lt,
        eq-eqb ups downs e,
      )
      | inr le ↦ rw (
        p.up le,
        p.down le,
        p.up' le,
        p.down' le,
        ne_eqb ups' downs' n,
        not_lt_test c x le,
        eq-eqb ups downs e,
      )
    ]

pub filled_staying : (U D U' D' ups downs ups' downs' : ℕ) (x c start : ℤ)
    → Passes U D U' D' ups downs ups' downs' x c → ups ≢ downs → ups' ≢ downs' → start ≤ℤ x
    → filled U' D' ups' downs' c start ≡ filled U D ups downs c start
filled_staying U D U' D' ups downs ups' downs' x c start p m n h =
    elim (cases_lt_z c x) [
      | inl lt ↦ rw (p.left_up lt, p.left_down lt, ne_eqb ups' downs' n, ne_eqb ups downs m)
      | inr le ↦
          let out : start ≤ℤ c = omega (arith, ints) in
          rw (
            p.up le,
            p.down le,
            p.up' le,
            p.down' le,
            ne_eqb ups' downs' n,
            ne_eqb ups downs m,
            not_lt_test c start out,
          )
    ]

pub filled_closing : (U D U' D' ups downs ups' downs' : ℕ) (x c start start' : ℤ)
    → Passes U D U' D' ups downs ups' downs' x c → ups ≢ downs → ups' ≡ downs' → start ≤ℤ x
    → (start ≤ℤ c → not (U == D) ≡ true)
    → filled U' D' ups' downs' c start'
    ≡ (filled U D ups downs c start || (int_le start c && int_lt c x))
filled_closing U D U' D' ups downs ups' downs' x c start start' p m e h inside =
    elim (cases_lt_z c x) [
      | inl lt ↦
          elim (cases_lt_z c start) [
            | inl before ↦ rw (
              p.left_up lt,
              p.left_down lt,
              eq-eqb ups' downs' e,
              ne_eqb ups downs m,
              test_from_lt c start before,
              not_le_test start c before,
            )
                (or_nothing (not (U == D)))
            | inr after ↦ rw (
              p.left_up lt,
              p.left_down lt,
              eq-eqb ups' downs' e,
              ne_eqb ups downs m,
              inside after,
              not_lt_test c start after,
              test_from_le start c after,
              test_from_lt c x lt,
            )
          ]
      | inr le ↦
          let out : start ≤ℤ c = omega (arith, ints) in
          rw (
            p.up le,
            p.down le,
            p.up' le,
            p.down' le,
            eq-eqb ups' downs' e,
            ne_eqb ups downs m,
            not_lt_test c start out,
            not_lt_test c x le,
            test_from_le start c out,
          )
    ]
  where
    or_nothing : (b : Bool) → (b && true) ≡ ((b && true) || false)
    or_nothing true = refl
    or_nothing false = refl
