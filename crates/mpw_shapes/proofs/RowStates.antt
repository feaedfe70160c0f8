-- States of rows, and how they change.
use Rattle.std.proofs.Common.{◌≡◌, ◌≢◌, ◌⊎◌, inl, inr, refl, sym, ◌∙◌, ap, ℕ, ◌+ℤ◌, ◌≤ℤ◌, ◌<ℤ◌, ◌^◌, ℤ, pos, neg_ℤ, Bool, true, false, arith, rules, List, FitsSigned}
use Rattle.std.specs.Prelude.{int_lt, if◌then◌else◌}
use Rattle.std.specs.Int.{int_max, w64}
use Rattle.std.specs.Ordering.{int_eq}
use Rattle.std.proofs.lemmas.Int.{ints, clamps}
use Rattle.std.proofs.lemmas.Bool.{false_from_ne_true}
use Rattle.std.proofs.lemmas.Bool.Decides.{Decides-int_eq}
use Rattle.mpw_shapes.specs.declared.edge.Edge.{Edge}
use Rattle.mpw_shapes.specs.declared.rows.Added.{Added}
use Rattle.mpw_shapes.specs.declared.rows.Rows.{Rows}
use Rattle.mpw_shapes.specs.declared.rows.Rows.TheVariants.{Alike, Parted'}
use Rattle.mpw_shapes.specs.declared.rows.State.{State}
use Rattle.mpw_shapes.specs.Internal.Rows.{past, raised, reach, size_of, state_at, turn_of, middle}

pub same_state : (s : State) (w z : ℤ) → w ≡ s.winding → z ≡ s.since
    → ◌≡◌ {A = State} (record { winding = w; since = z }) s
same_state s w z e f = rw (e, f)

pub size_bounds : (z : ℤ) → (z ≤ℤ size_of z) × (neg_ℤ z ≤ℤ size_of z) × (pos 0 ≤ℤ size_of z)
unfolding size_of
size_bounds z =
    (omega (arith, ints, clamps), omega (arith, ints, clamps), omega (arith, ints, clamps))

pub size_sum : (a b : ℤ) → size_of (a +ℤ b) ≤ℤ (size_of a +ℤ size_of b)
unfolding size_of
size_sum a b = omega (arith, ints, clamps)

-- no row of a node has a larger winding number than its reach
pub within : (node : Rows) (rows : List ℤ) (from to : ℕ) (row : ℤ)
    → size_of (state_at node rows from to row).winding ≤ℤ reach node
unfolding raised
within (Alike s) rows from to row = omega (arith, ints)
within (Parted' p below above added gap) rows from to row =
    elim (int_lt row (Rattle.std.proofs.Common.get_or rows (middle from to) (pos 0))) as
    (λ t. size_of (raised added (if t then state_at below rows from (middle from to) row
    else state_at above rows (middle from to) to row)).winding ≤ℤ
    (size_of added.winding +ℤ int_max (reach below) (reach above))) [
      | true ↦
          let b = within below rows from (middle from to) row in
          omega (
            arith,
            ints,
            clamps,
            size_sum
                (state_at below rows from (middle from to) row).winding added.winding,
          )
      | false ↦
          let a = within above rows (middle from to) to row in
          omega (
            arith,
            ints,
            clamps,
            size_sum (state_at above rows (middle from to) to row).winding
                added.winding,
          )
    ]

pub reach_positive : (node : Rows) → pos 0 ≤ℤ reach node
reach_positive (Alike s) = (size_bounds s.winding).2
reach_positive (Parted' p below above added gap) = let b = reach_positive below in let a =
    size_bounds added.winding in omega (arith, ints, clamps, a.2)

pub added_within : (b : Added) (below above : Rows) (r : ℤ)
    → r ≡ size_of b.winding +ℤ int_max (reach below) (reach above) → size_of b.winding ≤ℤ r
added_within b below above r e = let p = reach_positive below in omega (arith, ints, clamps)

-- a winding number within a reach stays in its type
pub fits_within : (w a r : ℤ) → size_of w ≤ℤ r → (r +ℤ size_of a) <ℤ pos (2 ^ 63)
    → FitsSigned w64 (w +ℤ a)
fits_within w a r h room = let p = size_bounds w in let q = size_bounds a in
    search (
      rules,
      fits_between (w +ℤ a) (omega (arith, ints, p.0, p.1, q.0, q.1, room))
          (omega (arith, ints, p.0, p.1, q.0, q.1, room)),
    )
  where
    fits_between : (z : ℤ) → z <ℤ pos (2 ^ 63) → neg_ℤ (pos (2 ^ 63)) ≤ℤ z → FitsSigned w64 z
    fits_between z h l = search (rules, arith, ints)

pub raised_again : (n s : State) (b a p : Added) → n ≡ raised b s
    → p ≡ record { winding = b.winding +ℤ a.winding } → raised p s ≡ raised a n
unfolding raised
raised_again n s b a p e f = rw (e, f) (same_state _ _ _ (omega (arith, ints)) refl)

pub reach_again : (r m : ℤ) (b a p : Added) → r ≡ size_of b.winding +ℤ m
    → p ≡ record { winding = b.winding +ℤ a.winding }
    → (size_of p.winding +ℤ m) ≤ℤ (r +ℤ size_of a.winding)
reach_again r m b a p e f = rw (e, f) (let h = size_sum b.winding a.winding in omega (arith, ints))

pub raised_winding : (a : Added) (s : State) → (raised a s).winding ≡ s.winding +ℤ a.winding
unfolding raised
raised_winding a s = refl

pub eq_test : (a b : ℤ) → a ≡ b → int_eq a b ≡ true
eq_test a b h = (Decides-int_eq a b).1 h

pub ne_test : (a b : ℤ) → a ≢ b → int_eq a b ≡ false
ne_test a b h = false_from_ne_true (int_eq a b) (λ t. h ((Decides-int_eq a b).0 t))

-- an edge that crosses a row, by cases
pub past_opening : (e : Edge) (s after : State) (x w : ℤ) → s.winding ≡ pos 0
    → after ≡ raised (turn_of e) s → w ≡ after.winding → x ≡ e.x
    → ◌≡◌ {A = State} (record { winding = w; since = x }) (past e s)
unfolding past raised
past_opening e s after x w zero is same at = rw (same, is, at, eq_test s.winding (pos 0) zero)

pub past_closing : (e : Edge) (s after : State) (w : ℤ) → s.winding ≢ pos 0
    → after ≡ raised (turn_of e) s → w ≡ after.winding → w ≡ pos 0
    → ◌≡◌ {A = State} (record { winding = w; since = pos 0 }) (past e s)
unfolding past raised
past_closing e s after w some is same zero =
    let sum : w ≡ s.winding +ℤ (turn_of e).winding = same ∙ ap (λ (t : State). t.winding) is in
    rw (
      sum,
      ne_test s.winding (pos 0) some,
      eq_test (s.winding +ℤ (turn_of e).winding) (pos 0)
          (sym sum ∙ zero),
    )

pub past_staying : (e : Edge) (s after : State) → s.winding ≢ pos 0 → after ≡ raised (turn_of e) s
    → after.winding ≢ pos 0 → after ≡ past e s
unfolding past raised
past_staying e s after some is more =
    let sum : after.winding ≡ s.winding +ℤ (turn_of e).winding = ap (λ (t : State). t.winding) is in
    rw (
      is,
      ne_test s.winding (pos 0) some,
      ne_test (s.winding +ℤ (turn_of e).winding) (pos 0)
          (λ z. more (sum ∙ z)),
    )

pub raised_none : (s : State) → raised (record { winding = pos 0 }) s ≡ s
unfolding raised
raised_none s = same_state s _ _ (omega (arith, ints)) refl

pub size_none : size_of (pos 0) ≡ pos 0
unfolding size_of
size_none = refl
