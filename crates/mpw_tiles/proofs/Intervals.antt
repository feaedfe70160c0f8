-- Consecutive intervals of one length, found by division.
use Rattle.std.proofs.Common.{◌≡◌, ℕ, ◌+◌, ◌*◌, ◌/◌, ◌≤◌, ◌<◌, ℤ, pos, ◌+ℤ◌, ◌-ℤ◌, ◌≤ℤ◌, ◌<ℤ◌, min, arith}
use Rattle.std.specs.Int.{int_max}
use Rattle.std.specs.Prelude.{unsigned_abs, ◌↔◌}
use Rattle.std.proofs.lemmas.Int.{ints, clamps}
use Rattle.std.proofs.lemmas.Nat.{le-div, div_below}
use Rattle.mpw_tiles.specs.Grid.{sides_between}

pub distance_is : (a b : ℤ) → a ≤ℤ b → pos (unsigned_abs (b -ℤ a)) ≡ b -ℤ a
distance_is a b h = omega (arith, ints)

times : (m n s : ℕ) → m ≤ n → m * s ≤ n * s
times m n s h = grind arith

below_quotient : (d s : ℕ) → 1 ≤ s → d / s * s ≤ d
below_quotient d s h = omega arith

above_quotient : (d s : ℕ) → 1 ≤ s → d < d / s * s + s
above_quotient d s h = omega arith

begins : (d s n : ℕ) → 1 ≤ s → n < d / s + 1 → n * s ≤ d
begins d s n h u =
    let p = below_quotient d s h in let q = times n (d / s) s (omega arith) in omega arith

ends : (d s n : ℕ) → 1 ≤ s → d / s ≤ n → d < n * s + s
ends d s n h u = let p = above_quotient d s h in let q = times (d / s) n s u in omega arith

only_quotient : (d s n : ℕ) → 1 ≤ s → n * s ≤ d → d < n * s + s → n ≡ d / s
only_quotient d s n h l u =
    let p = le-div n d s h l in
    let q = div_below d s (n + 1) h (omega arith) in
    omega arith

pub quotient_grows : (d e s : ℕ) → 1 ≤ s → d ≤ e → d / s ≤ e / s
quotient_grows d e s h l = le-div (d / s) e s h (let p = below_quotient d s h in omega arith)

-- the interval that division finds has the coordinate
pub found_low : (a x : ℤ) (s : ℕ) → 1 ≤ s → a ≤ℤ x → (a +ℤ pos (sides_between s a x * s)) ≤ℤ x
found_low a x s h l =
    let e = distance_is a x l in
    let p = below_quotient (unsigned_abs (x -ℤ a)) s h in
    omega (arith, ints)

pub found_high : (a x : ℤ) (s : ℕ) → 1 ≤ s → a ≤ℤ x
    → x <ℤ (a +ℤ pos (sides_between s a x * s) +ℤ pos s)
found_high a x s h l =
    let e = distance_is a x l in
    let p = above_quotient (unsigned_abs (x -ℤ a)) s h in
    omega (arith, ints)

-- and no other has it
pub found_only : (a x : ℤ) (s n : ℕ) → 1 ≤ s → (a +ℤ pos (n * s)) ≤ℤ x
    → x <ℤ (a +ℤ pos (n * s) +ℤ pos s) → n ≡ sides_between s a x
found_only a x s n h l u =
    let e = distance_is a x (omega (arith, ints)) in
    only_quotient (unsigned_abs (x -ℤ a)) s n h (omega (arith, ints)) (omega (arith, ints))

-- a coordinate up to the last is in one of the intervals that reach it
pub found_within : (a x b : ℤ) (s : ℕ) → 1 ≤ s → a ≤ℤ x → x ≤ℤ b
    → sides_between s a x < sides_between s a b + 1
found_within a x b s h l u =
    let e = distance_is a x l in
    let f = distance_is a b (omega (arith, ints)) in
    let p =
    quotient_grows (unsigned_abs (x -ℤ a)) (unsigned_abs (b -ℤ a)) s h (omega (arith, ints)) in
    omega arith

-- an interval before the last begins within
pub begins_within : (a b : ℤ) (s n : ℕ) → 1 ≤ s → a ≤ℤ b → n < sides_between s a b + 1
    → (a +ℤ pos (n * s)) ≤ℤ b
begins_within a b s n h l u =
    let e = distance_is a b l in
    let p = begins (unsigned_abs (b -ℤ a)) s n h u in
    omega (arith, ints)

-- an interval begins before `high` if it isn't after the one that has the coordinate before it
pub begins_before : (a high : ℤ) (s n : ℕ) → 1 ≤ s → a <ℤ high
    → n < sides_between s a (high -ℤ pos 1) + 1 → (a +ℤ pos (n * s)) <ℤ high
begins_before a high s n h l u =
    let p = begins_within a (high -ℤ pos 1) s n h (omega (arith, ints)) u in
    omega (arith, ints)

pub before_begins : (a high : ℤ) (s n : ℕ) → 1 ≤ s → (a +ℤ pos (n * s)) <ℤ high
    → n < sides_between s a (high -ℤ pos 1) + 1
before_begins a high s n h l =
    let e = distance_is a (high -ℤ pos 1) (omega (arith, ints)) in
    let p = le-div n (unsigned_abs (high -ℤ pos 1 -ℤ a)) s h (omega (arith, ints)) in
    omega arith

-- an interval ends after `low` if it isn't before the one that has it
pub ends_behind : (a low : ℤ) (s n : ℕ) → 1 ≤ s → a ≤ℤ low → sides_between s a low ≤ n
    → low <ℤ (a +ℤ pos (n * s) +ℤ pos s)
ends_behind a low s n h l u =
    let e = distance_is a low l in
    let p = ends (unsigned_abs (low -ℤ a)) s n h u in
    omega (arith, ints)

pub behind_ends : (a low : ℤ) (s n : ℕ) → 1 ≤ s → a ≤ℤ low → low <ℤ (a +ℤ pos (n * s) +ℤ pos s)
    → sides_between s a low ≤ n
behind_ends a low s n h l u =
    let e = distance_is a low l in
    let p = div_below (unsigned_abs (low -ℤ a)) s (n + 1) h (omega (arith, ints)) in
    omega arith

-- ---- the intervals from `first` up to before `end`

-- the interval of that number begins before `high` and ends after `low`
abbrev pub Overlaps : ℤ → ℕ → ℤ → ℤ → ℕ → Type 0
Overlaps a s low high n = ((a +ℤ pos (n * s)) <ℤ high) × (low <ℤ (a +ℤ pos (n * s) +ℤ pos s))

pub none_overlaps : (a low high : ℤ) (s n first end : ℕ) → high ≤ℤ a → end ≡ 0
    → ((first ≤ n) × (n < end)) ↔ Overlaps a s low high n
none_overlaps a low high s n first end h e =
    (λ p. absurd (let q = p.1 in omega arith), λ p. absurd (let q = p.0 in omega (arith, ints)))

pub some_overlap : (a low high : ℤ) (s count n first end : ℕ) → 1 ≤ s → n < count → a <ℤ high
    → first ≡ min (sides_between s a (int_max low a)) count
    → end ≡ min (sides_between s a (high -ℤ pos 1) + 1) count → ((first ≤ n) × (n < end))
    ↔ Overlaps a s low high n
some_overlap a low high s count n first end h u l e f = (to, from)
  where
    reached : a ≤ℤ int_max low a
    reached = omega (arith, ints, clamps)

    to : (first ≤ n) × (n < end) → Overlaps a s low high n
    to p =
        let q = begins_before a high s n h l (let k = p.1 in omega arith) in
        let r = ends_behind a (int_max low a) s n h reached (let k = p.0 in omega arith) in
        (q, omega (arith, ints, clamps))

    from : Overlaps a s low high n → (first ≤ n) × (n < end)
    from p =
        let x = p.1 in
        let q = before_begins a high s n h p.0 in
        let r = behind_ends a (int_max low a) s n h reached (omega (arith, ints, clamps)) in
        (omega arith, omega arith)
