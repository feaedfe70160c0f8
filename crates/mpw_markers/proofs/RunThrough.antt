-- A maximal run of rows that pass a test, through one of them.
use Rattle.std.proofs.Common.{◌≡◌, ℕ, ◌+◌, zero, suc, ℤ, pos, ◌-ℤ◌, ◌+ℤ◌, ◌≤ℤ◌, ◌<ℤ◌, Bool, true, false, refl, sym, subst, arith}
use Rattle.std.specs.Prelude.{unsigned_abs}
use Rattle.std.proofs.lemmas.Int.{ints, by_lt_z}

-- the rows from one on that pass, up to the first that doesn't
record IsUpTo (p : ℤ → Bool) (j top : ℤ) : Type 0 where
  pub above : j <ℤ top
  pub rows : (i : ℤ) → j ≤ℤ i → i <ℤ top → p i ≡ true
  pub stops : p top ≡ false

up_at : (p : ℤ → Bool) (j : ℤ) → p j ≡ true → (t : Bool) → p (j +ℤ pos 1) ≡ t
    → (p (j +ℤ pos 1) ≡ true → (top : ℤ) × IsUpTo p (j +ℤ pos 1) top) → (top : ℤ) × IsUpTo p j top
up_at p j h false e next = (
  j +ℤ pos 1,
  record {
    above = omega (arith, ints);
    rows = λ i g k. let same : j ≡ i = omega (arith, ints, g, k) in subst (λ (z : ℤ). p z ≡ true)
        same h;
    stops = e;
  },
)
up_at p j h true e next =
    let u = next e in
    let more = u.1.above in (
      u.0,
      record {
        above = omega (arith, ints, more);
        rows = λ i g k. by_lt_z i (j +ℤ pos 1)
            (λ low. let same : j ≡ i = omega (arith, ints, g, low) in subst (λ (z : ℤ). p z ≡ true)
            same h) (λ up. u.1.rows i up k);
        stops = u.1.stops;
      },
    )

upwards : (p : ℤ → Bool) (high : ℤ) → ((i : ℤ) → p i ≡ true → i <ℤ high) → (n : ℕ) (j : ℤ)
    → p j ≡ true → high ≤ℤ (j +ℤ pos n) → (top : ℤ) × IsUpTo p j top
upwards p high b zero j h l = let k = b j h in absurd (omega (arith, ints, k, l))
upwards p high b (suc n) j h l = up_at p j h (p (j +ℤ pos 1)) refl
    (λ e. upwards p high b n (j +ℤ pos 1) e (omega (arith, ints, l)))

-- the rows down to the first of them: those up to the last, with all rows mirrored
record IsDownTo (p : ℤ → Bool) (j low : ℤ) : Type 0 where
  pub below : low ≤ℤ j
  pub rows : (i : ℤ) → low ≤ℤ i → i ≤ℤ j → p i ≡ true
  pub stops : p (low -ℤ pos 1) ≡ false

mirrored : (ℤ → Bool) → ℤ → Bool
mirrored p i = p (pos 0 -ℤ i)

downwards : (p : ℤ → Bool) (low : ℤ) → ((i : ℤ) → p i ≡ true → low ≤ℤ i) → (n : ℕ) (j : ℤ)
    → p j ≡ true → (j -ℤ pos n) <ℤ low → (first : ℤ) × IsDownTo p j first
unfolding mirrored
downwards p low b n j h l =
    let back : (i : ℤ) → pos 0 -ℤ (pos 0 -ℤ i) ≡ i = λ i. omega (arith, ints) in
    let u = upwards (mirrored p) (pos 1 -ℤ low)
    (λ i is. let k = b (pos 0 -ℤ i) is in omega (arith, ints, k)) n (pos 0 -ℤ j)
    (subst (λ z. p z ≡ true) (sym (back j)) h) (omega (arith, ints, l)) in
    let more = u.1.above in (
      pos 1 -ℤ u.0,
      record {
        below = omega (arith, ints, more);
        rows = λ i g k. subst (λ z. p z ≡ true) (back i)
            (u.1.rows (pos 0 -ℤ i) (omega (arith, ints, k)) (omega (arith, ints, g)));
        stops = let same : pos 0 -ℤ u.0 ≡ (pos 1 -ℤ u.0) -ℤ pos 1 = omega (arith, ints) in
            subst (λ z. p z ≡ false) same u.1.stops;
      },
    )

-- a maximal run that has the row
pub record IsRunAt (p : ℤ → Bool) (j first top : ℤ) : Type 0 where
  pub low : first ≤ℤ j
  pub high : j <ℤ top
  pub rows : (i : ℤ) → first ≤ℤ i → i <ℤ top → p i ≡ true
  pub below : p (first -ℤ pos 1) ≡ false
  pub above : p top ≡ false

pub run_at : (p : ℤ → Bool) (low high j : ℤ) → ((i : ℤ) → p i ≡ true → (low ≤ℤ i) × (i <ℤ high))
    → p j ≡ true → (first : ℤ) × (top : ℤ) × IsRunAt p j first top
run_at p low high j b h =
    let in' = b j h in
    let up = upwards p high (λ i e. (b i e).1) (unsigned_abs (high -ℤ j)) j h
    (omega (arith, ints, in'.1)) in
    let down = downwards p low (λ i e. (b i e).0) (unsigned_abs (j -ℤ low) + 1) j h
    (omega (arith, ints, in'.0)) in (
      down.0,
      up.0,
      record {
        low = down.1.below;
        high = up.1.above;
        rows = λ i g k. by_lt_z i j (λ under. down.1.rows i g (omega (arith, ints, under)))
            (λ over. up.1.rows i over k);
        below = down.1.stops;
        above = up.1.stops;
      },
    )
