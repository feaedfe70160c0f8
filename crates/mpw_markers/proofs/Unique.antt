-- The lists determine the book.
use Rattle.std.proofs.Common.{◌≡◌, ℕ, zero, suc, ◌<◌, ℤ, pos, ◌-ℤ◌, ◌<ℤ◌, List, [], ◌∷◌, length, get_or, ◌⊎◌, inl, inr, refl, sym, subst, ap, ◌∙◌, arith}
use Rattle.std.specs.Prelude.{Contains, AllPairs, ◌↔◌}
use Rattle.std.proofs.lemmas.Int.{ints, by_lt_z}
use Rattle.std.proofs.lemmas.List.Elements.{All-contains}
use Rattle.mpw_markers.specs.declared.marker.Line.{Line}
use Rattle.mpw_markers.specs.declared.marker.Marker.{Marker}
use Rattle.mpw_markers.specs.Met.{IsAscending}
use Rattle.mpw_markers.specs.Markers.{line_of, IsFilled, CoversRow}
use Rattle.mpw_markers.specs.Order.{StandsBefore}
use Rattle.mpw_markers.specs.Book.{IsBook}
use Rattle.mpw_markers.specs.Stitched.{IsJoined}
use Rattle.mpw_markers.proofs.Order.{line_total, line_before}
use Rattle.mpw_markers.proofs.Marked.{none_below, none_above, same_marker}

-- ---- lists in strict order

pub cons_cases : {X : Type 0} (y : X) (ys : List X) (x : X) → Contains (y ∷ ys) x
    → (y ≡ x) ⊎ Contains ys x
cons_cases {X} y ys x c = at c.0 c.1 c.2
  where
    at : (k : ℕ) → k < length (y ∷ ys) → get_or (y ∷ ys) k x ≡ x → (y ≡ x) ⊎ Contains ys x
    at zero l e = inl e
    at (suc k) l e = inr (k, omega arith, e)

pub Contains-head : {X : Type 0} (y : X) (ys : List X) → Contains (y ∷ ys) y
Contains-head y ys = (zero, omega arith, refl)

pub Contains-tail : {X : Type 0} (y : X) (ys : List X) (x : X) → Contains ys x → Contains (y ∷ ys) x
Contains-tail y ys x c = (suc c.0, omega (arith, c.1), c.2)

pub tail_pairs : {X : Type 0} (R : X → X → Type 0) (y : X) (ys : List X) → AllPairs R (y ∷ ys)
    → AllPairs R ys
tail_pairs R y ys h i j d l b = h (suc i) (suc j) d (omega arith) (omega arith)

pub head_pairs : {X : Type 0} (R : X → X → Type 0) (y : X) (ys : List X) (x : X)
    → AllPairs R (y ∷ ys)
    → Contains ys x → R y x
head_pairs R y ys x h c = subst (R y) c.2 (h zero (suc c.0) x (omega arith) (omega (arith, c.1)))

-- two lists in strict order with the same elements are equal
pub same_in_order : {X : Type 0} (R : X → X → Type 0) → ((x y : X) → R x y → R y x → ⊥)
    → (xs ys : List X) → AllPairs R xs → AllPairs R ys → ((x : X) → Contains xs x ↔ Contains ys x)
    → xs ≡ ys
same_in_order R never [] [] f g same = refl
same_in_order R never [] (y ∷ ys) f g same =
    let c = (same y).1 (Contains-head y ys) in absurd (omega (arith, c.1))
same_in_order R never (x ∷ xs) [] f g same =
    let c = (same x).0 (Contains-head x xs) in absurd (omega (arith, c.1))
same_in_order {X} R never (x ∷ xs) (y ∷ ys) f g same =
    let e : x ≡ y = heads (cons_cases y ys x ((same x).0 (Contains-head x xs)))
    (cons_cases x xs y ((same y).1 (Contains-head y ys))) in
    let rest : xs ≡ ys = same_in_order R never xs ys (tail_pairs R x xs f) (tail_pairs R y ys g)
    (λ z. (to e z, from e z)) in
    cc
  where
    heads : (y ≡ x) ⊎ Contains ys x → (x ≡ y) ⊎ Contains xs y → x ≡ y
    heads (inl e) q = sym e
    heads (inr c) (inl e) = e
    heads (inr c) (inr d) = absurd (never x y (head_pairs R x xs y f d) (head_pairs R y ys x g c))

    to : x ≡ y → (z : X) → Contains xs z → Contains ys z
    to e z c = elim (cons_cases y ys z ((same z).0 (Contains-tail x xs z c))) [
      | inl s ↦
          let r : R x x = subst (R x) (sym s ∙ sym e) (head_pairs R x xs z f c) in
          absurd (never x x r r)
      | inr d ↦ d
    ]

    from : x ≡ y → (z : X) → Contains ys z → Contains xs z
    from e z c = elim (cons_cases x xs z ((same z).1 (Contains-tail y ys z c))) [
      | inl s ↦
          let r : R y y = subst (R y) (sym s ∙ e) (head_pairs R y ys z g c) in
          absurd (never y y r r)
      | inr d ↦ d
    ]

pub same_numbers : (xs ys : List ℕ) → IsAscending xs → IsAscending ys
    → ((n : ℕ) → Contains xs n ↔ Contains ys n) → xs ≡ ys
same_numbers xs ys f g same = same_in_order (λ a b. a < b) (λ a b l m. omega arith) xs ys f g same

-- ---- books

abbrev Precedes : Marker → Marker → Type 0
Precedes m n = StandsBefore m n × IsFilled m × IsFilled n

precedes : (book : List Marker) → IsBook book → AllPairs Precedes book
precedes book h i j d l b = (h.ordered i j d l b, h.filled i d (omega arith), h.filled j d b)

never_both : (m n : Marker) → Precedes m n → Precedes n m → ⊥
never_both m n p q = at p.0 q.0
  where
    at : StandsBefore m n → StandsBefore n m → ⊥
    at (inl f) (inl g) = line_before (line_of m) (line_of m)
        (line_total.trans (line_of m) (line_of n) (line_of m) f g) refl
    at (inl f) (inr g) = line_before (line_of m) (line_of n) f (sym g.0)
    at (inr f) (inl g) = line_before (line_of n) (line_of m) g (sym f.0)
    at (inr f) (inr g) = omega (arith, ints, f.1, g.1, p.1, p.2)

-- the marker of the other book that has the first row of this one is the same
found : (part : Marker → Type 0) (a b : List Marker) (m : Marker) → IsJoined part a
    → IsJoined part b → Contains a m → Contains b m
found part a b m h k c =
    let s = over (line_of m) m.key.piece.y0 (m, c, (refl, omega (arith, ints), filled)) in
    let n : Marker = s.0 in
    let first : m.key.piece.y0 ≡ n.key.piece.y0 = by_lt_z n.key.piece.y0 m.key.piece.y0
    (λ less. absurd (none_below a m h.markers c
    (back (line_of m) (m.key.piece.y0 -ℤ pos 1)
    (n, s.1, (s.2.0, omega (arith, ints, less), omega (arith, ints, s.2.2))))))
    (λ more. omega (arith, ints, more, s.2.1)) in
    let last : m.key.piece.y1 ≡ n.key.piece.y1 = by_lt_z n.key.piece.y1 m.key.piece.y1
    (λ less. absurd (none_above b n k.markers s.1
    (over (line_of n) n.key.piece.y1 (m, c, (sym s.2.0, omega (arith, ints, s.2.2), less)))))
    (λ more. by_lt_z m.key.piece.y1 n.key.piece.y1
    (λ less. absurd (none_above a m h.markers c
    (back (line_of m) m.key.piece.y1 (n, s.1, (s.2.0, omega (arith, ints, s.2.1, filled), less)))))
    (λ no_more. omega (arith, ints, more, no_more))) in
    subst (Contains b) (sym (same_marker m n (sym s.2.0) first last
    (same_met n s.1 (sym s.2.0) first last))) s.1
  where
    filled : m.key.piece.y0 <ℤ m.key.piece.y1
    filled = All-contains IsFilled a m h.markers.filled c

    over : (line : Line) (j : ℤ) → CoversRow a line j → CoversRow b line j
    over line j r = (k.rows line j).1 ((h.rows line j).0 r)

    back : (line : Line) (j : ℤ) → CoversRow b line j → CoversRow a line j
    back line j r = (h.rows line j).1 ((k.rows line j).0 r)

    same_met : (n : Marker) → Contains b n → line_of m ≡ line_of n → m.key.piece.y0 ≡ n.key.piece.y0
        → m.key.piece.y1 ≡ n.key.piece.y1
        → m.met ≡ n.met
    same_met n d e f g =
        same_numbers m.met n.met (All-contains (λ (x : Marker). IsAscending x.met) a m
        h.markers.ascending c) (All-contains (λ (x : Marker). IsAscending x.met) b n
        k.markers.ascending d)
        (λ o. (
          λ x. let p = (h.met m o c).0 x in
              (k.met n o d).1 (
                p.0,
                p.1,
                (
                  p.2.0 ∙ e,
                  omega (arith, ints, p.2.1, f),
                  omega (arith, ints, p.2.2, g),
                ),
                p.3,
              ),
          λ x. let p = (k.met n o d).0 x in
              (h.met m o c).1 (
                p.0,
                p.1,
                (
                  p.2.0 ∙ sym e,
                  omega (arith, ints, p.2.1, f),
                  omega (arith, ints, p.2.2, g),
                ),
                p.3,
              ),
        ))

pub same_books : (part : Marker → Type 0) (a b : List Marker) → IsJoined part a → IsJoined part b
    → a ≡ b
same_books part a b h k = same_in_order Precedes never_both a b (precedes a h.markers)
    (precedes b k.markers) (λ m. (found part a b m h k, found part b a m k h))
