-- The next border above a sweep's row.
use Rattle.std.proofs.Common.{◌≡◌, ℕ, ◌+◌, ◌<◌, ◌≤◌, ℤ, ◌≤ℤ◌, ◌<ℤ◌, List, [], ◌∷◌, ◌++◌, length, get_or, take, drop, ◌⊎◌, inl, inr, subst, sym, ap, ◌∙◌, arith}
use Rattle.std.specs.Prelude.{All, AllPairs, Contains}
use Rattle.std.specs.Int.{int_min}
use Rattle.std.proofs.lemmas.Int.{ints, clamps, by_lt_z}
use Rattle.std.proofs.lemmas.Bool.{cases_lt}
use Rattle.std.proofs.lemmas.List.{take_more, take-append-drop, get_or-drop, get_or_default, length-drop}
use Rattle.std.proofs.lemmas.List.Elements.{All-nil, All-more, All-weaker, All-contains, Contains-get_or, Contains-push, Contains-append_left, Contains-append_cases}
use Rattle.mpw_geom.specs.declared.plane.Box2.{Box2}
use Rattle.mpw_geom.specs.Plane.{HasArea}
use Rattle.mpw_geom.proofs.Squares.{no_box}
use Rattle.mpw_region.specs.declared.sweep.Sweep.{Sweep}
use Rattle.mpw_region.specs.Internal.Sweep.{BeginsBelow, IsLeastEnd, IsSweep}
use Rattle.mpw_region.specs.Internal.Swept.{HasNoBorderWithin}
use Rattle.mpw_region.proofs.Active.{ahead}

-- ---- the least end

pub IsLeastEnd-none : (row : ℤ) → IsLeastEnd [] row row
IsLeastEnd-none row = record {
  most = omega (arith, ints);
  ends = All-nil (λ (b : Box2). row ≤ℤ b.y1);
  above = λ low l h. l;
}

pub IsLeastEnd-more : (boxes : List Box2) (i : ℕ) (d : Box2) (row least next : ℤ)
    → i < length boxes → IsLeastEnd (take i boxes) row least
    → next ≡ int_min least (get_or boxes i d).y1 → IsLeastEnd (take (i + 1) boxes) row next
IsLeastEnd-more boxes i d row least next l h e = record {
  most = omega (arith, ints, clamps, e, h.most);
  ends = All-more (λ (b : Box2). next ≤ℤ b.y1) boxes i d l
      (All-weaker (λ (b : Box2). least ≤ℤ b.y1) (λ (b : Box2). next ≤ℤ b.y1)
      (λ b p. omega (arith, ints, clamps, e, p)) (take i boxes) h.ends)
      (omega (arith, ints, clamps, e));
  above = λ low p q.
      let old : low <ℤ least = h.above low p (before low q) in
      let new : low <ℤ (get_or boxes i d).y1 = last low q in
      omega (arith, ints, clamps, e, old, new);
}
  where
    wide : (low : ℤ) → All (λ (b : Box2). low <ℤ b.y1) (take (i + 1) boxes)
        → All (λ (b : Box2). low <ℤ b.y1) (take i boxes ++ get_or boxes i d ∷ [])
    wide low q = subst (All (λ (b : Box2). low <ℤ b.y1)) (take_more boxes i d l) q

    last : (low : ℤ) → All (λ (b : Box2). low <ℤ b.y1) (take (i + 1) boxes)
        → low <ℤ (get_or boxes i d).y1
    last low q = All-contains (λ (b : Box2). low <ℤ b.y1) (take i boxes ++ get_or boxes i d ∷ [])
        (get_or boxes i d) (wide low q) (Contains-push (take i boxes) (get_or boxes i d))

    before : (low : ℤ) → All (λ (b : Box2). low <ℤ b.y1) (take (i + 1) boxes)
        → All (λ (b : Box2). low <ℤ b.y1) (take i boxes)
    before low q k b f = All-contains (λ (b : Box2). low <ℤ b.y1)
        (take i boxes ++ get_or boxes i d ∷ []) (get_or (take i boxes) k b) (wide low q)
        (Contains-append_left (take i boxes) (get_or boxes i d ∷ []) (get_or (take i boxes) k b)
        (Contains-get_or (take i boxes) k b f))

-- ---- boxes ahead of a sweep

pub all_ahead : (boxes : List Box2) (row : ℤ) (n : ℕ) → AllPairs BeginsBelow boxes
    → n < length boxes → row <ℤ (get_or boxes n no_box).y0 → All (λ b. row <ℤ b.y0) (drop n boxes)
all_ahead boxes row n o l h k d within = subst (λ (b : Box2). row <ℤ b.y0)
    (sym (get_or-drop n boxes k d))
    (ahead boxes row n (n + k) d o (omega arith) (omega (arith, within, length-drop n boxes)) h)

pub begins_ahead : (boxes : List Box2) (n : ℕ) (b : Box2) → AllPairs BeginsBelow boxes
    → n < length boxes → Contains (drop n boxes) b → (get_or boxes n no_box).y0 ≤ℤ b.y0
begins_ahead boxes n b o l c =
    let inside : n + c.0 < length boxes = omega (arith, c.1, length-drop n boxes) in
    let is : get_or boxes (n + c.0) no_box ≡ b = get_or_default boxes (n + c.0) no_box b inside
    ∙ sym (get_or-drop n boxes c.0 b) ∙ c.2 in
    let y_is = ap (λ (x : Box2). x.y0) is in
    elim (cases_lt 0 c.0) [
      | inl less ↦ omega (arith, ints, y_is, o n (n + c.0) no_box (omega (arith, less)) inside)
      | inr more ↦
          let e : n + c.0 ≡ n = omega (arith, more) in
          let same = ap (λ (m : ℕ). (get_or boxes m no_box).y0) e in
          omega (arith, ints, y_is, same)
    ]

-- none begins below the first
pub first_begins : (boxes : List Box2) → AllPairs BeginsBelow boxes
    → All (λ b. (get_or boxes 0 no_box).y0 ≤ℤ b.y0) boxes
first_begins boxes o k d l = elim (cases_lt 0 k) [
  | inl less ↦
      let first = ap (λ (b : Box2). b.y0) (get_or_default boxes 0 no_box d (omega (arith, less, l))) in
      omega (arith, ints, first, o 0 k d less l)
  | inr more ↦
      let e : k ≡ 0 = omega arith in
      let first = ap (λ (m : ℕ). (get_or boxes m d).y0) e in
      let same = ap (λ (b : Box2). b.y0) (get_or_default boxes 0 no_box d (omega (arith, e, l))) in
      omega (arith, ints, first, same)
]

-- ---- the next border

-- a box of the sweep has begun, or is ahead
begun_or_ahead : (s : Sweep) (b : Box2) → Contains s.boxes.items b
    → Contains (take s.next s.boxes.items) b ⊎ Contains (drop s.next s.boxes.items) b
begun_or_ahead s b c = Contains-append_cases (take s.next s.boxes.items) (drop s.next s.boxes.items)
    b
    (subst (λ (bs : List Box2). Contains bs b) (sym (take-append-drop s.next s.boxes.items)) c)

-- a box that has begun has ended, or is in the list
ended_or_held : (s : Sweep) (b : Box2) → IsSweep s → Contains (take s.next s.boxes.items) b
    → (b.y1 ≤ℤ s.row) ⊎ Contains s.active.items b
ended_or_held s b h c = by_lt_z s.row b.y1 (λ l. inr (h.active.complete b c l)) (λ l. inl l)

pub between_borders : (s : Sweep) (next : ℤ) → IsSweep s → All HasArea s.boxes.items
    → ((b : Box2) → Contains (drop s.next s.boxes.items) b → next ≤ℤ b.y0)
    → All (λ b. next ≤ℤ b.y1) s.active.items
    → All (HasNoBorderWithin (record { y0 = s.row; y1 = next })) s.boxes.items
between_borders s next h filled low ends k d l =
    at (get_or s.boxes.items k d) (Contains-get_or s.boxes.items k d l) (filled k d l)
  where
    at : (b : Box2) → Contains s.boxes.items b → HasArea b
        → HasNoBorderWithin (record { y0 = s.row; y1 = next }) b
    at b c a = elim (begun_or_ahead s b c) [
      | inl begun ↦ (
        inl (All-contains (λ (x : Box2). x.y0 ≤ℤ s.row) (take s.next s.boxes.items) b h.begun
            begun),
        elim (ended_or_held s b h begun) [
          | inl ended ↦ inl ended
          | inr held
              ↦ inr (All-contains (λ (x : Box2). next ≤ℤ x.y1) s.active.items b ends held)
        ],
      )
      | inr later ↦
          let f = low b later in
          let high = a.height in
          (inr f, inr (omega (arith, ints, f, high)))
    ]

-- if the list is empty and no box is ahead, all have ended
pub all_ended : (s : Sweep) → IsSweep s → length s.boxes.items ≤ s.next
    → length s.active.items ≡ 0 → All (λ b. b.y1 ≤ℤ s.row) s.boxes.items
all_ended s h l none k d within = at (get_or s.boxes.items k d)
    (Contains-get_or s.boxes.items k d within)
  where
    at : (b : Box2) → Contains s.boxes.items b → b.y1 ≤ℤ s.row
    at b c = elim (begun_or_ahead s b c) [
      | inl begun ↦ elim (ended_or_held s b h begun) [
        | inl ended ↦ ended
        | inr held ↦ absurd (omega (arith, held.1, none))
      ]
      | inr later ↦ absurd (omega (arith, later.1, length-drop s.next s.boxes.items, l))
    ]

-- the boxes of the list end above the sweep's row
pub held_above : (s : Sweep) → IsSweep s → All (λ b. s.row <ℤ b.y1) s.active.items
held_above s h k d l =
    (h.active.sound (get_or s.active.items k d) (Contains-get_or s.active.items k d l)).1

-- the next border lies above the row, and no box has one between
abbrev IsNext : Sweep → ℤ → Type 0
IsNext s next = (s.row <ℤ next)
    × All (HasNoBorderWithin (record { y0 = s.row; y1 = next })) s.boxes.items

pub next_at_begin : (s : Sweep) (next : ℤ) → IsSweep s → All (λ b. s.row <ℤ b.y0)
    (drop s.next s.boxes.items) → All HasArea s.boxes.items → s.next < length s.boxes.items
    → IsLeastEnd s.active.items (get_or s.boxes.items s.next no_box).y0 next → IsNext s next
next_at_begin s next h later filled l least = (
  least.above s.row (subst (λ (b : Box2). s.row <ℤ b.y0) first
      (later 0 no_box (omega (arith, length-drop s.next s.boxes.items)))) (held_above s h),
  between_borders s next h filled
      (λ b c. let f = begins_ahead s.boxes.items s.next b h.ordered l c in
      let g = least.most in omega (arith, ints, f, g)) least.ends,
)
  where
    first : get_or (drop s.next s.boxes.items) 0 no_box ≡ get_or s.boxes.items s.next no_box
    first = get_or-drop s.next s.boxes.items 0 no_box
        ∙ ap (λ (m : ℕ). get_or s.boxes.items m no_box)
        (let e : s.next + 0 ≡ s.next = omega arith in e)

pub next_at_end : (s : Sweep) (next : ℤ) (b : Box2) → IsSweep s → All HasArea s.boxes.items
    → length s.boxes.items ≤ s.next → Contains s.active.items b
    → IsLeastEnd s.active.items b.y1 next → IsNext s next
next_at_end s next b h filled l c least = (
  least.above s.row (h.active.sound b c).1 (held_above s h),
  between_borders s next h filled
      (λ x d. absurd (omega (arith, d.1, length-drop s.next s.boxes.items, l))) least.ends,
)
