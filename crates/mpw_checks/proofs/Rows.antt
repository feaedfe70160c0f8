-- Boxes across a window, and the rows that they have.
use Rattle.std.proofs.Common.{◌≡◌, ℕ, ◌+◌, ◌<◌, ◌≤◌, ℤ, ◌≤ℤ◌, ◌<ℤ◌, List, [], ◌∷◌, ◌++◌, length, get_or, take, ◌⊎◌, inl, inr, refl, subst, sym, arith}
use Rattle.std.specs.Prelude.{◌↔◌, All}
use Rattle.std.proofs.lemmas.Int.{ints}
use Rattle.std.proofs.lemmas.List.{take_more, take_all}
use Rattle.std.proofs.lemmas.List.Elements.{All-nil, All-push}
use Rattle.mpw_geom.specs.declared.plane.Box2.{Box2}
use Rattle.mpw_geom.proofs.Squares.{no_box}
use Rattle.mpw_region.specs.declared.runs.Line.{Line}
use Rattle.mpw_region.specs.declared.runs.Run.{Run}
use Rattle.mpw_region.specs.Runs.{CoversPlace, IsFilled}
use Rattle.mpw_region.specs.Internal.Swept.{HoldsSquare, IsCovered}
use Rattle.mpw_region.proofs.Held.{Held-nil, Held-push_left, Held-push_new, Held-push_cases}
use Rattle.mpw_region.proofs.Joins.{no_run}
use Rattle.mpw_checks.specs.Internal.Across.{HasRowIn, IsAcross}

-- the box has exactly the columns of the window and the rows of the run
pub record IsAcrossBy (window : Box2) (b : Box2) (run : Run) : Type 0 where
  pub left : b.x0 ≡ window.x0
  pub right : b.x1 ≡ window.x1
  pub from : run.from ≡ b.y0
  pub to : run.to ≡ b.y1

abbrev HasRowOf : ℤ → Run → Type 0
HasRowOf j r = (r.from ≤ℤ j) × (j <ℤ r.to)

across_to : (window b : Box2) (run : Run) (i j : ℤ) → IsAcrossBy window b run → HoldsSquare b i j
    → ((window.x0 ≤ℤ i) × (i <ℤ window.x1)) × HasRowOf j run
across_to window b run i j h s =
    let l = h.left in
    let r = h.right in
    let f = h.from in
    let t = h.to in (
      (omega (arith, ints, l, s.0), omega (arith, ints, r, s.1)),
      (omega (arith, ints, f, s.2), omega (arith, ints, t, s.3)),
    )

across_from : (window b : Box2) (run : Run) (i j : ℤ) → IsAcrossBy window b run
    → ((window.x0 ≤ℤ i) × (i <ℤ window.x1)) × HasRowOf j run → HoldsSquare b i j
across_from window b run i j h s =
    let l = h.left in
    let r = h.right in
    let f = h.from in
    let t = h.to in (
      omega (arith, ints, l, s.0.0),
      omega (arith, ints, r, s.0.1),
      omega (arith, ints, f, s.1.0),
      omega (arith, ints, t, s.1.1),
    )

pub filled_rows : (b : Box2) (run : Run) → run.from ≡ b.y0 → run.to ≡ b.y1 → b.y0 <ℤ b.y1
    → IsFilled run
filled_rows b run e f h = omega (arith, ints, e, f, h)

-- the boxes have the squares of those within and of those across
pub record IsApart (window : Box2) (boxes within : List Box2) (across : List Run) : Type 0 where
  pub squares : (i j : ℤ) → IsCovered boxes i j
      ↔ (IsCovered within i j ⊎ IsAcross window across i j)
  pub filled : All IsFilled across

pub IsApart-none : (window : Box2) → IsApart window [] [] []
IsApart-none window = record {
  squares = λ i j. (
    λ c. absurd (Held-nil (λ b. HoldsSquare b i j) c),
    λ s. never i j s,
  );
  filled = All-nil IsFilled;
}
  where
    never : (i j : ℤ) → IsCovered [] i j ⊎ IsAcross window [] i j → IsCovered [] i j
    never i j (inl c) = c
    never i j (inr a) = absurd (Held-nil (HasRowOf j) a.1)

pub IsApart-within : (window : Box2) (boxes within : List Box2) (across : List Run) (n : ℕ)
    → n < length boxes → IsApart window (take n boxes) within across
    → IsApart window (take (n + 1) boxes) (within ++ get_or boxes n no_box ∷ []) across
IsApart-within window boxes within across n l h =
    subst (λ (bs : List Box2). IsApart window bs (within ++ get_or boxes n no_box ∷ []) across)
    (sym (take_more boxes n no_box l))
    (record { squares = λ i j. (to i j, from i j); filled = h.filled })
  where
    to : (i j : ℤ) → IsCovered (take n boxes ++ get_or boxes n no_box ∷ []) i j
        → IsCovered (within ++ get_or boxes n no_box ∷ []) i j ⊎ IsAcross window across i j
    to i j c = elim (Held-push_cases (λ b. HoldsSquare b i j) (take n boxes) (get_or boxes n no_box)
        c) [
          | inl old ↦ elim ((h.squares i j).0 old) [
            | inl w ↦ inl (Held-push_left (λ b. HoldsSquare b i j) within (get_or boxes n no_box) w)
            | inr a ↦ inr a
          ]
          | inr new ↦ inl (Held-push_new (λ b. HoldsSquare b i j) within (get_or boxes n no_box)
              new)
        ]

    from : (i j : ℤ) → IsCovered (within ++ get_or boxes n no_box ∷ []) i j
        ⊎ IsAcross window across i j → IsCovered (take n boxes ++ get_or boxes n no_box ∷ []) i j
    from i j (inl c) = elim (Held-push_cases (λ b. HoldsSquare b i j) within (get_or boxes n no_box)
        c) [
          | inl old ↦ Held-push_left (λ b. HoldsSquare b i j) (take n boxes) (get_or boxes n no_box)
              ((h.squares i j).1 (inl old))
          | inr new ↦ Held-push_new (λ b. HoldsSquare b i j) (take n boxes) (get_or boxes n no_box)
              new
        ]
    from i j (inr a) = Held-push_left (λ b. HoldsSquare b i j) (take n boxes)
        (get_or boxes n no_box) ((h.squares i j).1 (inr a))

pub IsApart-across : (window : Box2) (boxes within : List Box2) (across : List Run) (n : ℕ)
    (run : Run) → n < length boxes → IsApart window (take n boxes) within across
    → IsAcrossBy window (get_or boxes n no_box) run → IsFilled run
    → IsApart window (take (n + 1) boxes) within (across ++ run ∷ [])
IsApart-across window boxes within across n run l h by filled =
    subst (λ (bs : List Box2). IsApart window bs within (across ++ run ∷ []))
    (sym (take_more boxes n no_box l))
    (record {
      squares = λ i j. (to i j, from i j);
      filled = All-push IsFilled across run
          h.filled filled;
    })
  where
    to : (i j : ℤ) → IsCovered (take n boxes ++ get_or boxes n no_box ∷ []) i j
        → IsCovered within i j ⊎ IsAcross window (across ++ run ∷ []) i j
    to i j c = elim (Held-push_cases (λ b. HoldsSquare b i j) (take n boxes) (get_or boxes n no_box)
        c) [
          | inl old ↦ elim ((h.squares i j).0 old)
              [ inl w ↦ inl w | inr a ↦ inr (a.0, Held-push_left (HasRowOf j) across run a.1) ]
          | inr new ↦ let s = across_to window (get_or boxes n no_box) run i j by new in
              inr (s.0, Held-push_new (HasRowOf j) across run s.1)
        ]

    from : (i j : ℤ) → IsCovered within i j ⊎ IsAcross window (across ++ run ∷ []) i j
        → IsCovered (take n boxes ++ get_or boxes n no_box ∷ []) i j
    from i j (inl w) = Held-push_left (λ b. HoldsSquare b i j) (take n boxes)
        (get_or boxes n no_box) ((h.squares i j).1 (inl w))
    from i j (inr a) = elim (Held-push_cases (HasRowOf j) across run a.1) [
      | inl old ↦ Held-push_left (λ b. HoldsSquare b i j) (take n boxes) (get_or boxes n no_box)
          ((h.squares i j).1 (inr (a.0, old)))
      | inr new ↦ Held-push_new (λ b. HoldsSquare b i j) (take n boxes) (get_or boxes n no_box)
          (across_from window (get_or boxes n no_box) run i j by (a.0, new))
    ]

pub IsApart-end : (window : Box2) (boxes within : List Box2) (across : List Run) (n : ℕ)
    → length boxes ≤ n → IsApart window (take n boxes) within across
    → IsApart window boxes within across
IsApart-end window boxes within across n l h =
    subst (λ (bs : List Box2). IsApart window bs within across) (take_all n boxes l) h

-- a box for each of the first runs was added to the old ones
pub record HasAdded (window : Box2) (old new : List Box2) (runs : List Run) : Type 0 where
  pub squares : (i j : ℤ) → IsCovered new i j ↔ (IsCovered old i j ⊎ IsAcross window runs i j)

pub HasAdded-none : (window : Box2) (old : List Box2) → HasAdded window old old []
HasAdded-none window old = record { squares = λ i j. (λ c. inl c, never i j) }
  where
    never : (i j : ℤ) → IsCovered old i j ⊎ IsAcross window [] i j → IsCovered old i j
    never i j (inl c) = c
    never i j (inr a) = absurd (Held-nil (HasRowOf j) a.1)

pub HasAdded-push : (window : Box2) (old new : List Box2) (runs : List Run) (n : ℕ) (b : Box2)
    → n < length runs → HasAdded window old new (take n runs)
    → IsAcrossBy window b (get_or runs n no_run)
    → HasAdded window old (new ++ b ∷ []) (take (n + 1) runs)
HasAdded-push window old new runs n b l h by =
    subst (λ (rs : List Run). HasAdded window old (new ++ b ∷ []) rs)
    (sym (take_more runs n no_run l)) (record { squares = λ i j. (to i j, from i j) })
  where
    to : (i j : ℤ) → IsCovered (new ++ b ∷ []) i j
        → IsCovered old i j ⊎ IsAcross window (take n runs ++ get_or runs n no_run ∷ []) i j
    to i j c = elim (Held-push_cases (λ p. HoldsSquare p i j) new b c) [
      | inl before ↦ elim ((h.squares i j).0 before) [
        | inl o ↦ inl o
        | inr a ↦ inr (
          a.0,
          Held-push_left (HasRowOf j) (take n runs)
              (get_or runs n no_run) a.1,
        )
      ]
      | inr last ↦ let s = across_to window b (get_or runs n no_run) i j by last in
          inr (s.0, Held-push_new (HasRowOf j) (take n runs) (get_or runs n no_run) s.1)
    ]

    from : (i j : ℤ) → IsCovered old i j
        ⊎ IsAcross window (take n runs ++ get_or runs n no_run ∷ []) i j
        → IsCovered (new ++ b ∷ []) i j
    from i j (inl o) = Held-push_left (λ p. HoldsSquare p i j) new b ((h.squares i j).1 (inl o))
    from i j (inr a) = elim (Held-push_cases (HasRowOf j) (take n runs) (get_or runs n no_run) a.1) [
      | inl before ↦ Held-push_left (λ p. HoldsSquare p i j) new b
          ((h.squares i j).1 (inr (a.0, before)))
      | inr last ↦ Held-push_new (λ p. HoldsSquare p i j) new b
          (across_from window b (get_or runs n no_run) i j by (a.0, last))
    ]

pub HasAdded-end : (window : Box2) (old new : List Box2) (runs : List Run) (n : ℕ) → length runs ≤ n
    → HasAdded window old new (take n runs) → HasAdded window old new runs
HasAdded-end window old new runs n l h =
    subst (λ (rs : List Run). HasAdded window old new rs) (take_all n runs l) h

-- the rows of runs on any line are those of the joined ones
rows_joined : (runs joined : List Run)
    → ((line : Line) (at : ℤ) → CoversPlace joined line at ↔ CoversPlace runs line at) → (j : ℤ)
    → HasRowIn joined j ↔ HasRowIn runs j
rows_joined runs joined h j = (
  λ p. let c = (h p.0.line j).0 (p.0, p.1, (refl, p.2.0, p.2.1)) in (c.0, c.1, (c.2.1, c.2.2)),
  λ p. let c = (h p.0.line j).1 (p.0, p.1, (refl, p.2.0, p.2.1)) in (c.0, c.1, (c.2.1, c.2.2)),
)

pub covered_after : (window : Box2) (boxes within new : List Box2) (across joined : List Run)
    → ((i j : ℤ) → IsCovered boxes i j ↔ (IsCovered within i j ⊎ IsAcross window across i j))
    → ((line : Line) (at : ℤ) → CoversPlace joined line at ↔ CoversPlace across line at)
    → ((i j : ℤ) → IsCovered new i j ↔ (IsCovered within i j ⊎ IsAcross window joined i j))
    → (i j : ℤ) → IsCovered new i j ↔ IsCovered boxes i j
covered_after window boxes within new across joined apart same added i j = (to, from)
  where
    to : IsCovered new i j → IsCovered boxes i j
    to c = elim ((added i j).0 c) [
      | inl w ↦ (apart i j).1 (inl w)
      | inr a ↦ (apart i j).1 (inr (a.0, (rows_joined across joined same j).0 a.1))
    ]

    from : IsCovered boxes i j → IsCovered new i j
    from c = elim ((apart i j).0 c) [
      | inl w ↦ (added i j).1 (inl w)
      | inr a ↦ (added i j).1 (inr (a.0, (rows_joined across joined same j).1 a.1))
    ]
