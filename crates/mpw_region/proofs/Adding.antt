-- Runs that are added to others, by the positions that they add.
use Rattle.std.proofs.Common.{ℕ, ◌+◌, ◌<◌, ◌≤◌, ℤ, List, [], ◌∷◌, ◌++◌, length, get_or, take, ◌⊎◌, inl, inr, subst, sym}
use Rattle.std.specs.Prelude.{◌↔◌}
use Rattle.std.proofs.Math.Logic.{⊎_map}
use Rattle.std.proofs.lemmas.List.{take_more, take_all}
use Rattle.std.proofs.lemmas.List.Elements.{All-nil, All-push}
use Rattle.mpw_region.specs.declared.runs.Line.{Line}
use Rattle.mpw_region.specs.declared.runs.Run.{Run}
use Rattle.mpw_region.specs.Runs.{HoldsPlace, CoversPlace, IsFilled}
use Rattle.mpw_region.specs.Internal.Runs.{Adds, Finds}
use Rattle.mpw_region.proofs.Held.{Held, Held-nil, Held-push_left, Held-push_new, Held-push_cases}

pub Adds-none : (runs : List Run) (P : Line → ℤ → Type 0) → ((line : Line) (at : ℤ) → P line at → ⊥)
    → Adds runs runs P
Adds-none runs P never = record {
  places = λ line at. (λ c. inl c, back line at);
  filled = λ f. f;
}
  where
    back : (line : Line) (at : ℤ) → CoversPlace runs line at ⊎ P line at → CoversPlace runs line at
    back line at (inl c) = c
    back line at (inr p) = absurd (never line at p)

pub Adds-push : (runs : List Run) (r : Run) (P : Line → ℤ → Type 0) → IsFilled r
    → ((line : Line) (at : ℤ) → HoldsPlace r line at ↔ P line at) → Adds runs (runs ++ r ∷ []) P
Adds-push runs r P filled same = record {
  places = λ line at. (
    λ c. to line at (Held-push_cases (λ q. HoldsPlace q line at) runs r c),
    from line at,
  );
  filled = λ f. All-push IsFilled runs r f filled;
}
  where
    to : (line : Line) (at : ℤ) → CoversPlace runs line at ⊎ HoldsPlace r line at
        → CoversPlace runs line at ⊎ P line at
    to line at (inl c) = inl c
    to line at (inr h) = inr ((same line at).0 h)

    from : (line : Line) (at : ℤ) → CoversPlace runs line at ⊎ P line at
        → CoversPlace (runs ++ r ∷ []) line at
    from line at (inl c) = Held-push_left (λ q. HoldsPlace q line at) runs r c
    from line at (inr p) = Held-push_new (λ q. HoldsPlace q line at) runs r ((same line at).1 p)

pub Adds-start : {X : Type 0} (runs : List Run) (P : X → Line → ℤ → Type 0)
    → Adds runs runs (λ line at. Held (λ x. P x line at) [])
Adds-start runs P = Adds-none runs (λ line at. Held (λ x. P x line at) [])
    (λ line at h. Held-nil (λ x. P x line at) h)

-- what was added for one element more
pub Adds-more : {X : Type 0} (old mid new : List Run) (P : X → Line → ℤ → Type 0) (xs : List X)
    (i : ℕ) (d : X) → i < length xs → Adds old mid (λ line at. Held (λ x. P x line at) (take i xs))
    → Adds mid new (P (get_or xs i d))
    → Adds old new (λ line at. Held (λ x. P x line at) (take (i + 1) xs))
Adds-more old mid new P xs i d l h g =
    subst (λ ys. Adds old new (λ line at. Held (λ x. P x line at) ys)) (sym (take_more xs i d l))
    (record {
      places = λ line at. (λ c. to line at ((g.places line at).0 c), λ s. from line at s);
      filled = λ f. g.filled (h.filled f);
    })
  where
    to : (line : Line) (at : ℤ) → CoversPlace mid line at ⊎ P (get_or xs i d) line at
        → CoversPlace old line at ⊎ Held (λ x. P x line at) (take i xs ++ get_or xs i d ∷ [])
    to line at (inl c) = elim ((h.places line at).0 c) [
      | inl o ↦ inl o
      | inr s ↦ inr (Held-push_left (λ x. P x line at) (take i xs) (get_or xs i d)
          s)
    ]
    to line at (inr p) = inr (Held-push_new (λ x. P x line at) (take i xs) (get_or xs i d) p)

    from : (line : Line) (at : ℤ) → CoversPlace old line at
        ⊎ Held (λ x. P x line at) (take i xs ++ get_or xs i d ∷ []) → CoversPlace new line at
    from line at (inl o) = (g.places line at).1 (inl ((h.places line at).1 (inl o)))
    from line at (inr s) = elim (Held-push_cases (λ x. P x line at) (take i xs) (get_or xs i d) s) [
      | inl t ↦ (g.places line at).1 (inl ((h.places line at).1 (inr t)))
      | inr p ↦ (g.places line at).1 (inr p)
    ]

pub Adds-all : {X : Type 0} (old new : List Run) (P : X → Line → ℤ → Type 0) (xs : List X) (i : ℕ)
    → length xs ≤ i → Adds old new (λ line at. Held (λ x. P x line at) (take i xs))
    → Adds old new (λ line at. Held (λ x. P x line at) xs)
Adds-all old new P xs i l h =
    subst (λ ys. Adds old new (λ line at. Held (λ x. P x line at) ys)) (take_all i xs l) h

-- two searches one after the other
pub Adds-both : (old mid new : List Run) (P Q : Line → ℤ → Type 0) → Adds old mid P → Adds mid new Q
    → Adds old new (λ line at. P line at ⊎ Q line at)
Adds-both old mid new P Q h g = record {
  places = λ line at. (λ c. to line at ((g.places line at).0 c), from line at);
  filled = λ f. g.filled (h.filled f);
}
  where
    to : (line : Line) (at : ℤ) → CoversPlace mid line at ⊎ Q line at → CoversPlace old line at
        ⊎ (P line at ⊎ Q line at)
    to line at (inl c) = elim ((h.places line at).0 c) [ inl o ↦ inl o | inr p ↦ inr (inl p) ]
    to line at (inr q) = inr (inr q)

    from : (line : Line) (at : ℤ) → CoversPlace old line at ⊎ (P line at ⊎ Q line at)
        → CoversPlace new line at
    from line at (inl o) = (g.places line at).1 (inl ((h.places line at).1 (inl o)))
    from line at (inr (inl p)) = (g.places line at).1 (inl ((h.places line at).1 (inr p)))
    from line at (inr (inr q)) = (g.places line at).1 (inr q)

-- the same positions, described in another way
pub Adds-same : (old new : List Run) (P Q : Line → ℤ → Type 0) → Adds old new P
    → ((line : Line) (at : ℤ) → P line at → Q line at)
    → ((line : Line) (at : ℤ) → Q line at → P line at) → Adds old new Q
Adds-same old new P Q h f g = record {
  places = λ line at. (
    λ c. ⊎_map (λ x. x) (f line at) ((h.places line at).0 c),
    λ s. (h.places line at).1 (⊎_map (λ x. x) (g line at) s),
  );
  filled = h.filled;
}

-- what was added to no runs is all that is found
pub Finds-from_adds : (runs : List Run) (P : Line → ℤ → Type 0) → Adds [] runs P → Finds runs P
Finds-from_adds runs P h = record {
  places = λ line at. (λ c. to line at ((h.places line at).0 c), λ p. (h.places line at).1 (inr p));
  filled = h.filled (All-nil IsFilled);
}
  where
    to : (line : Line) (at : ℤ) → CoversPlace [] line at ⊎ P line at → P line at
    to line at (inl c) = absurd (Held-nil (λ q. HoldsPlace q line at) c)
    to line at (inr p) = p
