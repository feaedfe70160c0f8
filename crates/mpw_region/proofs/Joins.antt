-- Joining sorted runs that overlap or touch, one after another.
use Rattle.std.proofs.Common.{◌≡◌, ℕ, ◌+◌, ◌<◌, ◌≤◌, ℤ, pos, ◌≤ℤ◌, ◌<ℤ◌, suc, List, [], ◌∷◌, ◌++◌, length, get_or, take, drop, ◌-◌, ◌⊎◌, inl, inr, subst, sym, ap, ◌∙◌, arith}
use Rattle.std.specs.Prelude.{◌↔◌, All, AllPairs}
use Rattle.std.proofs.lemmas.Int.{ints, clamps, by_lt_z}
use Rattle.std.proofs.lemmas.List.{take_more, take_all, get_or_default, get_or-take, length-take}
use Rattle.std.proofs.lemmas.Bool.{cases_lt}
use Rattle.std.proofs.lemmas.List.Elements.{All-push, All-nil, All-weaker}
use Rattle.std.proofs.lemmas.List.Quantifiers.{all_pairs_push}
use Rattle.std.proofs.lemmas.List.Sorted.{IsPermutation-sym}
use Rattle.std.specs.List.Sorted.{IsPermutation}
use Rattle.mpw_region.specs.declared.runs.Line.{Line}
use Rattle.mpw_region.specs.declared.runs.Run.{Run}
use Rattle.mpw_region.specs.Runs.{HoldsPlace, CoversPlace, IsFilled, StandsBefore, AreApart, line_cmp}
use Rattle.mpw_region.specs.Internal.Order.{BeginsFirst, AreInOrder, merged}
use Rattle.mpw_region.proofs.Order.{line_before, line_total}
use Rattle.mpw_region.proofs.Orderings.{chain}
use Rattle.mpw_region.proofs.Held.{Held-nil, Held-push_left, Held-push_new, Held-push_cases, Held-permutation}

-- how far runs are joined: the joined ones and the last one have the positions of those done
pub record Joins (joined : List Run) (last : Run) (done : List Run) : Type 0 where
  pub same : (line : Line) (at : ℤ) → (CoversPlace joined line at ⊎ HoldsPlace last line at)
      ↔ CoversPlace done line at
  pub filled : All IsFilled joined
  pub ordered : AllPairs StandsBefore joined
  pub near : All (λ r. StandsBefore r last) joined
  pub run : IsFilled last

-- the last one begins no later than what is left from index i on
abbrev pub BeginsBelow : Run → List Run → ℕ → Type 0
BeginsBelow last rest i =
    (m : ℕ) (d : Run) → i ≤ m → m < length rest → BeginsFirst last (get_or rest m d)

-- the default of the code's index past the end
abbrev pub no_run : Run
no_run =
    record { line = record { side = 0; first = pos 0; second = pos 0 }; from = pos 0; to = pos 0 }

-- on one line, what begins first begins no later
pub from_begins : (r s : Run) → BeginsFirst r s → r.line ≡ s.line → r.from ≤ℤ s.from
from_begins r s (inl p) e = absurd (line_before r.line s.line p e)
from_begins r s (inr p) e = p.1

StandsBefore-chain : (r s t : Run) → IsFilled s → StandsBefore r s → StandsBefore s t
    → StandsBefore r t
StandsBefore-chain r s t f p q =
    chain line_cmp line_total r.line s.line t.line (λ e g. omega (arith, ints, e, g, f)) p q

holds_merged : (last run : Run) (line : Line) (at : ℤ) → last.line ≡ run.line → run.from ≤ℤ last.to
    → HoldsPlace (merged last run) line at → HoldsPlace last line at ⊎ HoldsPlace run line at
holds_merged last run line at e g h =
    by_lt_z at last.to
    (λ l. inl (h.0, h.1, l))
    (λ l. inr (sym e ∙ h.0, omega (arith, ints, clamps, g, l), omega (arith, ints, clamps, h.2, l)))

merged_holds : (last run : Run) (line : Line) (at : ℤ) → last.line ≡ run.line
    → last.from ≤ℤ run.from → HoldsPlace last line at ⊎ HoldsPlace run line at
    → HoldsPlace (merged last run) line at
merged_holds last run line at e f (inl h) = (h.0, h.1, omega (arith, ints, clamps, h.2))
merged_holds last run line at e f (inr h) =
    (e ∙ h.0, omega (arith, ints, clamps, h.1, f), omega (arith, ints, clamps, h.2))

-- a run that is reached is merged with the last one
pub Joins-merge : (joined : List Run) (last run : Run) (done : List Run) → Joins joined last done
    → last.line ≡ run.line → last.from ≤ℤ run.from → run.from ≤ℤ last.to → IsFilled run
    → Joins joined (merged last run) (done ++ run ∷ [])
Joins-merge joined last run done h e f g k = record {
  same = λ line at. (to line at, from line at);
  filled = h.filled;
  ordered = h.ordered;
  near = All-weaker (λ r. StandsBefore r last) (λ r. StandsBefore r (merged last run)) (λ r p. p)
      joined h.near;
  run = omega (arith, ints, clamps, h.run);
}
  where
    to : (line : Line) (at : ℤ) → CoversPlace joined line at ⊎ HoldsPlace (merged last run) line at
        → CoversPlace (done ++ run ∷ []) line at
    to line at (inl c) = Held-push_left (λ r. HoldsPlace r line at) done run
        ((h.same line at).0 (inl c))
    to line at (inr m) = elim (holds_merged last run line at e g m) [
      | inl l ↦ Held-push_left (λ r. HoldsPlace r line at) done run ((h.same line at).0 (inr l))
      | inr r ↦ Held-push_new (λ r. HoldsPlace r line at) done run r
    ]

    from : (line : Line) (at : ℤ) → CoversPlace (done ++ run ∷ []) line at
        → CoversPlace joined line at ⊎ HoldsPlace (merged last run) line at
    from line at c = elim (Held-push_cases (λ r. HoldsPlace r line at) done run c) [
      | inl d ↦ elim ((h.same line at).1 d)
          [ inl j ↦ inl j | inr l ↦ inr (merged_holds last run line at e f (inl l)) ]
      | inr r ↦ inr (merged_holds last run line at e f (inr r))
    ]

-- a run that is not reached becomes the last one
pub Joins-push : (joined : List Run) (last run : Run) (done : List Run) → Joins joined last done
    → StandsBefore last run → IsFilled run → Joins (joined ++ last ∷ []) run (done ++ run ∷ [])
Joins-push joined last run done h b k = record {
  same = λ line at. (to line at, from line at);
  filled = All-push IsFilled joined last h.filled h.run;
  ordered = all_pairs_push StandsBefore joined last h.ordered h.near;
  near = All-push (λ r. StandsBefore r run) joined last
      (All-weaker (λ r. StandsBefore r last) (λ r. StandsBefore r run)
      (λ r p. StandsBefore-chain r last run h.run p b) joined h.near) b;
  run = k;
}
  where
    to : (line : Line) (at : ℤ) → CoversPlace (joined ++ last ∷ []) line at ⊎ HoldsPlace run line at
        → CoversPlace (done ++ run ∷ []) line at
    to line at (inl c) = Held-push_left (λ r. HoldsPlace r line at) done run
        ((h.same line at).0 (Held-push_cases (λ r. HoldsPlace r line at) joined last c))
    to line at (inr m) = Held-push_new (λ r. HoldsPlace r line at) done run m

    from : (line : Line) (at : ℤ) → CoversPlace (done ++ run ∷ []) line at
        → CoversPlace (joined ++ last ∷ []) line at ⊎ HoldsPlace run line at
    from line at c = elim (Held-push_cases (λ r. HoldsPlace r line at) done run c) [
      | inl d ↦ elim ((h.same line at).1 d) [
        | inl j ↦ inl (Held-push_left (λ r. HoldsPlace r line at) joined last j)
        | inr l ↦ inl (Held-push_new (λ r. HoldsPlace r line at) joined last l)
      ]
      | inr r ↦ inr r
    ]

pub Joins-start : (first : Run) → IsFilled first → Joins [] first (first ∷ [])
Joins-start first k = record {
  same = λ line at. (
    to line at,
    λ c. from line at
        (Held-push_cases (λ r. HoldsPlace r line at) [] first c),
  );
  filled = All-nil IsFilled;
  ordered = λ i j d l b. absurd (omega arith);
  near = All-nil (λ r. StandsBefore r first);
  run = k;
}
  where
    to : (line : Line) (at : ℤ) → CoversPlace [] line at ⊎ HoldsPlace first line at
        → CoversPlace (first ∷ []) line at
    to line at (inl c) = absurd (Held-nil (λ r. HoldsPlace r line at) c)
    to line at (inr m) = Held-push_new (λ r. HoldsPlace r line at) [] first m

    from : (line : Line) (at : ℤ) → CoversPlace [] line at ⊎ HoldsPlace first line at
        → CoversPlace [] line at ⊎ HoldsPlace first line at
    from line at x = x

-- the positions at the end
pub Joins-end : (joined : List Run) (last : Run) (done : List Run) → Joins joined last done
    → (line : Line) (at : ℤ) → CoversPlace (joined ++ last ∷ []) line at ↔ CoversPlace done line at
Joins-end joined last done h line at = (
  λ c. (h.same line at).0 (Held-push_cases (λ r. HoldsPlace r line at) joined last c),
  λ c. back ((h.same line at).1 c),
)
  where
    back : CoversPlace joined line at ⊎ HoldsPlace last line at
        → CoversPlace (joined ++ last ∷ []) line at
    back (inl j) = Held-push_left (λ r. HoldsPlace r line at) joined last j
    back (inr l) = Held-push_new (λ r. HoldsPlace r line at) joined last l

pub AreApart-end : (joined : List Run) (last : Run) (done : List Run) → Joins joined last done
    → AreApart (joined ++ last ∷ [])
AreApart-end joined last done h = record {
  filled = All-push IsFilled joined last h.filled h.run;
  ordered = all_pairs_push StandsBefore joined last h.ordered h.near;
}

-- which of the two happens: `reached` is the result of the code's test
pub before_from_unreached : (last run : Run) → BeginsFirst last run
    → ((last.line ≡ run.line) → last.to <ℤ run.from) → StandsBefore last run
before_from_unreached last run (inl p) h = inl p
before_from_unreached last run (inr p) h = inr (p.0, h p.0)

-- one element more
pub done_more : (first : Run) (rest : List Run) (i : ℕ) (d : Run) → i < length rest
    → first ∷ take (i + 1) rest ≡ (first ∷ take i rest) ++ get_or rest i d ∷ []
done_more first rest i d b = ap (λ xs. first ∷ xs) (take_more rest i d b)

pub begins_start : (first : Run) (rest : List Run) → AreInOrder (first ∷ rest)
    → BeginsBelow first rest 0
begins_start first rest o m d l b = o 0 (suc m) d (omega arith) (omega arith)

pub begins_next : (first : Run) (rest : List Run) (i : ℕ) (e : Run) → AreInOrder (first ∷ rest)
    → i < length rest → BeginsBelow (get_or rest i e) rest (i + 1)
begins_next first rest i e o l m d g b = subst (λ r. BeginsFirst r (get_or rest m d))
    (get_or_default rest i d e l) (o (suc i) (suc m) d (omega arith) (omega arith))

-- the first element and the rest, as a slice pattern gives them
pub first_and_rest : (xs : List Run) (d : Run) → 1 ≤ length xs
    → get_or xs 0 d ∷ take (length xs - 1) (drop 1 xs) ≡ xs
first_and_rest [] d h = absurd (omega arith)
first_and_rest (x ∷ xs) d h = ap (λ zs. x ∷ zs) (take_all (suc (length xs) - 1) xs (omega arith))

pub same_places-permutation : (xs ys : List Run) → IsPermutation xs ys → (line : Line) (at : ℤ)
    → CoversPlace ys line at ↔ CoversPlace xs line at
same_places-permutation xs ys m line at = (
  Held-permutation (λ r. HoldsPlace r line at) ys xs (IsPermutation-sym xs ys m),
  Held-permutation (λ r. HoldsPlace r line at) xs ys m,
)

-- runs each of which ends before the next, up to index k: one more
pub apart_more : (runs : List Run) (k : ℕ) → All IsFilled runs → 1 ≤ k → k < length runs
    → AllPairs StandsBefore (take k runs)
    → StandsBefore (get_or runs (k - 1) no_run) (get_or runs k no_run)
    → AllPairs StandsBefore (take (k + 1) runs)
apart_more runs k filled some within h next =
    subst (λ (rs : List Run). AllPairs StandsBefore rs) (sym (take_more runs k no_run within))
    (all_pairs_push StandsBefore (take k runs) (get_or runs k no_run) h near)
  where
    near : (m : ℕ) (d : Run) → m < length (take k runs)
        → StandsBefore (get_or (take k runs) m d) (get_or runs k no_run)
    near m d lt =
        let long : length (take k runs) ≡ k = omega (arith, length-take k runs, within) in
        let last : get_or (take k runs) (k - 1) d ≡ get_or runs (k - 1) no_run =
        get_or-take k runs (k - 1) d (omega arith)
        ∙ get_or_default runs (k - 1) d no_run (omega arith) in
        elim (cases_lt m (k - 1)) [
          | inl less ↦ StandsBefore-chain (get_or (take k runs) m d) (get_or runs (k - 1) no_run)
              (get_or runs k no_run) (filled (k - 1) no_run (omega arith))
              (subst (λ (r : Run). StandsBefore (get_or (take k runs) m d) r) last
              (h m (k - 1) d less (omega arith))) next
          | inr more ↦
              let e : k - 1 ≡ m = omega arith in
              subst (λ (r : Run). StandsBefore r (get_or runs k no_run))
              (sym last ∙ ap (λ (n : ℕ). get_or (take k runs) n d) e) next
        ]
