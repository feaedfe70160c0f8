-- The tile that is handed out next was handed out the fewest times.
use Rattle.std.proofs.Common.{◌≡◌, ℕ, zero, suc, ◌+◌, ◌<◌, ◌≤◌, Bool, true, false, List, [], ◌∷◌, Option, Some, None, refl, sym, ap, ◌∙◌, arith}
use Rattle.std.specs.Prelude.{slice_get, if◌then◌else◌, nat_le}
use Rattle.std.proofs.lemmas.Bool.{leb-true, leb-false}
use Rattle.std.proofs.lemmas.Option.{same_Some, none-some, slice_get_past}
use Rattle.mpw_markers.specs.declared.marker.Marker.{Marker}
use Rattle.mpw_run.specs.Run.{Tile}
use Rattle.mpw_run.specs.Step.{Offer, first_of, offered, next_from}
use Rattle.mpw_laws.specs.RunLaws.{NextIsFewest}
use Rattle.mpw_run.proofs.Next.{next_is}

-- ---- tests of counts

at_most : (a b : ℕ) → nat_le a b ≡ true → a ≤ b
at_most a b e = leb-true a b e

above : (a b : ℕ) → nat_le a b ≡ false → b < a
above a b e = leb-false a b e

-- ---- what is handed out

-- if nothing is offered, no unanswered tile is left
left_on : (from : ℕ) (x : Tile) (xs : List Tile) (t : Tile)
    → (next_from (from + 1) xs ≡ None → (k : ℕ) → slice_get xs k ≡ Some t → ⊥) → t.answer ≡ None
    → offered x.answer (record { number = from; tile = x }) (next_from (from + 1) xs) ≡ None
    → (k : ℕ) → slice_get (x ∷ xs) k ≡ Some t → ⊥
left_on from x xs t more n e k g = by x.answer refl e k g
  where
    some : (rest : Option Offer) → first_of (record { number = from; tile = x }) rest ≡ None → ⊥
    some None f = none-some _ (sym f)
    some (Some other) f = none-some _ (sym f)

    by : (a : Option (List Marker)) → x.answer ≡ a
        → offered a (record { number = from; tile = x }) (next_from (from + 1) xs) ≡ None → (k : ℕ)
        → slice_get (x ∷ xs) k ≡ Some t → ⊥
    by None w f k g = some (next_from (from + 1) xs) f
    by (Some m) w f zero g = none-some m
        (sym n ∙ ap (λ (u : Tile). u.answer) (sym (same_Some x t g)) ∙ w)
    by (Some m) w f (suc k) g = more f k g

pub none_left : (from : ℕ) (xs : List Tile) (k : ℕ) (t : Tile) → next_from from xs ≡ None
    → slice_get xs k ≡ Some t → t.answer ≡ None → ⊥
none_left from [] k t e g n = none-some t (sym (slice_get_past {X = Tile} [] k (omega arith)) ∙ g)
none_left from (x ∷ xs) k t e g n =
    left_on from x xs t (λ f j u. none_left (from + 1) xs j t f u n) n e k g

-- it was handed out at most as often as each that is left, and less often than those before it
abbrev pub NoMore : ℕ → Tile → Offer → ℕ → Type 0
NoMore from t o k = (o.tile.taken ≤ t.taken) × (from + k < o.number → o.tile.taken < t.taken)

no_more_on : (from : ℕ) (x : Tile) (xs : List Tile) (t : Tile) → t.answer ≡ None
    → ((p : Offer) → next_from (from + 1) xs ≡ Some p → (j : ℕ) → slice_get xs j ≡ Some t
    → NoMore (from + 1) t p j)
    → (o : Offer) → offered x.answer (record { number = from; tile = x }) (next_from (from + 1) xs)
    ≡ Some o → (k : ℕ) → slice_get (x ∷ xs) k ≡ Some t → NoMore from t o k
no_more_on from x xs t n more o e k g = by x.answer refl e k g
  where
    own : Offer
    own = record { number = from; tile = x }

    -- the first is offered, and each after it was handed out at least as often
    first : own ≡ o → (k : ℕ) → slice_get (x ∷ xs) k ≡ Some t
        → ((j : ℕ) → slice_get xs j ≡ Some t → x.taken ≤ t.taken) → NoMore from t o k
    first s zero g behind =
        let a = ap (λ (p : Offer). p.tile.taken) s in
        let b = ap (λ (u : Tile). u.taken) (same_Some x t g) in
        let c = ap (λ (p : Offer). p.number) s in
        (omega (arith, a, b), λ l. absurd (omega (arith, l, c)))
    first s (suc j) g behind =
        let a = ap (λ (p : Offer). p.tile.taken) s in
        let c = ap (λ (p : Offer). p.number) s in
        (omega (arith, a, behind j g), λ l. absurd (omega (arith, l, c)))

    -- another is offered that was handed out less often than the first
    later : next_from (from + 1) xs ≡ Some o → o.tile.taken < x.taken → (k : ℕ)
        → slice_get (x ∷ xs) k ≡ Some t → NoMore from t o k
    later q less zero g = let b = ap (λ (u : Tile). u.taken) (same_Some x t g) in
        (omega (arith, b, less), λ l. omega (arith, b, less))
    later q less (suc j) g = let h = more o q j g in (h.0, λ l. h.1 (omega (arith, l)))

    chosen : (other : Offer) (b : Bool) → nat_le x.taken other.tile.taken ≡ b
        → next_from (from + 1) xs ≡ Some other → (if b then own else other) ≡ o → (k : ℕ)
        → slice_get (x ∷ xs) k ≡ Some t → NoMore from t o k
    chosen other true w q s k g = first s k g
        (λ j f. let h = more other q j f in omega (arith, h.0, at_most x.taken other.tile.taken w))
    chosen other false w q s k g =
        let a = ap (λ (p : Offer). p.tile.taken) s in
        later (q ∙ ap (λ (p : Offer). Some p) s)
        (omega (arith, a, above x.taken other.tile.taken w)) k g

    among : (rest : Option Offer) → next_from (from + 1) xs ≡ rest → first_of own rest ≡ Some o
        → (k : ℕ) → slice_get (x ∷ xs) k ≡ Some t → NoMore from t o k
    among None q s k g = first (same_Some own o s) k g
        (λ j f. absurd (none_left (from + 1) xs j t q f n))
    among (Some other) q s k g = chosen other (nat_le x.taken other.tile.taken) refl q
        (same_Some _ o s) k g

    by : (a : Option (List Marker)) → x.answer ≡ a
        → offered a own (next_from (from + 1) xs) ≡ Some o → (k : ℕ) → slice_get (x ∷ xs) k ≡ Some t
        → NoMore from t o k
    by None w f k g = among (next_from (from + 1) xs) refl f k g
    by (Some m) w f zero g = absurd (none-some m
        (sym n ∙ ap (λ (u : Tile). u.answer) (sym (same_Some x t g)) ∙ w))
    by (Some m) w f (suc j) g = let h = more o f j g in (h.0, λ l. h.1 (omega (arith, l)))

pub no_more : (from : ℕ) (xs : List Tile) (o : Offer) (k : ℕ) (t : Tile)
    → next_from from xs ≡ Some o → slice_get xs k ≡ Some t → t.answer ≡ None → NoMore from t o k
no_more from [] o k t e g n = absurd (none-some o e)
no_more from (x ∷ xs) o k t e g n =
    no_more_on from x xs t n (λ p f j u. no_more (from + 1) xs p j t f u n) o e k g

pub fewest : NextIsFewest
fewest = record {
  some = λ xs o e.
      let i = next_is 0 xs o e in
      record {
        at = ap (slice_get xs) (let n = i.number in omega (arith, n)) ∙ i.at;
        unanswered = i.unanswered;
        fewest = λ k t g n. (no_more 0 xs o k t e g n).0;
        least = λ k t g n l. (no_more 0 xs o k t e g n).1 (omega (arith, l));
      };
  none = λ xs k t e g n. none_left 0 xs k t e g n;
}
