-- The tile that is handed out next.
use Rattle.std.proofs.Common.{◌≡◌, ℕ, suc, ◌+◌, ◌-◌, ◌<◌, ◌≤◌, Bool, true, false, List, [], ◌∷◌, length, get_or, drop, Option, Some, None, refl, sym, ap, ◌∙◌, arith}
use Rattle.std.specs.Prelude.{slice_get, option_map, if◌then◌else◌, nat_le}
use Rattle.std.proofs.lemmas.List.{drop_more, drop_all}
use Rattle.std.proofs.lemmas.Option.{same_Some, none-some}
use Rattle.mpw_markers.specs.declared.marker.Marker.{Marker}
use Rattle.mpw_run.specs.Run.{Tile}
use Rattle.mpw_run.specs.Step.{Offer, handed_out, first_of, offered, next_from}

-- The offer is a tile of the list, counted from a number on, and is unanswered.
pub record IsOffered (from : ℕ) (xs : List Tile) (o : Offer) : Type 0 where
  pub place : ℕ
  pub number : o.number ≡ from + place
  pub at : slice_get xs place ≡ Some o.tile
  pub unanswered : o.tile.answer ≡ None

abbrev own_offer : ℕ → Tile → Offer
own_offer k x = record { number = k; tile = x }

own_is : (k : ℕ) (x : Tile) (xs : List Tile) (o : Offer) → x.answer ≡ None → own_offer k x ≡ o
    → IsOffered k (x ∷ xs) o
own_is k x xs o w e = record {
  place = 0;
  number = sym (ap (λ (p : Offer). p.number) e) ∙ (omega arith);
  at = ap (λ (p : Offer). Some p.tile) e;
  unanswered = sym (ap (λ (p : Offer). p.tile.answer) e) ∙ w;
}

behind_is : (k : ℕ) (x : Tile) (xs : List Tile) (o : Offer) → IsOffered (k + 1) xs o
    → IsOffered k (x ∷ xs) o
behind_is k x xs o h = record {
  place = suc h.place;
  number = (let e = h.number in omega (arith, e));
  at = h.at;
  unanswered = h.unanswered;
}

offered_is : (k : ℕ) (x : Tile) (xs : List Tile) (o : Offer)
    → ((p : Offer) → next_from (k + 1) xs ≡ Some p → IsOffered (k + 1) xs p)
    → offered x.answer (own_offer k x) (next_from (k + 1) xs) ≡ Some o → IsOffered k (x ∷ xs) o
offered_is k x xs o more e = by x.answer refl e
  where
    chosen : (other : Offer) (b : Bool) → next_from (k + 1) xs ≡ Some other
        → (if b then own_offer k x else other) ≡ o → x.answer ≡ None → IsOffered k (x ∷ xs) o
    chosen other true q f w = own_is k x xs o w f
    chosen other false q f w = behind_is k x xs o (more o (q ∙ ap (λ (p : Offer). Some p) f))

    first : (rest : Option Offer) → next_from (k + 1) xs ≡ rest
        → first_of (own_offer k x) rest ≡ Some o → x.answer ≡ None → IsOffered k (x ∷ xs) o
    first None q f w = own_is k x xs o w (same_Some _ o f)
    first (Some other) q f w = chosen other (nat_le x.taken other.tile.taken) q (same_Some _ o f) w

    by : (a : Option (List Marker)) → x.answer ≡ a
        → offered a (own_offer k x) (next_from (k + 1) xs) ≡ Some o → IsOffered k (x ∷ xs) o
    by None w f = first (next_from (k + 1) xs) refl f w
    by (Some m) w f = behind_is k x xs o (more o f)

pub next_is : (k : ℕ) (xs : List Tile) (o : Offer) → next_from k xs ≡ Some o → IsOffered k xs o
next_is k [] o e = absurd (none-some o e)
next_is k (x ∷ xs) o e = offered_is k x xs o (λ p f. next_is (k + 1) xs p f) e

-- ---- the loop, from the last tile to the first

pub next_none : (xs : List Tile) (n : ℕ) → length xs ≤ n → next_from n (drop n xs) ≡ None
next_none xs n l = ap (next_from n) (drop_all n xs l)

pub next_back : (xs : List Tile) (k : ℕ) (x : Tile) → k < length xs → x ≡ get_or xs k x
    → next_from k (drop k xs) ≡ offered x.answer (record { number = k; tile = x })
    (next_from (k + 1) (drop (k + 1) xs))
next_back xs k x l e =
    ap (next_from k) (drop_more xs k x l)
    ∙ ap (λ (t : Tile). offered t.answer (record { number = k; tile = t })
    (next_from (k + 1) (drop (k + 1) xs))) (sym e)

-- one more tile is passed
pub next_step : (xs : List Tile) (rest : ℕ) (x : Tile) (best next : Option (ℕ × ℕ)) → 0 < rest
    → rest ≤ length xs → x ≡ get_or xs (rest - 1) x
    → best ≡ option_map handed_out (next_from rest (drop rest xs))
    → ((r : Option Offer) → best ≡ option_map handed_out r
    → next ≡ option_map handed_out (offered x.answer (record { number = rest - 1; tile = x })
    r))
    → next ≡ option_map handed_out (next_from (rest - 1) (drop (rest - 1) xs))
next_step xs rest x best next some within e h step =
    let back : rest ≡ rest - 1 + 1 = omega (arith, some) in
    step (next_from rest (drop rest xs)) h
    ∙ ap (option_map handed_out) (ap (λ (n : ℕ).
    offered x.answer (record { number = rest - 1; tile = x }) (next_from n (drop n xs))) back
    ∙ sym (next_back xs (rest - 1) x (omega (arith, some, within)) e))

-- the offer of a number
pub offer_of_number : (best : Option Offer) (tile : ℕ)
    → Some tile ≡ option_map (λ (o : Offer). o.number) best → (o : Offer) × (best ≡ Some o)
    × (o.number ≡ tile)
offer_of_number None tile e = absurd (none-some _ (sym e))
offer_of_number (Some o) tile e = (o, refl, sym (same_Some _ _ e))
