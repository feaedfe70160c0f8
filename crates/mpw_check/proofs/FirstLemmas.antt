-- The first markers of each rule of a book, found in one pass.
use Rattle.std.proofs.Common.{◌≡◌, ◌∙◌, ℕ, ◌+◌, ◌<◌, ◌≤◌, ◌==◌, ◌^◌, Bool, false, cond, inl, inr, List, [], ◌∷◌, ◌++◌, length, get_or, take, sym, refl, ap, subst, append-nil, le_refl, take-take, replicate, length-append, arith}
use Rattle.std.specs.Prelude.{All, IfOk, Result, Ok, Err, not, slice_index}
use Rattle.std.proofs.lemmas.Bool.{cases_lt, eq-eqb}
use Rattle.std.proofs.lemmas.Bool.Decides.{eqb_tells}
use Rattle.std.proofs.lemmas.List.{take-append-le, take_all, length-take-le, length-replicate, get_or-replicate}
use Rattle.std.proofs.Math.Seq.{take-nil}
use Rattle.std.proofs.lemmas.List.Elements.{filter-append, filter_more, All-get_or, Contains-get_or}
use Rattle.std.proofs.lemmas.List.Filters.{length-filter_both, length-filter_more}
use Rattle.std.proofs.lemmas.List.FromFn.{fill_by_all}
use Rattle.std.proofs.lemmas.Int.{ints}
use Rattle.std.proofs.lemmas.Option.{slice_get_within}
use Rattle.mpw_markers.specs.declared.marker.Marker.{Marker}
use Rattle.mpw_job.specs.Layout.{AreLayoutMarkers}
use Rattle.mpw_tiles.specs.Snapshots.{Snapshot}
use Rattle.mpw_columns.specs.First.{IsFirstOfLayout}
use Rattle.mpw_columns.specs.declared.first.FirstMarkers.{FirstMarkers}
use Rattle.mpw_columns_keys.specs.Firsts.{of_rule, capped, AreFirstOf}
use Rattle.mpw_check.specs.Internal.First.{AddsOne, AreFirstSeen}

-- ---- one element more

abbrev is_of : ℕ → Marker → Bool
is_of place m = m.key.rule == place

module _ {X : Type 0} (most : ℕ) (xs : List X) (x : X) where
  takes_one : length xs < most → take most xs ++ x ∷ [] ≡ take most (xs ++ x ∷ [])
  takes_one lt =
      let long = length-append xs (x ∷ []) in
      ap (λ (ys : List X). ys ++ x ∷ []) (take_all most xs (omega (arith, lt)))
      ∙ sym (take_all most (xs ++ x ∷ []) (omega (arith, lt, long)))

-- no marker was read
pub none_seen : (most rules : ℕ) (book : List Marker) (f : FirstMarkers) → f.markers.items ≡ []
    → f.counts.items ≡ replicate rules 0 → AreFirstSeen most (take 0 book) f
none_seen most rules book f none zeros = record {
  first = λ place. ap (λ (ms : List Marker). of_rule ms place) none ∙ sym (take-nil most);
  counted = λ place within.
      let long = ap (λ (ns : List ℕ). length ns) zeros ∙ length-replicate rules 0 in
      ap (λ (ns : List ℕ). get_or ns place 0) zeros
      ∙ get_or-replicate rules place 0 0 (omega (arith, within, long));
}

-- the marker's rule has a count
pub rule_counted : (rules : ℕ) (book : List Marker) (i : ℕ) (m : Marker) (counts : List ℕ)
    → i < length book → m ≡ get_or book i m → All (λ m. m.key.rule < rules) book
    → length counts ≡ rules → m.key.rule < length counts
rule_counted rules book i m counts inside at below long =
    let own = subst (λ (x : Marker). x.key.rule < rules) (sym at)
    (All-get_or (λ m. m.key.rule < rules) book i m inside below) in
    omega (arith, own, long)

-- the counts are at most the number of markers that were read
pub count_few : (most : ℕ) (book : List Marker) (i place : ℕ) (f : FirstMarkers)
    → i < length book → AreFirstSeen most (take i book) f → place < length f.counts.items
    → slice_index f.counts.items place ≤ i
count_few most book i place f inside seen within =
    let count = seen.counted place within in
    omega (
      arith,
      count,
      length-filter_both (is_of place) (λ (x : Marker). not (x.key.rule == place)) (λ x. refl)
          (take i book),
      length-take-le i book (omega (arith, inside)),
    )

module _ (most : ℕ) (book : List Marker) (i : ℕ) (m : Marker) (old new : FirstMarkers)
    (inside : i < length book) (at : m ≡ get_or book i m)
    (there : m.key.rule < length old.counts.items)
    (adds : AddsOne most m old new) (seen : AreFirstSeen most (take i book) old) where
  -- one more of the rule, or the same
  seen_more : (place : ℕ)
      → of_rule (take (i + 1) book) place
      ≡ of_rule (take i book) place ++ cond (m.key.rule == place) (m ∷ []) []
  seen_more place =
      filter_more (is_of place) book i m inside
      ∙ ap (λ (x : Marker). of_rule (take i book) place ++ cond (x.key.rule == place) (x ∷ []) [])
      (sym at)

  with_one : (place : ℕ) → new.markers.items ≡ old.markers.items ++ m ∷ []
      → of_rule new.markers.items place
      ≡ take most (of_rule (take i book) place) ++ cond (m.key.rule == place) (m ∷ []) []
  with_one place e =
      ap (λ (ms : List Marker). of_rule ms place) e
      ∙ filter-append (is_of place) old.markers.items (m ∷ [])
      ∙ ap (λ (ms : List Marker). ms ++ cond (m.key.rule == place) (m ∷ []) []) (seen.first place)

  own : of_rule new.markers.items m.key.rule ≡ take most (of_rule (take i book) m.key.rule ++ m
      ∷ [])
  own =
      let same = eq-eqb m.key.rule m.key.rule refl in
      let count = seen.counted m.key.rule there in
      let before = of_rule (take i book) m.key.rule in
      elim (cases_lt (slice_index old.counts.items m.key.rule) most) as
      (λ t. of_rule new.markers.items m.key.rule ≡ take most (before ++ m ∷ [])) [
        | inl lt ↦
            with_one m.key.rule (adds.taken lt)
            ∙ ap (λ (b : Bool). take most before ++ cond b (m ∷ []) []) same
            ∙ takes_one most before m (omega (arith, lt, count))
        | inr le ↦
            ap (λ (ms : List Marker). of_rule ms m.key.rule) (adds.left le) ∙ seen.first m.key.rule
            ∙ sym (take-append-le most before (m ∷ []) (omega (arith, le, count)))
      ]

  other : (place : ℕ) → (m.key.rule == place) ≡ false
      → of_rule new.markers.items place ≡ take most (of_rule (take i book) place)
  other place differs =
      elim (cases_lt (slice_index old.counts.items m.key.rule) most) as
      (λ t. of_rule new.markers.items place ≡ take most (of_rule (take i book) place)) [
        | inl lt ↦
            with_one place (adds.taken lt)
            ∙ ap (λ (b : Bool). take most (of_rule (take i book) place) ++ cond b (m ∷ []) [])
            differs
            ∙ append-nil (take most (of_rule (take i book) place))
        | inr le ↦
            ap (λ (ms : List Marker). of_rule ms place) (adds.left le) ∙ seen.first place
      ]

  first_more : (place : ℕ)
      → of_rule new.markers.items place ≡ take most (of_rule (take (i + 1) book) place)
  first_more place =
      elim (eqb_tells m.key.rule place) as
      (λ t. of_rule new.markers.items place ≡ take most (of_rule (take (i + 1) book) place)) [
        | inl same ↦
            subst (λ (p : ℕ). of_rule new.markers.items p
            ≡ take most (of_rule (take (i + 1) book) p))
            same.1
            (own ∙ ap (take most) (sym (seen_more m.key.rule
            ∙ ap (λ (b : Bool). of_rule (take i book) m.key.rule ++ cond b (m ∷ []) [])
            (eq-eqb m.key.rule m.key.rule refl))))
        | inr differs ↦
            other place differs.0
            ∙ ap (take most) (sym (seen_more place
            ∙ ap (λ (b : Bool). of_rule (take i book) place ++ cond b (m ∷ []) []) differs.0
            ∙ append-nil (of_rule (take i book) place)))
      ]

  pub one_more : AreFirstSeen most (take (i + 1) book) new
  one_more = record {
    first = first_more;
    counted = λ place within.
        let long = adds.long in
        let before : place < length old.counts.items = omega (arith, within, long) in
        adds.counted place before
        ∙ ap (λ n. n + cond (m.key.rule == place) 1 0) (seen.counted place before)
        ∙ sym (length-filter_more (is_of place) book i m inside
        ∙ ap (λ (x : Marker). length (of_rule (take i book) place) + cond (x.key.rule == place) 1 0)
        (sym at));
  }

-- ---- the whole book

pub whole_seen : (most rules : ℕ) (book : List Marker) (i : ℕ) (f : FirstMarkers)
    → length book ≤ i → length book < 2 ^ 64 → length f.counts.items ≡ rules
    → f.all ≡ length book → AreFirstSeen most (take i book) f
    → AreFirstOf most rules book f.markers.items f.counts.items f.all
whole_seen most rules book i f past small long all seen = record {
  first_are = λ place.
      ap (take most) (first place)
      ∙ take-take most most (of_rule book place) (le_refl most);
  few = λ place.
      ap (take most) (first place)
      ∙ take-take most most (of_rule book place) (le_refl most) ∙ sym (first place);
  counts_are =
      fill_by_all (λ place. capped (length (of_rule book place))) f.counts.items rules 0 long
      (λ place lt. counted place (omega (arith, lt, long)));
  all_is = grind (arith, all, small);
}
  where
    whole : take i book ≡ book
    whole = take_all i book past

    first : (place : ℕ) → of_rule f.markers.items place ≡ take most (of_rule book place)
    first place =
        seen.first place ∙ ap (λ (ms : List Marker). take most (of_rule ms place)) whole

    counted : (place : ℕ) → place < length f.counts.items
        → get_or f.counts.items place 0 ≡ capped (length (of_rule book place))
    counted place lt =
        let count = seen.counted place lt
        ∙ ap (λ (ms : List Marker). length (of_rule ms place)) whole in
        let few =
        length-filter_both (is_of place) (λ (x : Marker). not (x.key.rule == place)) (λ x. refl)
        book in
        grind (arith, count, few, small)

-- ---- of a layout

-- Each marker's rule is one of the deck's.
pub rules_there : (s : Snapshot) (book : List Marker) → AreLayoutMarkers s book
    → All (λ m. m.key.rule < length s.deck.rules) book
rules_there s book are = λ i d lt.
    let m = get_or book i d in
    let run = are.runs.sound m (Contains-get_or book i d lt) in
    let step = run.rows m.key.piece.y0 (omega (arith, ints)) run.filled in
    slice_get_within s.deck.rules m.key.rule step.0 step.1

-- The first of each rule of its book are those of the layout.
pub is_first_of : {E : Type 0} (most : ℕ) (s : Snapshot) (book : List Marker)
    (r : Result FirstMarkers E) → AreLayoutMarkers s book
    → IfOk r (λ f. AreFirstOf most (length s.deck.rules) book f.markers.items f.counts.items f.all)
    → IfOk r (IsFirstOfLayout most s)
is_first_of most s book (Ok f) are first =
    record { book = book; markers = are; are = first }
is_first_of most s book (Err e) are first = tt
