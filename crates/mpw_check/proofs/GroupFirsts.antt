-- The joined first markers of groups are the first of the layout's.
use Rattle.std.proofs.Common.{◌≡◌, ◌∙◌, ℕ, zero, suc, ◌+◌, ◌<◌, ◌≤◌, List, [], ◌∷◌, ◌++◌, length, get_or, map, take, drop, append-nil, Option, Some, None, option_map, inl, inr, refl, sym, ap, subst, arith}
use Rattle.std.specs.Prelude.{slice_get, slice_index_or, sum_by}
use Rattle.std.specs.List.{AllZip}
use Rattle.std.proofs.lemmas.Bool.{cases_lt}
use Rattle.std.proofs.lemmas.List.{append_assoc, drop_all, drop_more, length-append, length-map, map-append, take-map, take_all, take_more}
use Rattle.std.proofs.lemmas.List.Sums.{sum_by-cons, sum_by_more}
use Rattle.std.proofs.lemmas.List.FromFn.{fill_by_all, get_or-map-range_with_len}
use Rattle.std.proofs.lemmas.Option.{get_or_from_slice_get, slice_get-map, slice_get_within}
use Rattle.std.proofs.Math.Seq.{take-nil}
use Rattle.mpw_deck.specs.declared.rule.Rule.{Rule}
use Rattle.mpw_tiles.specs.Snapshots.{Snapshot}
use Rattle.mpw_markers.specs.declared.marker.Marker.{Marker}
use Rattle.mpw_columns_keys.specs.Firsts.{capped, of_rule}
use Rattle.mpw_columns.specs.First.{IsFirstOfLayout}
use Rattle.mpw_columns.specs.declared.first.FirstMarkers.{FirstMarkers}
use Rattle.mpw_check_groups.specs.declared.group.Group.{Group}
use Rattle.mpw_check_groups.specs.declared.joining.Owner.{Owner}
use Rattle.mpw_check_groups.specs.Parts.{AreRulesAt}
use Rattle.mpw_check_groups.specs.Joined.{joined_from, taken, taken_at, with_rule, AreGroupMarkers, AreOwners, GroupsMakeTheLayout}
use Rattle.mpw_check.proofs.GroupOwn.{of_joined, past_joined}
use Rattle.mpw_check.specs.Internal.Groups.{count_at, count_in, markers_of, AddsRule, AreGroupFirsts, AreJoinedFirsts}

some_at : {X : Type 0} (xs : List X) (n : ℕ) → n < length xs
    → (x : X) × (slice_get xs n ≡ Some x)
some_at [] n lt = absurd (omega (arith, lt))
some_at (x ∷ xs) zero lt = (x, refl)
some_at (x ∷ xs) (suc n) lt = some_at xs n (omega (arith, lt))

rule_inside : (o : Option Rule) (r : Rule) → option_map (λ (rule : Rule). Some rule) o
    ≡ Some (Some r) → o ≡ Some r
rule_inside None r e = absurd (let clash : None ≡ Some (Some r) = e in cc)
rule_inside (Some x) r e = cc

rule_at : (all rules : List Rule) (places : List ℕ) (i n : ℕ) (r : Rule)
    → AreRulesAt all places rules → slice_get places i ≡ Some n → slice_get all n ≡ Some r
    → slice_get rules i ≡ Some r
rule_at all rules places i n r are at is =
    rule_inside (slice_get rules i) r
    (sym (slice_get-map (λ (rule : Rule). Some rule) rules i)
    ∙ ap (λ os. slice_get os i) are
    ∙ slice_get-map (slice_get all) places i
    ∙ ap (option_map (slice_get all)) at
    ∙ ap (λ o. Some o) is)

-- ---- the books of which they are the first

books_of : (most : ℕ) (s : Snapshot) (gs : List Group) (fs : List FirstMarkers)
    → AllZip (AreGroupFirsts most s) gs fs → List (List Marker)
books_of most s [] fs h = []
books_of most s (g ∷ gs) [] h = absurd h
books_of most s (g ∷ gs) (f ∷ fs) h = h.0.are.book ∷ books_of most s gs fs h.1

are_books : (most : ℕ) (s : Snapshot) (gs : List Group) (fs : List FirstMarkers)
    (h : AllZip (AreGroupFirsts most s) gs fs)
    → AllZip (AreGroupMarkers s) gs (books_of most s gs fs h)
unfolding books_of
are_books most s [] fs h = tt
are_books most s (g ∷ gs) [] h = absurd h
are_books most s (g ∷ gs) (f ∷ fs) h = (
  record { part = h.0.part; is_part = h.0.is_part; are = h.0.are.markers },
  are_books most s gs fs h.1,
)

-- the first markers of a group, and its book
record IsFirstAt (most : ℕ) (s : Snapshot) (fs : List FirstMarkers) (books : List (List Marker))
    (n : ℕ) (g : Group) : Type 0 where
  f : FirstMarkers
  at : slice_get fs n ≡ Some f
  first : AreGroupFirsts most s g f
  book : slice_index_or books n [] ≡ first.are.book

same_group : (a b : Group) → (let x : Option Group = Some a in x) ≡ Some b → a ≡ b
same_group a b e = cc

first_at : (most : ℕ) (s : Snapshot) (gs : List Group) (fs : List FirstMarkers)
    (h : AllZip (AreGroupFirsts most s) gs fs) (n : ℕ) (g : Group) → slice_get gs n ≡ Some g
    → IsFirstAt most s fs (books_of most s gs fs h) n g
unfolding books_of
first_at most s [] fs h n g e = absurd (let clash : None ≡ Some g = e in cc)
first_at most s (x ∷ gs) [] h n g e = absurd h
first_at most s (x ∷ gs) (f ∷ fs) h zero g e =
    subst (λ (y : Group). IsFirstAt most s (f ∷ fs) (books_of most s (x ∷ gs) (f ∷ fs) h) 0 y)
    (same_group x g e)
    (record { f = f; at = refl; first = h.0; book = refl })
first_at most s (x ∷ gs) (f ∷ fs) h (suc n) g e =
    let rest = first_at most s gs fs h.1 n g e in
    record { f = rest.f; at = rest.at; first = rest.first; book = rest.book }

-- ---- all rules

-- a count up to a limit, of counts up to the limit
capped_sum : (c sum first rest : ℕ) → c ≡ capped first → capped sum ≡ capped rest
    → capped (c + sum) ≡ capped (first + rest)
capped_sum c sum first rest e f = grind (arith, e, f)

none_plus : (n : ℕ) → 0 + n ≡ n
none_plus n = omega arith

module _ (law : GroupsMakeTheLayout) (most : ℕ) (s : Snapshot) (groups : List Group)
    (owners : List Owner) (fs : List FirstMarkers) (alone : length s.shelf ≡ 1)
    (owned : AreOwners groups (length s.deck.rules) owners)
    (zipped : AllZip (AreGroupFirsts most s) groups fs) where
  abbrev books : List (List Marker)
  books = books_of most s groups fs zipped

  abbrev firsts : List (List Marker)
  firsts = map markers_of fs

  -- what is known of a rule
  record Ruled (r : ℕ) (o : Owner) : Type 0 where
    f : FirstMarkers
    kept : slice_index_or firsts o.group [] ≡ f.markers.items
    counted : count_at fs o ≡ capped (length (of_rule (slice_index_or books o.group []) o.place))
    same : take most (of_rule f.markers.items o.place)
        ≡ take most (of_rule (slice_index_or books o.group []) o.place)
    few : take most (of_rule f.markers.items o.place) ≡ of_rule f.markers.items o.place

  ruled : (r : ℕ) (o : Owner) → slice_get owners r ≡ Some o → Ruled r o
  ruled r o at =
      let owner = owned.each r o at in
      let found = first_at most s groups fs zipped o.group owner.group owner.at in
      let are = found.first.are.are in
      let long = owned.long in
      let within = slice_get_within owners r o at in
      let rule = some_at s.deck.rules r (omega (arith, within, long)) in
      let part = found.first.part in
      let inside = slice_get_within part.deck.rules o.place rule.0
      (rule_at s.deck.rules part.deck.rules owner.group.rules.items o.place r rule.0
      found.first.is_part.rules owner.place rule.1) in record {
        f = found.f;
        kept = get_or_from_slice_get firsts o.group found.f.markers.items []
            (slice_get-map markers_of fs o.group ∙ ap (option_map markers_of) found.at);
        counted = ap (λ x. count_in x o.place) found.at
            ∙ ap (λ (ns : List ℕ). get_or ns o.place 0) are.counts_are
            ∙ get_or-map-range_with_len
            (λ place. capped (length (of_rule found.first.are.book place))) 0
            (length part.deck.rules) o.place o.place 0 inside (none_plus o.place)
            ∙ ap (λ (ms : List Marker). capped (length (of_rule ms o.place))) (sym found.book);
        same = are.first_are o.place
            ∙ ap (λ (ms : List Marker). take most (of_rule ms o.place)) (sym found.book);
        few = are.few o.place;
      }

  -- the markers of a rule
  first_taken : (r : ℕ) (o : Owner) → slice_get owners r ≡ Some o
      → take most (taken_at firsts o r) ≡ take most (taken_at books o r)
  first_taken r o at =
      let is = ruled r o at in
      ap (λ (ms : List Marker). take most (taken o.place r ms)) is.kept
      ∙ take-map (with_rule r) most (of_rule is.f.markers.items o.place)
      ∙ ap (map (with_rule r)) is.same
      ∙ sym (take-map (with_rule r) most (of_rule (slice_index_or books o.group []) o.place))

  few_taken : (r : ℕ) (o : Owner) → slice_get owners r ≡ Some o
      → take most (taken_at firsts o r) ≡ taken_at firsts o r
  few_taken r o at =
      let is = ruled r o at in
      ap (λ (ms : List Marker). take most (taken o.place r ms)) is.kept
      ∙ take-map (with_rule r) most (of_rule is.f.markers.items o.place)
      ∙ ap (map (with_rule r)) is.few
      ∙ ap (λ (ms : List Marker). taken o.place r ms) (sym is.kept)

  count_taken : (r : ℕ) (o : Owner) → slice_get owners r ≡ Some o
      → count_at fs o ≡ capped (length (taken_at books o r))
  count_taken r o at =
      let is = ruled r o at in
      is.counted
      ∙ ap capped (sym (length-map (of_rule (slice_index_or books o.group []) o.place)
      (with_rule r)))

  -- all of them
  agree : (place : ℕ) → take most (of_rule (joined_from firsts 0 owners) place)
      ≡ take most (of_rule (joined_from books 0 owners) place)
  agree place = elim (cases_lt place (length owners)) as
      (λ t. take most (of_rule (joined_from firsts 0 owners) place)
      ≡ take most (of_rule (joined_from books 0 owners) place)) [
        | inl less ↦
            let o = some_at owners place less in
            ap (take most) (of_joined firsts 0 owners place o.0 o.1 place (omega arith))
            ∙ first_taken place o.0 o.1
            ∙ ap (take most) (sym (of_joined books 0 owners place o.0 o.1 place (omega arith)))
        | inr more ↦
            ap (take most) (past_joined firsts 0 owners place (omega (arith, more)))
            ∙ ap (take most) (sym (past_joined books 0 owners place (omega (arith, more))))
      ]

  all_few : (place : ℕ) → take most (of_rule (joined_from firsts 0 owners) place)
      ≡ of_rule (joined_from firsts 0 owners) place
  all_few place = elim (cases_lt place (length owners)) as
      (λ t. take most (of_rule (joined_from firsts 0 owners) place)
      ≡ of_rule (joined_from firsts 0 owners) place) [
        | inl less ↦
            let o = some_at owners place less in
            let is = of_joined firsts 0 owners place o.0 o.1 place (omega arith) in
            ap (take most) is ∙ few_taken place o.0 o.1 ∙ sym is
        | inr more ↦
            let is = past_joined firsts 0 owners place (omega (arith, more)) in
            ap (take most) is ∙ take-nil most ∙ sym is
      ]

  count_of : (place : ℕ) → place < length (map (count_at fs) owners)
      → get_or (map (count_at fs) owners) place 0
      ≡ capped (length (of_rule (joined_from books 0 owners) place))
  count_of place lt =
      let same = length-map owners (count_at fs) in
      let o = some_at owners place (omega (arith, lt, same)) in
      get_or_from_slice_get (map (count_at fs) owners) place (count_at fs o.0) 0
      (slice_get-map (count_at fs) owners place ∙ ap (option_map (count_at fs)) o.1)
      ∙ count_taken place o.0 o.1
      ∙ ap (λ (ms : List Marker). capped (length ms))
      (sym (of_joined books 0 owners place o.0 o.1 place (omega arith)))

  sum_from : (k : ℕ) (os : List Owner)
      → ((i : ℕ) (o : Owner) → slice_get os i ≡ Some o
      → count_at fs o ≡ capped (length (taken_at books o (k + i))))
      → capped (sum_by (count_at fs) os) ≡ capped (length (joined_from books k os))
  sum_from k [] each = refl
  sum_from k (o ∷ os) each =
      ap capped (sum_by-cons (count_at fs) o os)
      ∙ capped_sum (count_at fs o) (sum_by (count_at fs) os) (length (taken_at books o k))
      (length (joined_from books (k + 1) os))
      (each 0 o refl ∙ ap (λ n. capped (length (taken_at books o n))) (beside k))
      (sum_from (k + 1) os (λ i p e. each (suc i) p e
      ∙ ap (λ n. capped (length (taken_at books p n))) (behind k i)))
      ∙ ap capped (sym (length-append (taken_at books o k) (joined_from books (k + 1) os)))
    where
      behind : (k i : ℕ) → k + suc i ≡ k + 1 + i
      behind k i = omega arith

      beside : (k : ℕ) → k + 0 ≡ k
      beside k = omega arith

  pub firsts_make : (joined : FirstMarkers) → AreJoinedFirsts fs owners joined
      → IsFirstOfLayout most s joined
  firsts_make joined is = record {
    book = joined_from books 0 owners;
    markers = law s groups owners books alone owned (are_books most s groups fs zipped);
    are = record {
      first_are = λ place.
          ap (λ (ms : List Marker). take most (of_rule ms place)) is.markers ∙ agree place;
      few = λ place.
          ap (λ (ms : List Marker). take most (of_rule ms place)) is.markers ∙ all_few place
          ∙ sym (ap (λ (ms : List Marker). of_rule ms place) is.markers);
      counts_are =
          let long = length-map owners (count_at fs) ∙ owned.long in
          is.counts
          ∙ fill_by_all (λ place. capped (length (of_rule (joined_from books 0 owners) place)))
          (map (count_at fs) owners) (length s.deck.rules) 0 long
          (λ place lt. count_of place (omega (arith, lt, long)));
      all_is = is.all ∙ sum_from 0 owners (λ i o e. count_taken i o e
          ∙ ap (λ n. capped (length (taken_at books o n))) (none_added i));
    };
  }
    where
      none_added : (n : ℕ) → n ≡ 0 + n
      none_added n = omega arith

-- ---- the join, rule by rule

-- The first n rules are joined.
pub record JoinedUpto (fs : List FirstMarkers) (owners : List Owner) (n : ℕ) (f : FirstMarkers) :
    Type 0 where
  pub markers : f.markers.items ++ joined_from (map markers_of fs) n (drop n owners)
      ≡ joined_from (map markers_of fs) 0 owners
  pub counts : f.counts.items ≡ map (count_at fs) (take n owners)
  pub all : f.all ≡ capped (sum_by (count_at fs) (take n owners))

pub joined_none : (fs : List FirstMarkers) (owners : List Owner) (f : FirstMarkers)
    → f.markers.items ≡ [] → f.counts.items ≡ [] → f.all ≡ 0 → JoinedUpto fs owners 0 f
joined_none fs owners f no_markers no_counts none = record {
  markers = ap (λ ms. ms ++ joined_from (map markers_of fs) 0 owners) no_markers;
  counts = no_counts;
  all = none;
}

pub joined_more : (fs : List FirstMarkers) (owners : List Owner) (n : ℕ) (d : Owner)
    (old new : FirstMarkers) → n < length owners → AddsRule fs (get_or owners n d) n old new
    → JoinedUpto fs owners n old → JoinedUpto fs owners (n + 1) new
joined_more fs owners n d old new inside adds so_far =
    let lists = map markers_of fs in
    let o = get_or owners n d in record {
      markers =
          ap (λ ms. ms ++ joined_from lists (n + 1) (drop (n + 1) owners)) adds.markers
          ∙ append_assoc old.markers.items (taken_at lists o n)
          (joined_from lists (n + 1) (drop (n + 1) owners))
          ∙ ap (λ os. old.markers.items ++ joined_from lists n os)
          (sym (drop_more owners n d inside))
          ∙ so_far.markers;
      counts =
          adds.counts
          ∙ ap (λ ns. ns ++ count_at fs o ∷ []) so_far.counts
          ∙ sym (map-append (count_at fs) (take n owners) (o ∷ []))
          ∙ ap (map (count_at fs)) (sym (take_more owners n d inside));
      all =
          adds.all
          ∙ ap (λ k. capped (k + count_at fs o)) so_far.all
          ∙ capped_plus (sum_by (count_at fs) (take n owners)) (count_at fs o)
          ∙ ap capped (sym (sum_by_more (count_at fs) owners n d inside));
    }
  where
    capped_plus : (a b : ℕ) → capped (capped a + b) ≡ capped (a + b)
    capped_plus a b = grind (arith)

pub joined_all : (fs : List FirstMarkers) (owners : List Owner) (n : ℕ) (f : FirstMarkers)
    → length owners ≤ n → JoinedUpto fs owners n f → AreJoinedFirsts fs owners f
joined_all fs owners n f past is = record {
  markers =
      sym (append-nil f.markers.items)
      ∙ ap (λ os. f.markers.items ++ joined_from (map markers_of fs) n os)
      (sym (drop_all n owners past))
      ∙ is.markers;
  counts = is.counts ∙ ap (map (count_at fs)) (take_all n owners past);
  all = is.all ∙ ap (λ os. capped (sum_by (count_at fs) os)) (take_all n owners past);
}

pub firsts_are : GroupsMakeTheLayout → (most : ℕ) (s : Snapshot) (groups : List Group) (n : ℕ)
    (owners given : List Owner) (fs found : List FirstMarkers) (joined : FirstMarkers)
    → length s.shelf ≡ 1 → n ≡ length s.deck.rules → given ≡ owners → found ≡ fs
    → AreOwners groups n owners → AllZip (AreGroupFirsts most s) groups fs
    → AreJoinedFirsts found given joined → IsFirstOfLayout most s joined
firsts_are law most s groups n owners given fs found joined alone rules same_owners same_firsts
    owned zipped is =
    firsts_make law most s groups owners fs alone
    (subst (λ (k : ℕ). AreOwners groups k owners) rules owned) zipped joined
    (subst (λ (os : List Owner). AreJoinedFirsts fs os joined) same_owners
    (subst (λ (xs : List FirstMarkers). AreJoinedFirsts xs given joined) same_firsts is))
