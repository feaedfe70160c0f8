-- The joined markers of groups are the layout's, if each rule is in a group.
use Rattle.std.proofs.Common.{◌≡◌, ◌∙◌, ℕ, zero, suc, ◌+◌, ◌<◌, Bool, true, List, [], ◌∷◌, length, Option, Some, None, option_map, refl, sym, ap, subst, arith}
use Rattle.std.specs.Prelude.{ℤ, Contains, slice_get, slice_index_or}
use Rattle.std.specs.List.{AllZip}
use Rattle.std.proofs.lemmas.Bool.{false≢true}
use Rattle.std.proofs.lemmas.Int.{ints}
use Rattle.std.proofs.lemmas.Option.{slice_get-map, slice_get_within}
use Rattle.mpw_deck.specs.declared.rule.Rule.{Rule}
use Rattle.mpw_tiles.specs.Shown.{HasShown}
use Rattle.mpw_tiles.specs.Snapshots.{Snapshot, shown}
use Rattle.mpw_edges.specs.Pieces.{box_of}
use Rattle.mpw_markers.specs.declared.marker.Key.{Key}
use Rattle.mpw_markers.specs.declared.marker.Line.{Line}
use Rattle.mpw_markers.specs.declared.marker.Marker.{Marker}
use Rattle.mpw_markers.specs.Markers.{line_of_key}
use Rattle.mpw_markers.specs.Whole.{IsMarkerOf, IsMaximal}
use Rattle.mpw_job.specs.Computed.{has_step_of, shown_on, steps_of, AreTestedMarkers}
use Rattle.mpw_job.specs.Laws.{EachMarkerMeetsSome, TestsTellMarkers}
use Rattle.mpw_job.specs.Layers.{Coverage}
use Rattle.mpw_check_groups.specs.declared.group.Group.{Group}
use Rattle.mpw_check_groups.specs.declared.joining.Owner.{Owner}
use Rattle.mpw_check_groups.specs.Joined.{joined_from, taken, taken_at, with_rule, AreGroupMarkers, AreOwners, GroupsMakeTheLayout}
use Rattle.mpw_check_groups.specs.Parts.{AreRulesAt, IsPartOf}
use Rattle.mpw_check_groups.proofs.Merging.{joined_book, joined_of, taken_of, to_joined, to_taken, AreBooks}
use Rattle.mpw_check_groups.proofs.Squared.{key_at, to_deck, to_part}
use Rattle.mpw_check_groups.proofs.Touched.{met_same, ComeFromTheShelf}

-- ---- places

same_some : {X : Type 0} (a b : X) → (let x : Option X = Some a in x) ≡ Some b → a ≡ b
same_some a b e = cc

rule_inside : (o : Option Rule) (r : Rule) → option_map (λ (rule : Rule). Some rule) o
    ≡ Some (Some r) → o ≡ Some r
rule_inside None r e = absurd (let clash : None ≡ Some (Some r) = e in cc)
rule_inside (Some x) r e = same_some (Some x) (Some r) e

pub rule_at : (all rules : List Rule) (places : List ℕ) (i n : ℕ) (r : Rule)
    → AreRulesAt all places rules → slice_get places i ≡ Some n → slice_get all n ≡ Some r
    → slice_get rules i ≡ Some r
rule_at all rules places i n r are at is =
    rule_inside (slice_get rules i) r
    (sym (slice_get-map (λ (rule : Rule). Some rule) rules i)
    ∙ ap (λ os. slice_get os i) are
    ∙ slice_get-map (slice_get all) places i
    ∙ ap (option_map (slice_get all)) at
    ∙ ap (λ o. Some o) is)

some_at : {X : Type 0} (xs : List X) (n : ℕ) → n < length xs
    → (x : X) × (slice_get xs n ≡ Some x)
some_at [] n lt = absurd (omega (arith, lt))
some_at (x ∷ xs) zero lt = (x, refl)
some_at (x ∷ xs) (suc n) lt = some_at xs n (omega (arith, lt))

zip_at : (P : Group → List Marker → Type 0) (gs : List Group) (lists : List (List Marker))
    → AllZip P gs lists → (n : ℕ) (g : Group) → slice_get gs n ≡ Some g
    → P g (slice_index_or lists n [])
zip_at P [] lists h n g e = absurd (let clash : None ≡ Some g = e in cc)
zip_at P (x ∷ gs) [] h n g e = absurd h
zip_at P (x ∷ gs) (l ∷ ls) h zero g e = subst (λ (y : Group). P y l) (same_some x g e) h.0
zip_at P (x ∷ gs) (l ∷ ls) h (suc n) g e = zip_at P gs ls h.1 n g e

deck_rule : (rules : List Rule) (on : Coverage) (l : Line) (j : ℤ) → steps_of rules on l j ≡ true
    → (r : Rule) × (slice_get rules l.rule ≡ Some r)
deck_rule rules on l j e = at (slice_get rules l.rule) refl
  where
    at : (o : Option Rule) → slice_get rules l.rule ≡ o
        → (r : Rule) × (slice_get rules l.rule ≡ Some r)
    at None h = absurd (false≢true (sym (ap (λ o. has_step_of o on l j) h) ∙ e))
    at (Some r) h = (r, h)

none_added : (n : ℕ) → 0 + n ≡ n
none_added n = omega arith

-- ---- one rule

-- what is known of a rule's group
pub record Owned (s : Snapshot) (rule place : ℕ) (book : List Marker) : Type 0 where
  pub part : Snapshot
  pub places : List ℕ
  pub is_part : IsPartOf s places part
  pub tested : AreTestedMarkers part.deck.rules (shown part) book
  pub meets : (m : Marker) → Contains book m → (origin : ℕ) × Contains m.met origin
  pub r : Rule
  pub of_deck : slice_get s.deck.rules rule ≡ Some r
  pub of_part : slice_get part.deck.rules place ≡ Some r

module _ (come : ComeFromTheShelf) (s : Snapshot) (alone : length s.shelf ≡ 1) (rule place : ℕ)
    (book : List Marker) (owned : Owned s rule place book) where
  abbrev part_steps : Line → ℤ → Bool
  part_steps = steps_of owned.part.deck.rules (shown_on (shown owned.part))

  abbrev deck_steps : Line → ℤ → Bool
  deck_steps = steps_of s.deck.rules (shown_on (shown s))

  pub is_marker : (n : Marker) → Contains book n → n.key.rule ≡ place
      → IsMarkerOf deck_steps (HasShown (shown s)) (with_rule rule n)
  is_marker n c e =
      let is = owned.tested.1.sound n c in record {
        run = to_deck s owned.part owned.places owned.is_part rule place owned.r owned.of_deck
            owned.of_part n.key
            (subst (λ (k : ℕ). IsMaximal part_steps (key_at k n.key)) e is.run);
        ascending = is.ascending;
        met =
            met_same come s owned.part owned.places owned.is_part alone (box_of n.key.piece) n.met
            is.met
            (owned.meets n c);
      }

  pub is_taken : (k : Key) → IsMaximal deck_steps (key_at rule k)
      → (m : Marker) × Contains (taken place rule book) m × (m.key ≡ key_at rule k)
  is_taken k run =
      let found = owned.tested.1.complete (key_at place k)
      (to_part s owned.part owned.places owned.is_part rule place owned.r owned.of_deck
      owned.of_part k run) in (
        with_rule rule found.0,
        to_taken place rule book found.0 found.1 (ap (λ (x : Key). x.rule) found.2),
        ap (key_at rule) found.2,
      )

-- ---- all rules

record Laws : Type 0 where
  tests : TestsTellMarkers
  meets : EachMarkerMeetsSome
  come : ComeFromTheShelf

module _ (laws : Laws) (s : Snapshot) (groups : List Group) (owners : List Owner)
    (lists : List (List Marker)) (alone : length s.shelf ≡ 1)
    (owned : AreOwners groups (length s.deck.rules) owners)
    (zipped : AllZip (AreGroupMarkers s) groups lists) where
  has_rule : (i : ℕ) (o : Owner) → slice_get owners i ≡ Some o
      → (r : Rule) × (slice_get s.deck.rules i ≡ Some r)
  has_rule i o at =
      let within = slice_get_within owners i o at in
      let long = owned.long in
      some_at s.deck.rules i (omega (arith, within, long))

  group_book : (i : ℕ) (o : Owner) → slice_get owners i ≡ Some o
      → Owned s i o.place (slice_index_or lists o.group [])
  group_book i o at =
      let owner = owned.each i o at in
      let book = zip_at (AreGroupMarkers s) groups lists zipped o.group owner.group owner.at in
      let rule = has_rule i o at in record {
        part = book.part;
        places = owner.group.rules.items;
        is_part = book.is_part;
        tested = (laws.tests book.part.deck.rules (shown book.part)
            (slice_index_or lists o.group [])).1 book.are;
        meets = λ m c. laws.meets book.part (slice_index_or lists o.group []) m book.are c;
        r = rule.0;
        of_deck = rule.1;
        of_part = rule_at s.deck.rules book.part.deck.rules owner.group.rules.items o.place i
            rule.0 book.is_part.rules owner.place rule.1;
      }

  abbrev all_steps : Line → ℤ → Bool
  all_steps = steps_of s.deck.rules (shown_on (shown s))

  each_book : AreBooks lists owners
  each_book i o at = (group_book i o at).tested.0

  sound : (m : Marker) → Contains (joined_from lists 0 owners) m
      → IsMarkerOf all_steps (HasShown (shown s)) m
  sound m c =
      let of = joined_of lists 0 owners m c in
      let there = subst (λ (n : ℕ). Contains (taken_at lists of.1 n) m) (none_added of.0) of.3 in
      let found = taken_of of.1.place of.0 (slice_index_or lists of.1.group []) m there in
      subst (IsMarkerOf all_steps (HasShown (shown s))) found.3
      (is_marker laws.come s alone of.0 of.1.place (slice_index_or lists of.1.group [])
      (group_book of.0 of.1 of.2) found.0 found.1 found.2)

  complete : (k : Key) → IsMaximal all_steps k → (m : Marker)
      × Contains (joined_from lists 0 owners) m × (m.key ≡ k)
  complete k run =
      let step = run.rows k.piece.y0 (omega (arith, ints)) run.filled in
      let rule = deck_rule s.deck.rules (shown_on (shown s)) (line_of_key k) k.piece.y0 step in
      let within = slice_get_within s.deck.rules k.rule rule.0 rule.1 in
      let long = owned.long in
      let owner = some_at owners k.rule (omega (arith, within, long)) in
      let found = is_taken laws.come s alone k.rule owner.0.place
      (slice_index_or lists owner.0.group []) (group_book k.rule owner.0 owner.1) k run in (
        found.0,
        to_joined lists 0 owners k.rule owner.0 found.0 owner.1 k.rule (omega arith) found.1,
        found.2,
      )

  joined_tested : AreTestedMarkers s.deck.rules (shown s) (joined_from lists 0 owners)
  joined_tested =
      (joined_book lists 0 owners each_book, record { sound = sound; complete = complete })

pub groups_make : TestsTellMarkers → EachMarkerMeetsSome → ComeFromTheShelf → GroupsMakeTheLayout
groups_make tests meets come s groups owners lists alone owned zipped =
    (tests s.deck.rules (shown s) (joined_from lists 0 owners)).0
    (joined_tested (record { tests = tests; meets = meets; come = come }) s groups owners lists
    alone owned zipped)
