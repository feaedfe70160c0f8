-- The keys that a search finds, rule by rule, and the markers that are made from them.
use Rattle.std.proofs.Common.{◌≡◌, ℕ, ◌<◌, ◌≤◌, ◌+◌, suc, List, [], ◌∷◌, ◌++◌, length, get_or, take, map, Option, Some, ◌⊎◌, inl, inr, refl, sym, subst, ap, ◌∙◌, arith, append_assoc}
use Rattle.std.specs.Prelude.{ℤ, ◌≤ℤ◌, ◌<ℤ◌, Contains, All, AllPairs, slice_get, ◌↔◌}
use Rattle.std.specs.Ordering.{nat_cmp, ordering_then}
use Rattle.std.specs.Cmp.{nat_cmp_is}
use Rattle.std.specs.declared.cmp.Ordering.{Ordering}
use Rattle.std.specs.declared.cmp.Ordering.TheVariants.{Less, Equal}
use Rattle.std.proofs.lemmas.Int.{ints}
use Rattle.std.proofs.lemmas.List.{length-map, get_or-map, map_more, map_push, take_more, append-nil}
use Rattle.std.proofs.lemmas.List.Elements.{All-append, All-contains, Contains-append_left, Contains-append_right, Contains-append_cases, Contains-push_cases, Contains-get_or}
use Rattle.std.proofs.lemmas.List.Kept.{AllPairs-cons}
use Rattle.std.proofs.lemmas.Option.{slice_get_within}
use Rattle.mpw_geom.specs.declared.plane.Box2.{Box2}
use Rattle.mpw_geom.specs.Plane.{IsOrdered}
use Rattle.mpw_deck.specs.declared.rule.Check.{Check}
use Rattle.mpw_deck.specs.declared.rule.Check.TheVariants.{Width, Space, Separation, Enclosing}
use Rattle.mpw_deck.specs.declared.rule.Rule.{Rule}
use Rattle.mpw_edges.specs.declared.run.Axis.{Axis}
use Rattle.mpw_edges.specs.declared.run.Axis.TheVariants.{V, H}
use Rattle.mpw_edges.specs.declared.run.Piece.{Piece}
use Rattle.mpw_edges.specs.Edges.{Squares, exchanged}
use Rattle.mpw_edges.specs.Steps.{IsPair}
use Rattle.mpw_edges.specs.Pieces.{HasStep, piece_cmp, ComesBefore as IsPieceBefore, box_on}
use Rattle.mpw_markers.specs.declared.marker.Key.{Key}
use Rattle.mpw_markers.specs.declared.marker.Marker.{Marker}
use Rattle.mpw_job.specs.Layers.{Coverage, first_squares, second_squares}
use Rattle.mpw_job.specs.Answers.{TileJob, listed_on, IsFoundIn, key_at, TellsMet, ComesBefore, Answers}
use Rattle.mpw_work.specs.Internal.Found.{key_of, key_box, key_cmp, IsKey, IsKeyBefore, AddsRule, AreFirstKeys, AreKeys, AreMarkersOfKeys}

-- ---- mapped lists

pub of_map : {X Y : Type 0} (f : X → Y) (xs : List X) (y : Y) → Contains (map f xs) y
    → (x : X) × Contains xs x × (f x ≡ y)
of_map f [] y c = absurd (omega (arith, c.1))
of_map f (x ∷ xs) y c = elim (Contains-append_cases (f x ∷ []) (map f xs) y c) [
  | inl h ↦ elim (Contains-push_cases [] (f x) y h) [
    | inl n ↦ absurd (omega (arith, n.1))
    | inr e ↦ (x, (0, omega arith, refl), e)
  ]
  | inr h ↦ let p = of_map f xs y h in (p.0, Contains-append_right (x ∷ []) xs p.0 p.1, p.2)
]

pub to_map : {X Y : Type 0} (f : X → Y) (xs : List X) (x : X) → Contains xs x
    → Contains (map f xs) (f x)
to_map f xs x c =
    let same : length (map f xs) ≡ length xs = length-map xs f in
    let lt = c.1 in
    (c.0, omega arith, get_or-map f xs c.0 x (f x) c.1 ∙ ap f c.2)

pairs_append : {X : Type 0} (R : X → X → Type 0) (xs ys : List X) → AllPairs R xs → AllPairs R ys
    → ((x y : X) → Contains xs x → Contains ys y → R x y) → AllPairs R (xs ++ ys)
pairs_append R [] ys a b cross = b
pairs_append R (x ∷ xs) ys a b cross =
    AllPairs-cons R x (xs ++ ys)
    (All-append (R x) xs ys (λ k d l. a 0 (suc k) d (omega arith) (omega arith))
    (λ k d l. cross x (get_or ys k d) (0, omega arith, refl) (Contains-get_or ys k d l)))
    (pairs_append R xs ys (λ i j d lt within. a (suc i) (suc j) d (omega arith) (omega arith)) b
    (λ y z c e. cross y z (Contains-append_right (x ∷ []) xs y c) e))

-- ---- the keys of runs

pub adds_none : (place : ℕ) (old : List Key) → old ≡ old ++ map (key_at place) []
adds_none place old = sym (append-nil old)

pub adds_one : (place : ℕ) (runs : List Piece) (n : ℕ) (d : Piece) (old new : List Key)
    → n < length runs → new ≡ old ++ map (key_at place) (take n runs)
    → new ++ key_at place (get_or runs n d) ∷ [] ≡ old ++ map (key_at place) (take (n + 1) runs)
adds_one place runs n d old new lt e =
    ap (λ (ks : List Key). ks ++ key_at place (get_or runs n d) ∷ []) e
    ∙ append_assoc old (map (key_at place) (take n runs)) (key_at place (get_or runs n d) ∷ [])
    ∙ ap (λ (ks : List Key). old ++ ks) (sym (map_more (key_at place) runs n d lt))

-- ---- rules so far

pub no_keys : (job : TileJob) → AreFirstKeys job 0 []
no_keys job = record {
  sound = λ k c. absurd (omega (arith, c.1));
  complete = λ place rule p lt at found. absurd (omega arith);
  ordered = λ i j d lt within. absurd (omega arith);
}

pub all_keys : (job : TileJob) (n : ℕ) (keys : List Key) → length job.rules ≤ n
    → AreFirstKeys job n keys → AreKeys job keys
all_keys job n keys le h = record {
  sound = λ k c. let s = h.sound k c in (slice_get_within job.rules k.rule s.1.rule s.1.at, s.1);
  complete = λ place rule p lt at found. h.complete place rule p (omega arith) at found;
  ordered = h.ordered;
}

itself : (n : ℕ) → nat_cmp n n ≡ Equal
itself n = sym (nat_cmp_is n n Equal refl)

below : (m n : ℕ) → m < n → nat_cmp m n ≡ Less
below m n lt = sym (nat_cmp_is m n Less lt)

in_rule : (place : ℕ) (p q : Piece) → IsPieceBefore p q
    → key_cmp (key_at place p) (key_at place q) ≡ Less
in_rule place p q h = ap (λ (o : Ordering). ordering_then o (piece_cmp p q)) (itself place) ∙ h

behind : (k l : Key) → k.rule < l.rule → key_cmp k l ≡ Less
behind k l lt = ap (λ (o : Ordering). ordering_then o (piece_cmp k.piece l.piece))
    (below k.rule l.rule lt)

keys_ordered : (place : ℕ) (runs : List Piece) → AllPairs IsPieceBefore runs
    → AllPairs IsKeyBefore (map (key_at place) runs)
keys_ordered place runs h i j d lt within =
    let same : length (map (key_at place) runs) ≡ length runs = length-map runs (key_at place) in
    let first = get_or-map (key_at place) runs i d.piece d (omega arith) in
    let second = get_or-map (key_at place) runs j d.piece d (omega arith) in
    ap (λ (k : Key). key_cmp k (get_or (map (key_at place) runs) j d)) first
    ∙ ap (key_cmp (key_at place (get_or runs i d.piece))) second
    ∙ in_rule place (get_or runs i d.piece) (get_or runs j d.piece)
    (h i j d.piece lt (omega arith))

cases_place : (place n : ℕ) → place < n + 1 → (place < n) ⊎ (place ≡ n)
cases_place place n lt = grind arith

same_rule : (o : Option Rule) (a b : Rule) → o ≡ Some a → o ≡ Some b → a ≡ b
same_rule o a b e f = cc

keys_both : (job : TileJob) (n : ℕ) (rule : Rule) (old : List Key) (runs : List Piece)
    → slice_get job.rules n ≡ Some rule
    → AreFirstKeys job n old → ((p : Piece)
    → Contains runs p ↔ IsFoundIn job.core (listed_on job.window) rule p)
    → AllPairs IsPieceBefore runs → AreFirstKeys job (n + 1) (old ++ map (key_at n) runs)
keys_both job n rule old runs at h exact ordered = record {
  sound = λ k c. elim (Contains-append_cases old (map (key_at n) runs) k c)
      [ inl o ↦ sound_old k o | inr a ↦ sound_new k a ];
  complete = λ place other p lt there found. elim (cases_place place n lt) [
    | inl l ↦ Contains-append_left old (map (key_at n) runs) (key_at place p)
        (h.complete place other p l there found)
    | inr e ↦ complete_new place other p e there found
  ];
  ordered = pairs_append IsKeyBefore old (map (key_at n) runs) h.ordered
      (keys_ordered n runs ordered) cross;
}
  where
    sound_old : (k : Key) → Contains old k → (k.rule < n + 1) × IsKey job k
    sound_old k c = let s = h.sound k c in let lt = s.0 in (omega arith, s.1)

    sound_new : (k : Key) → Contains (map (key_at n) runs) k → (k.rule < n + 1) × IsKey job k
    sound_new k c =
        let a = of_map (key_at n) runs k c in
        let place : n ≡ k.rule = ap (λ (x : Key). x.rule) a.2 in (
          omega arith,
          record {
            rule = rule;
            at = ap (slice_get job.rules) (sym place) ∙ at;
            run = subst (IsFoundIn job.core (listed_on job.window) rule) (λ i. (a.2 i).piece)
                ((exact a.0).0 a.1);
          },
        )

    complete_new : (place : ℕ) (other : Rule) (p : Piece) → place ≡ n
        → slice_get job.rules place ≡ Some other
        → IsFoundIn job.core (listed_on job.window) other p
        → Contains (old ++ map (key_at n) runs) (key_at place p)
    complete_new place other p e there found =
        let same : other ≡ rule = same_rule (slice_get job.rules n) other rule
        (ap (slice_get job.rules) (sym e) ∙ there) at in
        let held = (exact p).1 (subst (λ (r : Rule). IsFoundIn job.core (listed_on job.window) r
        p) same found) in
        subst (λ (x : ℕ). Contains (old ++ map (key_at n) runs) (key_at x p)) (sym e)
        (Contains-append_right old (map (key_at n) runs) (key_at n p)
        (to_map (key_at n) runs p held))

    cross : (x y : Key) → Contains old x → Contains (map (key_at n) runs) y → IsKeyBefore x y
    cross x y c d =
        let s = h.sound x c in
        let lt = s.0 in
        let a = of_map (key_at n) runs y d in
        let place : n ≡ y.rule = ap (λ (k : Key). k.rule) a.2 in
        behind x y (omega arith)

pub keys_more : (job : TileJob) (n : ℕ) (core : Box2) (on : Coverage) (rule : Rule)
    (old new : List Key) → core ≡ job.core → on ≡ listed_on job.window
    → slice_get job.rules n ≡ Some rule → AreFirstKeys job n old → AddsRule core on n rule old new
    → AreFirstKeys job (n + 1) new
keys_more job n core on rule old new e f at h r =
    let g : AddsRule job.core (listed_on job.window) n rule old new =
    subst (λ (c : Box2). AddsRule c (listed_on job.window) n rule old new) e
    (subst (λ (o : Coverage). AddsRule core o n rule old new) f r) in
    subst (AreFirstKeys job (n + 1)) (sym g.is)
    (keys_both job n rule old g.runs at h g.exact g.ordered)

-- ---- the boxes of keys

pair_ordered : (check : Check) (a b : Squares) (side : ℕ) (x1 x2 j : ℤ)
    → IsPair check a b side x1 x2 j → x1 ≤ℤ x2
pair_ordered (Width l) a b side x1 x2 j h = let lt = h.3 in omega (arith, ints)
pair_ordered (Space l) a b side x1 x2 j h = let lt = h.3 in omega (arith, ints)
pair_ordered (Separation l m) a b side x1 x2 j h = h.0
pair_ordered (Enclosing l m) a b side x1 x2 j h = h.0

step_ordered : (rule : Rule) (a b : Squares) (core : Box2) (axis : Axis) (side : ℕ) (x1 x2 j : ℤ)
    → HasStep rule a b core axis side x1 x2 j → x1 ≤ℤ x2
step_ordered rule a b core V side x1 x2 j h = pair_ordered rule.check a b side x1 x2 j h.0.0
step_ordered rule a b core H side x1 x2 j h =
    pair_ordered rule.check (exchanged a) (exchanged b) side x1 x2 j h.0.0

box_ordered : (axis : Axis) (x1 x2 y0 y1 : ℤ) → x1 ≤ℤ x2 → y0 <ℤ y1
    → IsOrdered (box_on axis x1 x2 y0 y1)
box_ordered V x1 x2 y0 y1 le lt = record { x = le; y = omega (arith, ints) }
box_ordered H x1 x2 y0 y1 le lt = record { x = omega (arith, ints); y = le }

run_ordered : (core : Box2) (on : Coverage) (rule : Rule) (k : Key)
    → IsFoundIn core on rule k.piece → IsOrdered (key_box k)
run_ordered core on rule k h =
    let step = h.steps k.piece.y0 (omega (arith, ints)) h.filled in
    box_ordered k.piece.axis k.piece.x1 k.piece.x2 k.piece.y0 k.piece.y1
    (step_ordered rule (first_squares rule.check on) (second_squares rule.check on) core
    k.piece.axis
    k.piece.side k.piece.x1 k.piece.x2 k.piece.y0 step) h.filled

pub boxes_ordered : (job : TileJob) (keys : List Key) → AreKeys job keys
    → All (λ (k : Key). IsOrdered (key_box k)) keys
boxes_ordered job keys h k d lt =
    let s = (h.sound (get_or keys k d) (Contains-get_or keys k d lt)).1 in
    run_ordered job.core (listed_on job.window) s.rule (get_or keys k d) s.run

-- ---- the markers of keys

abbrev touching : Key → List ℕ → Marker
touching k met = record { key = k; met = met }

-- the marker of one more key
pub keyed_more : (keys : List Key) (n : ℕ) (d : Key) (met : List ℕ) (old new : List Marker)
    → n < length keys → new ≡ old ++ touching (get_or keys n d) met ∷ []
    → map key_of old ≡ take n keys → map key_of new ≡ take (n + 1) keys
keyed_more keys n d met old new lt is e =
    ap (map key_of) is ∙ map_push key_of old (touching (get_or keys n d) met)
    ∙ ap (λ (ks : List Key). ks ++ get_or keys n d ∷ []) e ∙ sym (take_more keys n d lt)

pub answers_from : (job : TileJob) (keys : List Key) (markers : List Marker) → AreKeys job keys
    → AreMarkersOfKeys job.window keys markers
    → Answers job markers
answers_from job keys markers h g = record {
  sound = λ m c.
      let k = (h.sound (key_of m) (subst (λ (ks : List Key). Contains ks (key_of m)) g.keys_are
      (to_map key_of markers m c))).1 in
      record {
        rule = k.rule;
        at = k.at;
        run = k.run;
        met = All-contains (TellsMet job.window)
            markers m g.met c;
      };
  complete = λ place rule p at f.
      let lt = slice_get_within job.rules place rule at in
      of_map key_of markers (key_at place p)
      (subst (λ (ks : List Key). Contains ks (key_at place p)) (sym g.keys_are)
      (h.complete place rule p lt at f));
  ordered = ordered;
}
  where
    ordered : AllPairs ComesBefore markers
    ordered i j d lt within =
        let same : length (map key_of markers) ≡ length markers = length-map markers key_of in
        let all : AllPairs IsKeyBefore (map key_of markers) = subst (AllPairs IsKeyBefore)
        (sym g.keys_are) h.ordered in
        let first = get_or-map key_of markers i d (key_of d) (omega arith) in
        let second = get_or-map key_of markers j d (key_of d) within in
        ap (λ (k : Key). key_cmp k (key_of (get_or markers j d))) (sym first)
        ∙ ap (key_cmp (get_or (map key_of markers) i (key_of d))) (sym second)
        ∙ all i j (key_of d) lt (omega arith)
