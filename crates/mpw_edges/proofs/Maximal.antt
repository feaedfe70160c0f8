-- Separate runs are the maximal ones, and the pieces of both axes are in order.
use Rattle.std.proofs.Common.{◌≡◌, ℕ, ◌-◌, ◌<◌, ℤ, pos, ◌-ℤ◌, ◌≤ℤ◌, ◌<ℤ◌, List, ◌++◌, length, get_or, map, ◌⊎◌, inl, inr, subst, refl, sym, ap, ◌∙◌, arith}
use Rattle.std.specs.Prelude.{◌↔◌, AllPairs, Contains}
use Rattle.std.specs.Ordering.{nat_cmp, int_cmp, ordering_then}
use Rattle.std.specs.declared.cmp.Ordering.{Ordering}
use Rattle.std.specs.declared.cmp.Ordering.TheVariants.{Less, Equal, Greater}
use Rattle.std.proofs.lemmas.Int.{ints, by_lt_z}
use Rattle.std.proofs.lemmas.Cmp.{tied_itself}
use Rattle.std.proofs.lemmas.Bool.{cases_lt}
use Rattle.std.proofs.lemmas.List.{get_or-map, length-map, length-append, get_or_append_left, get_or-append_right}
use Rattle.std.proofs.lemmas.List.Elements.{All-contains, Contains-append_left, Contains-append_right, Contains-append_cases}
use Rattle.mpw_geom.specs.declared.plane.Box2.{Box2}
use Rattle.mpw_deck.specs.declared.rule.Rule.{Rule}
use Rattle.mpw_region.specs.declared.runs.Line.{Line}
use Rattle.mpw_region.specs.declared.runs.Run.{Run}
use Rattle.mpw_region.specs.Runs.{line_cmp, CoversPlace, IsFilled, StandsBefore, AreApart}
use Rattle.mpw_region.proofs.Order.{line_total, line_before}
use Rattle.mpw_region.proofs.Held.{held_map, map_held, one_or_before}
use Rattle.mpw_region.proofs.Joins.{no_run}
use Rattle.mpw_edges.specs.declared.run.Axis.{Axis}
use Rattle.mpw_edges.specs.declared.run.Axis.TheVariants.{V, H}
use Rattle.mpw_edges.specs.declared.run.Piece.{Piece}
use Rattle.mpw_edges.specs.Edges.{Squares}
use Rattle.mpw_edges.specs.Pieces.{HasStep, IsPiece, ComesBefore, piece_of}

-- ---- separate runs

-- two runs on one line are equal, or apart
alike : (runs : List Run) (r s : Run) → AreApart runs → Contains runs r → Contains runs s
    → r.line ≡ s.line → (r ≡ s) ⊎ ((r.to <ℤ s.from) ⊎ (s.to <ℤ r.from))
alike runs r s h p q e =
    elim (one_or_before StandsBefore runs no_run r s h.ordered p q) [
      | inl same ↦ inl same
      | inr (inl before) ↦ inr (inl (apart r s before e))
      | inr (inr behind) ↦ inr (inr (apart s r behind (sym e)))
    ]
  where
    apart : (x y : Run) → StandsBefore x y → x.line ≡ y.line → x.to <ℤ y.from
    apart x y (inl less) f = absurd (line_before x.line y.line less f)
    apart x y (inr stands) f = stands.1

-- a maximal run of the positions of P
pub record IsRunOf (P : Line → ℤ → Type 0) (r : Run) : Type 0 where
  pub filled : r.from <ℤ r.to
  pub steps : (j : ℤ) → r.from ≤ℤ j → j <ℤ r.to → P r.line j
  pub below : P r.line (r.from -ℤ pos 1) → ⊥
  pub above : P r.line r.to → ⊥

-- the runs have exactly the positions of P
abbrev pub HoldJust : List Run → (Line → ℤ → Type 0) → Type 0
HoldJust runs P = (line : Line) (j : ℤ) → CoversPlace runs line j ↔ P line j

pub run_is_maximal : (runs : List Run) (P : Line → ℤ → Type 0) (r : Run) → AreApart runs
    → HoldJust runs P → Contains runs r → IsRunOf P r
run_is_maximal runs P r h same c = record {
  filled = filled;
  steps = λ j l g. (same r.line j).0 (r, c, (refl, l, g));
  below = λ p. below p;
  above = λ p. above p;
}
  where
    filled : r.from <ℤ r.to
    filled = All-contains IsFilled runs r h.filled c

    below : P r.line (r.from -ℤ pos 1) → ⊥
    below p =
        let s = (same r.line (r.from -ℤ pos 1)).1 p in
        elim (alike runs r s.0 h c s.1 (sym s.2.0)) [
          | inl e ↦ omega (arith, ints, ap (λ (x : Run). x.from) e, s.2.1)
          | inr (inl left) ↦ omega (arith, ints, left, s.2.1, filled)
          | inr (inr right) ↦ omega (arith, ints, right, s.2.2)
        ]

    above : P r.line r.to → ⊥
    above p =
        let s = (same r.line r.to).1 p in
        elim (alike runs r s.0 h c s.1 (sym s.2.0)) [
          | inl e ↦ omega (arith, ints, ap (λ (x : Run). x.to) e, s.2.2)
          | inr (inl left) ↦ omega (arith, ints, left, s.2.1)
          | inr (inr right) ↦ omega (arith, ints, right, filled, s.2.2)
        ]

same_run : (r s : Run) → s.line ≡ r.line → s.from ≡ r.from → s.to ≡ r.to → s ≡ r
same_run r s e f g =
    ap (λ (l : Line). let x : Run = record { line = l; from = s.from; to = s.to } in x) e
    ∙ ap (λ (n : ℤ). let x : Run = record { line = r.line; from = n; to = s.to } in x) f
    ∙ ap (λ (n : ℤ). let x : Run = record { line = r.line; from = r.from; to = n } in x) g

pub maximal_is_run : (runs : List Run) (P : Line → ℤ → Type 0) (r : Run) → AreApart runs
    → HoldJust runs P → IsRunOf P r → Contains runs r
maximal_is_run runs P r h same m =
    let s = (same r.line r.from).1 (m.steps r.from (omega (arith, ints)) m.filled) in
    let first : s.0.from ≡ r.from = by_lt_z s.0.from r.from
    (λ less. absurd (m.below ((same r.line (r.from -ℤ pos 1)).0
    (s.0, s.1, (s.2.0, omega (arith, ints, less), omega (arith, ints, s.2.2))))))
    (λ more. omega (arith, ints, more, s.2.1)) in
    let last : s.0.to ≡ r.to = by_lt_z s.0.to r.to
    (λ less. absurd (cut s.0 s.1 s.2.0 s.2.1 s.2.2 less))
    (λ more. by_lt_z r.to s.0.to
    (λ less. absurd (m.above ((same r.line r.to).0
    (s.0, s.1, (s.2.0, omega (arith, ints, s.2.1, m.filled), less)))))
    (λ no_more. omega (arith, ints, more, no_more))) in
    subst (λ x. Contains runs x) (same_run r s.0 s.2.0 first last) s.1
  where
    cut : (s : Run) → Contains runs s → s.line ≡ r.line → s.from ≤ℤ r.from → r.from <ℤ s.to
        → s.to <ℤ r.to → ⊥
    cut s c e l g less =
        let t = (same r.line s.to).1 (m.steps s.to (omega (arith, ints, g)) less) in
        elim (alike runs s t.0 h c t.1 (e ∙ sym t.2.0)) [
          | inl f ↦ omega (arith, ints, ap (λ (x : Run). x.to) f, t.2.2)
          | inr (inl left) ↦ omega (arith, ints, left, t.2.1)
          | inr (inr right) ↦ omega (arith, ints, right, l, g, t.2.2)
        ]

-- ---- pieces of one axis

abbrev pub run_of : Piece → Run
run_of p =
    record { line = record { side = p.side; first = p.x1; second = p.x2 }; from = p.y0; to = p.y1 }

abbrev pub StepsOf : Rule → Squares → Squares → Box2 → Axis → Line → ℤ → Type 0
StepsOf rule a b core axis line j = HasStep rule a b core axis line.side line.first line.second j

pub run_of_piece : (rule : Rule) (a b : Squares) (core : Box2) (p : Piece) (axis : Axis)
    → p.axis ≡ axis → IsPiece rule a b core p → IsRunOf (StepsOf rule a b core axis) (run_of p)
run_of_piece rule a b core p axis e h = record {
  filled = h.filled;
  steps =
      λ j l g. subst (λ (x : Axis). HasStep rule a b core x p.side p.x1 p.x2 j) e (h.steps j l g);
  below = λ s. h.below (subst (λ (x : Axis). HasStep rule a b core x p.side p.x1 p.x2
      (p.y0 -ℤ pos 1)) (sym e) s);
  above =
      λ s. h.above (subst (λ (x : Axis). HasStep rule a b core x p.side p.x1 p.x2 p.y1) (sym e) s);
}

pub piece_of_run : (rule : Rule) (a b : Squares) (core : Box2) (p : Piece) (axis : Axis)
    → p.axis ≡ axis → IsRunOf (StepsOf rule a b core axis) (run_of p) → IsPiece rule a b core p
piece_of_run rule a b core p axis e h = record {
  filled = h.filled;
  steps = λ j l g. subst (λ (x : Axis). HasStep rule a b core x p.side p.x1 p.x2 j) (sym e)
      (h.steps j l g);
  below = λ s. h.below (subst (λ (x : Axis). HasStep rule a b core x p.side p.x1 p.x2
      (p.y0 -ℤ pos 1)) e s);
  above = λ s. h.above (subst (λ (x : Axis). HasStep rule a b core x p.side p.x1 p.x2 p.y1) e s);
}

piece_in : (axis : Axis) (runs : List Run) (p : Piece) → Contains (map (piece_of axis) runs) p
    → (p.axis ≡ axis) × Contains runs (run_of p)
piece_in axis runs p c =
    let m = held_map (piece_of axis) runs no_run (λ q. q ≡ p) (p, c, refl) in
    (sym (ap (λ (q : Piece). q.axis) m.2), subst (λ (r : Run). Contains runs r) (ap run_of m.2) m.1)

in_pieces : (axis : Axis) (runs : List Run) (p : Piece) → p.axis ≡ axis → Contains runs (run_of p)
    → Contains (map (piece_of axis) runs) p
in_pieces axis runs p e c =
    let is : piece_of axis (run_of p) ≡ p = ap (λ (x : Axis). piece_of x (run_of p)) (sym e) in
    let m = map_held (piece_of axis) runs (λ q. q ≡ p) (run_of p) c is in
    subst (λ (q : Piece). Contains (map (piece_of axis) runs) q) m.2 m.1

-- ---- pieces of both axes

exact_pieces : (rule : Rule) (a b : Squares) (core : Box2) (vs hs : List Run) → AreApart vs
    → AreApart hs
    → HoldJust vs (StepsOf rule a b core V) → HoldJust hs (StepsOf rule a b core H)
    → (p : Piece) → Contains (map (piece_of V) vs ++ map (piece_of H) hs) p
    ↔ IsPiece rule a b core p
exact_pieces rule a b core vs hs va ha vp hp p =
    (λ c. to (Contains-append_cases (map (piece_of V) vs) (map (piece_of H) hs) p c), from)
  where
    to : Contains (map (piece_of V) vs) p ⊎ Contains (map (piece_of H) hs) p
        → IsPiece rule a b core p
    to (inl c) = let i = piece_in V vs p c in piece_of_run rule a b core p V i.0
        (run_is_maximal vs (StepsOf rule a b core V) (run_of p) va vp i.1)
    to (inr c) = let i = piece_in H hs p c in piece_of_run rule a b core p H i.0
        (run_is_maximal hs (StepsOf rule a b core H) (run_of p) ha hp i.1)

    on : (axis : Axis) → p.axis ≡ axis → IsPiece rule a b core p
        → Contains (map (piece_of V) vs ++ map (piece_of H) hs) p
    on V e h = Contains-append_left (map (piece_of V) vs) (map (piece_of H) hs) p
        (in_pieces V vs p e (maximal_is_run vs (StepsOf rule a b core V) (run_of p) va vp
        (run_of_piece rule a b core p V e h)))
    on H e h = Contains-append_right (map (piece_of V) vs) (map (piece_of H) hs) p
        (in_pieces H hs p e (maximal_is_run hs (StepsOf rule a b core H) (run_of p) ha hp
        (run_of_piece rule a b core p H e h)))

    from : IsPiece rule a b core p → Contains (map (piece_of V) vs ++ map (piece_of H) hs) p
    from h = on p.axis refl h

-- ---- their order

thens : (a b c d : Ordering) → ordering_then a (ordering_then b (ordering_then c d)) ≡ ordering_then
    (ordering_then a (ordering_then b c)) d
thens Less b c d = refl
thens Greater b c d = refl
thens Equal Less c d = refl
thens Equal Greater c d = refl
thens Equal Equal Less d = refl
thens Equal Equal Greater d = refl
thens Equal Equal Equal d = refl

less_from : (x y : ℤ) → x <ℤ y → int_cmp x y ≡ Less
less_from x y h = grind (arith, ints)

line_and_place : (r s : Run) → IsFilled r → StandsBefore r s
    → ordering_then (line_cmp r.line s.line) (int_cmp r.from s.from) ≡ Less
line_and_place r s f (inl less) = ap (λ o. ordering_then o (int_cmp r.from s.from)) less
line_and_place r s f (inr p) =
    let tied : line_cmp r.line s.line ≡ Equal = ap (line_cmp r.line) (sym p.0)
    ∙ tied_itself line_total r.line in
    ap (λ o. ordering_then o (int_cmp r.from s.from)) tied
    ∙ less_from r.from s.from (omega (arith, ints, f, p.1))

before : (axis : Axis) (r s : Run) → IsFilled r → StandsBefore r s
    → ComesBefore (piece_of axis r) (piece_of axis s)
before V r s f h = thens (nat_cmp r.line.side s.line.side) (int_cmp r.line.first s.line.first)
    (int_cmp r.line.second s.line.second) (int_cmp r.from s.from) ∙ line_and_place r s f h
before H r s f h = thens (nat_cmp r.line.side s.line.side) (int_cmp r.line.first s.line.first)
    (int_cmp r.line.second s.line.second) (int_cmp r.from s.from) ∙ line_and_place r s f h

on_axis : (axis : Axis) (runs : List Run) → AreApart runs
    → AllPairs ComesBefore (map (piece_of axis) runs)
on_axis axis runs h i j d l b =
    let inside : j < length runs = omega (arith, b, length-map runs (piece_of axis)) in
    let first = get_or-map (piece_of axis) runs i no_run d (omega (arith, l, inside)) in
    let second = get_or-map (piece_of axis) runs j no_run d inside in
    subst (λ x. ComesBefore x (get_or (map (piece_of axis) runs) j d)) (sym first)
    (subst (λ x. ComesBefore (piece_of axis (get_or runs i no_run)) x) (sym second)
    (before axis (get_or runs i no_run) (get_or runs j no_run)
    (h.filled i no_run (omega (arith, l, inside))) (h.ordered i j no_run l inside)))

across : (vs hs : List Run) (i j : ℕ) (d : Piece) → i < length (map (piece_of V) vs)
    → j < length (map (piece_of H) hs)
    → ComesBefore (get_or (map (piece_of V) vs) i d) (get_or (map (piece_of H) hs) j d)
across vs hs i j d l b =
    let first =
    get_or-map (piece_of V) vs i no_run d (omega (arith, l, length-map vs (piece_of V))) in
    let second =
    get_or-map (piece_of H) hs j no_run d (omega (arith, b, length-map hs (piece_of H))) in
    subst (λ x. ComesBefore x (get_or (map (piece_of H) hs) j d)) (sym first)
    (subst (λ x. ComesBefore (piece_of V (get_or vs i no_run)) x) (sym second) refl)

all_pairs_append : {X : Type 0} (R : X → X → Type 0) (xs ys : List X) → AllPairs R xs
    → AllPairs R ys → ((i j : ℕ) (d : X) → i < length xs → j < length ys
    → R (get_or xs i d) (get_or ys j d)) → AllPairs R (xs ++ ys)
all_pairs_append R xs ys f g h i j d l b =
    let total = length-append xs ys in
    elim (cases_lt j (length xs)) [
      | inl left ↦
          subst (λ x. R x (get_or (xs ++ ys) j d))
          (sym (get_or_append_left xs ys d i (omega (arith, l, left))))
          (subst (λ x. R (get_or xs i d) x) (sym (get_or_append_left xs ys d j left))
          (f i j d l left))
      | inr right ↦
          let at : get_or (xs ++ ys) j d ≡ get_or ys (j - length xs) d = get_or-append_right xs ys
          (length xs) j d refl right in
          let inside : j - length xs < length ys = omega (arith, b, right, length-append xs ys) in
          elim (cases_lt i (length xs)) [
            | inl low ↦
                subst (λ x. R x (get_or (xs ++ ys) j d)) (sym (get_or_append_left xs ys d i low))
                (subst (λ x. R (get_or xs i d) x) (sym at) (h i (j - length xs) d low inside))
            | inr high ↦
                subst (λ x. R x (get_or (xs ++ ys) j d))
                (sym (get_or-append_right xs ys (length xs) i d refl high))
                (subst (λ x. R (get_or ys (i - length xs) d) x) (sym at)
                (g (i - length xs) (j - length xs) d (omega (arith, l, high)) inside))
          ]
    ]

ordered_pieces : (vs hs : List Run) → AreApart vs → AreApart hs
    → AllPairs ComesBefore (map (piece_of V) vs ++ map (piece_of H) hs)
ordered_pieces vs hs va ha = all_pairs_append ComesBefore (map (piece_of V) vs)
    (map (piece_of H) hs) (on_axis V vs va) (on_axis H hs ha) (across vs hs)

-- ---- the list of the code, which was made from two lists

both_lists : (all : List Piece) (seen vs seen' hs : List Run) → all ≡ map (piece_of V) seen
    ++ map (piece_of H) seen' → seen ≡ vs → seen' ≡ hs → all ≡ map (piece_of V) vs
    ++ map (piece_of H) hs
both_lists all seen vs seen' hs e f g =
    e ∙ ap (λ (rs : List Run). map (piece_of V) rs ++ map (piece_of H) seen') f
    ∙ ap (λ (rs : List Run). map (piece_of V) vs ++ map (piece_of H) rs) g

pub exact_list : (rule : Rule) (a b : Squares) (core : Box2) (all : List Piece)
    (seen vs seen' hs : List Run) → all ≡ map (piece_of V) seen ++ map (piece_of H) seen'
    → seen ≡ vs → seen' ≡ hs → AreApart vs → AreApart hs → HoldJust vs (StepsOf rule a b core V)
    → HoldJust hs (StepsOf rule a b core H) → (p : Piece) → Contains all p ↔ IsPiece rule a b core p
exact_list rule a b core all seen vs seen' hs e f g va ha vp hp p =
    subst (λ (ps : List Piece). Contains ps p ↔ IsPiece rule a b core p)
    (sym (both_lists all seen vs seen' hs e f g)) (exact_pieces rule a b core vs hs va ha vp hp p)

pub ordered_list : (all : List Piece) (seen vs seen' hs : List Run)
    → all ≡ map (piece_of V) seen ++ map (piece_of H) seen' → seen ≡ vs → seen' ≡ hs
    → AreApart vs → AreApart hs → AllPairs ComesBefore all
ordered_list all seen vs seen' hs e f g va ha =
    subst (λ (ps : List Piece). AllPairs ComesBefore ps)
    (sym (both_lists all seen vs seen' hs e f g)) (ordered_pieces vs hs va ha)
