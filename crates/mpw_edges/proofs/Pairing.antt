-- Two lists of edges visited by bands: what is found, and what is left to find.
use Rattle.std.proofs.Common.{◌≡◌, ℕ, ◌+◌, ◌<◌, ◌≤◌, ℤ, pos, ◌-ℤ◌, ◌≤ℤ◌, ◌<ℤ◌, Bool, true, false, List, length, get_or, take, drop, ◌⊎◌, inl, inr, subst, sym, ap, ◌∙◌, arith}
use Rattle.std.specs.Prelude.{All, AllPairs, Contains, MatchBool}
use Rattle.std.proofs.Math.Logic.{⊎_map}
use Rattle.std.proofs.lemmas.Int.{ints}
use Rattle.std.proofs.lemmas.Bool.{cases_lt}
use Rattle.std.proofs.lemmas.List.{get_or-drop, length-drop, drop-drop}
use Rattle.std.proofs.lemmas.List.Elements.{All-contains}
use Rattle.mpw_region.specs.declared.runs.Line.{Line}
use Rattle.mpw_region.specs.declared.runs.Run.{Run}
use Rattle.mpw_region.specs.Runs.{CoversPlace}
use Rattle.mpw_region.specs.Internal.Runs.{Adds}
use Rattle.mpw_region.proofs.Adding.{Adds-none, Adds-same}
use Rattle.mpw_edges.specs.declared.pair.Edge.{Edge}
use Rattle.mpw_edges.specs.declared.pair.Limits.{Limits}
use Rattle.mpw_edges.specs.Internal.Pairs.{IsPairPlace, IsPairFrom, IsPairOf, IsLeftOf, HasRowsOf, AreEdges, IsBand, Moves}
use Rattle.mpw_edges.proofs.Region.{no_edge}
use Rattle.mpw_edges.proofs.Bounding.{held_parts, held_take, held_drop, at_default, no_lower}

-- ---- pairs of one edge with those of a band

none_left : (side : ℕ) (limits : Limits) (from : Edge) (tos : List Edge)
    → All (λ to. to.x <ℤ from.x) tos → (line : Line) (j : ℤ)
    → IsPairFrom side limits tos from line j → ⊥
none_left side limits from tos h line j p =
    let l = All-contains (λ (to : Edge). to.x <ℤ from.x) tos p.0 h p.1 in
    near_not_behind limits.touching p.2.1.0 l
  where
    near_not_behind : (t : Bool) → MatchBool t (from.x ≤ℤ p.0.x) (from.x <ℤ p.0.x) → p.0.x <ℤ from.x
        → ⊥
    near_not_behind true m l = omega (arith, ints, m, l)
    near_not_behind false m l = omega (arith, ints, m, l)

pub pairs_from_start : (side : ℕ) (limits : Limits) (from : Edge) (tos : List Edge)
    (runs : List Run) (n : ℕ) → All (λ to. to.x <ℤ from.x) (take n tos)
    → Adds runs runs (IsPairFrom side limits (take n tos) from)
pairs_from_start side limits from tos runs n h =
    Adds-none runs (IsPairFrom side limits (take n tos) from)
    (none_left side limits from (take n tos) h)

-- an edge outside the core has no pairs
pub none_outside : (side : ℕ) (limits : Limits) (from : Edge) (tos : List Edge) (runs : List Run)
    → ((limits.core.x0 ≤ℤ from.x) × (from.x <ℤ limits.core.x1) → ⊥)
    → Adds runs runs (IsPairFrom side limits tos from)
none_outside side limits from tos runs h = Adds-none runs (IsPairFrom side limits tos from)
    (λ line j p. h (p.2.2, p.2.3))

-- what comes after an edge that is too far is too far
pub pairs_from_past : (side : ℕ) (limits : Limits) (from : Edge) (tos : List Edge)
    (old new : List Run) (n : ℕ) → AllPairs IsLeftOf tos → n < length tos
    → pos limits.distance ≤ℤ ((get_or tos n no_edge).x -ℤ from.x)
    → Adds old new (IsPairFrom side limits (take n tos) from)
    → Adds old new (IsPairFrom side limits tos from)
pairs_from_past side limits from tos old new n ordered b far h =
    Adds-same old new (IsPairFrom side limits (take n tos) from) (IsPairFrom side limits tos from) h
    (λ line j p. held_take (λ to. IsPairPlace side limits from to line j) tos n p)
    (λ line j p. elim (held_parts (λ to. IsPairPlace side limits from to line j) tos n p)
    [ inl q ↦ q | inr q ↦ absurd (beyond line j q) ])
  where
    beyond : (line : Line) (j : ℤ) → IsPairFrom side limits (drop n tos) from line j → ⊥
    beyond line j p =
        let c = p.1 in
        let inside : n + c.0 < length tos = omega (arith, c.1, length-drop n tos, b) in
        let is : get_or tos (n + c.0) p.0 ≡ p.0 = sym (get_or-drop n tos c.0 p.0) ∙ c.2 in
        let near = p.2.1.1 in
        elim (cases_lt 0 c.0) [
          | inl less ↦
              let s = ordered n (n + c.0) no_edge (omega (arith, less)) inside in
              let e = ap (λ (x : Edge). x.x) (at_default tos (n + c.0) no_edge p.0 inside ∙ is) in
              omega (arith, ints, s, e, near, far)
          | inr more ↦
              let z : n + c.0 ≡ n = omega (arith, more) in
              let e = ap (λ (x : Edge). x.x) (ap (λ (m : ℕ). get_or tos m no_edge) (sym z)
              ∙ at_default tos (n + c.0) no_edge p.0 inside ∙ is) in
              omega (arith, ints, e, near, far)
        ]

-- ---- bands of both lists

pub Moves-start : (runs : List Run) (P : Line → ℤ → Type 0) → Moves runs P runs P
Moves-start runs P = record { places = λ line at. (λ p. p, λ p. p); filled = λ f. f }

pub Moves-more : (old mid new : List Run) (P Q R S : Line → ℤ → Type 0) → Moves old P mid Q
    → Adds mid new R → ((line : Line) (at : ℤ) → Q line at → R line at ⊎ S line at)
    → ((line : Line) (at : ℤ) → R line at ⊎ S line at → Q line at) → Moves old P new S
Moves-more old mid new P Q R S h g parts whole = record {
  places = λ line at. (
    λ p. (h.places line at).0 (to line at p),
    λ p. from line at ((h.places line at).1 p),
  );
  filled = λ f. g.filled (h.filled f);
}
  where
    to : (line : Line) (at : ℤ) → CoversPlace new line at ⊎ S line at → CoversPlace mid line at
        ⊎ Q line at
    to line at (inl c) = elim ((g.places line at).0 c)
        [ inl m ↦ inl m | inr r ↦ inr (whole line at (inl r)) ]
    to line at (inr s) = inr (whole line at (inr s))

    from : (line : Line) (at : ℤ) → CoversPlace mid line at ⊎ Q line at → CoversPlace new line at
        ⊎ S line at
    from line at (inl m) = inl ((g.places line at).1 (inl m))
    from line at (inr q) = elim (parts line at q) [
      | inl r ↦ inl ((g.places line at).1 (inr r))
      | inr s ↦ inr s
    ]

pub Moves-end : (old new : List Run) (P Q : Line → ℤ → Type 0) → Moves old P new Q
    → ((line : Line) (at : ℤ) → Q line at → ⊥) → Adds old new P
Moves-end old new P Q h never = record {
  places =
      λ line at. (λ c. (h.places line at).0 (inl c), λ s. last line at ((h.places line at).1 s));
  filled = h.filled;
}
  where
    last : (line : Line) (at : ℤ) → CoversPlace new line at ⊎ Q line at → CoversPlace new line at
    last line at (inl c) = c
    last line at (inr q) = absurd (never line at q)

pub no_froms : (side : ℕ) (limits : Limits) (froms tos : List Edge) → length froms ≡ 0
    → (line : Line) (j : ℤ) → IsPairOf side limits froms tos line j → ⊥
no_froms side limits froms tos e line j p = omega (arith, e, p.1.1)

pub no_tos : (side : ℕ) (limits : Limits) (froms tos : List Edge) → length tos ≡ 0
    → (line : Line) (j : ℤ) → IsPairOf side limits froms tos line j → ⊥
no_tos side limits froms tos e line j p = omega (arith, e, p.2.1.1)

-- two edges of a pair have a row in common
apart : (side : ℕ) (limits : Limits) (from to : Edge) (line : Line) (j : ℤ)
    → IsPairPlace side limits from to line j → (to.y1 ≤ℤ from.y0) ⊎ (from.y1 ≤ℤ to.y0) → ⊥
apart side limits from to line j p (inl e) = let r = p.4 in omega (arith, ints, e, r.0.0, r.1.1)
apart side limits from to line j p (inr e) = let r = p.4 in omega (arith, ints, e, r.0.1, r.1.0)

rows_in : (edges : List Edge) (n : ℕ) (e : Edge) → IsBand edges n → Contains (take n edges) e
    → HasRowsOf (get_or edges 0 no_edge) e
rows_in edges n e h c =
    All-contains (HasRowsOf (get_or edges 0 no_edge)) (take n edges) e (h.rows no_edge) c

above_in : (edges : List Edge) (n : ℕ) (e : Edge) → IsBand edges n → Contains (drop n edges) e
    → (get_or edges 0 no_edge).y1 ≤ℤ e.y0
above_in edges n e h c = All-contains (λ (x : Edge). (get_or edges 0 no_edge).y1 ≤ℤ x.y0)
    (drop n edges) e (h.above no_edge) c

-- the band of the first list that ends first has no pairs above the other band
past_from : (old new : List Run) (side : ℕ) (limits : Limits) (froms tos : List Edge) (m n : ℕ)
    → IsBand froms m → IsBand tos n → (get_or froms 0 no_edge).y1 ≤ℤ (get_or tos 0 no_edge).y1
    → Adds old new (IsPairOf side limits (take m froms) (take n tos))
    → Moves old (IsPairOf side limits froms tos) new (IsPairOf side limits (drop m froms) tos)
past_from old new side limits froms tos m n f t first g =
    let pairs = IsPairOf side limits froms tos in
    Moves-more old old new pairs pairs (IsPairOf side limits (take m froms) (take n tos))
    (IsPairOf side limits (drop m froms) tos) (Moves-start old pairs) g parts whole
  where
    parts : (line : Line) (j : ℤ) → IsPairOf side limits froms tos line j
        → IsPairOf side limits (take m froms) (take n tos) line j
        ⊎ IsPairOf side limits (drop m froms) tos line j
    parts line j p = elim (held_parts (λ from. IsPairFrom side limits tos from line j) froms m p) [
      | inr rest ↦ inr rest
      | inl low ↦ elim (held_parts (λ to. IsPairPlace side limits low.0 to line j) tos n low.2) [
        | inl q ↦ inl (low.0, low.1, q)
        | inr q ↦ absurd (let a = rows_in froms m low.0 f low.1 in let b = above_in tos n q.0 t q.1
            in apart side limits low.0 q.0 line j q.2 (inr (omega (arith, ints, a.1, b, first))))
      ]
    ]

    whole : (line : Line) (j : ℤ) → IsPairOf side limits (take m froms) (take n tos) line j
        ⊎ IsPairOf side limits (drop m froms) tos line j → IsPairOf side limits froms tos line j
    whole line j (inl p) = held_take (λ from. IsPairFrom side limits tos from line j) froms m
        (p.0, p.1, held_take (λ to. IsPairPlace side limits p.0 to line j) tos n p.2)
    whole line j (inr p) = held_drop (λ from. IsPairFrom side limits tos from line j) froms m p

-- the same for the second list
past_to : (old new : List Run) (side : ℕ) (limits : Limits) (froms tos : List Edge) (m n : ℕ)
    → IsBand froms m → IsBand tos n → (get_or tos 0 no_edge).y1 ≤ℤ (get_or froms 0 no_edge).y1
    → Adds old new (IsPairOf side limits (take m froms) (take n tos))
    → Moves old (IsPairOf side limits froms tos) new (IsPairOf side limits froms (drop n tos))
past_to old new side limits froms tos m n f t first g =
    let pairs = IsPairOf side limits froms tos in
    Moves-more old old new pairs pairs (IsPairOf side limits (take m froms) (take n tos))
    (IsPairOf side limits froms (drop n tos)) (Moves-start old pairs) g parts whole
  where
    parts : (line : Line) (j : ℤ) → IsPairOf side limits froms tos line j
        → IsPairOf side limits (take m froms) (take n tos) line j
        ⊎ IsPairOf side limits froms (drop n tos) line j
    parts line j p = elim (held_parts (λ to. IsPairPlace side limits p.0 to line j) tos n p.2) [
      | inr rest ↦ inr (p.0, p.1, rest)
      | inl low ↦ elim (held_parts (λ from. IsPairPlace side limits from low.0 line j) froms m
          (p.0, p.1, low.2)) [
            | inl q ↦ inl (q.0, q.1, (low.0, low.1, q.2))
            | inr q ↦ absurd (let b = rows_in tos n low.0 t low.1 in let a = above_in froms m q.0 f
                q.1
                in apart side limits q.0 low.0 line j q.2
                (inl (omega (arith, ints, a, b.1, first))))
          ]
    ]

    whole : (line : Line) (j : ℤ) → IsPairOf side limits (take m froms) (take n tos) line j
        ⊎ IsPairOf side limits froms (drop n tos) line j → IsPairOf side limits froms tos line j
    whole line j (inl p) = held_take (λ from. IsPairFrom side limits tos from line j) froms m
        (p.0, p.1, held_take (λ to. IsPairPlace side limits p.0 to line j) tos n p.2)
    whole line j (inr p) = (
      p.0,
      p.1,
      held_drop (λ to. IsPairPlace side limits p.0 to line j) tos n
          p.2,
    )

-- ---- a band below the other list

-- what lies below the first edge lies below each
none_lower : (edges : List Edge) (e : Edge) (y : ℤ) → AreEdges edges → Contains edges e
    → y ≤ℤ (get_or edges 0 no_edge).y0 → y ≤ℤ e.y0
none_lower edges e y h c below =
    let is = ap (λ (x : Edge). x.y0) (at_default edges c.0 no_edge e c.1 ∙ c.2) in
    elim (cases_lt 0 c.0) [
      | inl less ↦
          let up = no_lower edges 0 c.0 no_edge h less c.1 in
          omega (arith, ints, below, up, is)
      | inr more ↦
          let z : c.0 ≡ 0 = omega (arith, more) in
          let same = ap (λ (m : ℕ). (get_or edges m no_edge).y0) z in
          omega (arith, ints, below, same, is)
    ]

-- what is left to find, described in another way
moves_as : (old new : List Run) (P Q R : Line → ℤ → Type 0) → Moves old P new Q
    → ((line : Line) (at : ℤ) → Q line at → R line at)
    → ((line : Line) (at : ℤ) → R line at → Q line at) → Moves old P new R
moves_as old new P Q R h f g = record {
  places = λ line at. (
    λ p. (h.places line at).0 (⊎_map (λ x. x) (g line at) p),
    λ p. ⊎_map (λ x. x) (f line at) ((h.places line at).1 p),
  );
  filled = h.filled;
}

-- edges of the first list that end below the other list have no pairs
pub past_low_from : (runs : List Run) (side : ℕ) (limits : Limits) (froms tos : List Edge) (m : ℕ)
    → AreEdges tos → All (λ (e : Edge). e.y1 ≤ℤ (get_or tos 0 no_edge).y0) (take m froms)
    → Moves runs (IsPairOf side limits froms tos) runs (IsPairOf side limits (drop m froms) tos)
past_low_from runs side limits froms tos m h low =
    moves_as runs runs (IsPairOf side limits froms tos) (IsPairOf side limits froms tos)
    (IsPairOf side limits (drop m froms) tos)
    (Moves-start runs (IsPairOf side limits froms tos))
    (λ line j p. elim (held_parts (λ from. IsPairFrom side limits tos from line j) froms m p) [
      | inr rest ↦ rest
      | inl first ↦ absurd (never line j first)
    ])
    (λ line j p. held_drop (λ from. IsPairFrom side limits tos from line j) froms m p)
  where
    never : (line : Line) (j : ℤ) → IsPairOf side limits (take m froms) tos line j → ⊥
    never line j p =
        apart side limits p.0 p.2.0 line j p.2.2 (inr (none_lower tos p.2.0 p.0.y1 h p.2.1
        (All-contains (λ (e : Edge). e.y1 ≤ℤ (get_or tos 0 no_edge).y0) (take m froms) p.0 low
        p.1)))

-- edges of the second list that end below each of the first have no pairs
past_under : (old new : List Run) (P : Line → ℤ → Type 0) (side : ℕ) (limits : Limits)
    (froms tos : List Edge) (n : ℕ)
    → ((from to : Edge) → Contains froms from → Contains (take n tos) to → to.y1 ≤ℤ from.y0)
    → Moves old P new (IsPairOf side limits froms tos)
    → Moves old P new (IsPairOf side limits froms (drop n tos))
past_under old new P side limits froms tos n under h =
    moves_as old new P (IsPairOf side limits froms tos) (IsPairOf side limits froms (drop n tos)) h
    (λ line j p. elim (held_parts (λ to. IsPairPlace side limits p.0 to line j) tos n p.2) [
      | inr rest ↦ (p.0, p.1, rest)
      | inl low ↦ absurd (never line j p.0 p.1 low)
    ])
    (λ line j p. (p.0, p.1, held_drop (λ to. IsPairPlace side limits p.0 to line j) tos n p.2))
  where
    never : (line : Line) (j : ℤ) (from : Edge) → Contains froms from
        → IsPairFrom side limits (take n tos) from line j → ⊥
    never line j from c p = apart side limits from p.0 line j p.2 (inl (under from p.0 c p.1))

pub past_low_to : (runs : List Run) (side : ℕ) (limits : Limits) (froms tos : List Edge) (n : ℕ)
    → AreEdges froms → All (λ (e : Edge). e.y1 ≤ℤ (get_or froms 0 no_edge).y0) (take n tos)
    → Moves runs (IsPairOf side limits froms tos) runs (IsPairOf side limits froms (drop n tos))
past_low_to runs side limits froms tos n h low =
    past_under runs runs (IsPairOf side limits froms tos) side limits froms tos n
    (λ from to c d. none_lower froms from to.y1 h c
    (All-contains (λ (e : Edge). e.y1 ≤ℤ (get_or froms 0 no_edge).y0) (take n tos) to low d))
    (Moves-start runs (IsPairOf side limits froms tos))

-- bands that end together have no more pairs
past_both : (old new : List Run) (side : ℕ) (limits : Limits) (froms tos : List Edge) (m n : ℕ)
    → IsBand froms m → IsBand tos n → (get_or froms 0 no_edge).y1 ≡ (get_or tos 0 no_edge).y1
    → Adds old new (IsPairOf side limits (take m froms) (take n tos))
    → Moves old (IsPairOf side limits froms tos) new
    (IsPairOf side limits (drop m froms) (drop n tos))
past_both old new side limits froms tos m n f t same g =
    past_under old new (IsPairOf side limits froms tos) side limits (drop m froms) tos n
    (λ from to c d.
    let above = above_in froms m from f c in
    let rows = (rows_in tos n to t d).1 in
    omega (arith, ints, above, rows, same))
    (past_from old new side limits froms tos m n f t (omega (arith, ints, same)) g)

-- what the pairs of two bands leave to find, by which of the bands ends first
pub record Passes (old new : List Run) (side : ℕ) (limits : Limits) (froms tos : List Edge)
    (m n : ℕ) : Type 0 where
  pub both : (get_or froms 0 no_edge).y1 ≡ (get_or tos 0 no_edge).y1
      → Moves old (IsPairOf side limits froms tos) new
      (IsPairOf side limits (drop m froms) (drop n tos))
  pub from : (get_or froms 0 no_edge).y1 ≤ℤ (get_or tos 0 no_edge).y1
      → Moves old (IsPairOf side limits froms tos) new (IsPairOf side limits (drop m froms) tos)
  pub to : (get_or tos 0 no_edge).y1 ≤ℤ (get_or froms 0 no_edge).y1
      → Moves old (IsPairOf side limits froms tos) new (IsPairOf side limits froms (drop n tos))

pub past : (old new : List Run) (side : ℕ) (limits : Limits) (froms tos : List Edge) (m n : ℕ)
    → IsBand froms m → IsBand tos n
    → Adds old new (IsPairOf side limits (take m froms) (take n tos))
    → Passes old new side limits froms tos m n
past old new side limits froms tos m n f t g = record {
  both = λ e. past_both old new side limits froms tos m n f t e g;
  from = λ e. past_from old new side limits froms tos m n f t e g;
  to = λ e. past_to old new side limits froms tos m n f t e g;
}

pub Moves-on : (old mid new : List Run) (P : Line → ℤ → Type 0) (side : ℕ) (limits : Limits)
    (froms tos F T : List Edge) (i j m n : ℕ) → F ≡ drop i froms → T ≡ drop j tos
    → Moves old P mid (IsPairOf side limits (drop i froms) (drop j tos))
    → Moves mid (IsPairOf side limits F T) new (IsPairOf side limits (drop m F) (drop n T))
    → Moves old P new (IsPairOf side limits (drop (i + m) froms) (drop (j + n) tos))
Moves-on old mid new P side limits froms tos F T i j m n e f h g = record {
  places = λ line at. (
    λ p. (h.places line at).0 (back line at ((told.places line at).0 p)),
    λ p. (told.places line at).1 (on line at ((h.places line at).1 p)),
  );
  filled = λ a. told.filled (h.filled a);
}
  where
    one : Moves mid (IsPairOf side limits (drop i froms) T) new
        (IsPairOf side limits (drop m (drop i froms)) (drop n T))
    one = subst (λ (es : List Edge). Moves mid (IsPairOf side limits es T) new
        (IsPairOf side limits (drop m es) (drop n T))) e g

    two : Moves mid (IsPairOf side limits (drop i froms) (drop j tos)) new
        (IsPairOf side limits (drop m (drop i froms)) (drop n (drop j tos)))
    two = subst (λ (es : List Edge). Moves mid (IsPairOf side limits (drop i froms) es) new
        (IsPairOf side limits (drop m (drop i froms)) (drop n es))) f one

    told : Moves mid (IsPairOf side limits (drop i froms) (drop j tos)) new
        (IsPairOf side limits (drop (i + m) froms) (drop (j + n) tos))
    told =
        subst (λ (es : List Edge). Moves mid (IsPairOf side limits (drop i froms) (drop j tos)) new
        (IsPairOf side limits es (drop (j + n) tos))) (drop-drop m i froms)
        (subst (λ (es : List Edge). Moves mid (IsPairOf side limits (drop i froms) (drop j tos)) new
        (IsPairOf side limits (drop m (drop i froms)) es)) (drop-drop n j tos) two)

    back : (line : Line) (at : ℤ) → CoversPlace mid line at
        ⊎ IsPairOf side limits (drop i froms) (drop j tos) line at → CoversPlace mid line at
        ⊎ IsPairOf side limits (drop i froms) (drop j tos) line at
    back line at p = p

    on : (line : Line) (at : ℤ) → CoversPlace mid line at
        ⊎ IsPairOf side limits (drop i froms) (drop j tos) line at → CoversPlace mid line at
        ⊎ IsPairOf side limits (drop i froms) (drop j tos) line at
    on line at p = p

pub Moves-all : (old new : List Run) (side : ℕ) (limits : Limits) (froms tos : List Edge) (i j : ℕ)
    → Moves old (IsPairOf side limits froms tos) new
    (IsPairOf side limits (drop i froms) (drop j tos)) → (length froms ≤ i) ⊎ (length tos ≤ j)
    → Adds old new (IsPairOf side limits froms tos)
Moves-all old new side limits froms tos i j h (inl e) =
    Moves-end old new (IsPairOf side limits froms tos)
    (IsPairOf side limits (drop i froms) (drop j tos)) h
    (no_froms side limits (drop i froms) (drop j tos) (omega (arith, length-drop i froms, e)))
Moves-all old new side limits froms tos i j h (inr e) =
    Moves-end old new (IsPairOf side limits froms tos)
    (IsPairOf side limits (drop i froms) (drop j tos)) h
    (no_tos side limits (drop i froms) (drop j tos) (omega (arith, length-drop j tos, e)))
