-- Maximal runs on one line, and the order of lines.
use Rattle.std.proofs.Common.{◌≡◌, ◌∙◌, ℕ, ◌<◌, ℤ, pos, ◌-ℤ◌, ◌<ℤ◌, Bool, true, List, length, Some, None, nat_cmp, int_cmp, is_eq, Ordering, Less, Equal, Greater, refl, sym, subst, ap, ◌⊎◌, inl, inr, arith}
use Rattle.std.specs.Prelude.{slice_get}
use Rattle.std.specs.Ordering.{eq_by_cmp, ordering_then}
use Rattle.std.proofs.lemmas.Bool.{false≢true}
use Rattle.std.proofs.lemmas.Cmp.{nat_cmp_total, tied_itself}
use Rattle.std.proofs.lemmas.Int.{ints, by_lt_z}
use Rattle.std.proofs.lemmas.Map.Lookups.{exact_unsigned, exact_signed}
use Rattle.std.proofs.lemmas.Option.{slice_get_cases}
use Rattle.mpw_deck.specs.declared.rule.Check.{Check}
use Rattle.mpw_deck.specs.declared.rule.Check.TheVariants.{Width, Space, Separation, Enclosing}
use Rattle.mpw_deck.specs.declared.rule.Rule.{Rule}
use Rattle.mpw_edges.specs.declared.run.Axis.{Axis}
use Rattle.mpw_edges.specs.declared.run.Axis.TheVariants.{V, H}
use Rattle.mpw_edges.specs.Edges.{Squares}
use Rattle.mpw_edges.specs.Computed.{TestDecidesPairSteps}
use Rattle.mpw_edges.specs.Pieces.{axis_cmp}
use Rattle.mpw_edges.specs.Steps.{IsPairStep}
use Rattle.mpw_region.proofs.Orderings.{then_first, then_second}
use Rattle.mpw_tiles.specs.Snapshots.{Snapshot, shown}
use Rattle.mpw_markers.specs.declared.marker.Key.{Key}
use Rattle.mpw_markers.specs.declared.marker.Line.{Line}
use Rattle.mpw_markers.specs.Markers.{line_of_key}
use Rattle.mpw_markers.specs.Order.{line_cmp}
use Rattle.mpw_markers.specs.Whole.{IsMaximal}
use Rattle.mpw_job.specs.Computed.{shown_on}
use Rattle.mpw_job.proofs.Tests.{rule_of}
use Rattle.mpw_columns_keys.specs.Keys.{list_number, key_cmp}
use Rattle.mpw_columns_keys.proofs.SameKey.{same_line}
use Rattle.mpw_columns.specs.FollowingOn.{ComesFirst}
use Rattle.mpw_columns.specs.Runs.{IsRunOf}
use Rattle.mpw_columns.proofs.SeenSteps.{step_on_seen}

-- ---- two runs

module _ (steps : Line → ℤ → Bool) (k l : Key) (m : IsMaximal steps k) (n : IsMaximal steps l)
    (e : line_of_key k ≡ line_of_key l) where
  on_other : (j : ℤ) → steps (line_of_key k) j ≡ true → steps (line_of_key l) j ≡ true
  on_other j h = subst (λ (line : Line). steps line j ≡ true) e h

  on_first : (j : ℤ) → steps (line_of_key l) j ≡ true → steps (line_of_key k) j ≡ true
  on_first j h = subst (λ (line : Line). steps line j ≡ true) (sym e) h

  -- the one that begins later begins after the other's end, with a gap
  pub gap : k.piece.y0 <ℤ l.piece.y0 → k.piece.y1 <ℤ l.piece.y0
  gap h = by_lt_z k.piece.y1 l.piece.y0 (λ less. less)
      (λ more. absurd (false≢true (sym n.below ∙ on_other (l.piece.y0 -ℤ pos 1)
      (m.rows (l.piece.y0 -ℤ pos 1) (omega (arith, ints, h)) (omega (arith, ints, more))))))

  -- those that begin at the same row end at the same row
  pub same_end : k.piece.y0 ≡ l.piece.y0 → k.piece.y1 ≡ l.piece.y1
  same_end h =
      let first = m.filled in
      let second = n.filled in
      by_lt_z k.piece.y1 l.piece.y1
      (λ less. absurd (false≢true (sym m.above ∙ on_first k.piece.y1
      (n.rows k.piece.y1 (omega (arith, ints, h, first)) less))))
      (λ more. by_lt_z l.piece.y1 k.piece.y1
      (λ less. absurd (false≢true (sym n.above ∙ on_other l.piece.y1
      (m.rows l.piece.y1 (omega (arith, ints, h, second)) less))))
      (λ no_more. omega (arith, ints, more, no_more)))

-- ---- rule and side of a run

pub small_side : (check : Check) (distance : ℕ) (a b : Squares) (side : ℕ) (x1 x2 j : ℤ)
    → IsPairStep check distance a b side x1 x2 j → side < 2
small_side (Width l) distance a b side x1 x2 j h = let e = h.0.0 in omega (arith, e)
small_side (Space l) distance a b side x1 x2 j h = let e = h.0.0 in omega (arith, e)
small_side (Separation l m) distance a b side x1 x2 j h = elim h.0.1
    [ inl q ↦ let e = q.0 in omega (arith, e) | inr q ↦ let e = q.0 in omega (arith, e) ]
small_side (Enclosing l m) distance a b side x1 x2 j h = elim h.0.1
    [ inl q ↦ let e = q.0 in omega (arith, e) | inr q ↦ let e = q.0 in omega (arith, e) ]

within : (rules : List Rule) (i : ℕ) (rule : Rule) → slice_get rules i ≡ Some rule
    → i < length rules
within rules i rule e = elim (slice_get_cases rules i).1 [
  | inl found ↦ found.1
  | inr past ↦ absurd (let clash : None ≡ Some rule = sym past.1 ∙ e in cc)
]

pub record IsRuled (s : Snapshot) (k : Key) : Type 0 where
  pub rule : k.rule < length s.deck.rules
  pub side : k.piece.side < 2

pub ruled : TestDecidesPairSteps → (s : Snapshot) (k : Key) → IsRunOf s k → IsRuled s k
ruled law s k m =
    let on = shown_on (shown s) in
    let r = rule_of s.deck.rules on (line_of_key k) k.piece.y0
    (m.rows k.piece.y0 (omega (arith, ints)) m.filled) in record {
      rule = within s.deck.rules k.rule r.rule r.at;
      side =
          small_side r.rule.check r.rule.distance _ _ k.piece.side k.piece.x1 k.piece.x2 k.piece.y0
          ((step_on_seen law r.rule on k.piece.axis k.piece.side k.piece.x1 k.piece.x2 k.piece.y0).0
          r.step);
    }

-- ---- the order of lines

-- the first key's line comes first, or on one line it begins first
abbrev pub Before : Key → Key → Type 0
Before k l = (line_cmp (line_of_key k) (line_of_key l) ≡ Less)
    ⊎ ((line_of_key k ≡ line_of_key l) × (k.piece.y0 <ℤ l.piece.y0))

pub then_equal : (o p : Ordering) → o ≡ Equal → ordering_then o p ≡ p
then_equal Less p e = cc
then_equal Equal p e = refl
then_equal Greater p e = cc

then_less : (o p : Ordering) → o ≡ Less → ordering_then o p ≡ Less
then_less Less p e = refl
then_less Equal p e = cc
then_less Greater p e = cc

pub nat_alike : (a b : ℕ) → a ≡ b → nat_cmp a b ≡ Equal
nat_alike a b e = ap (nat_cmp a) (sym e) ∙ tied_itself nat_cmp_total a

nat_less : (a b : ℕ) → a < b → nat_cmp a b ≡ Less
nat_less a b l = grind (arith)

axis_alike : (a b : Axis) → a ≡ b → axis_cmp a b ≡ Equal
axis_alike V V e = refl
axis_alike V H e = cc
axis_alike H V e = cc
axis_alike H H e = refl

int_less : (x y : ℤ) → int_cmp x y ≡ Less → x <ℤ y
int_less x y e = grind (arith, ints)

first_or_last : (o p q : Ordering) → ordering_then o (ordering_then p q) ≡ Less
    → (ordering_then o p ≡ Less) ⊎ ((o ≡ Equal) × (p ≡ Equal) × (q ≡ Less))
first_or_last Less p q e = inl refl
first_or_last Equal Less q e = inl refl
first_or_last Equal Equal q e = inr (refl, refl, e)
first_or_last Equal Greater q e = cc
first_or_last Greater p q e = cc

-- the keys of one list
pub record IsOneList (k l : Key) : Type 0 where
  pub rule : k.rule ≡ l.rule
  pub axis : k.piece.axis ≡ l.piece.axis
  pub side : k.piece.side ≡ l.piece.side

pub before_in_list : (k l : Key) → IsOneList k l → ComesFirst k l → Before k l
before_in_list k l one e =
    let edges = ordering_then (int_cmp k.piece.x1 l.piece.x1) (int_cmp k.piece.x2 l.piece.x2) in
    let sides = ordering_then (nat_cmp k.piece.side l.piece.side) edges in
    elim (first_or_last (int_cmp k.piece.x1 l.piece.x1) (int_cmp k.piece.x2 l.piece.x2)
    (int_cmp k.piece.y0 l.piece.y0) e) [
      | inl less ↦ inl (then_equal (nat_cmp k.rule l.rule)
          (ordering_then (axis_cmp k.piece.axis l.piece.axis) sides)
          (nat_alike k.rule l.rule one.rule)
          ∙ then_equal (axis_cmp k.piece.axis l.piece.axis) sides
          (axis_alike k.piece.axis l.piece.axis one.axis)
          ∙ then_equal (nat_cmp k.piece.side l.piece.side) edges
          (nat_alike k.piece.side l.piece.side one.side) ∙ less)
      | inr tied ↦ inr (
        same_line (line_of_key k) (line_of_key l) one.rule one.axis one.side
            (exact_signed _ _ tied.0) (exact_signed _ _ tied.1),
        int_less k.piece.y0 l.piece.y0 tied.2,
      )
    ]

pub before_by_side : (k l : Key) → k.rule ≡ l.rule → k.piece.axis ≡ l.piece.axis
    → k.piece.side < l.piece.side → Before k l
before_by_side k l e f h =
    let edges = ordering_then (int_cmp k.piece.x1 l.piece.x1) (int_cmp k.piece.x2 l.piece.x2) in
    let sides = ordering_then (nat_cmp k.piece.side l.piece.side) edges in
    inl (then_equal (nat_cmp k.rule l.rule)
    (ordering_then (axis_cmp k.piece.axis l.piece.axis) sides)
    (nat_alike k.rule l.rule e)
    ∙ then_equal (axis_cmp k.piece.axis l.piece.axis) sides (axis_alike k.piece.axis l.piece.axis f)
    ∙ then_less (nat_cmp k.piece.side l.piece.side) edges (nat_less k.piece.side l.piece.side h))

pub before_by_axis : (k l : Key) → k.rule ≡ l.rule → k.piece.axis ≡ V → l.piece.axis ≡ H
    → Before k l
before_by_axis k l e f g =
    let edges = ordering_then (int_cmp k.piece.x1 l.piece.x1) (int_cmp k.piece.x2 l.piece.x2) in
    let sides = ordering_then (nat_cmp k.piece.side l.piece.side) edges in
    let apart : axis_cmp k.piece.axis l.piece.axis ≡ Less =
    ap (λ (a : Axis). axis_cmp a l.piece.axis) f ∙ ap (axis_cmp V) g in
    inl (then_equal (nat_cmp k.rule l.rule)
    (ordering_then (axis_cmp k.piece.axis l.piece.axis) sides)
    (nat_alike k.rule l.rule e) ∙ then_less (axis_cmp k.piece.axis l.piece.axis) sides apart)

pub before_by_rule : (k l : Key) → k.rule < l.rule → Before k l
before_by_rule k l h =
    let edges = ordering_then (int_cmp k.piece.x1 l.piece.x1) (int_cmp k.piece.x2 l.piece.x2) in
    let sides = ordering_then (nat_cmp k.piece.side l.piece.side) edges in
    inl (then_less (nat_cmp k.rule l.rule)
    (ordering_then (axis_cmp k.piece.axis l.piece.axis) sides)
    (nat_less k.rule l.rule h))

-- what follows if neither key comes first
pub record IsTied (k l : Key) : Type 0 where
  pub list : list_number k ≡ list_number l
  pub x1 : k.piece.x1 ≡ l.piece.x1
  pub x2 : k.piece.x2 ≡ l.piece.x2
  pub y0 : k.piece.y0 ≡ l.piece.y0

equal_from : (o : Ordering) → is_eq o ≡ true → o ≡ Equal
equal_from Less e = absurd (false≢true e)
equal_from Equal e = refl
equal_from Greater e = absurd (false≢true e)

pub is_tied : (k l : Key) → eq_by_cmp key_cmp k l ≡ true → IsTied k l
is_tied k l e =
    let whole = equal_from (key_cmp k l) e in
    let rest = then_second (nat_cmp (list_number k) (list_number l)) _ whole in
    let last = then_second (int_cmp k.piece.x1 l.piece.x1) _ rest in record {
      list = exact_unsigned _ _ (then_first (nat_cmp (list_number k) (list_number l)) _ whole);
      x1 = exact_signed _ _ (then_first (int_cmp k.piece.x1 l.piece.x1) _ rest);
      x2 = exact_signed _ _ (then_first (int_cmp k.piece.x2 l.piece.x2) _ last);
      y0 = exact_signed _ _ (then_second (int_cmp k.piece.x2 l.piece.x2) _ last);
    }
