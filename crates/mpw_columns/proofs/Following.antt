-- The lists of adjacent columns, one after another.
use Rattle.std.proofs.Common.{◌≡◌, ℕ, suc, ℤ, ◌≤ℤ◌, ◌<ℤ◌, List, [], ◌∷◌, ◌++◌, get_or, ◌⊎◌, inl, inr, refl, subst, ap, ◌∙◌, arith}
use Rattle.std.specs.Prelude.{Contains, AllPairs, ◌↔◌}
use Rattle.std.specs.Ordering.{int_cmp, ordering_then}
use Rattle.std.specs.declared.cmp.Ordering.{Ordering}
use Rattle.std.specs.declared.cmp.Ordering.TheVariants.{Less}
use Rattle.std.specs.List.{flat_map}
use Rattle.std.proofs.lemmas.Int.{ints, by_lt_z}
use Rattle.std.proofs.lemmas.List.Elements.{All-append, Contains-append_left, Contains-append_right, Contains-append_cases, Contains-get_or}
use Rattle.std.proofs.lemmas.List.Kept.{AllPairs-cons}
use Rattle.mpw_edges.specs.declared.run.Axis.{Axis}
use Rattle.mpw_tiles.specs.Snapshots.{Snapshot}
use Rattle.mpw_markers.specs.declared.marker.Key.{Key}
use Rattle.mpw_columns_keys.specs.declared.column.Column.{Column}
use Rattle.mpw_columns.specs.Runs.{IsRunWithin}
use Rattle.mpw_columns.specs.FollowingOn.{ComesFirst, IsListFor, ColumnsFollowOn}
use Rattle.mpw_columns.proofs.Covering.{forwards}

pub pairs_append : {X : Type 0} (R : X → X → Type 0) (xs ys : List X) → AllPairs R xs
    → AllPairs R ys
    → ((x y : X) → Contains xs x → Contains ys y → R x y) → AllPairs R (xs ++ ys)
pairs_append R [] ys a b cross = b
pairs_append R (x ∷ xs) ys a b cross =
    AllPairs-cons R x (xs ++ ys)
    (All-append (R x) xs ys (λ k d l. a 0 (suc k) d (omega arith) (omega arith))
    (λ k d l. cross x (get_or ys k d) (0, omega arith, refl) (Contains-get_or ys k d l)))
    (pairs_append R xs ys (λ i j d lt within. a (suc i) (suc j) d (omega arith) (omega arith)) b
    (λ y z c e. cross y z (Contains-append_right (x ∷ []) xs y c) e))

less_from : (x y : ℤ) → x <ℤ y → int_cmp x y ≡ Less
less_from x y h = grind (arith, ints)

first_by : (k l : Key) → k.piece.x1 <ℤ l.piece.x1 → ComesFirst k l
first_by k l h = ap (λ (o : Ordering). ordering_then o
    (ordering_then (int_cmp k.piece.x2 l.piece.x2) (int_cmp k.piece.y0 l.piece.y0)))
    (less_from k.piece.x1 l.piece.x1 h)

abbrev span : Axis → ℤ → ℤ → Column
span axis low high = record { axis = axis; from = low; to = high }

-- a run of the whole lies in the first column or after it
split : (s : Snapshot) (axis : Axis) (low mid high : ℤ) (k : Key) → low ≤ℤ mid → mid ≤ℤ high
    → IsRunWithin s (span axis low high) k
    ↔ (IsRunWithin s (span axis low mid) k ⊎ IsRunWithin s (span axis mid high) k)
split s axis low mid high k l h = (
  λ r. by_lt_z k.piece.x1 mid
      (λ less. inl (record {
        run = r.run;
        on_axis = r.on_axis;
        left = r.left;
        right = less;
      }))
      (λ more. inr (record {
        run = r.run;
        on_axis = r.on_axis;
        left = more;
        right = r.right;
      })),
  λ r. elim r [
    | inl a ↦ record {
      run = a.run;
      on_axis = a.on_axis;
      left = a.left;
      right = let less = a.right in omega (arith, ints, less, h);
    }
    | inr b ↦ record {
      run = b.run;
      on_axis = b.on_axis;
      left = let more = b.left in omega (arith, ints, more, l);
      right = b.right;
    }
  ],
)

-- the column, by its parts
same_column : (c : Column) (axis : Axis) (low : ℤ) → c.axis ≡ axis → c.from ≡ low
    → c ≡ span axis low c.to
same_column c axis low e f =
    ap (λ (a : Axis). span a c.from c.to) e ∙ ap (λ (z : ℤ). span axis z c.to) f

none_between : (s : Snapshot) (axis : Axis) (low high : ℤ) (k : Key) → low ≡ high
    → IsRunWithin s (span axis low high) k → ⊥
none_between s axis low high k e r =
    let l = r.left in let u = r.right in omega (arith, ints, e, l, u)

-- the lists of two adjacent columns
together : (s : Snapshot) (rule side : ℕ) (axis : Axis) (low mid high : ℤ) (first rest : List Key)
    → IsListFor s rule side (span axis low mid) first
    → IsListFor s rule side (span axis mid high) rest → low ≤ℤ mid → mid ≤ℤ high
    → IsListFor s rule side (span axis low high) (first ++ rest)
together s rule side axis low mid high first rest f g le up = record {
  exact = λ k. let both = split s axis low mid high k le up in (
    λ there. elim (Contains-append_cases first rest k there) [
      | inl a ↦ let p = (f.exact k).0 a in (p.0, p.1, both.1 (inl p.2))
      | inr b ↦ let p = (g.exact k).0 b in (p.0, p.1, both.1 (inr p.2))
    ],
    λ p. elim (both.0 p.2) [
      | inl a ↦ Contains-append_left first rest k ((f.exact k).1 (p.0, p.1, a))
      | inr b ↦ Contains-append_right first rest k ((g.exact k).1 (p.0, p.1, b))
    ],
  );
  ordered = pairs_append ComesFirst first rest f.ordered g.ordered
      (λ k m a b.
      let p = ((f.exact k).0 a).2 in
      let q = ((g.exact m).0 b).2 in
      let less = p.right in let more = q.left in
      first_by k m (omega (arith, ints, less, more)));
}

pub follow_on : ColumnsFollowOn
follow_on s rule side axis low high [] [] h each = record {
  exact = λ k. (
    λ c. absurd (omega (arith, c.1)),
    λ r. absurd (none_between s axis low high k h r.2),
  );
  ordered = λ i j d lt within. absurd (omega arith);
}
follow_on s rule side axis low high [] (l ∷ ls) h each = absurd each
follow_on s rule side axis low high (c ∷ cs) [] h each = absurd each
follow_on s rule side axis low high (c ∷ cs) (l ∷ ls) h each =
    together s rule side axis low c.to high l (flat_map (λ list. list) ls)
    (subst (λ (x : Column). IsListFor s rule side x l) (same_column c axis low h.0 h.1) each.0)
    (follow_on s rule side axis c.to high cs ls h.3 each.1)
    (let at = h.1 in let some = h.2 in omega (arith, ints, at, some))
    (forwards axis c.to high cs h.3)
