-- The joined lists of columns are the book of the layout.
use Rattle.std.proofs.Common.{◌≡◌, ◌∙◌, ℕ, zero, suc, ◌+◌, ◌*◌, ◌<◌, pos, ◌+ℤ◌, ◌≤ℤ◌, ◌<ℤ◌, Bool, true, false, List, [], ◌∷◌, ◌++◌, length, get_or, map, cond, Less, nat_cmp, eqb-true, eq-eqb, Some, refl, sym, subst, ap, ◌⊎◌, inl, inr, arith}
use Rattle.std.specs.Prelude.{Contains, All, AllPairs, filter, ◌↔◌}
use Rattle.std.specs.List.{AllZip}
use Rattle.std.proofs.lemmas.Bool.{cases_lt}
use Rattle.std.proofs.lemmas.Int.{ints}
use Rattle.std.proofs.lemmas.List.{length-map, get_or-map}
use Rattle.std.proofs.lemmas.List.Elements.{All-contains, All-map, All-filter, All-contains_itself, filter_passes, Contains-append_left, Contains-append_right, Contains-append_cases, Contains-push_cases, Contains-get_or}
use Rattle.std.proofs.lemmas.List.Folds.{flat_map-map}
use Rattle.std.proofs.lemmas.List.Kept.{AllPairs-filter}
use Rattle.mpw_geom.specs.declared.plane.Box2.{Box2}
use Rattle.mpw_edges.specs.declared.run.Axis.{Axis}
use Rattle.mpw_edges.specs.declared.run.Axis.TheVariants.{V, H}
use Rattle.mpw_tiles.specs.Snapshots.{Snapshot, shown, shown_extent}
use Rattle.mpw_markers.specs.declared.marker.Key.{Key}
use Rattle.mpw_markers.specs.declared.marker.Marker.{Marker}
use Rattle.mpw_markers.specs.Book.{IsBook}
use Rattle.mpw_markers.specs.Markers.{line_of_key}
use Rattle.mpw_markers.specs.Order.{StandsBefore}
use Rattle.mpw_markers.specs.Whole.{AreMarkersOf}
use Rattle.mpw_job.specs.Computed.{steps_of, shown_on}
use Rattle.mpw_job.specs.Layout.{AreLayoutMarkers}
use Rattle.mpw_tiles.specs.Shown.{HasShown}
use Rattle.mpw_job.proofs.Flat.{flat_from}
use Rattle.mpw_columns_keys.specs.declared.column.Column.{Column}
use Rattle.mpw_columns_keys.specs.Columns.{seen_box, AreColumnsOf}
use Rattle.mpw_columns_keys.specs.Keys.{list_number, key_cmp, is_of_list, list_of, lists_of_sides, lists_of_rule, together, of_first}
use Rattle.mpw_columns.specs.FollowingOn.{ComesFirst, IsListFor}
use Rattle.mpw_columns.specs.Laws.{ColumnsMakeTheLayout}
use Rattle.mpw_columns.specs.Runs.{IsRunOf}
use Rattle.mpw_columns.specs.Lists.{IsColumnList, MeetsShown}
use Rattle.mpw_columns.proofs.Covering.{StandsIn}
use Rattle.mpw_columns.proofs.Following.{pairs_append, follow_on}
use Rattle.mpw_columns.proofs.Making.{Laws, steps_stand}
use Rattle.mpw_columns.proofs.OneLine.{gap, ruled, Before, before_in_list, before_by_side, before_by_axis, before_by_rule, then_equal, nat_alike}
use Rattle.mpw_columns.proofs.Telling.{of_map, to_map, AreOfFirst, meets_first}

-- ---- the keys of one list

filter_has : {X : Type 0} (p : X → Bool) (xs : List X) (x : X) → Contains xs x → p x ≡ true
    → Contains (filter p xs) x
filter_has p [] x c e = absurd (omega (arith, c.1))
filter_has {X = X} p (y ∷ ys) x c e =
    at (p y) refl (λ behind. filter_has p ys x behind e) (Contains-append_cases (y ∷ []) ys x c)
  where
    at : (b : Bool) → p y ≡ b → (Contains ys x → Contains (filter p ys) x)
        → (Contains (y ∷ []) x ⊎ Contains ys x)
        → Contains (cond b (y ∷ filter p ys) (filter p ys)) x
    at true f rest (inl here) = Contains-append_left (y ∷ []) (filter p ys) x here
    at false f rest (inl here) = elim (Contains-push_cases [] y x here) [
      | inl none ↦ absurd (omega (arith, none.1))
      | inr same ↦ absurd (let clash : false ≡ true = sym f ∙ ap p same ∙ e in cc)
    ]
    at true f rest (inr behind) = Contains-append_right (y ∷ []) (filter p ys) x (rest behind)
    at false f rest (inr behind) = rest behind

same_number : (n rule side : ℕ) → side < 2 → n < 2 → (r : ℕ) → 2 * rule + side ≡ 2 * r + n
    → (rule ≡ r) × (side ≡ n)
same_number n rule side small less r e =
    (omega (arith, small, less, e), omega (arith, small, less, e))

first_in_list : (k l : Key) → list_number k ≡ list_number l → key_cmp k l ≡ Less → ComesFirst k l
first_in_list k l e h = sym (then_equal (nat_cmp (list_number k) (list_number l)) _
    (nat_alike (list_number k) (list_number l) e)) ∙ h

module _ (laws : Laws) (s : Snapshot) (rule side : ℕ) (small : side < 2) where
  abbrev keeps : Key → Bool
  keeps = is_of_list (2 * rule + side)

  -- the part of a column's list for the rule and the side
  list_for : (c : Column) (keys : List Key) → IsColumnList s c keys
      → IsListFor s rule side c (filter keeps keys)
  list_for c keys h = record {
    exact = λ k. (
      λ there.
          let run = (h.exact k).0 (kept k there) in
          let ruled_so = ruled laws.decides s k run.run in
          let parts =
          same_number side k.rule k.piece.side ruled_so.side small rule (number k there) in
          (parts.0, parts.1, run),
      λ p. filter_has keeps keys k ((h.exact k).1 p.2) (eq-eqb (list_number k) (2 * rule + side)
          (let e = p.0 in let f = p.1 in omega (arith, e, f))),
    );
    ordered = λ i j d less within.
        let k = get_or (filter keeps keys) i d in
        let l = get_or (filter keeps keys) j d in
        let first = Contains-get_or (filter keeps keys) i d (omega (arith, less, within)) in
        let second = Contains-get_or (filter keeps keys) j d within in
        first_in_list k l (number k first ∙ sym (number l second))
        (AllPairs-filter (λ a b. key_cmp a b ≡ Less) keeps keys h.ordered i j d less within);
  }
    where
      kept : (k : Key) → Contains (filter keeps keys) k → Contains keys k
      kept k there = All-contains (Contains keys) (filter keeps keys) k
          (All-filter keeps (Contains keys) keys (All-contains_itself keys)) there

      number : (k : Key) → Contains (filter keeps keys) k → list_number k ≡ 2 * rule + side
      number k there = eqb-true (list_number k) (2 * rule + side)
          (All-contains (λ (x : Key). keeps x ≡ true) (filter keeps keys) k
          (filter_passes keeps keys) there)

  lists_for : (cs : List Column) (lists : List (List Key)) → AllZip (IsColumnList s) cs lists
      → AllZip (IsListFor s rule side) cs (map (filter keeps) lists)
  lists_for [] [] h = tt
  lists_for [] (l ∷ ls) h = absurd h
  lists_for (c ∷ cs) [] h = absurd h
  lists_for (c ∷ cs) (l ∷ ls) h = (list_for c l h.0, lists_for cs ls h.1)

  -- the list of a rule, an axis and a side
  whole_list : (axis : Axis) (extent : Box2) (cs : List Column) (lists : List (List Key))
      → AreColumnsOf axis extent cs → AllZip (IsColumnList s) cs lists
      → IsListFor s rule side (record {
        axis = axis;
        from = (seen_box axis extent).x0;
        to = (seen_box axis extent).x1 +ℤ pos 1;
      }) (list_of (2 * rule + side) lists)
  whole_list axis extent cs lists cover each =
      subst (IsListFor s rule side _) (flat_map-map (λ (keys : List Key). keys) (filter keeps)
      lists)
      (follow_on s rule side axis (seen_box axis extent).x0 ((seen_box axis extent).x1 +ℤ pos 1) cs
      (map (filter keeps) lists) cover (lists_for cs lists each))

-- ---- lists of runs, in the order of a book

-- the list has exactly the keys with P, in order
pub record IsJust (P : Key → Type 0) (keys : List Key) : Type 0 where
  pub exact : (k : Key) → Contains keys k ↔ P k
  pub ordered : AllPairs Before keys

joined : (P Q R : Key → Type 0) (xs ys : List Key) → IsJust P xs → IsJust Q ys
    → ((k : Key) → R k ↔ (P k ⊎ Q k)) → ((k l : Key) → P k → Q l → Before k l)
    → IsJust R (xs ++ ys)
joined P Q R xs ys f g parts across = record {
  exact = λ k. (
    λ c. (parts k).1 (elim (Contains-append_cases xs ys k c)
        [ inl a ↦ inl ((f.exact k).0 a) | inr b ↦ inr ((g.exact k).0 b) ]),
    λ r. elim ((parts k).0 r) [
      | inl p ↦ Contains-append_left xs ys k ((f.exact k).1 p)
      | inr q ↦ Contains-append_right xs ys k ((g.exact k).1 q)
    ],
  );
  ordered = pairs_append Before xs ys f.ordered g.ordered
      (λ k l a b. across k l ((f.exact k).0 a) ((g.exact l).0 b));
}

-- a run of the rule on the axis and on the side; of both sides; on both axes; of a rule below n
abbrev OfList : Snapshot → ℕ → Axis → ℕ → Key → Type 0
OfList s rule axis side k =
    (k.rule ≡ rule) × (k.piece.axis ≡ axis) × (k.piece.side ≡ side) × IsRunOf s k

abbrev OfSides : Snapshot → ℕ → Axis → Key → Type 0
OfSides s rule axis k = (k.rule ≡ rule) × (k.piece.axis ≡ axis) × IsRunOf s k

abbrev OfRule : Snapshot → ℕ → Key → Type 0
OfRule s rule k = (k.rule ≡ rule) × IsRunOf s k

abbrev OfRules : Snapshot → ℕ → Key → Type 0
OfRules s n k = (k.rule < n) × IsRunOf s k

either_axis : (a : Axis) → (a ≡ V) ⊎ (a ≡ H)
either_axis V = inl refl
either_axis H = inr refl

module _ (laws : Laws) (s : Snapshot) (extent : Box2) (found : shown_extent s ≡ Some extent) where
  -- a run lies in the extent
  stands : (k : Key) → IsRunOf s k → StandsIn (seen_box k.piece.axis extent) k.piece.x1 k.piece.y0
  stands k run = steps_stand laws s extent (line_of_key k) k.piece.y0 found
      (run.rows k.piece.y0 (omega (arith, ints)) run.filled)

  just_list : (rule side : ℕ) (axis : Axis) (cs : List Column) (lists : List (List Key)) → side < 2
      → AreColumnsOf axis extent cs → AllZip (IsColumnList s) cs lists
      → IsJust (OfList s rule axis side) (list_of (2 * rule + side) lists)
  just_list rule side axis cs lists small cover each =
      let whole = whole_list laws s rule side small axis extent cs lists cover each in
      record {
        exact = λ k. (
          λ c. let p = (whole.exact k).0 c in (p.0, p.2.on_axis, p.1, p.2.run),
          λ p. (whole.exact k).1 (
            p.0,
            p.2,
            record {
              run = p.3;
              on_axis = p.1;
              left =
                  subst (λ (a : Axis). (seen_box a extent).x0 ≤ℤ k.piece.x1) p.1
                  (stands k p.3).left;
              right = subst (λ (a : Axis). k.piece.x1 <ℤ ((seen_box a extent).x1 +ℤ pos 1)) p.1
                  (stands k p.3).right;
            },
          ),
        );
        ordered = λ i j d less within.
            let keys = list_of (2 * rule + side) lists in
            let p = (whole.exact (get_or keys i d)).0
            (Contains-get_or keys i d (omega (arith, less, within))) in
            let q = (whole.exact (get_or keys j d)).0 (Contains-get_or keys j d within) in
            before_in_list (get_or keys i d) (get_or keys j d) (record {
              rule = p.0 ∙ sym q.0;
              axis = p.2.on_axis ∙ sym q.2.on_axis;
              side = p.1 ∙ sym q.1;
            }) (whole.ordered i j d less within);
      }

  either_side : (k : Key) → IsRunOf s k → (k.piece.side ≡ 0) ⊎ (k.piece.side ≡ 1)
  either_side k run = at k.piece.side (ruled laws.decides s k run).side
    where
      at : (n : ℕ) → n < 2 → (n ≡ 0) ⊎ (n ≡ 1)
      at zero less = inl refl
      at (suc zero) less = inr refl
      at (suc (suc n)) less = absurd (omega (arith, less))

  just_sides : (rule : ℕ) (axis : Axis) (cs : List Column) (lists : List (List Key))
      → AreColumnsOf axis extent cs → AllZip (IsColumnList s) cs lists
      → IsJust (OfSides s rule axis) (lists_of_sides rule lists)
  just_sides rule axis cs lists cover each =
      joined (OfList s rule axis 0) (OfList s rule axis 1) (OfSides s rule axis)
      (list_of (2 * rule) lists) (list_of (2 * rule + 1) lists)
      (let e : 2 * rule + 0 ≡ 2 * rule = omega arith in
      subst (λ (n : ℕ). IsJust (OfList s rule axis 0) (list_of n lists)) e
      (just_list rule 0 axis cs lists (omega arith) cover each))
      (just_list rule 1 axis cs lists (omega arith) cover each)
      (λ k. (
        λ r. elim (either_side k r.2)
            [ inl e ↦ inl (r.0, r.1, e, r.2) | inr e ↦ inr (r.0, r.1, e, r.2) ],
        λ p. elim p [ inl q ↦ (q.0, q.1, q.3) | inr q ↦ (q.0, q.1, q.3) ],
      ))
      (λ k l p q. before_by_side k l (p.0 ∙ sym q.0) (p.1 ∙ sym q.1)
      (let e = p.2 in let f = q.2 in omega (arith, e, f)))

  module _ (vs hs : List Column) (upright across : List (List Key))
      (on_v : AreColumnsOf V extent vs)
      (on_h : AreColumnsOf H extent hs) (first : AllZip (IsColumnList s) vs upright)
      (second : AllZip (IsColumnList s) hs across) where
    just_rule : (rule : ℕ) → IsJust (OfRule s rule) (lists_of_rule upright across rule)
    just_rule rule =
        joined (OfSides s rule V) (OfSides s rule H) (OfRule s rule) (lists_of_sides rule upright)
        (lists_of_sides rule across) (just_sides rule V vs upright on_v first)
        (just_sides rule H hs across on_h second)
        (λ k. (
          λ r. elim (either_axis k.piece.axis) [
            | inl e ↦ inl (r.0, e, r.1)
            | inr e
                ↦ inr (r.0, e, r.1)
          ],
          λ p. elim p [ inl q ↦ (q.0, q.2) | inr q ↦ (q.0, q.2) ],
        ))
        (λ k l p q. before_by_axis k l (p.0 ∙ sym q.0) p.1 q.1)

    just_rules : (n : ℕ) → IsJust (OfRules s n) (together n upright across)
    just_rules zero = record {
      exact = λ k. (λ c. absurd (omega (arith, c.1)), λ p. absurd (omega (arith, p.0)));
      ordered = λ i j d less within. absurd (omega (arith, within));
    }
    just_rules (suc n) =
        joined (OfRules s n) (OfRule s n) (OfRules s (suc n)) (together n upright across)
        (lists_of_rule upright across n) (just_rules n) (just_rule n)
        (λ k. (
          λ r. elim (cases_lt k.rule n) [
            | inl less ↦ inl (less, r.1)
            | inr more ↦ inr (let up = r.0 in omega (arith, up, more), r.1)
          ],
          λ p. elim p [
            | inl q ↦ (let less = q.0 in omega (arith, less), q.1)
            | inr q ↦ (let same = q.0 in omega (arith, same), q.1)
          ],
        ))
        (λ k l p q. before_by_rule k l (let less = p.0 in let same = q.0 in
        omega (arith, less, same)))

    pub just_layout : IsJust (IsRunOf s) (together (length s.deck.rules) upright across)
    just_layout =
        let all = just_rules (length s.deck.rules) in record {
          exact = λ k. (
            λ c. ((all.exact k).0 c).1,
            λ run. (all.exact k).1 ((ruled laws.decides s k run).rule, run),
          );
          ordered = all.ordered;
        }

-- ---- the book

abbrev key_of : Marker → Key
key_of m = m.key

module _ (s : Snapshot) (keys : List Key) (book : List Marker) (just : IsJust (IsRunOf s) keys)
    (are : map key_of book ≡ keys) (meets : All (MeetsShown s) book) where
  run_of : (m : Marker) → Contains book m → IsRunOf s m.key
  run_of m c = (just.exact m.key).0 (subst (λ (ks : List Key). Contains ks m.key) are
      (to_map key_of book m c))

  at_key : (i : ℕ) (d : Marker) → i < length book
      → get_or keys i d.key ≡ (get_or book i d).key
  at_key i d less = ap (λ (ks : List Key). get_or ks i d.key) (sym are)
      ∙ get_or-map key_of book i d d.key less

  stands_before : (m n : Marker) → Contains book m → Contains book n → Before m.key n.key
      → StandsBefore m n
  stands_before m n c d (inl less) = inl less
  stands_before m n c d (inr tied) = inr (
    tied.0,
    gap (steps_of s.deck.rules (shown_on (shown s)))
        m.key n.key (run_of m c) (run_of n d) tied.0 tied.1,
  )

  pub is_book : IsBook book
  is_book = record {
    filled = λ k d less. (run_of (get_or book k d) (Contains-get_or book k d less)).filled;
    ordered = λ i j d less within.
        let first : i < length book = omega (arith, less, within) in
        let long : length keys ≡ length book = ap length (sym are) ∙ length-map book key_of in
        stands_before (get_or book i d) (get_or book j d) (Contains-get_or book i d first)
        (Contains-get_or book j d within)
        (subst (λ (l : Key). Before (get_or book i d).key l) (at_key j d within)
        (subst (λ (k : Key). Before k (get_or keys j d.key)) (at_key i d first)
        (just.ordered i j d.key less (omega (arith, within, long)))));
    ascending = λ k d less. (meets k d less).ascending;
  }

  pub are_markers : AreMarkersOf (steps_of s.deck.rules (shown_on (shown s))) (HasShown (shown s))
      book
  are_markers = record {
    sound = λ m c.
        let met = All-contains (MeetsShown s) book m meets c in
        record { run = run_of m c; ascending = met.ascending; met = met.met };
    complete = λ key run. of_map key_of book key (subst (λ (ks : List Key). Contains ks key)
        (sym are) ((just.exact key).1 run));
  }

pub make_the_layout : Laws → ColumnsMakeTheLayout
make_the_layout laws s extent vs hs upright across book found on_v on_h first second are meets =
    let just = just_layout laws s extent found vs hs upright across on_v on_h first second in
    flat_from laws.decides s.deck.rules (shown s) book
    (is_book s _ book just are meets, are_markers s _ book just are meets)

keys_again : (keys : List Key) → map key_of (map of_first keys) ≡ keys
keys_again [] = refl
keys_again (k ∷ ks) = ap (λ (xs : List Key). k ∷ xs) (keys_again ks)

-- the same of a layout of one submission
pub layout_markers : Laws → ColumnsMakeTheLayout
    → (s : Snapshot) (extent : Box2) (vs hs : List Column)
    (upright across : List (List Key)) (book : List Marker) → shown_extent s ≡ Some extent
    → AreOfFirst (shown s) → AreColumnsOf V extent vs → AreColumnsOf H extent hs
    → AllZip (IsColumnList s) vs upright → AllZip (IsColumnList s) hs across
    → book ≡ map of_first (together (length s.deck.rules) upright across) → AreLayoutMarkers s book
layout_markers laws law s extent vs hs upright across book found alone on_v on_h first second e =
    let keys = together (length s.deck.rules) upright across in
    let just = just_layout laws s extent found vs hs upright across on_v on_h first second in
    law s extent vs hs upright across book found on_v on_h first second
    (ap (map key_of) e ∙ keys_again keys)
    (subst (All (MeetsShown s)) (sym e) (All-map (MeetsShown s) of_first keys
    (λ i d less. meets_first laws.decides s (get_or keys i d) alone
    ((just.exact (get_or keys i d)).0 (Contains-get_or keys i d less)))))
