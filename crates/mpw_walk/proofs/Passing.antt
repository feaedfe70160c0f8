-- What a walk within a window skips: one instance that misses it, columns of a row, or rows.
use Rattle.std.proofs.Common.{◌≡◌, ℕ, zero, suc, ◌+◌, ◌-◌, ◌<◌, ◌≤◌, Bool, true, false, List, [], ◌∷◌, ◌++◌, length, map, Option, Some, None, inl, inr, refl, sym, ap, subst, ◌∙◌, arith, append_assoc, nat_lt, if◌then◌else◌}
use Rattle.std.specs.Prelude.{option_map}
use Rattle.std.proofs.lemmas.Bool.Decides.{nat_tests}
use Rattle.std.proofs.lemmas.List.{length-append}
use Rattle.mpw_geom.specs.declared.plane.Box2.{Box2}
use Rattle.mpw_geom.specs.declared.placing.Placing.{Placing}
use Rattle.mpw_structures.specs.declared.element.Reference.{Reference}
use Rattle.mpw_hier.specs.declared.node.Target.{Target}
use Rattle.mpw_hier.specs.declared.submission.Submission.{Submission}
use Rattle.mpw_hier.specs.Items.{instance, placed_again}
use Rattle.mpw_hier.specs.Boxes.{placed_box, extent_of}
use Rattle.mpw_walk.specs.declared.frame.Frame.{Frame}
use Rattle.mpw_walk.specs.Turns.{Turn, enter, given, placed_turn}
use Rattle.mpw_walk.specs.Frames.{named_turns, turns_to_come, IsFrame}
use Rattle.mpw_walk.specs.Internal.Frames.{IsNext, behind_instance}
use Rattle.mpw_walk.specs.Internal.Extents.{ExtentsAreWalked}
use Rattle.mpw_walk.specs.Internal.Skips.{behind_rows, behind_columns, Skips}
use Rattle.mpw_walk.specs.Window.{do_meet, is_in, taken}
use Rattle.mpw_walk.proofs.Held.{named_holds}
use Rattle.mpw_walk.proofs.Lattice.{there, columns_on, rows_on}
use Rattle.mpw_walk.proofs.Nexts.{behind_frame, behind_cases, instance_next}
use Rattle.mpw_walk.proofs.Taken.{taken_out, missed_taken, taken_append}

-- the extent of the instance in a row and a column, placed
abbrev pub extent_at : List Submission → Frame → Reference → (row column : ℕ) → Option Box2
extent_at ss f r row column =
    option_map (placed_box (placed_again f.placing (instance r row column)))
    (extent_of (given (named_turns ss f.submission r.name)))

-- turns in front of a frame that a walk doesn't take
pub record Passes (ss : List Submission) (window : Option Box2) (f g : Frame) : Type 0 where
  pub gone : List Turn
  pub some : 0 < length gone
  pub left : turns_to_come ss f ≡ gone ++ turns_to_come ss g
  pub none : taken window gone ≡ []
  pub frame : IsFrame ss g
  pub low : g.node.now.size.height ≡ f.node.now.size.height

passes_on : (ss : List Submission) (window : Option Box2) (f g h : Frame) → Passes ss window f g
    → Passes ss window g h → Passes ss window f h
passes_on ss window f g h a b = record {
  gone = a.gone ++ b.gone;
  some = omega (arith, a.some, length-append a.gone b.gone);
  left = a.left ∙ ap (λ turns. a.gone ++ turns) b.left
      ∙ sym (append_assoc a.gone b.gone (turns_to_come ss h));
  none = taken_append window a.gone b.gone ∙ ap (λ turns. turns ++ taken window b.gone) a.none
      ∙ b.none;
  frame = b.frame;
  low = b.low ∙ a.low;
}

-- ---- what frames at one child come after

not_less : (n m : ℕ) → m ≤ n → nat_lt n m ≡ false
not_less n m le = grind (arith, nat_tests)

-- the last column is skipped with the row
row_end : (f : Frame) (r : Reference) (n : ℕ) → r.columns ≤ f.column + n
    → behind_columns f r n ≡ behind_rows f r 1
row_end f r n le =
    ap (λ b. if b then record f { column = f.column + n } else behind_rows f r 1)
    (not_less (f.column + n) r.columns le)

rows_end : (f : Frame) (r : Reference) (n m : ℕ) → r.rows ≤ f.row + n → r.rows ≤ f.row + m
    → behind_rows f r n ≡ behind_rows f r m
rows_end f r n m le more =
    ap (λ b. if b then record f { row = f.row + n; column = 0 }
    else record f { child = f.child + 1; row = 0; column = 0 }) (not_less (f.row + n) r.rows le)
    ∙ sym (ap (λ b. if b then record f { row = f.row + m; column = 0 }
    else record f { child = f.child + 1; row = 0; column = 0 }) (not_less (f.row + m) r.rows more))

next_at : (f : Frame) (row column : ℕ) (target : Target) (r : Reference) → IsNext f target r
    → IsNext (record f { row = row; column = column }) target r
next_at f row column target r x = record {
  child = x.child;
  child_is = x.child_is;
  target_is = x.target_is;
  reference_is = x.reference_is;
}

module _ (law : ExtentsAreWalked) (ss : List Submission) (window : Option Box2) (target : Target)
    (r : Reference) where
  -- a frame at the array
  pub record IsAt (f : Frame) : Type 0 where
    pub frame : IsFrame ss f
    pub next : IsNext f target r
    pub over : length f.node.now.shapes ≤ f.shape
    pub some : 0 < length (named_turns ss f.submission r.name)

  abbrev MissedAt : Frame → (row column : ℕ) → Type 0
  MissedAt f row column = is_in window (extent_at ss f r row column) ≡ false

  pub pass_one : (f : Frame) → IsAt f → MissedAt f f.row f.column
      → Passes ss window f (behind_instance f r)
  pass_one f a missed =
      let q = a.frame in
      let extent = extent_at ss f r f.row f.column in
      let t = placed_again f.placing (instance r f.row f.column) in
      let turns = named_turns ss f.submission r.name in
      let shown : List Turn = map (placed_turn t) turns in
      record {
        gone = enter extent ∷ shown;
        some = omega arith;
        left = instance_next law.again ss f q target r a.next a.over a.some;
        none = taken_out window (enter extent) shown missed
            ∙ missed_taken law window t turns
            (named_holds law.placed ss f.submission q.submission q.is r.name) missed;
        frame = behind_frame ss f q target r a.next;
        low = behind_cases f r
            (λ (g : Frame). g.node.now.size.height ≡ f.node.now.size.height)
            (λ _. refl) (λ _ _. refl) (λ _ _. refl);
      }

  -- a frame at another position of the array
  at_place : (f : Frame) → IsAt f → (row column : ℕ)
      → IsFrame ss (record f { row = row; column = column })
      → IsAt (record f { row = row; column = column })
  at_place f a row column q = record {
    frame = q;
    next = next_at f row column target r a.next;
    over = a.over;
    some = a.some;
  }

  -- with the columns after the first one
  more_columns : (n : ℕ) (f : Frame) → IsAt f → Passes ss window f (behind_instance f r)
      → ((g : Frame) → IsAt g → ((k : ℕ) → k ≤ n → MissedAt g g.row (g.column + k))
      → Passes ss window g (behind_columns g r (n + 1)))
      → ((k : ℕ) → k ≤ suc n → MissedAt f f.row (f.column + k))
      → Passes ss window f (behind_columns f r (suc n + 1))
  more_columns n f a one more missed = go (nat_lt (f.column + 1) r.columns) refl
    where
      go : (b : Bool) → nat_lt (f.column + 1) r.columns ≡ b
          → Passes ss window f (behind_columns f r (suc n + 1))
      go true e =
          let g = record f { row = f.row; column = f.column + 1 } in
          let on : Passes ss window f g = subst (Passes ss window f)
          (ap (λ b. if b then record f { column = f.column + 1 } else behind_rows f r 1) e) one in
          let rest = more g (at_place f a f.row (f.column + 1) on.frame) (λ k le.
          let same : f.column + suc k ≡ (f.column + 1) + k = omega arith in
          subst (MissedAt f f.row) same (missed (suc k) (omega (arith, le)))) in
          let sum : (f.column + 1) + (n + 1) ≡ f.column + (suc n + 1) = omega arith in
          passes_on ss window f g (behind_columns f r (suc n + 1)) on
          (subst (Passes ss window g)
          (ap (λ m. if nat_lt m r.columns then record f { column = m } else behind_rows f r 1) sum)
          rest)
      go false e =
          let last : r.columns ≤ f.column + 1 = grind (arith, nat_tests) in
          subst (Passes ss window f)
          (row_end f r 1 last ∙ sym (row_end f r (suc n + 1) (omega (arith, last)))) one

  first_missed : (f : Frame) (n : ℕ) → ((k : ℕ) → k ≤ n → MissedAt f f.row (f.column + k))
      → MissedAt f f.row f.column
  first_missed f n missed =
      let here : f.column + 0 ≡ f.column = omega arith in
      subst (MissedAt f f.row) here (missed 0 (omega arith))

  pub pass_columns : (n : ℕ) (f : Frame) → IsAt f
      → ((k : ℕ) → k ≤ n → MissedAt f f.row (f.column + k))
      → Passes ss window f (behind_columns f r (n + 1))
  pass_columns zero f a missed = pass_one f a (first_missed f 0 missed)
  pass_columns (suc n) f a missed =
      more_columns n f a (pass_one f a (first_missed f (suc n) missed))
      (λ g b left. pass_columns n g b left) missed

  -- a row from the present column on
  pass_row : (f : Frame) → IsAt f → ((column : ℕ) → MissedAt f f.row column)
      → Passes ss window f (behind_rows f r 1)
  pass_row f a missed =
      let x = a.next in
      let place = a.frame.within x.child r x.child_is x.reference_is in
      let many = r.columns - f.column - 1 in
      subst (Passes ss window f) (row_end f r (many + 1) (omega (arith, place.1)))
      (pass_columns many f a (λ k le. missed (f.column + k)))

  -- with the rows after the first one
  more_rows : (n : ℕ) (f : Frame) → IsAt f → Passes ss window f (behind_rows f r 1)
      → ((g : Frame) → IsAt g → ((k column : ℕ) → k ≤ n → MissedAt g (g.row + k) column)
      → Passes ss window g (behind_rows g r (n + 1)))
      → ((k column : ℕ) → k ≤ suc n → MissedAt f (f.row + k) column)
      → Passes ss window f (behind_rows f r (suc n + 1))
  more_rows n f a one more missed = go (nat_lt (f.row + 1) r.rows) refl
    where
      go : (b : Bool) → nat_lt (f.row + 1) r.rows ≡ b
          → Passes ss window f (behind_rows f r (suc n + 1))
      go true e =
          let g = record f { row = f.row + 1; column = 0 } in
          let on : Passes ss window f g = subst (Passes ss window f)
          (ap (λ b. if b then record f { row = f.row + 1; column = 0 }
          else record f { child = f.child + 1; row = 0; column = 0 }) e) one in
          let rest = more g (at_place f a (f.row + 1) 0 on.frame) (λ k column le.
          let same : f.row + suc k ≡ (f.row + 1) + k = omega arith in
          subst (λ row. MissedAt f row column) same
          (missed (suc k) column (omega (arith, le)))) in
          let sum : (f.row + 1) + (n + 1) ≡ f.row + (suc n + 1) = omega arith in
          passes_on ss window f g (behind_rows f r (suc n + 1)) on
          (subst (Passes ss window g)
          (ap (λ m. if nat_lt m r.rows then record f { row = m; column = 0 }
          else record f { child = f.child + 1; row = 0; column = 0 }) sum) rest)
      go false e =
          let last : r.rows ≤ f.row + 1 = grind (arith, nat_tests) in
          subst (Passes ss window f) (rows_end f r 1 (suc n + 1) last (omega (arith, last))) one

  -- the present row, of some that miss
  row_missed : (f : Frame) (n : ℕ)
      → ((k column : ℕ) → k ≤ n → MissedAt f (f.row + k) column) → (column : ℕ)
      → MissedAt f f.row column
  row_missed f n missed column =
      let here : f.row + 0 ≡ f.row = omega arith in
      subst (λ row. MissedAt f row column) here (missed 0 column (omega arith))

  pub pass_rows : (n : ℕ) (f : Frame) → IsAt f
      → ((k column : ℕ) → k ≤ n → MissedAt f (f.row + k) column)
      → Passes ss window f (behind_rows f r (n + 1))
  pass_rows zero f a missed = pass_row f a (row_missed f 0 missed)
  pass_rows (suc n) f a missed =
      more_rows n f a (pass_row f a (row_missed f (suc n) missed))
      (λ g b left. pass_rows n g b left) missed

  -- what a step by division leaves out
  pub skip_passes : (f : Frame) → IsAt f → MissedAt f f.row f.column → (h : Frame)
      → Skips f r (extent_at ss f r f.row f.column) window h → Passes ss window f h
  skip_passes f a missed h skips =
      go (extent_of (given (named_turns ss f.submission r.name))) refl window refl skips
    where
      t : Placing
      t = placed_again f.placing (instance r f.row f.column)

      -- an instance with another box
      seen : (b w : Box2) → extent_of (given (named_turns ss f.submission r.name)) ≡ Some b
          → window ≡ Some w → (row column : ℕ) (box : Box2)
          → there f.placing r b row column ≡ box → do_meet box w ≡ false
          → MissedAt f row column
      seen b w e we row column box is misses =
          ap (λ o. is_in window
          (option_map (placed_box (placed_again f.placing (instance r row column))) o)) e
          ∙ ap (λ o. is_in o (Some (there f.placing r b row column))) we
          ∙ ap (λ x. do_meet x w) is ∙ misses

      go : (o : Option Box2) → extent_of (given (named_turns ss f.submission r.name)) ≡ o
          → (p : Option Box2) → window ≡ p → Skips f r (option_map (placed_box t) o) p h
          → Passes ss window f h
      go None e p we s = subst (Passes ss window f) (sym s) (pass_one f a missed)
      go (Some b) e None we s = subst (Passes ss window f) (sym s) (pass_one f a missed)
      go (Some b) e (Some w) we (inl s) =
          let sum : (s.n - 1) + 1 ≡ s.n = omega (arith, s.some) in
          subst (Passes ss window f) (ap (behind_rows f r) sum ∙ sym s.is)
          (pass_rows (s.n - 1) f a (λ k column le.
          seen b w e we (f.row + k) column _ (rows_on f.placing r b f.row f.column k column)
          (s.missed f.column column k (omega (arith, le, s.some)))))
      go (Some b) e (Some w) we (inr s) =
          let sum : (s.n - 1) + 1 ≡ s.n = omega (arith, s.some) in
          subst (Passes ss window f) (ap (behind_columns f r) sum ∙ sym s.is)
          (pass_columns (s.n - 1) f a (λ k le.
          seen b w e we f.row (f.column + k) _ (columns_on f.placing r b f.row f.column k)
          (s.missed k (omega (arith, le, s.some)))))
