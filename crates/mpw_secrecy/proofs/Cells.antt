-- The view decides `cells` and `shapes`.
use Rattle.std.proofs.Common.{◌≡◌, ◌∙◌, ℕ, ◌+◌, Bool, true, false, cond, ◌||◌, List, [], ◌∷◌, ◌++◌, map, slice_get, Option, None, Some, Result, Ok, Err, is_some, refl, sym, ap, subst, true≢false}
use Rattle.std.specs.List.{flat_map}
use Rattle.std.proofs.lemmas.List.{map-append}
use Rattle.std.proofs.lemmas.Option.{none-some, same_Some}
use Rattle.mpw_geom.specs.Names.{name_eq, contains_name}
use Rattle.mpw_hier.specs.declared.submission.Submission.{Submission}
use Rattle.mpw_hier.specs.Items.{Item}
use Rattle.mpw_hier.specs.Shelf.{present, present_from, later}
use Rattle.mpw_hier.specs.Shelved.{PresentAreOfTheirCell}
use Rattle.mpw_hier.specs.Values.{flat}
use Rattle.mpw_roles.specs.Hierarchy.{Name}
use Rattle.mpw_permissions.specs.declared.permission.Object.TheVariants as object
use Rattle.mpw_permissions.specs.declared.permission.Operation.TheVariants.{Read}
use Rattle.mpw_rbac.specs.Policy.{Policy, permits, session_of}
use Rattle.mpw_replies.specs.Listing.{Listed, stored, shape, shape_line, line_if}
use Rattle.mpw_replies.specs.Rows.{◌>>=◌, needed}
use Rattle.mpw_access.specs.Seen.{may_read}
use Rattle.mpw_trail.specs.declared.verdict.Code.TheVariants as code
use Rattle.mpw_replies.specs.declared.reply.Line.{Line}
use Rattle.mpw_replies.specs.declared.reply.Line.TheVariants as line
use Rattle.mpw_layouts.specs.declared.ending.LayoutEnding.{LayoutEnding}
use Rattle.mpw_layouts.specs.declared.ending.LayoutEnding.TheVariants.{Refused}
use Rattle.mpw_layouts.specs.Layouts.{cell_line, cells, numbered_at, present_submission, readable_line, readable_shape, shapes}
use Rattle.mpw_events.specs.Step.{State}
use Rattle.mpw_secrecy.specs.Views.{CellSeen, ShapeSeen, SameView, shape_of, shape_seen, seen_at, cell_at, cell_view}
use Rattle.mpw_secrecy.proofs.Names.{apart_both, told_alike}
use Rattle.mpw_secrecy.proofs.Parts.{cond_alike, same_grants}

both_false : (a b : Bool) → (a || b) ≡ false → (a ≡ false) × (b ≡ false)
both_false false b e = (refl, e)
both_false true b e = absurd (true≢false e)

-- ---- cells

-- a cell without submissions has no present one
present_none : (number : ℕ) (shelf : List Submission) (cell : Name)
    → contains_name (map (λ s. s.cell) shelf) cell ≡ false → present_from number shelf cell ≡ None
present_none number [] cell none = refl
present_none number (s ∷ shelf) cell none =
    let apart =
    both_false (name_eq cell s.cell) (contains_name (map (λ s. s.cell) shelf) cell) none in
    λ i. later (present_none (number + 1) shelf cell apart.1 i)
    (cond (apart_both cell s.cell apart.0 i) (Some number) None)

not_present : (shelf : List Submission) (cell : Name)
    → contains_name (map (λ s. s.cell) shelf) cell ≡ false → present shelf cell ≡ None
unfolding present
not_present shelf cell none = present_none 0 shelf cell none

nothing_told : (policy : Policy) (shelf : List Submission) (connection : ℕ) (cell : Name)
    → contains_name (map (λ s. s.cell) shelf) cell ≡ false
    → readable_line policy shelf connection cell ≡ []
nothing_told policy shelf connection cell none =
    ap (λ o. cond (permits policy connection Read (object.Cell cell))
    (cell_line (numbered_at shelf o))
    []) (not_present shelf cell none)
    ∙ (elim (permits policy connection Read (object.Cell cell)) as
    (λ b. cond b (let l : List Line = [] in l) [] ≡ []) [ true ↦ refl | false ↦ refl ])

-- the line of a cell by what is seen of it
abbrev seen_line : Name → Option CellSeen → List Line
seen_line cell None = []
seen_line cell (Some seen) = line.Cell cell seen.version seen.submitter ∷ []

line_at : (policy : Policy) (connection : ℕ) (shelf : List Submission) (cell : Name) (number : ℕ)
    (o : Option Submission) → ((s : Submission) → o ≡ Some s → s.cell ≡ cell)
    → cell_line o ≡ seen_line cell (seen_at policy connection shelf number o)
line_at policy connection shelf cell number None own = refl
line_at policy connection shelf cell number (Some s) own =
    ap (λ name. line.Cell name s.version s.submitter ∷ []) (own s refl)

module _ (presents : PresentAreOfTheirCell) where
  line_of : (policy : Policy) (connection : ℕ) (shelf : List Submission) (cell : Name)
      → cell_line (present_submission shelf cell) ≡ seen_line cell
      (cell_view policy connection shelf cell)
  unfolding cell_view
  line_of policy connection shelf cell = go (present shelf cell) refl
    where
      go : (o : Option ℕ) → present shelf cell ≡ o
          → cell_line (numbered_at shelf o) ≡ seen_line cell (cell_at policy connection shelf o)
      go None is = refl
      go (Some number) is =
          let p = presents shelf cell number is in
          line_at policy connection shelf cell number (slice_get shelf number)
          (λ s e. subst (λ (q : Submission). q.cell ≡ cell)
          (same_Some p.submission s (sym p.is ∙ e)) p.same)

  line_alike : (connection : ℕ) (a b : State) → SameView connection a b
      → is_some (session_of a.policy connection) ≡ true → (cell : Name)
      → readable_line a.policy a.shelf connection cell ≡ readable_line b.policy b.shelf connection
      cell
  line_alike connection a b same is cell =
      let told = cell_line (present_submission b.shelf cell) in
      cond_alike (permits a.policy connection Read (object.Cell cell))
      (cell_line (present_submission a.shelf cell)) told []
      (λ may. line_of a.policy connection a.shelf cell
      ∙ ap (seen_line cell) ((same.sight is).cells cell may)
      ∙ sym (line_of b.policy connection b.shelf cell))
      ∙ ap (λ t. cond t told []) (same_grants connection a b same Read (object.Cell cell))

  pub cells_alike : (connection : ℕ) (a b : State) → SameView connection a b
      → is_some (session_of a.policy connection) ≡ true
      → cells a.policy a.shelf connection ≡ cells b.policy b.shelf connection
  cells_alike connection a b same is =
      ap (map stored) (told_alike (readable_line a.policy a.shelf connection)
      (readable_line b.policy b.shelf connection) (map (λ s. s.cell) a.shelf)
      (map (λ s. s.cell) b.shelf)
      (line_alike connection a b same is) (nothing_told a.policy a.shelf connection)
      (nothing_told b.policy b.shelf connection))

  -- ---- shapes

  abbrev shape_told : ShapeSeen → Listed
  shape_told s = shape s.cell s.version s.placing s.element

  shape_at : (policy : Policy) (connection : ℕ) (item : Item) (o : Option Submission)
      → line_if (may_read policy connection) o item ≡ map shape_told
      (shape_seen policy connection item o)
  shape_at policy connection item None = refl
  shape_at policy connection item (Some s) =
      elim (may_read policy connection s) as
      (λ b. cond b (shape_line s item ∷ []) [] ≡ map shape_told
      (cond b (shape_of s item ∷ []) [])) [ true ↦ refl | false ↦ refl ]

  shapes_at : (policy : Policy) (connection : ℕ) (shelf : List Submission) (items : List Item)
      → flat_map (readable_shape policy shelf connection) items ≡ map shape_told
      (flat_map (λ item. shape_seen policy connection item (slice_get shelf item.origin)) items)
  shapes_at policy connection shelf [] = refl
  shapes_at policy connection shelf (item ∷ items) =
      let seen = shape_seen policy connection item (slice_get shelf item.origin) in
      let rest =
      flat_map (λ (i : Item). shape_seen policy connection i (slice_get shelf i.origin)) items in
      (λ i. shape_at policy connection item (slice_get shelf item.origin) i
      ++ shapes_at policy connection shelf items i) ∙ sym (map-append shape_told seen rest)

  -- the shapes of a cell by what is seen of it
  abbrev shapes_told : Option CellSeen → Result (List Listed) LayoutEnding
  shapes_told None = Err (Refused code.NoCell)
  shapes_told (Some seen) = Ok (map shape_told seen.shapes)

  abbrev rest_of : Policy → ℕ → List Submission → Option ℕ → Result (List Listed) LayoutEnding
  rest_of policy connection shelf o = needed (Refused code.NoCell) o
      >>= (λ number. Ok (flat_map (readable_shape policy shelf connection) (flat shelf number)))

  shapes_by : (policy : Policy) (connection : ℕ) (shelf : List Submission) (cell : Name)
      → rest_of policy connection shelf (present shelf cell) ≡ shapes_told
      (cell_view policy connection shelf cell)
  unfolding cell_view
  shapes_by policy connection shelf cell = go (present shelf cell) refl
    where
      there : (number : ℕ) (o : Option Submission) (s : Submission) → o ≡ Some s
          → rest_of policy connection shelf (Some number) ≡ shapes_told
          (seen_at policy connection shelf number o)
      there number None s e = absurd (none-some s e)
      there number (Some q) s e = ap (λ l. Ok l)
          (shapes_at policy connection shelf (flat shelf number))

      go : (o : Option ℕ) → present shelf cell ≡ o
          → rest_of policy connection shelf o ≡ shapes_told (cell_at policy connection shelf o)
      go None is = refl
      go (Some number) is = let p = presents shelf cell number is in
          there number (slice_get shelf number) p.submission p.is

  pub shapes_alike : (connection : ℕ) (a b : State) → SameView connection a b → (cell : Name)
      → is_some (session_of a.policy connection) ≡ true
      → permits a.policy connection Read (object.Cell cell) ≡ true
      → shapes a.policy a.shelf connection cell ≡ shapes b.policy b.shelf connection cell
  unfolding shapes
  shapes_alike connection a b same cell is may =
      shapes_by a.policy connection a.shelf cell
      ∙ ap shapes_told ((same.sight is).cells cell may)
      ∙ sym (shapes_by b.policy connection b.shelf cell)
