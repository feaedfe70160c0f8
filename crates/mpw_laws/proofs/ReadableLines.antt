-- Lines of `cells` and of `shapes` are of cells that the session may read.
use Rattle.std.proofs.Common.{◌≡◌, ℕ, Bool, true, false, cond, List, [], ◌∷◌, map, Option, Some, None, arith, refl, sym, subst}
use Rattle.std.specs.Prelude.{All, slice_get}
use Rattle.std.specs.List.{flat_map}
use Rattle.std.proofs.lemmas.List.Elements.{All-cons, All-append}
use Rattle.std.proofs.lemmas.List.{map-append}
use Rattle.mpw_permissions.specs.declared.permission.Object.TheVariants as objects
use Rattle.mpw_permissions.specs.declared.permission.Operation.TheVariants.{Read}
use Rattle.mpw_rbac.specs.Policy.{Policy, permits}
use Rattle.mpw_hier.specs.declared.submission.Submission.{Submission}
use Rattle.mpw_hier.specs.Items.{Item}
use Rattle.mpw_hier.specs.Shelf.{present}
use Rattle.mpw_hier.specs.Shelved.{PresentAreOfTheirCell}
use Rattle.mpw_hier.specs.Values.{flat}
use Rattle.mpw_requests.specs.declared.layouts.LayoutRequest.TheVariants as ask
use Rattle.mpw_laws.proofs.RowParts.{if_behind, if_listed, if_changed}
use Rattle.mpw_replies.specs.Listing.{Listed, stored, line_if, shape_line}
use Rattle.mpw_replies.specs.Rows.{needed}
use Rattle.mpw_trail.specs.declared.verdict.Code.TheVariants as code
use Rattle.mpw_laws.specs.LayoutLaws.{LayoutsAreOfReadable}
use Rattle.mpw_laws.specs.Readable.{IsOfReadable}
use Rattle.mpw_access.specs.Seen.{may_read}
use Rattle.mpw_replies.specs.declared.reply.Line.TheVariants as line
use Rattle.mpw_layouts.specs.declared.ending.LayoutEnding.TheVariants.{Refused}
use Rattle.mpw_layouts.specs.Layouts.{numbered_at, cell_line, present_submission, readable_line, cells_of, readable_shape, shapes, submit_row}

-- the lines that no request has
nothing : (P : Listed → Type 0) → All P []
nothing P = λ k d lt. absurd (omega (arith, lt))

module _ (policy : Policy) (connection : ℕ) where
  no_lines : All (IsOfReadable policy connection) []
  no_lines = nothing (IsOfReadable policy connection)

  -- ---- cells

  of_cell : (shelf : List Submission) (cell : List ℕ) (o : Option Submission)
      → ((s : Submission) → o ≡ Some s → s.cell ≡ cell)
      → permits policy connection Read (objects.Cell cell) ≡ true
      → All (IsOfReadable policy connection) (map stored (cell_line o))
  of_cell shelf cell None same may = no_lines
  of_cell shelf cell (Some s) same may =
      All-cons (IsOfReadable policy connection) (stored _) []
      (subst (λ name. permits policy connection Read (objects.Cell name) ≡ true) (sym (same s refl))
      may) no_lines

  same_cell : PresentAreOfTheirCell → (shelf : List Submission) (cell : List ℕ) (s : Submission)
      → present_submission shelf cell ≡ Some s → s.cell ≡ cell
  same_cell presents shelf cell s is = go (present shelf cell) refl is
    where
      go : (o : Option ℕ) → present shelf cell ≡ o → numbered_at shelf o ≡ Some s → s.cell ≡ cell
      go None none e = absurd cc
      go (Some number) some e =
          let own = presents shelf cell number some in
          let same : own.submission ≡ s = cc in
          subst (λ (q : Submission). q.cell ≡ cell) same own.same

  of_line : PresentAreOfTheirCell → (shelf : List Submission) (cell : List ℕ)
      → All (IsOfReadable policy connection)
      (map stored (readable_line policy shelf connection cell))
  of_line presents shelf cell = go (permits policy connection Read (objects.Cell cell)) refl
    where
      go : (b : Bool) → permits policy connection Read (objects.Cell cell) ≡ b
          → All (IsOfReadable policy connection)
          (map stored (cond b (cell_line (present_submission shelf cell)) []))
      go true may = of_cell shelf cell (present_submission shelf cell)
          (same_cell presents shelf cell) may
      go false may = no_lines

  of_cells : PresentAreOfTheirCell → (shelf : List Submission) (cells : List (List ℕ))
      → All (IsOfReadable policy connection) (map stored
      (flat_map (readable_line policy shelf connection) cells))
  of_cells presents shelf [] = no_lines
  of_cells presents shelf (cell ∷ cells) =
      subst (All (IsOfReadable policy connection))
      (sym (map-append stored (readable_line policy shelf connection cell)
      (flat_map (readable_line policy shelf connection) cells)))
      (All-append (IsOfReadable policy connection)
      (map stored (readable_line policy shelf connection cell)) _
      (of_line presents shelf cell) (of_cells presents shelf cells))

  -- ---- shapes

  of_shape : (o : Option Submission) (item : Item)
      → All (IsOfReadable policy connection) (line_if (may_read policy connection) o item)
  of_shape None item = no_lines
  of_shape (Some s) item = go (may_read policy connection s) refl
    where
      go : (b : Bool) → may_read policy connection s ≡ b
          → All (IsOfReadable policy connection) (cond b (shape_line s item ∷ []) [])
      go true may = All-cons (IsOfReadable policy connection) (shape_line s item) [] may no_lines
      go false may = no_lines

  of_shapes : (shelf : List Submission) (items : List Item)
      → All (IsOfReadable policy connection)
      (flat_map (readable_shape policy shelf connection) items)
  of_shapes shelf [] = no_lines
  of_shapes shelf (item ∷ items) =
      All-append (IsOfReadable policy connection) (readable_shape policy shelf connection item) _
      (of_shape (slice_get shelf item.origin) item) (of_shapes shelf items)

pub readable_layouts : PresentAreOfTheirCell → LayoutsAreOfReadable
unfolding shapes
readable_layouts presents policy shelf connection (ask.Submit cell top text) =
    if_changed _ _ (λ s. line.Version s.version ∷ [])
    (submit_row policy shelf connection cell top text)
    (λ s is. All-cons (IsOfReadable policy connection) (stored (line.Version s.version)) [] tt
    (no_lines policy connection))
readable_layouts presents policy shelf connection ask.Cells =
    of_cells policy connection presents shelf (cells_of shelf)
readable_layouts presents policy shelf connection (ask.Shapes cell) =
    if_listed _ _ (shapes policy shelf connection cell)
    (if_behind (λ lines. All (IsOfReadable policy connection) lines)
    (needed (Refused code.NoCell) (present shelf cell)) _
    (λ number is. of_shapes policy connection shelf (flat shelf number)))
