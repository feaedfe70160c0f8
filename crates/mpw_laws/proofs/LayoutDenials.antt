-- A decision table of the layouts denies only the use of a cell that the session may not use.
use Rattle.std.proofs.Common.{◌≡◌, ℕ, Bool, true, false, cond, not, is_some, List, [], ◌∷◌, Result, Ok, Err, IfErr, refl, subst}
use Rattle.std.specs.Prelude.{⊤, ◌^◌}
use Rattle.mpw_records.specs.declared.fault.ReadFault.{ReadFault}
use Rattle.mpw_permissions.specs.declared.permission.Object.TheVariants as objects
use Rattle.mpw_permissions.specs.declared.permission.Operation.TheVariants.{Use}
use Rattle.mpw_rbac.specs.Policy.{Policy, permits}
use Rattle.mpw_structures.specs.declared.structures.Structure.{Structure}
use Rattle.mpw_library.specs.Grammar.{library_of}
use Rattle.mpw_structures.specs.Places.{place_of}
use Rattle.mpw_hier.specs.declared.submission.Submission.{Submission}
use Rattle.mpw_hier.specs.Shelf.{bound_to}
use Rattle.mpw_hier.specs.Limits.{is_too_large, is_too_deep, has_room_for}
use Rattle.mpw_hier.specs.Reach.{is_cyclic, is_far}
use Rattle.mpw_requests.specs.declared.layouts.LayoutRequest.{LayoutRequest}
use Rattle.mpw_requests.specs.declared.layouts.LayoutRequest.TheVariants as ask
use Rattle.mpw_replies.specs.Rows.{needed}
use Rattle.mpw_trail.specs.declared.verdict.Code.TheVariants as code
use Rattle.mpw_replies.specs.declared.reply.Line.TheVariants as line
use Rattle.mpw_layouts.specs.declared.ending.LayoutEnding.{LayoutEnding}
use Rattle.mpw_layouts.specs.declared.ending.LayoutEnding.TheVariants.{Refused, Unusable}
use Rattle.mpw_layouts.specs.Layouts.{read, outside, usable, within_limits, submitted_library, submit_row, shapes, row_of}
use Rattle.mpw_laws.specs.LayoutLaws.{LayoutsDenyWhatIsLacked}
use Rattle.mpw_laws.proofs.RowParts.{ends_behind, ends_tested, ends_needed, ends_listed, ends_changed}

module _ (policy : Policy) (connection : ℕ) where
  abbrev Of : LayoutEnding → Type 0
  Of (Refused why) = ⊤
  Of (Unusable cell) = permits policy connection Use (objects.Cell cell) ≡ false

  of_read : (told : Result (List Structure) ReadFault) → IfErr (read told) Of
  of_read (Ok library) = tt
  of_read (Err fault) = tt

  of_outside : (library : List Structure) (top : List ℕ) → IfErr (outside library top) Of
  of_outside library top =
      ends_tested Of (is_some (place_of library top)) _ _ tt
      (ends_tested Of (not (is_cyclic library top)) _ _ tt tt)

  of_use : (names : List (List ℕ)) → IfErr (usable policy connection names) Of
  of_use [] = tt
  of_use (name ∷ names) =
      go (of_use names) (permits policy connection Use (objects.Cell name)) refl
    where
      go : IfErr (usable policy connection names) Of → (b : Bool)
          → permits policy connection Use (objects.Cell name) ≡ b
          → IfErr (cond b (usable policy connection names) (Err (Unusable name))) Of
      go later true is = later
      go later false is = is

  of_limits : (shelf : List Submission) (s : Submission) → IfErr (within_limits shelf s) Of
  unfolding within_limits
  of_limits shelf s =
      ends_tested Of (not (is_far shelf s)) _ _ tt
      (ends_tested Of (not (is_too_large (2 ^ 20) shelf s)) _ _ tt
      (ends_tested Of (not (is_too_deep shelf s)) _ _ tt
      (ends_tested Of (has_room_for shelf s.cell) _ _ tt tt)))

  of_submit : (shelf : List Submission) (cell top text : List ℕ)
      → IfErr (submit_row policy shelf connection cell top text) Of
  unfolding submit_row submitted_library
  of_submit shelf cell top text =
      ends_behind Of (read (library_of text)) _ (of_read (library_of text)) (λ library is.
      ends_behind Of (outside library top) _ (of_outside library top) (λ names is.
      ends_behind Of (usable policy connection names) _ (of_use names) (λ used is.
      ends_behind Of (needed (Refused code.NoCell) (bound_to shelf names)) _
      (ends_needed Of (Refused code.NoCell) (bound_to shelf names) tt)
      (λ bindings is. of_limits shelf _))))

  of_request : (shelf : List Submission) (request : LayoutRequest)
      → IfErr (row_of policy shelf connection request) Of
  unfolding shapes
  of_request shelf (ask.Submit cell top text) =
      ends_changed Of _ (λ s. line.Version s.version ∷ [])
      (submit_row policy shelf connection cell top text)
      (of_submit shelf cell top text)
  of_request shelf request = search (ends_listed, ends_behind, ends_needed)

pub layouts_deny : LayoutsDenyWhatIsLacked
layouts_deny policy shelf connection request cell e =
    subst (λ row. IfErr row (Of policy connection)) e (of_request policy connection shelf request)
