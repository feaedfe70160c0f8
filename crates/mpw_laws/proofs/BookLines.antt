-- Lines of markers name cells that the session may read.
use Rattle.std.proofs.Common.{◌≡◌, ℕ, Bool, true, false, cond, ◌&&◌, ◌||◌, List, [], ◌∷◌, filter, slice_get, option_map, Option, None, Some}
use Rattle.std.proofs.Common.{arith, refl, sym, ap, subst, ◌∙◌, ◌+◌}
use Rattle.std.specs.Prelude.{◌==◌, All}
use Rattle.std.specs.Cmp.Lexicographic.{bytes_decides}
use Rattle.std.specs.List.{list_all, list_any}
use Rattle.std.proofs.lemmas.List.Elements.{All-cons, All-append}
use Rattle.std.proofs.lemmas.Option.{slice_get-map}
use Rattle.mpw_deck.specs.declared.rule.Rule.{Rule}
use Rattle.mpw_hier.specs.declared.submission.Submission.{Submission}
use Rattle.mpw_markers.specs.declared.marker.Marker.{Marker}
use Rattle.mpw_roles.specs.Hierarchy.{Name}
use Rattle.mpw_permissions.specs.declared.permission.Object.TheVariants as objects
use Rattle.mpw_permissions.specs.declared.permission.Operation.TheVariants.{Read}
use Rattle.mpw_rbac.specs.Policy.{Policy, permits}
use Rattle.mpw_replies.specs.Listing.{Listed, marker, masked, is_seen}
use Rattle.mpw_laws.specs.ListingLaws.{BooksAreOfReadable}
use Rattle.mpw_laws.specs.Readable.{IsOfReadable}
use Rattle.mpw_replies.specs.Sight.{is_full, is_of, cells_on, met_cells, line_for, full_line, full_lines, masked_number}
use Rattle.mpw_access.specs.Seen.{may_read, seen_by}
use Rattle.mpw_replies.specs.Sight.{masked_line, masked_lines}

-- items that pass a test have P, if the test implies P
of_kept : {A : Type 0} (P : A → Type 0) (test : A → Bool) (xs : List A)
    → ((x : A) → test x ≡ true → P x) → All P (filter test xs)
of_kept P test [] tells = λ k d lt. absurd (omega (arith, lt))
of_kept P test (x ∷ xs) tells = go (test x) refl (of_kept P test xs tells)
  where
    go : (b : Bool) → test x ≡ b → All P (filter test xs)
        → All P (cond b (x ∷ filter test xs) (filter test xs))
    go true passes rest = All-cons P x (filter test xs) (tells x passes) rest
    go false fails rest = rest

module _ (policy : Policy) (connection : ℕ) where
  abbrev May : Name → Type 0
  May cell = permits policy connection Read (objects.Cell cell) ≡ true

  abbrev Readable : List Listed → Type 0
  Readable lines = All (IsOfReadable policy connection) lines

  none : Readable []
  none = λ k d lt. absurd (omega (arith, lt))

  -- a submission that may be seen belongs to a cell that may be read
  of_seen : (cell : Name) (o : Option Submission)
      → is_seen (option_map (may_read policy connection) o) ≡ true → is_of cell o ≡ true → May cell
  of_seen cell None seen same = absurd cc
  of_seen cell (Some s) seen same = subst May (sym ((bytes_decides cell s.cell).0 same)) seen

  -- a cell with a touched submission may be read, if all touched submissions may be seen
  of_met : (shelf : List Submission) (cell : Name) (met : List ℕ)
      → list_all (λ number. is_seen (slice_get (seen_by policy connection shelf) number)) met ≡ true
      → list_any (λ number. is_of cell (slice_get shelf number)) met ≡ true → May cell
  of_met shelf cell [] all any = absurd cc
  of_met shelf cell (n ∷ ns) all any =
      go (is_of cell (slice_get shelf n)) refl
      (is_seen (slice_get (seen_by policy connection shelf) n))
      refl (of_met shelf cell ns) all any
    where
      go : (here : Bool) → is_of cell (slice_get shelf n) ≡ here → (seen : Bool)
          → is_seen (slice_get (seen_by policy connection shelf) n) ≡ seen
          → (list_all (λ number. is_seen (slice_get (seen_by policy connection shelf) number)) ns
          ≡ true
          → list_any (λ number. is_of cell (slice_get shelf number)) ns ≡ true → May cell)
          → (seen && list_all (λ number. is_seen
          (slice_get (seen_by policy connection shelf) number)) ns)
          ≡ true
          → (here || list_any (λ number. is_of cell (slice_get shelf number)) ns) ≡ true → May cell
      go true same true seen rest all any = of_seen cell (slice_get shelf n)
          (ap is_seen (sym (slice_get-map (may_read policy connection) shelf n)) ∙ seen) same
      go false other true seen rest all any = rest all any
      go here same false seen rest all any = absurd cc

  of_cells : (shelf : List Submission) (met : List ℕ)
      → list_all (λ number. is_seen (slice_get (seen_by policy connection shelf) number)) met ≡ true
      → All May (met_cells shelf met)
  unfolding met_cells
  of_cells shelf met full =
      of_kept May (λ cell. list_any (λ number. is_of cell (slice_get shelf number)) met)
      (cells_on shelf) (λ cell any. of_met shelf cell met full any)

  of_line : (shelf : List Submission) (m : Marker) (o : Option Rule)
      → is_full (seen_by policy connection shelf) m ≡ true
      → Readable (line_for shelf m o)
  of_line shelf m None full = none
  of_line shelf m (Some rule) full = All-cons (IsOfReadable policy connection)
      (marker rule.name m.key (met_cells shelf m.met)) [] (of_cells shelf m.met full) none

  of_marker : (rules : List Rule) (shelf : List Submission) (m : Marker)
      → Readable (full_line rules shelf (seen_by policy connection shelf) m)
  of_marker rules shelf m = go (is_full (seen_by policy connection shelf) m) refl
    where
      go : (b : Bool) → is_full (seen_by policy connection shelf) m ≡ b
          → Readable (cond b (line_for shelf m (slice_get rules m.key.rule)) [])
      go true full = of_line shelf m (slice_get rules m.key.rule) full
      go false other = none

  of_full : (rules : List Rule) (shelf : List Submission) (book : List Marker)
      → Readable (full_lines rules shelf (seen_by policy connection shelf) book)
  unfolding full_lines
  of_full rules shelf [] = none
  of_full rules shelf (m ∷ book) =
      All-append (IsOfReadable policy connection)
      (full_line rules shelf (seen_by policy connection shelf) m) _
      (of_marker rules shelf m) (of_full rules shelf book)

  of_number : (name : Name) (number : ℕ) → Readable (masked_line name number)
  of_number name number = go (number == 0)
    where
      go : (b : Bool) → Readable (cond b [] (masked name number ∷ []))
      go true = none
      go false = All-cons (IsOfReadable policy connection) (masked name number) [] tt none

  of_masked : (seen : List Bool) (book : List Marker) (place : ℕ) (rules : List Rule)
      → Readable (masked_lines seen book place rules)
  unfolding masked_lines
  of_masked seen book place [] = none
  of_masked seen book place (rule ∷ rules) =
      All-append (IsOfReadable policy connection)
      (masked_line rule.name (masked_number seen book place))
      _ (of_number rule.name (masked_number seen book place))
      (of_masked seen book (place + 1) rules)

pub books_readable : BooksAreOfReadable
books_readable policy connection rules shelf book =
    All-append (IsOfReadable policy connection)
    (full_lines rules shelf (seen_by policy connection shelf) book)
    _ (of_full policy connection rules shelf book)
    (of_masked policy connection (seen_by policy connection shelf) book 0 rules)
