-- A listing shows only what the session may read.
use Rattle.std.proofs.Common.{◌≡◌, ℕ, Bool, Option, Some, None, option_map, List, [], ◌∷◌, ◌++◌, map, refl, ap, ◌∙◌}
use Rattle.std.specs.Prelude.{slice_get}
use Rattle.std.specs.List.{flat_map}
use Rattle.std.proofs.lemmas.Option.{slice_get-map}
use Rattle.mpw_hier.specs.declared.submission.Submission.{Submission}
use Rattle.mpw_hier.specs.Items.{Item}
use Rattle.mpw_rbac.specs.Policy.{Policy}
use Rattle.mpw_layouts.specs.Layouts.{readable_shape}
use Rattle.mpw_replies.specs.Listing.{line_if, is_seen, seen_line, seen_lines}
use Rattle.mpw_access.specs.Seen.{may_read}

same_test : (p : Submission → Bool) (o : Option Submission) (item : Item)
    → line_if (λ s. is_seen (option_map p o)) o item ≡ line_if p o item
same_test p None item = refl
same_test p (Some s) item = refl

pub all_readable : (policy : Policy) (shelf : List Submission) (connection : ℕ) (seen : List Bool)
    (items : List Item) → seen ≡ map (may_read policy connection) shelf
    → seen_lines shelf seen items ≡ flat_map (readable_shape policy shelf connection) items
unfolding seen_lines
all_readable policy shelf connection seen [] is = refl
all_readable policy shelf connection seen (item ∷ items) is =
    let at =
    ap (λ xs. slice_get xs item.origin) is ∙ slice_get-map (may_read policy connection) shelf
    item.origin in
    let first : seen_line shelf seen item ≡ readable_shape policy shelf connection item =
    ap (λ o. line_if (λ s. is_seen o) (slice_get shelf item.origin) item) at
    ∙ same_test (may_read policy connection) (slice_get shelf item.origin) item in
    let rest = all_readable policy shelf connection seen items is in
    ap (λ ls. ls ++ flat_map (seen_line shelf seen) items) first
    ∙ ap (λ ls. readable_shape policy shelf connection item ++ ls) rest
