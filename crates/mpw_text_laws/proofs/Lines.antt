-- The lines of markers that touch the only submission of a shelf, for one who may read it.
use Rattle.std.proofs.Common.{◌≡◌, ◌∙◌, ℕ, ◌+◌, Bool, true, false, not, ◌&&◌, cond, List, [], ◌∷◌, ◌++◌, codes, length, filter, Option, None, Some, refl, ap, append_assoc, append-nil, arith}
use Rattle.std.specs.Prelude.{◌==◌, slice_get, Contains}
use Rattle.std.specs.List.{concat, flat_map, list_all}
use Rattle.std.proofs.lemmas.Bool.{and_from}
use Rattle.std.proofs.lemmas.Grind.{flat_map-append}
use Rattle.std.proofs.lemmas.List.{length-append}
use Rattle.mpw_deck.specs.declared.rule.Rule.{Rule}
use Rattle.mpw_edges.specs.declared.run.Axis.{Axis}
use Rattle.mpw_edges.specs.declared.run.Axis.TheVariants.{V, H}
use Rattle.mpw_geom.proofs.Linked.{name_eq-refl}
use Rattle.mpw_hier.specs.declared.submission.Submission.{Submission}
use Rattle.mpw_job.proofs.Tests.{passes_some}
use Rattle.mpw_firm_listing.specs.Keys.{WholeKeysAreNumbers, axis_text as own_axis, key_text as own_key}
use Rattle.mpw_firm_listing.specs.Lines.{head_text, line_text}
use Rattle.mpw_firm_listing.specs.Listing.{count_of_lines, line_with, listing_text, marker_line}
use Rattle.mpw_edges.specs.declared.run.Piece.{Piece}
use Rattle.mpw_markers.specs.declared.marker.Marker.{Marker}
use Rattle.mpw_markers.proofs.Unique.{Contains-head, Contains-tail}
use Rattle.mpw_trail.specs.FirstLineText.{count_text}
use Rattle.mpw_replies.specs.Listing.{Listed, is_seen, marker}
use Rattle.mpw_replies.specs.Sight.{is_full, is_hidden, is_masked, is_of, met_cells, line_for, full_line, full_lines, masked_line, masked_lines, masked_number}
use Rattle.mpw_reply_text.specs.Reply.{accepted_text, listed_text, marker_text, met_text}
use Rattle.mpw_requests.specs.Words.{axis_text}
use Rattle.mpw_wire.specs.Keys.{key_text}
use Rattle.mpw_text_laws.proofs.Touched.{TouchesFirst, TouchFirst}

-- ---- texts

axis_same : (axis : Axis) → axis_text axis ≡ own_axis axis
unfolding axis_text own_axis
axis_same V = refl
axis_same H = refl

module _ (whole : WholeKeysAreNumbers) where
  key_same : (rule : List ℕ) (piece : Piece) → key_text rule piece ≡ own_key 1 rule piece
  key_same rule piece = rw (whole rule piece, axis_same piece.axis) refl

joined : (space cell feed : List ℕ)
    → ((space ++ (cell ++ [])) ++ []) ++ feed ≡ space ++ (cell ++ (feed ++ []))
joined space cell feed = simp (append_assoc, append-nil)

behind_key : (cell : List ℕ) → met_text (cell ∷ []) ≡ concat (codes " " ∷ cell ∷ codes "\n" ∷ [])
unfolding met_text
behind_key cell = joined (codes " ") cell (codes "\n")

line_same : WholeKeysAreNumbers → (cell : List ℕ) (rule : Rule) (m : Marker)
    → marker_text rule.name m.key (cell ∷ []) ≡ line_text 1 cell rule m
unfolding marker_text line_text
line_same whole cell rule m =
    ap (λ t. t ++ met_text (cell ∷ [])) (key_same whole rule.name m.key.piece)
    ∙ ap (λ t. own_key 1 rule.name m.key.piece ++ t) (behind_key cell)

head_same : (n : ℕ) → count_text n ++ (0x0A ∷ []) ≡ head_text n
unfolding head_text
head_same n = simp (append_assoc, append-nil)

-- ---- lists

pass_all : {X : Type 0} (p : X → Bool) (xs : List X) → ((x : X) → Contains xs x → p x ≡ true)
    → list_all p xs ≡ true
pass_all p [] h = refl
pass_all p (y ∷ ys) h = and_from (p y) (list_all p ys) (h y (Contains-head y ys))
    (pass_all p ys (λ x c. h x (Contains-tail y ys x c)))

-- ---- one marker

module _ (whole : WholeKeysAreNumbers) (s : Submission) (rules : List Rule) where
  abbrev shelf : List Submission
  shelf = s ∷ []

  abbrev seen : List Bool
  seen = true ∷ []

  full : (m : Marker) → TouchesFirst m → is_full seen m ≡ true
  full m t = pass_all (λ number. is_seen (slice_get seen number)) m.met
      (λ number c. ap (λ n. is_seen (slice_get seen n)) (t.first number c))

  cells : (m : Marker) → TouchesFirst m → met_cells shelf m.met ≡ s.cell ∷ []
  unfolding met_cells
  cells m t = ap (λ b. cond b (s.cell ∷ []) [])
      (passes_some (λ number. is_of s.cell (slice_get shelf number)) m.met t.some.0 t.some.1
      (ap (λ n. is_of s.cell (slice_get shelf n)) (t.first t.some.0 t.some.1)
      ∙ name_eq-refl s.cell))

  -- The line, by the marker's rule.
  abbrev line_by : Marker → Option Rule → List Listed
  line_by m None = []
  line_by m (Some rule) = marker rule.name m.key (s.cell ∷ []) ∷ []

  line_for_is : (m : Marker) → TouchesFirst m → (o : Option Rule) → line_for shelf m o ≡ line_by m o
  line_for_is m t None = refl
  line_for_is m t (Some rule) = ap (λ names. marker rule.name m.key names ∷ []) (cells m t)

  line_is : (m : Marker) → TouchesFirst m
      → full_line rules shelf seen m ≡ line_by m (slice_get rules m.key.rule)
  line_is m t = ap (λ b. cond b (line_for shelf m (slice_get rules m.key.rule)) []) (full m t)
      ∙ line_for_is m t (slice_get rules m.key.rule)

  text_by : (m : Marker) (o : Option Rule)
      → flat_map listed_text (line_by m o) ≡ line_with 1 s.cell m o
  text_by m None = refl
  text_by m (Some rule) =
      append-nil (marker_text rule.name m.key (s.cell ∷ [])) ∙ line_same whole s.cell rule m

  text_is : (m : Marker) → TouchesFirst m
      → flat_map listed_text (full_line rules shelf seen m) ≡ marker_line 1 s.cell rules m
  text_is m t = ap (flat_map listed_text) (line_is m t) ∙ text_by m (slice_get rules m.key.rule)

  -- ---- a book

  abbrev lines : List Marker → List Listed
  lines book = flat_map (full_line rules shelf seen) book

  texts_are : (book : List Marker) → TouchFirst book
      → flat_map listed_text (lines book) ≡ flat_map (marker_line 1 s.cell rules) book
  texts_are [] t = refl
  texts_are (m ∷ book) t =
      flat_map-append listed_text (full_line rules shelf seen m) (lines book)
      ∙ ap (λ text. text ++ flat_map listed_text (lines book))
      (text_is m (t m (Contains-head m book)))
      ∙ ap (λ text. marker_line 1 s.cell rules m ++ text)
      (texts_are book (λ n c. t n (Contains-tail m book n c)))

  count_by : (m : Marker) (o : Option Rule) (many : ℕ) (book : List Marker)
      → slice_get rules m.key.rule ≡ o → many ≡ count_of_lines rules book
      → length (line_by m o) + many ≡ count_of_lines rules (m ∷ book)
  count_by m None many book is same = rw is (omega (arith, same))
  count_by m (Some rule) many book is same = rw is (omega (arith, same))

  counts_are : (book : List Marker) → TouchFirst book
      → length (lines book) ≡ count_of_lines rules book
  counts_are [] t = refl
  counts_are (m ∷ book) t =
      length-append (full_line rules shelf seen m) (lines book)
      ∙ ap (λ (ls : List Listed). length ls + length (lines book))
      (line_is m (t m (Contains-head m book)))
      ∙ count_by m (slice_get rules m.key.rule) (length (lines book)) book refl
      (counts_are book (λ n c. t n (Contains-tail m book n c)))

  -- ---- no counts of masked markers

  unmasked : (m : Marker) → TouchesFirst m → (b : Bool) → (b && is_masked seen m) ≡ false
  unmasked m t true = ap (λ (f : Bool). not f && not (is_hidden seen m)) (full m t)
  unmasked m t false = refl

  none_kept : (p : Marker → Bool) (book : List Marker)
      → ((m : Marker) → Contains book m → p m ≡ false)
      → filter p book ≡ []
  none_kept p [] h = refl
  none_kept p (m ∷ book) h =
      ap (λ b. cond b (m ∷ filter p book) (filter p book)) (h m (Contains-head m book))
      ∙ none_kept p book (λ n c. h n (Contains-tail m book n c))

  none_masked : (book : List Marker) → TouchFirst book → (place : ℕ)
      → masked_number seen book place ≡ 0
  unfolding masked_number
  none_masked book t place =
      ap (λ (ms : List Marker). length ms)
      (none_kept (λ m. (m.key.rule == place) && is_masked seen m) book
      (λ m c. unmasked m (t m c) (m.key.rule == place)))

  no_counts : (book : List Marker) → TouchFirst book → (place : ℕ) (left : List Rule)
      → masked_lines seen book place left ≡ []
  unfolding masked_lines
  no_counts book t place [] = refl
  no_counts book t place (rule ∷ left) =
      ap (λ n. masked_line rule.name n ++ masked_lines seen book (place + 1) left)
      (none_masked book t place)
      ∙ no_counts book t (place + 1) left

  -- ---- the reply

  pub reply_is : (book : List Marker) → TouchFirst book
      → accepted_text (full_lines rules shelf seen book ++ masked_lines seen book 0 rules)
      ≡ listing_text 1 s.cell rules book
  unfolding full_lines accepted_text listing_text
  reply_is book t =
      ap (λ counts. accepted_text (lines book ++ counts)) (no_counts book t 0 rules)
      ∙ ap accepted_text (append-nil (lines book))
      ∙ ap (λ n. (count_text n ++ (0x0A ∷ [])) ++ flat_map listed_text (lines book))
      (counts_are book t)
      ∙ ap (λ head. head ++ flat_map listed_text (lines book))
      (head_same (count_of_lines rules book))
      ∙ ap (λ text. head_text (count_of_lines rules book) ++ text) (texts_are book t)
