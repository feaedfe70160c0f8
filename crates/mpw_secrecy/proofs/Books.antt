-- The view decides `status`, `markers` and `waivers`.
use Rattle.std.proofs.Common.{◌≡◌, ◌∙◌, ℕ, suc, ◌+◌, Bool, true, false, cond, nat_lt, not, length, List, [], ◌∷◌, ◌++◌, map, slice_get, Option, None, Some, Result, Ok, Err, is_some, refl, sym, ap}
use Rattle.std.specs.Prelude.{option_map}
use Rattle.std.specs.List.{flat_map, position, position_or_len}
use Rattle.std.proofs.lemmas.Grind.{flat_map-append}
use Rattle.std.proofs.lemmas.Option.{slice_get-map}
use Rattle.mpw_geom.specs.Names.{name_eq}
use Rattle.mpw_deck.specs.declared.rule.Rule.{Rule}
use Rattle.mpw_hier.specs.declared.submission.Submission.{Submission}
use Rattle.mpw_markers.specs.declared.marker.Key.{Key}
use Rattle.mpw_markers.specs.declared.marker.Marker.{Marker}
use Rattle.mpw_requests.specs.declared.sign_off.MarkerName.{MarkerName}
use Rattle.mpw_roles.specs.Hierarchy.{Name}
use Rattle.mpw_rbac.specs.Policy.{Policy, session_of}
use Rattle.mpw_rbac.specs.Rows.{user_of}
use Rattle.mpw_replies.specs.Listing.{Listed, stored, marker}
use Rattle.mpw_replies.specs.Rows.{listing, needed}
use Rattle.mpw_run.specs.Step.{findings}
use Rattle.mpw_replies.specs.Sight.{is_full, line_for, full_line, full_lines, masked_line, masked_lines, masked_number}
use Rattle.mpw_access.specs.Seen.{seen_by}
use Rattle.mpw_replies.specs.declared.reply.Line.{Line}
use Rattle.mpw_replies.specs.declared.reply.Line.TheVariants as line
use Rattle.mpw_replies.specs.declared.row.Done.{Done}
use Rattle.mpw_replies.specs.declared.row.Done.TheVariants.{Lists}
use Rattle.mpw_run.specs.declared.phase.Checked.{Checked}
use Rattle.mpw_run.specs.declared.phase.Phase.{Phase}
use Rattle.mpw_run.specs.declared.phase.Phase.TheVariants.{Idle, Cutting, Checking, Finished}
use Rattle.mpw_wafer.specs.Run.Checking as checking
use Rattle.mpw_waiver.specs.declared.waiver.Waiver.{Waiver}
use Rattle.mpw_waiver.specs.Waivers.{waiver_at}
use Rattle.mpw_signoff.specs.Named.{rule_place}
use Rattle.mpw_signoff.specs.SigningOff as signing
use Rattle.mpw_signoff.specs.WaiverLines.{waiver_line, rule_line, marker_line, shown_line, lines_from}
use Rattle.mpw_events.specs.Step.{State}
use Rattle.mpw_secrecy.specs.Views.{BookSeen, MarkerSeen, RuleSeen, RunSeen, SameView, Stage, book_view, checked_view, marker_of, marker_seen, markers_seen, rules_seen, stage_of}

-- ---- status

abbrev stage_line : ℕ → Stage → Line
stage_line number Stage.resting = line.Idle
stage_line number Stage.cutting = line.Cutting number
stage_line number (Stage.checking done total) = line.Checking number done total
stage_line number Stage.finished = line.Finished number

phase_by : (number : ℕ) (phase : Phase)
    → checking.phase_line number phase ≡ stage_line number (stage_of phase)
phase_by number Idle = refl
phase_by number (Cutting planned) = refl
phase_by number (Checking c) = refl
phase_by number (Finished f) = refl

pub status_alike : (connection : ℕ) (a b : State) → SameView connection a b
    → is_some (session_of a.policy connection) ≡ true
    → checking.phase_line a.run.number a.run.phase ≡ checking.phase_line b.run.number b.run.phase
status_alike connection a b same is =
    phase_by a.run.number a.run.phase
    ∙ ap (λ (r : RunSeen). stage_line r.number r.stage) ((same.sight is).run)
    ∙ sym (phase_by b.run.number b.run.phase)

-- ---- decision tables that list what a finished run found

abbrev of_book : {E P : Type 0} → E → (BookSeen → List Listed) → Option BookSeen
    → Result (Done P) E
of_book why told None = Err why
of_book why told (Some book) = Ok (Lists (told book))

-- lines that depend on what is seen of the book are the same
book_alike : {E P : Type 0} (why : E) (told : BookSeen → List Listed) (connection : ℕ)
    (lines : Policy → List (Option Waiver) → Checked → List Listed)
    → ((policy : Policy) (waivers : List (Option Waiver)) (f : Checked)
    → lines policy waivers f ≡ told (checked_view policy connection waivers f))
    → (a b : State) → SameView connection a b → is_some (session_of a.policy connection) ≡ true
    → listing {P = P} (lines a.policy a.waivers) (needed why (findings a.run.phase))
    ≡ listing (lines b.policy b.waivers) (needed why (findings b.run.phase))
book_alike {E} {P} why told connection lines by a b same is =
    of a.policy a.waivers a.run.phase ∙ ap (of_book why told) ((same.sight is).book)
    ∙ sym (of b.policy b.waivers b.run.phase)
  where
    of : (policy : Policy) (waivers : List (Option Waiver)) (phase : Phase)
        → listing {P = P} (lines policy waivers) (needed why (findings phase))
        ≡ of_book why told (book_view policy connection waivers phase)
    of policy waivers Idle = refl
    of policy waivers (Cutting planned) = refl
    of policy waivers (Checking c) = refl
    of policy waivers (Finished f) = ap (λ l. Ok (Lists l)) (by policy waivers f)

-- ---- markers

-- the line of a marker by the name of its rule and by what is seen of it
abbrev told_by : Option Name → MarkerSeen → List Listed
told_by None seen = []
told_by (Some rule) seen = marker rule seen.key seen.cells ∷ []

abbrev pub names_of : List Rule → List Name
names_of rules = map (λ (rule : Rule). rule.name) rules

abbrev told_in : List Name → MarkerSeen → List Listed
told_in names seen = told_by (slice_get names seen.key.rule) seen

line_by : (shelf : List Submission) (user : Name) (m : Marker) (waiver : Option Waiver)
    (o : Option Rule)
    → line_for shelf m o ≡ told_by (option_map (λ (rule : Rule). rule.name) o)
    (marker_of shelf user m waiver)
line_by shelf user m waiver None = refl
line_by shelf user m waiver (Some rule) = refl

nil_right : {A : Type 0} (xs : List A) → xs ≡ xs ++ []
nil_right [] = refl
nil_right (x ∷ xs) = ap (λ l. x ∷ l) (nil_right xs)

full_by : (rules : List Rule) (shelf : List Submission) (seen : List Bool) (user : Name)
    (m : Marker) (waiver : Option Waiver)
    → full_line rules shelf seen m ≡ flat_map (told_in (names_of rules))
    (marker_seen shelf seen user m waiver)
full_by rules shelf seen user m waiver =
    elim (is_full seen m) as (λ b. cond b (line_for shelf m (slice_get rules m.key.rule)) []
    ≡ flat_map (told_in (names_of rules)) (cond b (marker_of shelf user m waiver ∷ []) [])) [
      | true ↦
          line_by shelf user m waiver (slice_get rules m.key.rule)
          ∙ ap (λ o. told_by o (marker_of shelf user m waiver))
          (sym (slice_get-map (λ (rule : Rule). rule.name) rules m.key.rule))
          ∙ nil_right (told_by (slice_get (names_of rules) m.key.rule)
          (marker_of shelf user m waiver))
      | false ↦ refl
    ]

-- lines of a book depend on what is seen of each marker, if those of each marker do
told_from : {X : Type 0} (told : MarkerSeen → List X) (shelf : List Submission) (seen : List Bool)
    (user : Name) (waivers : List (Option Waiver)) (lines : ℕ → List Marker → List X)
    (line : Marker → Option Waiver → List X)
    → ((place : ℕ) → lines place [] ≡ [])
    → ((place : ℕ) (m : Marker) (book : List Marker)
    → lines place (m ∷ book) ≡ line m (waiver_at waivers place) ++ lines (place + 1) book)
    → ((m : Marker) (o : Option Waiver)
    → line m o ≡ flat_map told (marker_seen shelf seen user m o))
    → (place : ℕ) (book : List Marker)
    → lines place book ≡ flat_map told (markers_seen shelf seen user waivers place book)
unfolding markers_seen
told_from told shelf seen user waivers lines line none more each place [] = none place
told_from told shelf seen user waivers lines line none more each place (m ∷ book) =
    more place m book
    ∙ (λ i. each m (waiver_at waivers place) i
    ++ told_from told shelf seen user waivers lines line none more each (place + 1) book i)
    ∙ sym (flat_map-append told (marker_seen shelf seen user m (waiver_at waivers place))
    (markers_seen shelf seen user waivers (place + 1) book))

full_from : (rules : List Rule) (shelf : List Submission) (seen : List Bool) (user : Name)
    (waivers : List (Option Waiver)) (place : ℕ) (book : List Marker)
    → full_lines rules shelf seen book ≡ flat_map (told_in (names_of rules))
    (markers_seen shelf seen user waivers place book)
unfolding full_lines
full_from rules shelf seen user waivers =
    told_from (told_in (names_of rules)) shelf seen user waivers
    (λ place book. full_lines rules shelf seen book) (λ m o. full_line rules shelf seen m)
    (λ place. refl) (λ place m book. refl) (full_by rules shelf seen user)

abbrev rule_told : RuleSeen → List Listed
rule_told seen = masked_line seen.name seen.masked

masked_from : (seen : List Bool) (book : List Marker) (place : ℕ) (rules : List Rule)
    → masked_lines seen book place rules ≡ flat_map rule_told (rules_seen seen book place rules)
unfolding masked_lines masked_number rules_seen
masked_from seen book place [] = refl
masked_from seen book place (rule ∷ rules) =
    ap (λ l. masked_line rule.name (masked_number seen book place) ++ l)
    (masked_from seen book (place + 1) rules)

pub names_from : (seen : List Bool) (book : List Marker) (place : ℕ) (rules : List Rule)
    → names_of rules ≡ map (λ (rule : RuleSeen). rule.name) (rules_seen seen book place rules)
unfolding rules_seen
names_from seen book place [] = refl
names_from seen book place (rule ∷ rules) =
    ap (λ l. rule.name ∷ l) (names_from seen book (place + 1) rules)

-- the names of the rules
abbrev pub names_in : BookSeen → List Name
names_in book = map (λ (rule : RuleSeen). rule.name) book.rules

abbrev book_told : BookSeen → List Listed
book_told book = flat_map (told_in (names_in book)) book.markers ++ flat_map rule_told book.rules

checked_by : (connection : ℕ) (policy : Policy) (waivers : List (Option Waiver)) (f : Checked)
    → checking.checked_lines policy connection f
    ≡ book_told (checked_view policy connection waivers f)
checked_by connection policy waivers f =
    let rules = f.planned.snapshot.deck.rules in
    let shelf = f.planned.snapshot.shelf in
    let seen = seen_by policy connection shelf in
    let markers = markers_seen shelf seen (user_of policy connection) waivers 0 f.book in
    (λ i. full_from rules shelf seen (user_of policy connection) waivers 0 f.book i
    ++ masked_from seen f.book 0 rules i)
    ∙ ap (λ names. flat_map (told_in names) markers
    ++ flat_map rule_told (rules_seen seen f.book 0 rules)) (names_from seen f.book 0 rules)

pub markers_alike : {E P : Type 0} (why : E) (connection : ℕ) (a b : State)
    → SameView connection a b → is_some (session_of a.policy connection) ≡ true
    → listing {P = P} (checking.checked_lines a.policy connection)
    (needed why (findings a.run.phase))
    ≡ listing (checking.checked_lines b.policy connection) (needed why (findings b.run.phase))
markers_alike why connection =
    book_alike why book_told connection
    (λ policy waivers f. checking.checked_lines policy connection f)
    (checked_by connection)

-- ---- waivers

abbrev named_by : Name → Key → MarkerName
named_by rule key = record { rule = rule; piece = key.piece }

abbrev waiver_of : Key → Waiver → Option Name → List Line
waiver_of key waiver None = []
waiver_of key waiver (Some rule) = waiver_line (named_by rule key) waiver.asker waiver.signer ∷ []

abbrev waiver_by : Key → Option Waiver → Option Name → List Line
waiver_by key None rule = []
waiver_by key (Some waiver) rule = waiver_of key waiver rule

abbrev waiver_in : List Name → MarkerSeen → List Line
waiver_in names seen = waiver_by seen.key seen.waiver (slice_get names seen.key.rule)

rule_by : (m : Marker) (waiver : Waiver) (o : Option Rule)
    → rule_line m waiver o ≡ waiver_of m.key waiver (option_map (λ (rule : Rule). rule.name) o)
rule_by m waiver None = refl
rule_by m waiver (Some rule) = refl

marker_by : (rules : List Rule) (m : Marker) (o : Option Waiver)
    → marker_line rules m o ≡ waiver_by m.key o (slice_get (names_of rules) m.key.rule)
marker_by rules m None = refl
marker_by rules m (Some waiver) =
    rule_by m waiver (slice_get rules m.key.rule)
    ∙ ap (waiver_of m.key waiver)
    (sym (slice_get-map (λ (rule : Rule). rule.name) rules m.key.rule))

shown_by : (rules : List Rule) (shelf : List Submission) (seen : List Bool) (user : Name)
    (m : Marker) (o : Option Waiver)
    → shown_line rules seen m o ≡ flat_map (waiver_in (names_of rules))
    (marker_seen shelf seen user m o)
shown_by rules shelf seen user m o =
    elim (is_full seen m) as (λ b. cond b (marker_line rules m o) []
    ≡ flat_map (waiver_in (names_of rules)) (cond b (marker_of shelf user m o ∷ []) [])) [
      | true ↦ marker_by rules m o ∙ nil_right
          (waiver_by m.key o (slice_get (names_of rules) m.key.rule))
      | false ↦ refl
    ]

waivers_from : (rules : List Rule) (shelf : List Submission) (seen : List Bool) (user : Name)
    (waivers : List (Option Waiver)) (place : ℕ) (book : List Marker)
    → lines_from rules seen waivers place book ≡ flat_map (waiver_in (names_of rules))
    (markers_seen shelf seen user waivers place book)
unfolding lines_from
waivers_from rules shelf seen user waivers =
    told_from (waiver_in (names_of rules)) shelf seen user waivers (lines_from rules seen waivers)
    (shown_line rules seen) (λ place. refl) (λ place m book. refl) (shown_by rules shelf seen user)

abbrev waivers_of : BookSeen → List Line
waivers_of book = flat_map (waiver_in (names_in book)) book.markers

abbrev waivers_told : BookSeen → List Listed
waivers_told book = map stored (waivers_of book)

waivers_by : (connection : ℕ) (policy : Policy) (waivers : List (Option Waiver)) (f : Checked)
    → map stored (signing.waiver_lines policy connection f waivers)
    ≡ waivers_told (checked_view policy connection waivers f)
waivers_by connection policy waivers f =
    let rules = f.planned.snapshot.deck.rules in
    let shelf = f.planned.snapshot.shelf in
    let seen = seen_by policy connection shelf in
    ap (map stored)
    (waivers_from rules shelf seen (user_of policy connection) waivers 0 f.book
    ∙ ap (λ names. flat_map (waiver_in names)
    (markers_seen shelf seen (user_of policy connection) waivers 0 f.book))
    (names_from seen f.book 0 rules))

pub waivers_alike : {E P : Type 0} (why : E) (connection : ℕ) (a b : State)
    → SameView connection a b → is_some (session_of a.policy connection) ≡ true
    → listing {P = P} (λ f. map stored (signing.waiver_lines a.policy connection f a.waivers))
    (needed why (findings a.run.phase))
    ≡ listing (λ f. map stored (signing.waiver_lines b.policy connection f b.waivers))
    (needed why (findings b.run.phase))
waivers_alike why connection =
    book_alike why waivers_told connection
    (λ policy waivers f. map stored (signing.waiver_lines policy connection f waivers))
    (waivers_by connection)

-- ---- the rule of a name

before_of : (rules : List Rule) (nm : Name) → position_or_len (λ n. name_eq n nm) (names_of rules)
    ≡ position_or_len (λ (rule : Rule). name_eq rule.name nm) rules
before_of [] nm = refl
before_of (rule ∷ rules) nm =
    ap (λ n. cond (not (name_eq rule.name nm)) (1 + n) 0) (before_of rules nm)

many_of : (rules : List Rule) → length (names_of rules) ≡ length rules
many_of [] = refl
many_of (rule ∷ rules) = ap suc (many_of rules)

pub rule_by_name : (rules : List Rule) (nm : Name)
    → position (λ n. name_eq n nm) (names_of rules) ≡ rule_place rules nm
rule_by_name rules nm =
    λ i. cond (nat_lt (before_of rules nm i) (many_of rules i)) (Some (before_of rules nm i)) None
