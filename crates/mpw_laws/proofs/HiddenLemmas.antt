-- A hidden marker leaves no trace.
use Rattle.std.proofs.Common.{◌≡◌, ℕ, ◌+◌, Bool, true, false, cond, not, ◌&&◌, ◌||◌, ◌==◌, List, [], ◌∷◌, ◌++◌, length, refl, sym, ap, ◌∙◌}
use Rattle.std.specs.Prelude.{◌≢◌, filter, slice_get}
use Rattle.std.specs.List.{flat_map, list_all, list_any}
use Rattle.std.proofs.lemmas.Grind.{flat_map-append}
use Rattle.std.proofs.lemmas.List.Elements.{filter-append}
use Rattle.mpw_deck.specs.declared.rule.Rule.{Rule}
use Rattle.mpw_hier.specs.declared.submission.Submission.{Submission}
use Rattle.mpw_markers.specs.declared.marker.Marker.{Marker}
use Rattle.mpw_replies.specs.Listing.{is_seen}
use Rattle.mpw_laws.specs.ListingLaws.{FullAreNotHidden, HiddenLeaveNoTrace}
use Rattle.mpw_replies.specs.Sight.{is_full, is_hidden, is_masked, line_for, full_line, full_lines, masked_number, masked_line, masked_lines}

-- ---- full, and not hidden

one_of_all : (p : ℕ → Bool) (ns : List ℕ) → ns ≢ [] → list_all p ns ≡ true
    → not (list_any p ns) ≡ false
one_of_all p [] some all = absurd (some refl)
one_of_all p (n ∷ ns) some all = go (p n) (list_all p ns) (list_any p ns) all
  where
    go : (here rest any : Bool) → (here && rest) ≡ true → not (here || any) ≡ false
    go true rest any e = refl
    go false rest any e = absurd cc

pub full_not_hidden : FullAreNotHidden
full_not_hidden seen m some full =
    one_of_all (λ number. is_seen (slice_get seen number)) m.met some full

-- ---- without a trace

module _ (seen : List Bool) (m : Marker) (hidden : is_hidden seen m ≡ true)
    (part : is_full seen m ≡ false) where
  no_full : (rules : List Rule) (shelf : List Submission) → full_line rules shelf seen m ≡ []
  no_full rules shelf = ap (λ b. cond b (line_for shelf m (slice_get rules m.key.rule)) []) part

  not_masked : is_masked seen m ≡ false
  not_masked = go (is_full seen m) (is_hidden seen m) hidden
    where
      go : (full none : Bool) → none ≡ true → (not full && not none) ≡ false
      go true none e = refl
      go false true e = refl
      go false false e = absurd cc

  module _ (before behind : List Marker) where
    same_full : (rules : List Rule) (shelf : List Submission)
        → full_lines rules shelf seen (before ++ m ∷ behind) ≡ full_lines rules shelf seen
        (before ++ behind)
    unfolding full_lines
    same_full rules shelf =
        let line = full_line rules shelf seen in
        flat_map-append line before (m ∷ behind)
        ∙ ap (λ ls. flat_map line before ++ (ls ++ flat_map line behind)) (no_full rules shelf)
        ∙ sym (flat_map-append line before behind)

    same_number : (place : ℕ) → masked_number seen (before ++ m ∷ behind) place ≡ masked_number seen
        (before ++ behind) place
    unfolding masked_number
    same_number place =
        let test : Marker → Bool = λ x. (x.key.rule == place) && is_masked seen x in
        let fails : test m ≡ false = ap (λ b. (m.key.rule == place) && b) not_masked
        ∙ none (m.key.rule == place) in
        ap length (filter-append test before (m ∷ behind)
        ∙ ap (λ b. filter test before ++ cond b (m ∷ filter test behind) (filter test behind))
        fails
        ∙ sym (filter-append test before behind))
      where
        none : (b : Bool) → (b && false) ≡ false
        none true = refl
        none false = refl

    same_masked : (place : ℕ) (rules : List Rule)
        → masked_lines seen (before ++ m ∷ behind) place rules ≡ masked_lines seen
        (before ++ behind) place rules
    unfolding masked_lines
    same_masked place [] = refl
    same_masked place (rule ∷ rules) =
        ap (λ n. masked_line rule.name n ++ masked_lines seen (before ++ m ∷ behind) (place + 1)
        rules) (same_number place)
        ∙ ap (λ ls. masked_line rule.name (masked_number seen (before ++ behind) place) ++ ls)
        (same_masked (place + 1) rules)

pub hidden_traceless : HiddenLeaveNoTrace
hidden_traceless rules shelf seen before m behind hidden part =
    ap (λ ls. ls ++ masked_lines seen (before ++ m ∷ behind) 0 rules)
    (same_full seen m hidden part before behind rules shelf)
    ∙ ap (λ ls. full_lines rules shelf seen (before ++ behind) ++ ls)
    (same_masked seen m hidden part before behind 0 rules)
