-- The lines before the last.
use Rattle.std.proofs.Common.{◌≡◌, ℕ, ◌-◌, List, length, take, map, ap, sym, ◌∙◌, Bor}
use Rattle.std.proofs.lemmas.List.{length-map, take-map}

pub front_lines : (lines : List (Bor (List ℕ))) → map (λ x. x.now) (take (length lines - 1) lines)
    ≡ take (length (map (λ (x : Bor (List ℕ)). x.now) lines) - 1) (map (λ x. x.now) lines)
front_lines lines = sym (ap (λ n. take (n - 1) (map (λ (x : Bor (List ℕ)). x.now) lines))
    (length-map lines (λ x. x.now)) ∙ take-map (λ (x : Bor (List ℕ)). x.now) (length lines - 1)
    lines)
