-- The lines of columns, one more.
use Rattle.std.proofs.Common.{◌≡◌, ◌∙◌, ℕ, zero, suc, ◌+◌, ◌<◌, List, [], ◌∷◌, ◌++◌, Option, None, Some, length, subst, take, get_or, sym, ap, arith, append_assoc, append-nil}
use Rattle.std.specs.Io.KnownBytes.{Appends}
use Rattle.sha2.specs.Hashers.{Holds256}
use Rattle.sha2.specs.declared.Sha256.{Sha256}
use Rattle.std.proofs.KnownBytes.{Appends-trans}
use Rattle.mpw_markers.specs.declared.marker.Key.{Key}
use Rattle.mpw_columns_keys.specs.declared.column.Column.{Column}
use Rattle.mpw_firm_parts.specs.Internal.Writing.{Takes}
use Rattle.mpw_firm_parts.specs.Text.{ended, column_line, columns_text}

pub none_written : (old : Option (List ℕ)) (lists : List (List Key))
    → Appends old old (columns_text [] lists)
unfolding columns_text
none_written None lists = tt
none_written (Some bytes) lists = sym (append-nil bytes)

one_column_more : (cs : List Column) (ls : List (List Key)) (i : ℕ) (d : Column)
    (e : List Key) → i < length cs → i < length ls
    → columns_text (take (suc i) cs) (take (suc i) ls) ≡ columns_text (take i cs) (take i ls)
    ++ ended (column_line (get_or cs i d) (get_or ls i e))
unfolding columns_text
one_column_more [] ls i d e less below = absurd (omega (arith, less))
one_column_more (c ∷ cs) [] i d e less below = absurd (omega (arith, below))
one_column_more (c ∷ cs) (l ∷ ls) zero d e less below = append-nil (ended (column_line c l))
one_column_more (c ∷ cs) (l ∷ ls) (suc i) d e less below =
    ap (λ t. ended (column_line c l) ++ t)
    (one_column_more cs ls i d e (omega (arith, less)) (omega (arith, below)))
    ∙ sym (append_assoc (ended (column_line c l)) (columns_text (take i cs) (take i ls))
    (ended (column_line (get_or cs i d) (get_or ls i e))))

one_more : (cs : List Column) (ls : List (List Key)) (i : ℕ) (d : Column) (e keys : List Key)
    (line : List ℕ) → length cs ≡ length ls → i < length cs → keys ≡ get_or ls i e
    → line ≡ ended (column_line (get_or cs i d) keys)
    → columns_text (take i cs) (take i ls) ++ line ≡ columns_text (take (i + 1) cs) (take (i + 1) ls)
one_more cs ls i d e keys line long less at is =
    let next_place : suc i ≡ i + 1 = omega arith in
    ap (λ t. columns_text (take i cs) (take i ls) ++ t)
    (is ∙ ap (λ (ks : List Key). ended (column_line (get_or cs i d) ks)) at)
    ∙ sym (one_column_more cs ls i d e less (omega (arith, long, less)))
    ∙ ap (λ n. columns_text (take n cs) (take n ls)) next_place

pub one_written : (cs : List Column) (ls : List (List Key)) (i : ℕ) (d : Column) (e keys : List Key)
    (line : List ℕ) (old middle new : Option (List ℕ)) → length cs ≡ length ls → i < length cs
    → keys ≡ get_or ls i e → line ≡ ended (column_line (get_or cs i d) keys)
    → Appends old middle (columns_text (take i cs) (take i ls)) → Appends middle new line
    → Appends old new (columns_text (take (i + 1) cs) (take (i + 1) ls))
one_written cs ls i d e keys line old middle new long less at is before next =
    subst (Appends old new) (one_more cs ls i d e keys line long less at is)
    (Appends-trans old middle new (columns_text (take i cs) (take i ls)) line before next)

-- ---- what a hasher takes

pub none_taken : (old : Sha256) (lists : List (List Key)) → Takes old old (columns_text [] lists)
unfolding columns_text
none_taken old lists m held = subst (Holds256 old) (sym (append-nil m)) held

pub both_taken : (old middle new : Sha256) (first second : List ℕ) → Takes old middle first
    → Takes middle new second → Takes old new (first ++ second)
both_taken old middle new first second before next m held =
    subst (Holds256 new) (append_assoc m first second) (next (m ++ first) (before m held))

pub one_taken : (cs : List Column) (ls : List (List Key)) (i : ℕ) (d : Column) (e keys : List Key)
    (line : List ℕ) (old middle new : Sha256) → length cs ≡ length ls → i < length cs
    → keys ≡ get_or ls i e → line ≡ ended (column_line (get_or cs i d) keys)
    → Takes old middle (columns_text (take i cs) (take i ls)) → Takes middle new line
    → Takes old new (columns_text (take (i + 1) cs) (take (i + 1) ls))
one_taken cs ls i d e keys line old middle new long less at is before next =
    subst (Takes old new) (one_more cs ls i d e keys line long less at is)
    (both_taken old middle new (columns_text (take i cs) (take i ls)) line before next)
