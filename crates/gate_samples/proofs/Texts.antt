-- The text of records, and the data of points, from an index on.
use Rattle.std.proofs.Common.{◌≡◌, ℕ, ◌+◌, ◌<◌, ◌||◌, ℤ, IsTrue, Err, refl, sym, ap, ◌∙◌, List, ◌++◌, length, get_or, drop, map}
use Rattle.std.proofs.lemmas.List.{at_drop_more}
use Rattle.gate_samples.specs.declared.record.NewRecord.{NewRecord}
use Rattle.gate_samples.specs.declared.error.SampleError.{SampleError}
use Rattle.gate_samples.specs.declared.error.SampleError.TheVariants as errors
use Rattle.gate_samples.specs.Text.{RecordData, Gives, raw, record_bytes, text_of, is_too_long, has_too_long, point_bytes, points_bytes}

pub text_more : (rs : List NewRecord) (i : ℕ) (d : NewRecord) → i < length rs
    → text_of (map raw (drop i rs)) ≡ record_bytes (raw (get_or rs i d))
    ++ text_of (map raw (drop (i + 1) rs))
unfolding text_of
text_more rs i d h = at_drop_more (λ (left : List NewRecord). text_of (map raw left)) rs i d h

pub too_long_more : (rs : List NewRecord) (i : ℕ) (d : NewRecord) → i < length rs
    → has_too_long (map raw (drop i rs))
    ≡ (is_too_long (raw (get_or rs i d)) || has_too_long (map raw (drop (i + 1) rs)))
unfolding has_too_long
too_long_more rs i d h =
    at_drop_more (λ (left : List NewRecord). has_too_long (map raw left)) rs i d h

pub points_more : (ps : List (ℤ × ℤ)) (i : ℕ) (d : ℤ × ℤ) → i < length ps
    → points_bytes (drop i ps) ≡ point_bytes (get_or ps i d) ++ points_bytes (drop (i + 1) ps)
unfolding points_bytes
points_more ps i d h = at_drop_more points_bytes ps i d h

pub gives_err : {X : Type 0} (view : X → List ℕ) (front : List ℕ) (rs : List RecordData)
    (e : SampleError) → (e ≡ errors.TooLong → IsTrue (has_too_long rs))
    → Gives view (Err e) front rs
gives_err view front rs errors.TooLong h = h refl
gives_err view front rs errors.Memory h = tt

-- a record that is too long is among those from its index on
pub found_too_long : (rs : List NewRecord) (i : ℕ) (d : NewRecord) → i < length rs
    → has_too_long (map raw (drop i rs)) ≡ has_too_long (map raw rs)
    → IsTrue (is_too_long (raw (get_or rs i d))) → IsTrue (has_too_long (map raw rs))
found_too_long rs i d h same long =
    sym same ∙ too_long_more rs i d h ∙ ap (λ b. b || has_too_long (map raw (drop (i + 1) rs))) long
