-- Records of a text that is read, and what a reader gives.
use Rattle.std.proofs.Common.{◌≡◌, ◌≢◌, ◌^◌, Bool, inl, inr, cond, ◌∙◌, ◌≤◌, ◌+◌, ◌-◌, ℕ, List, [], ◌∷◌, ◌++◌, true, false, take, drop, length, Option, None, Some, refl, sym, ap, subst, arith, append-nil}
use Rattle.std.proofs.lemmas.Grind.{common_steps}
use Rattle.std.proofs.lemmas.List.{take_all, take-append-drop, length-take-le, length-drop}
use Rattle.std.proofs.Math.Seq.{take-add}
use Rattle.std.specs.Prelude.{IfSome}
use Rattle.mpw_records.specs.declared.kind.TheConstants.{ENDLIB}
use Rattle.mpw_firm_sources.specs.declared.front.Content.{Content}
use Rattle.mpw_firm_sources.specs.Fronts.{AreRecords, IsPlace, IsRecord, head_of, is_sound, goes_on, longer, none, EndsOn, IsWhole, StopsBy, Takes}
use Rattle.mpw_firm_sources.specs.declared.record.Head.{Head}
use Rattle.mpw_firm_sources.specs.declared.record.Place.{Place}
use Rattle.mpw_firm_sources.specs.declared.record.Place.TheVariants as place

sound_long : (n : ℕ) → is_sound n ≡ true → 4 ≤ n
sound_long n sound = grind (arith, common_steps, sound)

-- Four bytes have the head.
head_front : (xs ys : List ℕ) (h : Head) → 4 ≤ length xs → head_of (xs ++ ys) ≡ Some h
    → head_of xs ≡ Some h
head_front [] ys h long at = absurd (omega (arith, long))
head_front (a ∷ []) ys h long at = absurd (omega (arith, long))
head_front (a ∷ b ∷ []) ys h long at = absurd (omega (arith, long))
head_front (a ∷ b ∷ c ∷ []) ys h long at = absurd (omega (arith, long))
head_front (a ∷ b ∷ c ∷ d ∷ xs) ys h long at = at

record_taken : (text : List ℕ) (h : Head) → head_of text ≡ Some h → is_sound h.length ≡ true
    → h.kind ≢ ENDLIB → h.length ≤ length text → IsRecord (take h.length text)
record_taken text h at sound inner fits =
    let many : length (take h.length text) ≡ h.length = length-take-le h.length text fits in
    record {
      head = h;
      begins = head_front (take h.length text) (drop h.length text) h
          (omega (arith, many, sound_long h.length sound))
          (subst (λ t. head_of t ≡ Some h) (sym (take-append-drop h.length text)) at);
      whole = many;
      sound = sound;
      inner = inner;
    }

-- A text from a place on is all of the rest.
pub rest_taken : (text : List ℕ) (at : ℕ) → take (length text - at) (drop at text) ≡ drop at text
rest_taken text at =
    take_all (length text - at) (drop at text) (omega (arith, length-drop at text))

pub records_more : (text : List ℕ) (at : ℕ) (h : Head) → at ≤ length text
    → AreRecords (take at text) → head_of (drop at text) ≡ Some h → is_sound h.length ≡ true
    → h.kind ≢ ENDLIB → h.length ≤ length text - at
    → AreRecords (take (at + h.length) text)
records_more text at h within are begins sound inner fits =
    subst AreRecords (sym (take-add at h.length text))
    (longer are (record_taken (drop at text) h begins sound inner
    (omega (arith, fits, length-drop at text))))

pub takes_none : (a : Option (List ℕ)) (bytes : List ℕ) → Takes a a bytes bytes
takes_none None bytes = ([], sym (append-nil bytes), tt)
takes_none (Some x) bytes = ([], sym (append-nil bytes), refl)

pub place_first : (text : List ℕ) → IsPlace text (place.Record 0)
place_first text = (omega arith, none)

pub place_if_known : (b : Bool) (at : Place) (r : Option Place) (text : List ℕ)
    → r ≡ cond b (Some at) None → IsPlace text at → IfSome r (IsPlace text)
place_if_known true at r text is known = subst (λ o. IfSome o (IsPlace text)) (sym is) known
place_if_known false at r text is known = subst (λ o. IfSome o (IsPlace text)) (sym is) tt

-- What is read on, by what the first bytes are.
pub whole_on : (c : Content) (from : Place) (old new : Option (List ℕ))
    (seen first bytes : List ℕ) (endless : Bool)
    → Some from ≡ goes_on c seen → seen ≡ first → 2 ^ 17 ≤ length first
    → Takes old new first bytes → EndsOn from endless new bytes → IsWhole c endless new bytes
whole_on c from old new seen first bytes true is same long takes ends = ends
whole_on c from old new seen first bytes false is same long takes (inl end) = inl end
whole_on c from old new seen first bytes false is same long takes (inr stop) =
    inr (record {
      first = first;
      more = takes.0;
      joined = takes.1;
      long = long;
      why = subst (λ p. StopsBy p takes.0 bytes) (is ∙ ap (goes_on c) same) stop;
    })

pub none_on : (c : Content) (new : Option (List ℕ)) (seen first : List ℕ)
    → None ≡ goes_on c seen → seen ≡ first → 2 ^ 17 ≤ length first
    → IsWhole c false new first
none_on c new seen first is same long =
    inr (record {
      first = first;
      more = [];
      joined = sym (append-nil first);
      long = long;
      why = subst (λ p. StopsBy p [] first) (is ∙ ap (goes_on c) same) refl;
    })
