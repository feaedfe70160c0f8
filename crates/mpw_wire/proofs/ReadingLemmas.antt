-- Reading to the end.
use Rattle.std.proofs.Common.{◌≡◌, ◌≢◌, ◌∙◌, ◌<◌, ◌+◌, ℕ, List, [], ◌∷◌, ◌++◌, length, drop, get_or, Option, None, Some, option_map, Result, Ok, Err, inr, refl, sym, ap, subst, append-nil, append_assoc, length-append}
use Rattle.std.proofs.lemmas.List.{at_drop_more}
use Rattle.std.proofs.lemmas.List.Elements.{All-push}
use Rattle.std.specs.Prelude.{IfErr}
use Rattle.std.specs.Result.{IsErrAnd}
use Rattle.mpw_devices.specs.declared.device.DeviceFault.{DeviceFault}
use Rattle.mpw_wire.specs.declared.fault.WireFault.{WireFault}
use Rattle.mpw_wire.specs.declared.fault.WireFault.TheVariants.{Read, Write, Memory}
use Rattle.mpw_wire.specs.declared.request.LineAsk.{LineAsk}
use Rattle.mpw_wire.specs.Reading.{IsUnbroken, Breaks, TakesTooFew, TakesUpTo, TakesOffer, TakesCut, TakesOfferFront, following}
use Rattle.mpw_devices.specs.Device.{GivesByte}
use Rattle.mpw_wire.specs.Internal.Reading.{BreaksBytes}
use Rattle.mpw_wire.specs.declared.operand.Origin.{Origin}
use Rattle.mpw_wire.specs.Names.{name_of, ◌>>=◌}
use Rattle.mpw_wire.specs.Request.{names_of}
use Rattle.std.proofs.KnownBytes.{Consumes-trans}
use Rattle.std.specs.Io.KnownBytes.{Consumes, IsAtEnd}

pub Consumes-end : (old mid new : Option (List ℕ)) (bytes : List ℕ) → Consumes old mid bytes
    → Consumes mid new [] → Consumes old new bytes
Consumes-end old mid new bytes p q =
    subst (Consumes old new) (append-nil bytes) (Consumes-trans old mid new bytes [] p q)

-- the names so far, and those of the words that are left
abbrev pub with_names : List (List ℕ) → Option (List (List ℕ)) → Option (List (List ℕ))
with_names front rest = option_map (λ names. front ++ names) rest

pub with_no_names : (rest : Option (List (List ℕ))) → with_names [] rest ≡ rest
with_no_names None = refl
with_no_names (Some names) = refl

-- a word that is a name is the next of them
pub names_next : (origin : Origin) (front : List (List ℕ)) (words : List (List ℕ)) (i : ℕ)
    (word name : List ℕ) → i < length words → get_or words i [] ≡ word
    → name_of origin word ≡ Some name
    → with_names (front ++ name ∷ []) (names_of origin (drop (i + 1) words)) ≡ with_names front
    (names_of origin (drop i words))
unfolding names_of
names_next origin front words i word name lt at told =
    let more = at_drop_more (names_of origin) words i [] lt in
    let here : names_of origin (get_or words i [] ∷ drop (i + 1) words)
    ≡ option_map (λ names. name ∷ names) (names_of origin (drop (i + 1) words)) =
    ap (λ w. name_of origin w >>= λ n. option_map (λ names. n ∷ names)
    (names_of origin (drop (i + 1) words))) at
    ∙ ap (λ o. o >>= λ n. option_map (λ names. n ∷ names) (names_of origin (drop (i + 1) words)))
    told in
    pushed front name (names_of origin (drop (i + 1) words))
    ∙ sym (ap (with_names front) (more ∙ here))
  where
    pushed : (front : List (List ℕ)) (name : List ℕ) (rest : Option (List (List ℕ)))
        → with_names (front ++ name ∷ []) rest ≡ with_names front
        (option_map (λ names. name ∷ names) rest)
    pushed front name None = refl
    pushed front name (Some names) = ap (λ l. Some l) (append_assoc front (name ∷ []) names)

-- a word that is no name gives no names
pub names_none : (origin : Origin) (front : List (List ℕ)) (words : List (List ℕ)) (i : ℕ)
    (word : List ℕ) → i < length words → get_or words i [] ≡ word → name_of origin word ≡ None
    → with_names front (names_of origin (drop i words)) ≡ None
unfolding names_of
names_none origin front words i word lt at told =
    let more = at_drop_more (names_of origin) words i [] lt in
    let here : names_of origin (get_or words i [] ∷ drop (i + 1) words) ≡ None =
    ap (λ w. name_of origin w >>= λ n. option_map (λ names. n ∷ names)
    (names_of origin (drop (i + 1) words))) at
    ∙ ap (λ o. o >>= λ n. option_map (λ names. n ∷ names) (names_of origin (drop (i + 1) words)))
    told in
    ap (with_names front) (more ∙ here)

-- ---- taking a byte each turn

-- the bytes so far, and the byte that the source then gave
pub given_byte : (old mid new : Option (List ℕ)) (front more : List ℕ) (answer : Option ℕ)
    (byte : ℕ) → answer ≡ Some byte → more ≡ front ++ byte ∷ [] → Consumes old mid front
    → GivesByte {E = DeviceFault} mid new (Ok answer) → Consumes old new more
given_byte old mid new front more answer byte e same p q =
    let given = subst (λ a. GivesByte {E = DeviceFault} mid new (Ok a)) e q in
    subst (Consumes old new) (sym same) (Consumes-trans old mid new front (byte ∷ []) p given)

-- the bytes so far, if the source then gave none
pub given_none : (old mid new : Option (List ℕ)) (front : List ℕ) (answer : Option ℕ)
    → answer ≡ None → Consumes old mid front → GivesByte {E = DeviceFault} mid new (Ok answer)
    → Consumes old new front × IsAtEnd new
given_none old mid new front answer e p q =
    let end = subst (λ a. GivesByte {E = DeviceFault} mid new (Ok a)) e q in
    (Consumes-end old mid new front p end.0, end.1)

-- there is one more byte
pub length_more : (more front : List ℕ) (byte count : ℕ) → more ≡ front ++ byte ∷ []
    → length front ≡ count → length more ≡ count + 1
length_more more front byte count e counted =
    ap length e ∙ length-append front (byte ∷ []) ∙ ap (λ n. n + 1) counted

-- the byte is no line feed
pub unbroken_more : (more line : List ℕ) (byte : ℕ) → more ≡ line ++ byte ∷ [] → IsUnbroken line
    → (byte ≡ 0x0A → ⊥) → IsUnbroken more
unbroken_more more line byte e all other =
    subst IsUnbroken (sym e) (All-push (λ b. b ≢ 0x0A) line byte all other)

-- reading a payload stopped
pub offer_breaks : {A : Type 0} (result : Result A WireFault) (fault : WireFault)
    (old mid new : Option (List ℕ)) (line : List ℕ) (asked : LineAsk) (most : ℕ)
    → IsErrAnd result (λ e. e ≡ fault) → TakesOffer old mid line asked → following asked ≡ Some most
    → BreaksBytes mid new most fault → IfErr result (Breaks old new)
offer_breaks (Ok answer) fault old mid new line asked most h offer counted broken = tt
offer_breaks (Err e) fault old mid new line asked most h offer counted broken =
    subst (Breaks old new) (sym h) (breaks fault broken)
  where
    front_of : TakesUpTo mid new most → TakesOfferFront old new
    front_of front = record {
      line = line;
      asked = asked;
      length_asked = most;
      mid = mid;
      offer = offer;
      counted = counted;
      front = front;
    }

    breaks : (fault : WireFault) → BreaksBytes mid new most fault → Breaks old new fault
    breaks Read front = inr (front_of front)
    breaks Write front = absurd front
    breaks Memory front = inr (front_of front)

-- there were fewer bytes after the line than it says
pub offer_cut : (old mid new : Option (List ℕ)) (line : List ℕ) (asked : LineAsk) (most : ℕ)
    → TakesOffer old mid line asked → following asked ≡ Some most → TakesTooFew mid new most
    → TakesCut old new
offer_cut old mid new line asked most offer counted few = record {
  line = line;
  asked = asked;
  length_asked = most;
  mid = mid;
  offer = offer;
  counted = counted;
  few = few;
}
