-- Writing one text and then another.
use Rattle.std.proofs.Common.{◌≡◌, ◌∙◌, ◌<◌, ℕ, ◌+◌, ◌-◌, zero, suc, List, [], ◌∷◌, ◌++◌, take, drop, length, get_or, Option, Some, None, Result, Ok, Err, refl, sym, ap, subst, append_assoc, take-append-drop, length-drop, arith}
use Rattle.std.specs.List.{flat_map}
use Rattle.std.specs.Result.{IsErrAnd}
use Rattle.std.proofs.Math.Seq.{take-add, take-length}
use Rattle.std.specs.Io.Iter.{u64_saturate}
use Rattle.std.proofs.KnownBytes.{Appends-trans, Appends-kept}
use Rattle.std.specs.Io.KnownBytes.{Appends, Keeps}
use Rattle.mpw_wire.specs.declared.fault.WireFault.{WireFault}
use Rattle.mpw_wire.specs.declared.fault.WireFault.TheVariants.{Read, Write, Memory}
use Rattle.mpw_wire.specs.Writing.{WritesKnown, fault_of}

-- a text that was written, and then another
pub Writes-then : (old mid new : Option (List ℕ)) (failed mid' failed' : ℕ)
    (fault : Option WireFault) (a b : List ℕ)
    → Appends old mid a → mid' ≡ failed → WritesKnown mid new mid' failed' fault b
    → WritesKnown old new failed failed' fault (a ++ b)
Writes-then old mid new failed mid' failed' None a b p same w =
    (Appends-trans old mid new a b p w.0, w.1 ∙ same)
Writes-then old mid new failed mid' failed' (Some Write) a b p same ((front, rest, e, q), count) = (
  (
    a ++ front,
    rest,
    append_assoc a front rest ∙ ap (λ l. a ++ l) e,
    Appends-trans old mid new a
        front p q,
  ),
  count ∙ ap (λ n. u64_saturate (n + 1)) same,
)
Writes-then old mid new failed mid' failed' (Some Read) a b p same w = absurd w
Writes-then old mid new failed mid' failed' (Some Memory) a b p same w = absurd w

-- a text whose writing failed, with what was to follow
pub Writes-stop : (old new : Option (List ℕ)) (failed failed' : ℕ) (fault : WireFault)
    (a b : List ℕ)
    → WritesKnown old new failed failed' (Some fault) a
    → WritesKnown old new failed failed' (Some fault) (a ++ b)
Writes-stop old new failed failed' Write a b ((front, rest, e, q), count) =
    ((front, rest ++ b, sym (append_assoc front rest b) ∙ ap (λ l. l ++ b) e, q), count)
Writes-stop old new failed failed' Read a b w = absurd w
Writes-stop old new failed failed' Memory a b w = absurd w

-- the bytes taken first, and then bytes of the rest
pub Appends_further : (old mid new : Option (List ℕ)) (text : List ℕ) (n m : ℕ)
    → Appends old mid (take n text) → Appends mid new
    (take m (take (length text - n) (drop n text))) → Appends old new (take (n + m) text)
Appends_further old mid new text n m p q =
    let whole : take (length text - n) (drop n text) ≡ drop n text = ap (λ k. take k (drop n text))
    (sym (length-drop n text)) ∙ take-length (drop n text) in
    subst (Appends old new) (sym (take-add n m text))
    (Appends-trans old mid new (take n text) (take m (drop n text)) p
    (subst (λ l. Appends mid new (take m l)) whole q))

-- the pieces before one, that piece, and those after it
flat_map-at : {X : Type 0} (f : X → List ℕ) (xs : List X) (i : ℕ) (d : X) → i < length xs
    → flat_map f xs ≡ flat_map f (take i xs) ++ (f (get_or xs i d) ++ flat_map f (drop (suc i) xs))
flat_map-at f [] i d lt = absurd (omega (arith, lt))
flat_map-at f (x ∷ xs) zero d lt = refl
flat_map-at f (x ∷ xs) (suc i) d lt = ap (λ l. f x ++ l) (flat_map-at f xs i d (omega (arith, lt)))
    ∙ sym (append_assoc (f x) (flat_map f (take i xs)) _)

-- the writing stopped within one of several pieces
pub Writes-stop_at : {X : Type 0} (f : X → List ℕ) (xs : List X) (i : ℕ) (d : X) → i < length xs
    → (old mid new : Option (List ℕ)) (failed mid' failed' : ℕ) (fault : WireFault)
    (told told' : Option WireFault) → told ≡ Some fault → told' ≡ Some fault
    → Appends old mid (flat_map f (take i xs)) → mid' ≡ failed
    → (text : List ℕ) → text ≡ f (get_or xs i d) → WritesKnown mid new mid' failed' told text
    → WritesKnown old new failed failed' told' (flat_map f xs)
Writes-stop_at f xs i d lt old mid new failed mid' failed' fault told told' e e' p same text t w =
    let here : WritesKnown mid new mid' failed' (Some fault) (f (get_or xs i d)) =
    subst (λ x. WritesKnown mid new mid' failed' x (f (get_or xs i d))) e
    (subst (WritesKnown mid new mid' failed' told) t w) in
    let stopped = Writes-stop mid new mid' failed' fault (f (get_or xs i d))
    (flat_map f (drop (suc i) xs)) here in
    let all = Writes-then old mid new failed mid' failed' (Some fault) (flat_map f (take i xs)) _ p
    same stopped in
    subst (λ x. WritesKnown old new failed failed' x (flat_map f xs)) (sym e')
    (subst (WritesKnown old new failed failed' (Some fault)) (sym (flat_map-at f xs i d lt)) all)

-- the sink failed after the bytes taken so far
pub Writes_failed : (old mid new : Option (List ℕ)) (failed failed' : ℕ) (text : List ℕ) (n : ℕ)
    → Appends old mid (take n text) → Keeps mid new → failed' ≡ u64_saturate (failed + 1)
    → WritesKnown old new failed failed' (Some Write) text
Writes_failed old mid new failed failed' text n p kept count = (
  (
    take n text,
    drop n text,
    take-append-drop n text,
    Appends-kept old mid new (take n text) p
        kept,
  ),
  count,
)

-- an error that `?` returns
pub handed_on : {A : Type 0} (result : Result A WireFault) (fault : WireFault)
    → IsErrAnd result (λ e. e ≡ fault) → fault_of result ≡ Some fault
handed_on (Ok answer) fault h = absurd h
handed_on (Err e) fault h = ap (λ f. Some f) h

-- a text that was written whole, and then another
pub Writes_both : (old mid new : Option (List ℕ)) (failed mid' failed' : ℕ)
    (first second : Option WireFault) (a b : List ℕ) → first ≡ None
    → WritesKnown old mid failed mid' first a → WritesKnown mid new mid' failed' second b
    → WritesKnown old new failed failed' second (a ++ b)
Writes_both old mid new failed mid' failed' first second a b e w v =
    let whole : WritesKnown old mid failed mid' None a =
    subst (λ x. WritesKnown old mid failed mid' x a) e w in
    Writes-then old mid new failed mid' failed' second a b whole.0 whole.1 v

-- the writing stopped in the first of two texts
pub Writes_first : (old new : Option (List ℕ)) (failed failed' : ℕ) (fault : WireFault)
    (told told' : Option WireFault) (a b : List ℕ) → told ≡ Some fault → told' ≡ Some fault
    → WritesKnown old new failed failed' told a → WritesKnown old new failed failed' told' (a ++ b)
Writes_first old new failed failed' fault told told' a b e e' w =
    subst (λ x. WritesKnown old new failed failed' x (a ++ b)) (sym e')
    (Writes-stop old new failed failed' fault a b
    (subst (λ x. WritesKnown old new failed failed' x a) e w))

-- a text that is the same
pub Writes_same : (old new : Option (List ℕ)) (failed failed' : ℕ) (told : Option WireFault)
    (a b : List ℕ) → a ≡ b → WritesKnown old new failed failed' told a
    → WritesKnown old new failed failed' told b
Writes_same old new failed failed' told a b same w =
    subst (WritesKnown old new failed failed' told) same w
