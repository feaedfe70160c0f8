-- Serving line by line, whatever the responder is.
use Rattle.std.proofs.Common.{[], ◌≡◌, ◌∙◌, ◌<◌, ℕ, ◌+◌, List, ◌∷◌, ◌++◌, length, Option, Some, None, Result, Ok, Err, refl, sym, ap, subst, append_assoc, append-nil, length-append, arith, Bool, false}
use Rattle.std.specs.Prelude.{⊤, IfOk}
use Rattle.std.specs.List.{flat_map}
use Rattle.std.proofs.KnownBytes.{Appends-trans, Appends-nil}
use Rattle.std.specs.Io.KnownBytes.{Appends}
use Rattle.mpw_requests.specs.declared.request.Request.{Request}
use Rattle.mpw_wire.specs.declared.fault.WireFault.{WireFault}
use Rattle.mpw_wire.specs.declared.fault.WireFault.TheVariants.{Read, Write, Memory}
use Rattle.mpw_serve.specs.declared.serve.End.{End}
use Rattle.mpw_serve.specs.declared.serve.End.TheVariants as end
use Rattle.mpw_wire.specs.Writing.{WritesKnown, fault_of}
use Rattle.mpw_serve.specs.Serving.{Answer, AnsweredLine, Stop, IsTrace, IsAnsweredLine, IsStop, Written, HasText, ServesLines, LeavesNothingPending, max_lines, answered_text, stop_text, end_of, with_end}
use Rattle.mpw_serve.specs.Internal.Serving.{ServesLine}

flat_map-push : (f : AnsweredLine → List ℕ) (turns : List AnsweredLine) (turn : AnsweredLine)
    → flat_map f (turns ++ turn ∷ []) ≡ flat_map f turns ++ f turn
flat_map-push f [] turn = append-nil (f turn)
flat_map-push f (t ∷ turns) turn = ap (λ l. f t ++ l) (flat_map-push f turns turn)
    ∙ sym (append_assoc (f t) (flat_map f turns) (f turn))

-- how the last line's result is returned
abbrev pub TellsLast : Result (Option End) WireFault → Result End WireFault → Type 0
TellsLast (Ok None) with_end = ⊥
TellsLast (Ok (Some e)) (Ok e') = e' ≡ e
TellsLast (Ok (Some e)) (Err f) = ⊥
TellsLast (Err f) (Ok e) = ⊥
TellsLast (Err f) (Err f') = f' ≡ f

-- what was written before a line, and then for that line
written_after : (output mid output' : Option (List ℕ)) (fault : Option WireFault)
    (before last : List ℕ) → Appends output mid before → Written mid output' fault [] last
    → Written output output' fault before last
written_after output mid output' None before last p w =
    Appends-trans output mid output' before last p w
written_after output mid output' (Some Read) before last p w =
    Appends-trans output mid output' before last p w
written_after output mid output' (Some Write) before last p (front, rest, e, q) =
    (front, rest, e, Appends-trans output mid output' before front p q)
written_after output mid output' (Some Memory) before last p w = absurd w

-- ---- lines, by their responder

module _ {A : Type 0} (told : A → Request → Answer → A → Type 0) where
  -- a line whose text was written, or at which the sink failed
  pub serves_turn : (input input' output output' : Option (List ℕ)) (a a' : A)
      (failed failed' : ℕ) (t : AnsweredLine) (written : Result ⊤ WireFault)
      (result : Result (Option End) WireFault)
      → result ≡ with_end None written → IsAnsweredLine told input a t input' a'
      → WritesKnown output output' failed failed' (fault_of written) (answered_text t)
      → ServesLine told input input' output output' a a' result
  serves_turn input input' output output' a a' failed failed' t (Ok u) result e h w =
      subst (ServesLine told input input' output output' a a') (sym e) (t, h, w.0)
  serves_turn input input' output output' a a' failed failed' t (Err Read) result e h w = absurd w
  serves_turn input input' output output' a a' failed failed' t (Err Write) result e h w =
      subst (ServesLine told input input' output output' a a') (sym e)
      (record { stop = Stop.unwritten t; stopped = (omega arith, h); tells = tt; written = w.0 })
  serves_turn input input' output output' a a' failed failed' t (Err Memory) result e h w = absurd w

  -- the end of the connection whose text was written, or at which the sink failed
  pub serves_stop : (input input' output output' : Option (List ℕ)) (a : A)
      (failed failed' : ℕ) (s : Stop) (end : End) (written : Result ⊤ WireFault)
      (result : Result (Option End) WireFault)
      → result ≡ with_end (Some end) written → IsStop told 0 input a s input' a
      → end_of s ≡ Some end → HasText s
      → WritesKnown output output' failed failed' (fault_of written) (stop_text s)
      → ServesLine told input input' output output' a a result
  serves_stop input input' output output' a failed failed' s end (Ok u) result e h is has w =
      subst (ServesLine told input input' output output' a a) (sym e)
      (record { stop = s; stopped = h; tells = is; written = w.0 })
  serves_stop input input' output output' a failed failed' s end (Err Read) result e h is has w =
      absurd w
  serves_stop input input' output output' a failed failed' s end (Err Write) result e h is has w =
      subst (ServesLine told input input' output output' a a) (sym e)
      (record { stop = s; stopped = h; tells = has; written = w.0 })
  serves_stop input input' output output' a failed failed' s end (Err Memory) result e h is has w =
      absurd w

  -- the connection so far: some lines that were answered
  pub record Progress (input input' output output' : Option (List ℕ)) (a a' : A)
      (count : ℕ) : Type 0 where
    pub turns : List AnsweredLine
    pub answered : IsTrace told input a turns input' a'
    pub counted : length turns ≡ count
    pub written : Appends output output' (flat_map answered_text turns)

  pub start : (input output : Option (List ℕ)) (a : A) → Progress input input output output a a 0
  start input output a =
      record { turns = []; answered = IsTrace.none; counted = refl; written = Appends-nil output }

  -- a line was answered, and the connection goes on
  pub advance : (input mid input' output between output' : Option (List ℕ)) (a b a' : A)
      (count : ℕ)
      → Progress input mid output between a b count
      → (result : Result (Option End) WireFault) → result ≡ Ok None
      → ServesLine told mid input' between output' b a' result
      → Progress input input' output output' a a' (count + 1)
  advance input mid input' output between output' a b a' count p result e s =
      go (subst (ServesLine told mid input' between output' b a') e s)
    where
      go : ServesLine told mid input' between output' b a' (Ok None)
          → Progress input input' output output' a a' (count + 1)
      go (t, h, w) = record {
        turns = p.turns ++ t ∷ [];
        answered = IsTrace.then p.turns t mid input' b a' p.answered h;
        counted = length-append p.turns (t ∷ []) ∙ ap (λ n. n + 1) p.counted;
        written = subst (Appends output output') (sym (flat_map-push answered_text p.turns t))
            (Appends-trans output between output' (flat_map answered_text p.turns) (answered_text t)
            p.written w);
      }

  -- what ended the connection on its first line ends it on a later one
  stop_at : (lines : ℕ) (input input' : Option (List ℕ)) (a a' : A) (s : Stop)
      → lines < max_lines → IsStop told 0 input a s input' a'
      → IsStop told lines input a s input' a'
  stop_at lines input input' a a' Stop.closed lt h = (lt, h.1, h.2)
  stop_at lines input input' a a' Stop.long lt h = (lt, h.1, h.2)
  stop_at lines input input' a a' Stop.cut lt h = (lt, h.1, h.2)
  stop_at lines input input' a a' Stop.starving lt h = (lt, h.1, h.2)
  stop_at lines input input' a a' Stop.unreadable lt h = (lt, h.1, h.2)
  stop_at lines input input' a a' Stop.spent lt h =
      let no : 0 ≡ 4096 = h.0 in absurd (omega (arith, no))
  stop_at lines input input' a a' (Stop.unwritten turn) lt h = (lt, h.1)

  -- the last line of the connection, or the one at which a device failed
  pub finish : (input mid input' output between output' : Option (List ℕ)) (a b a' : A)
      (count : ℕ)
      → Progress input mid output between a b count → count < max_lines
      → (result : Result (Option End) WireFault) (with_end : Result End WireFault)
      → TellsLast result with_end
      → ServesLine told mid input' between output' b a' result
      → ServesLines told input input' output output' a a' with_end
  finish input mid input' output between output' a b a' count p lt (Ok None) with_end last s =
      absurd last
  finish input mid input' output between output' a b a' count p lt (Ok (Some e)) (Ok e') last s =
      subst (λ x. ServesLines told input input' output output' a a' (Ok x)) (sym last) (record {
        turns = p.turns;
        left = mid;
        reached = b;
        stop = s.stop;
        answered = p.answered;
        stopped = stop_at (length p.turns) mid input' b a' s.stop (omega (arith, lt, p.counted))
            s.stopped;
        tells = s.tells;
        written = written_after output between output' None (flat_map answered_text p.turns)
            (stop_text s.stop) p.written s.written;
      })
  finish input mid input' output between output' a b a' count p lt (Ok (Some e)) (Err f) last s =
      absurd last
  finish input mid input' output between output' a b a' count p lt (Err f) (Ok e) last s =
      absurd last
  finish input mid input' output between output' a b a' count p lt (Err f) (Err f') last s =
      subst (λ x. ServesLines told input input' output output' a a' (Err x)) (sym last) (record {
        turns = p.turns;
        left = mid;
        reached = b;
        stop = s.stop;
        answered = p.answered;
        stopped = stop_at (length p.turns) mid input' b a' s.stop (omega (arith, lt, p.counted))
            s.stopped;
        tells = s.tells;
        written = written_after output between output' (Some f) (flat_map answered_text p.turns)
            (stop_text s.stop) p.written s.written;
      })

  -- the last line of the connection, if no device failed
  pub finish_at : (input mid input' output between output' : Option (List ℕ)) (a b a' : A)
      (count : ℕ)
      → Progress input mid output between a b count → count < max_lines
      → (result : Result (Option End) WireFault) (e : End) → result ≡ Ok (Some e)
      → ServesLine told mid input' between output' b a' result
      → ServesLines told input input' output output' a a' (Ok e)
  finish_at input mid input' output between output' a b a' count p lt result e is s =
      finish input mid input' output between output' a b a' count p lt (Ok (Some e)) (Ok e) refl
      (subst (ServesLine told mid input' between output' b a') is s)

  -- as many lines as one connection may have were answered
  pub spent : (input input' output output' : Option (List ℕ)) (a a' : A) (count : ℕ)
      → Progress input input' output output' a a' count → count ≡ max_lines
      → ServesLines told input input' output output' a a' (Ok end.Spent)
  spent input input' output output' a a' count p e = record {
    turns = p.turns;
    left = input';
    reached = a';
    stop = Stop.spent;
    answered = p.answered;
    stopped = (p.counted ∙ e, refl, refl);
    tells = refl;
    written = subst (Appends output output') (sym (append-nil (flat_map answered_text p.turns)))
        p.written;
  }

-- ---- what is pending

-- a text that was written and flushed, or at which the sink failed
pub handed_leaves : (old new : Option (List ℕ)) (failed failed' : ℕ) (text : List ℕ)
    (written : Result ⊤ WireFault) (before behind : Bool)
    → WritesKnown old new failed failed' (fault_of written) text
    → IfOk written (λ _. behind ≡ false) → LeavesNothingPending (fault_of written) before behind
handed_leaves old new failed failed' text (Ok u) before behind w handed = λ _. handed
handed_leaves old new failed failed' text (Err Read) before behind w handed = absurd w
handed_leaves old new failed failed' text (Err Write) before behind w handed = tt
handed_leaves old new failed failed' text (Err Memory) before behind w handed = absurd w

-- what is returned of a line leaves pending what its writing left
pub told_leaves : (e : Option End) (written : Result ⊤ WireFault)
    (result : Result (Option End) WireFault) (before behind : Bool)
    → result ≡ with_end e written → LeavesNothingPending (fault_of written) before behind
    → LeavesNothingPending (fault_of result) before behind
told_leaves e (Ok u) result before behind is leaves =
    subst (λ r. LeavesNothingPending (fault_of r) before behind) (sym is) leaves
told_leaves e (Err fault) result before behind is leaves =
    subst (λ r. LeavesNothingPending (fault_of r) before behind) (sym is) leaves

-- and what follows a state with nothing pending
pub leaves_behind : (fault : Option WireFault) (before mid behind : Bool)
    → (before ≡ false → mid ≡ false)
    → LeavesNothingPending fault mid behind → LeavesNothingPending fault before behind
leaves_behind None before mid behind first more = λ is. more (first is)
leaves_behind (Some Read) before mid behind first more = λ is. more (first is)
leaves_behind (Some Write) before mid behind first more = tt
leaves_behind (Some Memory) before mid behind first more = λ is. more (first is)
