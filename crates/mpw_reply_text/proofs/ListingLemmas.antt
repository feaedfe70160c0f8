-- A listing that is written item by item.
use Rattle.std.proofs.Common.{◌≡◌, ◌∙◌, ◌+◌, ℕ, List, [], ◌∷◌, ◌++◌, map, Option, Some, None, Result, refl, sym, ap, subst, append_assoc, append-nil}
use Rattle.std.specs.List.{flat_map}
use Rattle.std.specs.Io.KnownBytes.{Appends}
use Rattle.std.specs.Result.{IsErrAnd}
use Rattle.std.proofs.KnownBytes.{Appends-trans}
use Rattle.std.proofs.lemmas.Grind.{flat_map-append}
use Rattle.mpw_replies.specs.Listing.{stored}
use Rattle.mpw_replies.specs.Trail.{numbered_entries}
use Rattle.mpw_trail.specs.EntryText.{entry_text, entries_text}
use Rattle.mpw_trail.specs.declared.entry.Entry.{Entry}
use Rattle.mpw_replies.specs.declared.reply.Line.{Line}
use Rattle.mpw_wire.specs.declared.fault.WireFault.{WireFault}
use Rattle.mpw_reply_text.specs.Reply.{line_text, listed_text}
use Rattle.mpw_wire.specs.Writing.{WritesKnown, fault_of}
use Rattle.mpw_reply_text.proofs.WritingLemmas.{Writes-then, Writes-stop, handed_on}

-- the texts of the items before those that are left are written
pub record IsWritten {X : Type 0} (text_of : X → List ℕ) (old new : Option (List ℕ))
    (failed failed' : ℕ) (items left : List X) : Type 0 where
  pub written : List X
  pub parts : items ≡ written ++ left
  pub text : Appends old new (flat_map text_of written)
  pub failures : failed' ≡ failed

-- one more item
pub written_more : {X : Type 0} {text_of : X → List ℕ} {old mid new : Option (List ℕ)}
    {failed mid' failed' : ℕ} {items left rest : List X} {item : X}
    → IsWritten text_of old mid failed mid' items left → left ≡ item ∷ rest
    → WritesKnown mid new mid' failed' None (text_of item)
    → IsWritten text_of old new failed failed' items rest
written_more {text_of = text_of} {old = old} {mid = mid} {new = new} {rest = rest} {item = item}
    so_far is w =
    record {
      written = so_far.written ++ item ∷ [];
      parts = so_far.parts ∙ ap (λ xs. so_far.written ++ xs) is
          ∙ sym (append_assoc so_far.written (item ∷ []) rest);
      text = subst (Appends old new) (ap (λ t. flat_map text_of so_far.written ++ t)
          (sym (append-nil (text_of item)))
          ∙ sym (flat_map-append text_of so_far.written (item ∷ [])))
          (Appends-trans old mid new (flat_map text_of so_far.written) (text_of item) so_far.text
          w.0);
      failures = w.1 ∙ so_far.failures;
    }

-- the writing stopped in an item
pub written_stop : {X A : Type 0} {text_of : X → List ℕ} {old mid : Option (List ℕ)}
    {failed mid' : ℕ} {items left rest : List X} {item : X} (new : Option (List ℕ)) (failed' : ℕ)
    (fault : WireFault) (result : Result A WireFault) → IsErrAnd result (λ e. e ≡ fault)
    → IsWritten text_of old mid failed mid' items left → left ≡ item ∷ rest
    → WritesKnown mid new mid' failed' (Some fault) (text_of item)
    → WritesKnown old new failed failed' (fault_of result) (flat_map text_of items)
written_stop {text_of = text_of} {old = old} {mid = mid} {failed = failed} {mid' = mid'}
    {items = items} {rest = rest} {item = item} new failed' fault result h so_far is w =
    let stopped =
    Writes-stop mid new mid' failed' fault (text_of item) (flat_map text_of rest) w in
    let all = Writes-then old mid new failed mid' failed' (Some fault)
    (flat_map text_of so_far.written) _ so_far.text so_far.failures stopped in
    let parts : flat_map text_of so_far.written ++ (text_of item ++ flat_map text_of rest)
    ≡ flat_map text_of items =
    sym (flat_map-append text_of so_far.written (item ∷ rest))
    ∙ ap (λ xs. flat_map text_of (so_far.written ++ xs)) (sym is)
    ∙ ap (flat_map text_of) (sym so_far.parts) in
    subst (λ x. WritesKnown old new failed failed' x (flat_map text_of items))
    (sym (handed_on result fault h))
    (subst (WritesKnown old new failed failed' (Some fault)) parts all)

-- stored lines are written as they are
pub stored_text : (lines : List Line)
    → flat_map listed_text (map stored lines) ≡ flat_map line_text lines
stored_text [] = refl
stored_text (line ∷ lines) = ap (λ t. line_text line ++ t) (stored_text lines)

-- the lines of a trail are its rows
pub rows_text : (number : ℕ) (entries : List Entry)
    → flat_map listed_text (numbered_entries number entries) ≡ entries_text number entries
unfolding numbered_entries entries_text
rows_text number [] = refl
rows_text number (e ∷ entries) =
    ap (λ text. entry_text number e ++ text) (rows_text (number + 1) entries)
