-- What holds of a served connection, by what holds of each request: for the crates above, whatever the
-- responder is.
use Rattle.std.proofs.Common.{◌≡◌, ℕ, List, Option, length, refl, sym, subst, Bool}
use Rattle.mpw_requests.specs.declared.request.Request.{Request}
use Rattle.mpw_serve.specs.declared.serve.Served.{Served}
use Rattle.mpw_serve.specs.Serving.{Answer, AnsweredLine, Stop, IsTrace, IsAnsweredLine, IsStop, Serves}

-- ---- if each request leads from state to state, so does the connection

module _ {A : Type 0} (told : A → Request → Answer → A → Type 0) (parted : A → Bool → A → Type 0)
    (Leads : A → A → Type 0)
    (stays : (a : A) → Leads a a)
    (on : (a b c : A) → Leads a b → Leads b c → Leads a c)
    (asks : (a a' : A) (request : Request) (answer : Answer) → told a request answer a'
    → Leads a a')
    (parts : (a a' : A) (handed : Bool) → parted a handed a' → Leads a a')
  where
    unmoved : (a a' : A) → a' ≡ a → Leads a a'
    unmoved a a' same = subst (Leads a) (sym same) (stays a)

    pub turn_leads : (input input' : Option (List ℕ)) (a a' : A) (turn : AnsweredLine)
        → IsAnsweredLine told input a turn input' a' → Leads a a'
    turn_leads input input' a a' (AnsweredLine.asked line request answer) is =
        asks a a' request answer is.1
    turn_leads input input' a a' (AnsweredLine.malformed line) is = unmoved a a' is.2

    pub trace_leads : (input : Option (List ℕ)) (a : A) (turns : List AnsweredLine)
        (input' : Option (List ℕ)) (a' : A) → IsTrace told input a turns input' a' → Leads a a'
    trace_leads input a turns input' a' IsTrace.none = stays a
    trace_leads input a turns input' a' (IsTrace.then before turn middle last near far trace is) =
        on a near far (trace_leads input a before middle near trace)
        (turn_leads middle last near far turn is)

    pub stop_leads : (lines : ℕ) (input input' : Option (List ℕ)) (a a' : A) (s : Stop)
        → IsStop told lines input a s input' a' → Leads a a'
    stop_leads lines input input' a a' Stop.closed is = unmoved a a' is.2
    stop_leads lines input input' a a' Stop.long is = unmoved a a' is.2
    stop_leads lines input input' a a' Stop.cut is = unmoved a a' is.2
    stop_leads lines input input' a a' Stop.starving is = unmoved a a' is.2
    stop_leads lines input input' a a' Stop.unreadable is = unmoved a a' is.2
    stop_leads lines input input' a a' Stop.spent is = unmoved a a' is.2
    stop_leads lines input input' a a' (Stop.unwritten turn) is =
        turn_leads input input' a a' turn is.1

    pub served_leads : (input input' output output' : Option (List ℕ)) (a a' : A) (served : Served)
        → Serves told parted input input' output output' a a' served → Leads a a'
    served_leads input input' output output' a a' served (reached, lines, gone) =
        on a reached a' (on a lines.reached reached
        (trace_leads input a lines.turns lines.left lines.reached lines.answered)
        (stop_leads (length lines.turns) lines.left input' lines.reached reached lines.stop
        lines.stopped)) (parts reached a' served.is_gone gone)

-- ---- if each request gets what another responder would give, the connection is served as over that other

module _ {A B : Type 0} (told : A → Request → Answer → A → Type 0)
    (parted : A → Bool → A → Type 0)
    (told' : B → Request → Answer → B → Type 0) (parted' : B → Bool → B → Type 0)
    (Shows : A → B → Type 0)
    (asks : (a a' : A) (b : B) (request : Request) (answer : Answer) → Shows a b
    → told a request answer a' → (b' : B) × told' b request answer b' × Shows a' b')
    (parts : (a a' : A) (b : B) (handed : Bool) → Shows a b → parted a handed a'
    → (b' : B) × parted' b handed b' × Shows a' b')
  where
    pub turn_as : (input input' : Option (List ℕ)) (a a' : A) (b : B) (turn : AnsweredLine)
        → Shows a b
        → IsAnsweredLine told input a turn input' a'
        → (b' : B) × IsAnsweredLine told' input b turn input' b' × Shows a' b'
    turn_as input input' a a' b (AnsweredLine.asked line request answer) sees (text, is) =
        let next = asks a a' b request answer sees is in
        (next.0, (text, next.1), next.2)
    turn_as input input' a a' b (AnsweredLine.malformed line) sees (line_is, form, same) =
        (b, (line_is, form, refl), subst (λ x. Shows x b) (sym same) sees)

    pub trace_as : (input : Option (List ℕ)) (a : A) (b : B) (turns : List AnsweredLine)
        (input' : Option (List ℕ)) (a' : A) → Shows a b → IsTrace told input a turns input' a'
        → (b' : B) × IsTrace told' input b turns input' b' × Shows a' b'
    trace_as input a b turns input' a' sees IsTrace.none = (b, IsTrace.none, sees)
    trace_as input a b turns input' a' sees
        (IsTrace.then before turn middle last near far trace is) =
        let first = trace_as input a b before middle near sees trace in
        let next = turn_as middle last near far first.0 turn first.2 is in
        (next.0, IsTrace.then before turn middle last first.0 next.0 first.1 next.1, next.2)

    -- what ended the connection without a further answer left the state unchanged
    unmoved_as : (a a' : A) (b : B) → a' ≡ a → Shows a b → Shows a' b
    unmoved_as a a' b same sees = subst (λ x. Shows x b) (sym same) sees

    pub stop_as : (lines : ℕ) (input input' : Option (List ℕ)) (a a' : A) (b : B) (s : Stop)
        → Shows a b
        → IsStop told lines input a s input' a'
        → (b' : B) × IsStop told' lines input b s input' b' × Shows a' b'
    stop_as lines input input' a a' b Stop.closed sees (few, is, same) =
        (b, (few, is, refl), unmoved_as a a' b same sees)
    stop_as lines input input' a a' b Stop.long sees (few, is, same) =
        (b, (few, is, refl), unmoved_as a a' b same sees)
    stop_as lines input input' a a' b Stop.cut sees (few, is, same) =
        (b, (few, is, refl), unmoved_as a a' b same sees)
    stop_as lines input input' a a' b Stop.starving sees (few, is, same) =
        (b, (few, is, refl), unmoved_as a a' b same sees)
    stop_as lines input input' a a' b Stop.unreadable sees (few, is, same) =
        (b, (few, is, refl), unmoved_as a a' b same sees)
    stop_as lines input input' a a' b Stop.spent sees (all, is, same) =
        (b, (all, is, refl), unmoved_as a a' b same sees)
    stop_as lines input input' a a' b (Stop.unwritten turn) sees (few, is) =
        let next = turn_as input input' a a' b turn sees is in (next.0, (few, next.1), next.2)

    pub served_as : (input input' output output' : Option (List ℕ)) (a a' : A) (b : B)
        (served : Served) → Shows a b → Serves told parted input input' output output' a a' served
        → (b' : B) × Serves told' parted' input input' output output' b b' served × Shows a' b'
    served_as input input' output output' a a' b served sees (reached, lines, gone) =
        let first = trace_as input a b lines.turns lines.left lines.reached sees lines.answered in
        let last = stop_as (length lines.turns) lines.left input' lines.reached reached first.0
        lines.stop first.2 lines.stopped in
        let far = parts reached a' last.0 served.is_gone last.2 gone in (
          far.0,
          (
            last.0,
            record {
              turns = lines.turns;
              left = lines.left;
              reached = first.0;
              stop = lines.stop;
              answered = first.1;
              stopped = last.1;
              tells = lines.tells;
              written = lines.written;
            },
            far.1,
          ),
          far.2,
        )
