-- Outcomes that lead through the lines of a body lead through their segments.
use Rattle.std.proofs.Common.{◌≡◌, ℕ, suc, ◌<◌, Bool, true, false, List, [], ◌∷◌, ◌++◌, refl, sym, ap, subst, ◌∙◌}
use Rattle.std.proofs.Common.{Option, Some, None, Ok, Err, arith, append-nil, append_assoc}
use Rattle.std.proofs.lemmas.List.Elements.{All-push, All-weaker}
use Rattle.std.specs.Prelude.{All, Result, is_some}
use Rattle.vms_world.specs.Common.{Header, IsHeader, LineCause, with_counted, judged, Between, Segment, numbered_lines}
use Rattle.vms_world.specs.Common.{phase_if_any, segments_of, segments_with, segments_with_item, Act, Item}
use Rattle.vms_world.specs.Common.{Lane as LaneOf, Line, Blank, TableHistories}
use Rattle.vms_command.specs.Common.{IsJudgedAfter, CommandState, ends_at_judged, following, halts_at, Body, LinesAbove}
use Rattle.vms_command.specs.Common.{with_judged}
use Rattle.vms_file_order.proofs.Common.{Fits-judged}
use Rattle.vms_stream.specs.Common.{OutcomesLeadThrough, leads_on, none_after, MayGive, at_most_one, PhasedBehavior}
use Rattle.vms_stream.specs.Common.{OutcomeSupply, Way, halt_at, supply, way_after, with_outcomes, Gives, Lacks, On}
use Rattle.vms_stream.specs.Common.{Short, Text, Waiting, unless_stopped, waiting, waits_after, Behavior, first_halt}
use Rattle.vms_stream.specs.Common.{halted, state_after}
use Rattle.vms_stream.specs.declared.statuses.Status.{Status}
use Rattle.vms_script.proofs.Common.{IsOpenScript-lane}
use Rattle.vms_text.specs.declared.acts.Boundary.{Boundary as BoundaryOf}
use Rattle.vms_text.specs.declared.acts.Line.TheVariants.{Lane, Boundary}
use Rattle.vms_world.specs.declared.worlds.World.{World}
use Rattle.vms_replay.specs.Common.{PastPhase, Kept, MayBe, has_some, judged_text, next_kept, replaying}
use Rattle.vms_replay.proofs.LedLines.{IsLed, Knows, LeadOn, LeadOn-append, LeadsPast-led}

-- segments with these lines before them
abbrev pub with_items : List Item → List Segment → List Segment
with_items [] segments = segments
with_items (item ∷ items) segments = segments_with_item item (with_items items segments)

with_items-push : (items : List Item) (item : Item) (segments : List Segment)
    → with_items items (segments_with_item item segments) ≡ with_items (items ++ item ∷ []) segments
with_items-push [] item segments = refl
with_items-push (first ∷ items) item segments = ap (segments_with_item first) (with_items-push items item segments)

with_items-between : (items : List Item) (n : ℕ) (b : BoundaryOf) (segments : List Segment)
    → with_items items (Between n b ∷ segments) ≡ (phase_if_any items ++ Between n b ∷ []) ++ segments
with_items-between [] n b segments = refl
with_items-between (item ∷ []) n b segments = refl
with_items-between (item ∷ second ∷ items) n b segments =
    ap (segments_with_item item) (with_items-between (second ∷ items) n b segments)

pub with_items-none : (items : List Item) → with_items items [] ≡ phase_if_any items
with_items-none [] = refl
with_items-none (item ∷ []) = refl
with_items-none (item ∷ second ∷ items) = ap (segments_with_item item) (with_items-none (second ∷ items))

module _ (Makes : Header → World → List Item → TableHistories → Type 0) (header : Header) (w : World) where
  -- phases lead through the first of these segments. Where the replay finishes, these are all
  pub record Front (Finishes : Type 0) (segments : List Segment) (made : List PastPhase) : Type 0 where
    pub front : List Segment
    pub rest : List Segment
    pub last : World
    pub parts : segments ≡ front ++ rest
    pub leads : LeadOn Makes header front made w last
    pub all : Finishes → rest ≡ []

  -- no phase is made any more
  pub Front-stopped : (Finishes : Type 0) (segments more : List Segment) (made phases : List PastPhase) (mid : World)
      → LeadOn Makes header segments made w mid → phases ≡ [] → (Finishes → more ≡ [])
      → Front Finishes (segments ++ more) (made ++ phases)
  Front-stopped Finishes segments more made phases mid leads none all = record {
    front = segments;
    rest = more;
    last = mid;
    parts = refl;
    leads = subst (λ (ps : List PastPhase). LeadOn Makes header segments ps w mid)
        (sym (ap (λ (ps : List PastPhase). made ++ ps) none ∙ append-nil made)) leads;
    all = all;
  }

  pub Front-if : (Finishes Ends : Type 0) (segments : List Segment) (made : List PastPhase) → (Ends → Finishes)
      → Front Finishes segments made → Front Ends segments made
  Front-if Finishes Ends segments made so it = record {
    front = it.front;
    rest = it.rest;
    last = it.last;
    parts = it.parts;
    leads = it.leads;
    all = λ ends. it.all (so ends);
  }

module _ (Makes : Header → World → List Item → TableHistories → Type 0) where
  abbrev pub phased : PhasedBehavior (Waiting (CommandState Kept) PastPhase) PastPhase
  phased = waiting (following (replaying Makes))

  abbrev pub at : ℕ → Header → LinesAbove → Kept → List (Text PastPhase) → Waiting (CommandState Kept) PastPhase
  at n header above kept waits = record { state = Body n header above kept; waits = waits }

  -- a way goes through lines that don't stop the replay, and ends as asked
  abbrev pub Finishes : List PastPhase → (Way (Waiting (CommandState Kept) PastPhase) PastPhase → Type 0)
      → Way (Waiting (CommandState Kept) PastPhase) PastPhase → List (List ℕ) → Type 0
  Finishes outcomes Ends way lines = (halted (with_outcomes phased outcomes) way lines ≡ None)
      × Ends (state_after (with_outcomes phased outcomes) way lines)

-- how outcomes end that lead through lines
module _ (Makes : Header → World → List Item → TableHistories → Type 0) (knows : Knows Makes) (header : Header)
    (valid : IsHeader header) (w : World) (outcomes : List PastPhase)
    (asked : Waiting (CommandState Kept) PastPhase → List PastPhase → Type 0)
    (Ends : Way (Waiting (CommandState Kept) PastPhase) PastPhase → Type 0) (short : Ends Short → ⊥)
    (at_end : (n : ℕ) (above : LinesAbove) (kept : Kept) (waits : List (Text PastPhase))
    (phases done : List PastPhase) (segments : List Segment) → IsLed header above kept
    → LeadOn Makes header segments done w kept.world → asked (at Makes n header above kept waits) phases
    → Front Makes header w (Ends (On (at Makes n header above kept waits) phases))
    (segments ++ with_items kept.items []) (done ++ phases)) where
  abbrev goes : Behavior (Way (Waiting (CommandState Kept) PastPhase) PastPhase)
  goes = with_outcomes (phased Makes) outcomes

  short-stays : (lines : List (List ℕ)) → state_after goes Short lines ≡ Short
  short-stays [] = refl
  short-stays (line ∷ lines) = short-stays lines

  no-short : (lines : List (List ℕ)) → Ends (state_after goes Short lines) → ⊥
  no-short lines ends = short (subst Ends (short-stays lines) ends)

  -- what is to be shown of lines, of which the first stands before line n
  abbrev Leaves : List (List ℕ) → Type 0
  Leaves texts = (n : ℕ) (above : LinesAbove) (kept : Kept) (waits : List (Text PastPhase))
      (phases done : List PastPhase) (segments : List Segment) → IsLed header above kept
      → All (λ (i : Item). i.number < n) kept.items → LeadOn Makes header segments done w kept.world
      → OutcomesLeadThrough (phased Makes) asked (at Makes n header above kept waits) phases texts
      → Front Makes header w (Finishes Makes outcomes Ends (On (at Makes n header above kept waits) phases) texts)
      (segments ++ with_items kept.items (segments_of (numbered_lines header above.lines n texts))) (done ++ phases)

  module _ (texts : List (List ℕ)) (rec : Leaves texts) (n : ℕ) (above : LinesAbove) (kept : Kept)
      (waits : List (Text PastPhase)) (done : List PastPhase) (segments : List Segment) (led : IsLed header above kept)
      (below : All (λ (i : Item). i.number < n) kept.items)
      (way : LeadOn Makes header segments done w kept.world) where
    later_below : All (λ (i : Item). i.number < suc n) kept.items
    later_below = All-weaker (λ (i : Item). i.number < n) (λ (i : Item). i.number < suc n)
        (λ i less. omega (arith, less)) kept.items below

    -- the state after the line, by what was judged of it, and the way and the halt by what the line gets
    abbrev after : Result Line LineCause → Option PastPhase → Waiting (CommandState Kept) PastPhase
    after j given = at Makes (suc n) header (with_judged j above) (next_kept header n above j given kept)
        (waits_after waits (judged_text header n j kept) given)

    abbrev onward : Result Line LineCause → OutcomeSupply PastPhase →
        Way (Waiting (CommandState Kept) PastPhase) PastPhase
    onward j (Gives given left) = On (after j given) left
    onward j Lacks = Short

    abbrev halt_by : Option Status → OutcomeSupply PastPhase → Option Status
    halt_by h (Gives given left) = h
    halt_by h Lacks = None

    abbrev FinishesPast : Option Status → Result Line LineCause → OutcomeSupply PastPhase → Type 0
    FinishesPast h j got = (first_halt (halt_by h got) (halted goes (onward j got) texts) ≡ None)
        × Ends (state_after goes (onward j got) texts)

    same-way : (text : List ℕ) (got : OutcomeSupply PastPhase)
        → way_after (phased Makes) (at Makes n header above kept waits) text got
        ≡ onward (judged header above.lines text) got
    same-way text (Gives given left) = refl
    same-way text Lacks = refl

    same-halt : (text : List ℕ) (got : OutcomeSupply PastPhase)
        → halt_at (phased Makes) (at Makes n header above kept waits) text got
        ≡ halt_by (halts_at {K = Kept} (Body n header above kept) text) got
    same-halt text (Gives given left) = refl
    same-halt text Lacks = refl

    pub FinishesPast-line : (text : List ℕ) (phases : List PastPhase)
        → Finishes Makes outcomes Ends (On (at Makes n header above kept waits) phases) (text ∷ texts)
        → FinishesPast (halts_at {K = Kept} (Body n header above kept) text) (judged header above.lines text)
        (supply (unless_stopped (halts_at {K = Kept} (Body n header above kept) text)
        (ends_at_judged (has_some kept.items) (judged header above.lines text))) phases)
    FinishesPast-line text phases (none, ends) =
        let h : Option Status = halts_at {K = Kept} (Body n header above kept) text in
        let j : Result Line LineCause = judged header above.lines text in
        let got : OutcomeSupply PastPhase =
        supply (unless_stopped h (ends_at_judged (has_some kept.items) j)) phases in (
          subst (λ (x : Way (Waiting (CommandState Kept) PastPhase) PastPhase).
              first_halt (halt_by h got) (halted goes x texts) ≡ None) (same-way text got)
              (subst (λ (x : Option Status). first_halt x
              (halted goes (way_after (phased Makes) (at Makes n header above kept waits) text got) texts) ≡ None)
              (same-halt text got) none),
          subst (λ (x : Way (Waiting (CommandState Kept) PastPhase) PastPhase). Ends (state_after goes x texts))
              (same-way text got) ends,
        )

    -- past a line of a lane
    past-lane : (lane : LaneOf) (act : Act) → IsJudgedAfter header above (Ok (Lane lane act))
        → (phases : List PastPhase)
        → OutcomesLeadThrough (phased Makes) asked (after (Ok (Lane lane act)) None) phases texts
        → Front Makes header w (Finishes Makes outcomes Ends (On (after (Ok (Lane lane act)) None) phases) texts)
        (segments ++ with_items kept.items
        (segments_with_item (record { number = n; lane = lane; act = act })
        (segments_of (numbered_lines header (Lane lane act ∷ above.lines) (suc n) texts)))) (done ++ phases)
    past-lane lane act judged_is phases leads =
        let item : Item = record { number = n; lane = lane; act = act } in
        let later : List Segment = segments_of (numbered_lines header (Lane lane act ∷ above.lines) (suc n) texts) in
        subst (λ (more : List Segment). Front Makes header w
        (Finishes Makes outcomes Ends (On (after (Ok (Lane lane act)) None) phases) texts) (segments ++ more)
        (done ++ phases))
        (sym (with_items-push kept.items item later))
        (rec (suc n) (with_judged (Ok (Lane lane act)) above) (next_kept header n above (Ok (Lane lane act)) None kept)
        (waits_after waits (judged_text header n (Ok (Lane lane act)) kept) None) phases done segments
        (record {
          begins = led.begins;
          fits = Fits-judged kept.above kept.items header valid judged_is.0 n lane act
              (ap (λ (lines : List Line). judged header lines judged_is.0) (sym led.lines) ∙ sym judged_is.1) led.fits
              below;
          lines = IsOpenScript-lane
              (record { header = header; lines = above.lines; above = kept.above; taken = []; items = kept.items })
              item led.lines;
        })
        (All-push (λ (i : Item). i.number < suc n) kept.items item later_below (omega arith)) way leads)

    -- past a boundary line, where the phase has its outcome, if one is open
    past-boundary : (b : BoundaryOf) → IsJudgedAfter header above (Ok (Boundary b)) → (given : Option PastPhase)
        → has_some kept.items ≡ is_some given
        → MayGive (has_some kept.items) (MayBe Makes header kept.world kept.items) given
        → (phases : List PastPhase)
        → OutcomesLeadThrough (phased Makes) asked (after (Ok (Boundary b)) given) phases texts
        → Front Makes header w (Finishes Makes outcomes Ends (On (after (Ok (Boundary b)) given) phases) texts)
        (segments ++ with_items kept.items
        (Between n b ∷ segments_of (numbered_lines header (Boundary b ∷ above.lines) (suc n) texts)))
        ((done ++ at_most_one given) ++ phases)
    past-boundary b judged_is given ended may phases leads =
        let past = LeadsPast-led Makes knows header n above b valid judged_is kept given led ended may in
        let cut : List Segment = phase_if_any kept.items ++ Between n b ∷ [] in
        let later : List Segment = segments_of (numbered_lines header (Boundary b ∷ above.lines) (suc n) texts) in
        let next : Kept = next_kept header n above (Ok (Boundary b)) given kept in
        subst (λ (all : List Segment). Front Makes header w
        (Finishes Makes outcomes Ends (On (after (Ok (Boundary b)) given) phases) texts) all
        ((done ++ at_most_one given) ++ phases))
        (append_assoc segments cut later
        ∙ ap (λ (more : List Segment). segments ++ more) (sym (with_items-between kept.items n b later)))
        (rec (suc n) (with_judged (Ok (Boundary b)) above) next
        (waits_after waits (judged_text header n (Ok (Boundary b)) kept) given)
        phases (done ++ at_most_one given) (segments ++ cut) past.is_led (λ k d less. absurd (omega (arith, less)))
        (LeadOn-append Makes header segments cut done (at_most_one given) w kept.world next.world way past.leads)
        leads)

    -- past any line
    past-line : (phases : List PastPhase) (now_open : Bool) → now_open ≡ has_some kept.items → (h : Option Status)
        (j : Result Line LineCause) → IsJudgedAfter header above j
        → leads_on (unless_stopped h (ends_at_judged now_open j)) phases (MayBe Makes header kept.world kept.items)
        (λ given left. none_after h left (OutcomesLeadThrough (phased Makes) asked (after j given) left texts))
        → Front Makes header w (FinishesPast h j (supply (unless_stopped h (ends_at_judged now_open j)) phases))
        (segments ++ with_items kept.items
        (segments_with n j (segments_of (numbered_lines header (with_counted j above.lines) (suc n) texts))))
        (done ++ phases)
    past-line phases now_open same (Some halt) j judged_is leads =
        Front-stopped Makes header w _ segments (with_items kept.items
        (segments_with n j (segments_of (numbered_lines header (with_counted j above.lines) (suc n) texts)))) done
        phases
        kept.world way leads (λ finishes. let none : Some halt ≡ None = finishes.0 in absurd cc)
    past-line phases now_open same None (Ok Blank) judged_is leads =
        rec (suc n) above kept (waits_after waits (judged_text header n (Ok Blank) kept) None) phases done segments
        led later_below way leads
    past-line phases now_open same None (Err cause) judged_is leads =
        rec (suc n) (with_judged (Err cause) above) kept
        (waits_after waits (judged_text header n (Err cause) kept) None) phases done segments
        (record { begins = led.begins; fits = led.fits; lines = led.lines }) later_below way leads
    past-line phases now_open same None (Ok (Lane lane act)) judged_is leads =
        past-lane lane act judged_is phases leads
    past-line phases false same None (Ok (Boundary b)) judged_is leads =
        subst (λ (ps : List PastPhase). Front Makes header w
        (Finishes Makes outcomes Ends (On (after (Ok (Boundary b)) None) phases) texts) (segments
        ++ with_items kept.items
        (Between n b ∷ segments_of (numbered_lines header (Boundary b ∷ above.lines) (suc n) texts))) (ps ++ phases))
        (append-nil done)
        (past-boundary b judged_is None (sym same) tt phases leads)
    past-line [] true same None (Ok (Boundary b)) judged_is leads =
        Front-stopped Makes header w _ segments (with_items kept.items
        (Between n b ∷ segments_of (numbered_lines header (Boundary b ∷ above.lines) (suc n) texts))) done []
        kept.world way refl (λ finishes. absurd (no-short texts finishes.1))
    past-line (made ∷ phases) true same None (Ok (Boundary b)) judged_is leads =
        subst (λ (ps : List PastPhase). Front Makes header w
        (Finishes Makes outcomes Ends (On (after (Ok (Boundary b)) (Some made)) phases) texts) (segments
        ++ with_items kept.items
        (Between n b ∷ segments_of (numbered_lines header (Boundary b ∷ above.lines) (suc n) texts))) ps)
        (append_assoc done (made ∷ []) phases)
        (past-boundary b judged_is (Some made) (sym same) (sym same, leads.0) phases leads.1)

  pub Leaves-lines : (texts : List (List ℕ)) → Leaves texts
  Leaves-lines [] n above kept waits phases done segments led below way leads =
      Front-if Makes header w _ _ (segments ++ with_items kept.items []) (done ++ phases) (λ finishes. finishes.1)
      (at_end n above kept waits phases done segments led way leads)
  Leaves-lines (text ∷ texts) n above kept waits phases done segments led below way leads =
      Front-if Makes header w _ _ _ (done ++ phases)
      (FinishesPast-line texts (Leaves-lines texts) n above kept waits done segments led below way text phases)
      (past-line texts (Leaves-lines texts) n above kept waits done segments led below way phases
      (has_some kept.items) refl (halts_at {K = Kept} (Body n header above kept) text)
      (judged header above.lines text) (text, refl) leads)
