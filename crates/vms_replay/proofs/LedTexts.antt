-- Outcomes that lead through the lines of a text are phases of its body.
use Rattle.std.proofs.Common.{◌≡◌, ℕ, zero, suc, nat_lt, Bool, true, false, List, [], ◌∷◌, ◌++◌, drop, refl, sym, ap}
use Rattle.std.proofs.Common.{subst, ◌∙◌, Option, Some, None, if◌then◌else◌, append-nil, arith}
use Rattle.std.specs.Prelude.{All, Result, Ok, Err}
use Rattle.std.proofs.lemmas.List.Elements.{All-weaker}
use Rattle.vms_world.specs.Common.{Header, IsHeader, Phase, Segment, SegmentsLead, contents_of, phase_if_any, Item}
use Rattle.vms_world.specs.Common.{IsWorldOf, TableHistories, left_by}
use Rattle.vms_command.specs.Common.{shown_given, CommandState, after_head, halts_at, printed_head, refuses, Heading}
use Rattle.vms_command.specs.Common.{most_lines, LinesAbove, nothing_above}
use Rattle.vms_header.specs.declared.causes.HeaderCause.{HeaderCause}
use Rattle.vms_header.specs.Common.{header_of, Fault, HeadStep, Stage, head_line, header_from, on_step, read_header}
use Rattle.vms_header.specs.Common.{Opening, Goes, Ends}
use Rattle.vms_header.proofs.Common.{read_header-writable}
use Rattle.vms_stream.specs.Common.{shown_on, shown_with, AllUsed, OutcomesLeadThrough, OutcomesLeadToEnd, UsedAtEnd}
use Rattle.vms_stream.specs.Common.{leads_on, none_after, Way, halt_at, supply, way_after, with_outcomes, On, Short}
use Rattle.vms_stream.specs.Common.{Text, Waiting, unless_stopped, waits_after, Plain, Behavior, first_halt, halted}
use Rattle.vms_stream.specs.Common.{state_after}
use Rattle.vms_stream.specs.declared.statuses.Status.{Status}
use Rattle.vms_stream.specs.declared.statuses.Status.TheVariants.{TooLong}
use Rattle.vms_total_laws.specs.Common.{SumsAreTotals}
use Rattle.vms_truth.specs.Common.{NumbersAreNear, worlds_on}
use Rattle.vms_world.specs.declared.worlds.World.{World}
use Rattle.vms_replay.specs.Common.{normal_rule, pressure_rule, PastPhase, first_world, histories_in, PhasesLeadFrom}
use Rattle.vms_replay.specs.Common.{PhasesLeadThrough, PhasesLeadThroughFront, TextsLeadOn, Kept, MayBe, first_kept}
use Rattle.vms_replay.specs.Common.{has_some, shown_by_replay, replaying}
use Rattle.vms_replay.proofs.LedBodies.{Finishes, Front, Front-if, Front-stopped, Leaves-lines, at, phased, with_items}
use Rattle.vms_replay.proofs.LedBodies.{with_items-none}
use Rattle.vms_replay.proofs.KernelThresholds.{IsStartOf-started, normal-gives}
use Rattle.vms_replay.proofs.PlainTotals.{HasPlainTotals-first}
use Rattle.vms_replay.proofs.LedLines.{IsLed, IsLed-first, IsPhaseFrom-led, IsWay-led, Knows, LeadOn, LeadOn-append}

-- what stands after an element
rest-after : (k : ℕ) (all : List (List ℕ)) (line : List ℕ) (lines : List (List ℕ)) → drop k all ≡ line ∷ lines
    → drop (suc k) all ≡ lines
rest-after zero [] line lines is = absurd cc
rest-after zero (first ∷ all) line lines is = cc
rest-after (suc k) [] line lines is = absurd cc
rest-after (suc k) (first ∷ all) line lines is = rest-after k all line lines is

module _ (Makes : Header → World → List Item → TableHistories → Type 0) (knows : Knows Makes) (header : Header) where
  -- the numbers are near in each world of the way
  near-led : IsHeader header → (segments : List Segment) (made : List PastPhase) (last : World)
      → (way : SegmentsLead header pressure_rule normal_rule segments (histories_in made) (first_world header) last)
      → All (NumbersAreNear header)
      (worlds_on header pressure_rule normal_rule segments (histories_in made) (first_world header) last way)
  near-led valid segments made last way =
      knows.near header segments (histories_in made) (first_world header) last normal-gives
      (IsStartOf-started header valid).world way

  -- and the sums are totals
  sums-led : IsHeader header → (segments : List Segment) (made : List PastPhase) (last : World)
      → (way : SegmentsLead header pressure_rule normal_rule segments (histories_in made) (first_world header) last)
      → All (SumsAreTotals header)
      (worlds_on header pressure_rule normal_rule segments (histories_in made) (first_world header) last way)
  sums-led valid segments made last way =
      All-weaker (IsWorldOf header) (SumsAreTotals header) (knows.sums header)
      (worlds_on header pressure_rule normal_rule segments (histories_in made) (first_world header) last way)
      (knows.worlds header segments (histories_in made) (first_world header) last normal-gives
      (IsStartOf-started header valid).world way)

  pub PhasesLeadThroughFront-of : IsHeader header → (Closed : Type 0) (segments : List Segment) (made : List PastPhase)
      → Front Makes header (first_world header) Closed segments made → PhasesLeadThroughFront Makes header segments made
  PhasesLeadThroughFront-of valid Closed segments made it =
      let way = IsWay-led Makes header valid it.front made (first_world header) it.last it.leads in
      record {
        front = it.front;
        rest = it.rest;
        parts = it.parts;
        lead = record {
          last = it.last;
          way = way.way;
          phases = way.phases;
          lawful = way.lawful;
          near = near-led valid it.front made it.last way.way;
          sums = sums-led valid it.front made it.last way.way;
          plain = way.plain [] (HasPlainTotals-first header valid);
        };
      }

  pub PhasesLeadThrough-of : IsHeader header → (Closed : Type 0) (segments : List Segment) (made : List PastPhase)
      → Front Makes header (first_world header) Closed segments made → Closed →
      PhasesLeadThrough Makes header segments made
  PhasesLeadThrough-of valid Closed segments made it closed =
      let way = IsWay-led Makes header valid it.front made (first_world header) it.last it.leads in
      let same : it.front ≡ segments =
      sym (it.parts ∙ ap (λ (more : List Segment). it.front ++ more) (it.all closed) ∙ append-nil it.front) in
      subst (λ (all : List Segment). PhasesLeadThrough Makes header all made) same
      (record {
        last = it.last;
        way = way.way;
        phases = way.phases;
        lawful = way.lawful;
        near = near-led valid it.front made it.last way.way;
        sums = sums-led valid it.front made it.last way.way;
        plain = way.plain [] (HasPlainTotals-first header valid);
      })

  -- no phase was made
  pub PhasesLeadThroughFront-none : IsHeader header → (segments : List Segment) (made : List PastPhase) → made ≡ []
      → PhasesLeadThroughFront Makes header segments made
  PhasesLeadThroughFront-none valid segments made none =
      PhasesLeadThroughFront-of valid ⊥ segments made
      (Front-stopped Makes header (first_world header) ⊥ [] segments [] made (first_world header) refl none
      (λ never. absurd never))

PhasesLeadFrom-if : (Makes : Header → World → List Item → TableHistories → Type 0) (P Q : Type 0)
    (found : Result (Header × ℕ) Fault) (lines : List (List ℕ)) (made : List PastPhase) → (Q → P)
    → PhasesLeadFrom (λ header segments phases. Front Makes header (first_world header) P segments phases)
    found lines made
    → PhasesLeadFrom (λ header segments phases. Front Makes header (first_world header) Q segments phases)
    found lines made
PhasesLeadFrom-if Makes P Q (Err fault) lines made so none = none
PhasesLeadFrom-if Makes P Q (Ok (header, count)) lines made so front =
    Front-if Makes header (first_world header) P Q (contents_of header (suc count) (drop count lines)).segments made so
    front

-- no outcomes are left after the last line, or those of a phase that ends there
module _ (Makes : Header → World → List Item → TableHistories → Type 0) (knows : Knows Makes) (header : Header)
    (w : World) (n : ℕ) (above : LinesAbove) (kept : Kept) (waits : List (Text PastPhase))
    (phases done : List PastPhase) (segments : List Segment) (led : IsLed header above kept)
    (way : LeadOn Makes header segments done w kept.world) where
  pub Front-used : phases ≡ [] → Front Makes header w ⊥ (segments ++ with_items kept.items []) (done ++ phases)
  Front-used none = Front-stopped Makes header w ⊥ segments (with_items kept.items []) done phases kept.world way none
      (λ never. absurd never)

  abbrev IsClosed : List PastPhase → Type 0
  IsClosed left = shown_on (phased Makes) (shown_given shown_by_replay) (On (at Makes n header above kept waits) left)

  pub Front-closed : UsedAtEnd (phased Makes) (at Makes n header above kept waits) phases
      → Front Makes header w (IsClosed phases) (segments ++ with_items kept.items []) (done ++ phases)
  Front-closed leads = by kept.items refl phases leads
    where
      by : (items : List Item) → kept.items ≡ items → (left : List PastPhase)
          → leads_on (has_some items) left (MayBe Makes header kept.world kept.items) (λ given rest. rest ≡ [])
          → Front Makes header w (IsClosed left) (segments ++ with_items kept.items []) (done ++ left)
      by [] is left none =
          Front-stopped Makes header w (IsClosed left) segments (with_items kept.items []) done left kept.world way none
          (λ closed. ap (λ (xs : List Item). with_items xs []) is)
      by (item ∷ items) is [] none =
          Front-stopped Makes header w (IsClosed []) segments (with_items kept.items []) done [] kept.world way refl
          (λ closed. absurd (subst (λ (xs : List Item). shown_with {S = Waiting (CommandState Kept) PastPhase}
          {O = PastPhase} (shown_given shown_by_replay) (at Makes n header above kept waits)
          (supply {O = PastPhase} (has_some xs) [])) is closed))
      by (item ∷ items) is (phase ∷ left) (be, none) =
          let last : World = left_by header phase.world phase.items phase.histories in
          let one : LeadOn Makes header (Phase kept.items ∷ []) (phase ∷ []) kept.world last =
          (IsPhaseFrom-led Makes knows header above kept led phase be, refl) in
          record {
            front = segments ++ Phase kept.items ∷ [];
            rest = [];
            last = last;
            parts = ap (λ (more : List Segment). segments ++ more)
                (with_items-none kept.items ∙ ap phase_if_any is ∙ ap (λ (xs : List Item). Phase xs ∷ []) (sym is))
                ∙ sym (append-nil (segments ++ Phase kept.items ∷ []));
            leads = subst (λ (ps : List PastPhase). LeadOn Makes header (segments ++ Phase kept.items ∷ [])
                (done ++ phase ∷ ps) w last) (sym none)
                (LeadOn-append Makes header segments (Phase kept.items ∷ []) done (phase ∷ []) w kept.world last way
                one);
            all = λ closed. refl;
          }

-- from the header on
module _ (Makes : Header → World → List Item → TableHistories → Type 0) (knows : Knows Makes) (all : List (List ℕ))
    (outcomes : List PastPhase) (asked : Waiting (CommandState Kept) PastPhase → List PastPhase → Type 0)
    (Closed : Way (Waiting (CommandState Kept) PastPhase) PastPhase → Type 0) (short : Closed Short → ⊥)
    (in_head : (n : ℕ) (stage : Stage) (waits : List (Text PastPhase)) (phases : List PastPhase)
    → asked (record { state = Heading n stage; waits = waits }) phases → phases ≡ [])
    (at_end : (header : Header) (n : ℕ) (above : LinesAbove) (kept : Kept) (waits : List (Text PastPhase))
    (phases done : List PastPhase) (segments : List Segment) → IsLed header above kept
    → LeadOn Makes header segments done (first_world header) kept.world
    → asked (at Makes n header above kept waits) phases
    → Front Makes header (first_world header) (Closed (On (at Makes n header above kept waits) phases))
    (segments ++ with_items kept.items []) (done ++ phases)) where
  abbrev heading : ℕ → Stage → List (Text PastPhase) → Waiting (CommandState Kept) PastPhase
  heading n stage waits = record { state = Heading n stage; waits = waits }

  abbrev goes : Behavior (Way (Waiting (CommandState Kept) PastPhase) PastPhase)
  goes = with_outcomes (phased Makes) outcomes

  abbrev Lead : Type 0 → Header → List Segment → List PastPhase → Type 0
  Lead P header segments phases = Front Makes header (first_world header) P segments phases

  stopped : (P : Type 0) (found : Result (Header × ℕ) Fault) (phases : List PastPhase) → phases ≡ [] → (P → ⊥)
      → PhasesLeadFrom (Lead P) found all phases
  stopped P (Err fault) phases none never = none
  stopped P (Ok (header, count)) phases none never =
      Front-stopped Makes header (first_world header) P []
      (contents_of header (suc count) (drop count all)).segments [] phases (first_world header) refl none
      (λ it. absurd (never it))

  -- no phase ends in the header
  never : (h : Option Status) → unless_stopped h false ≡ false
  never None = refl
  never (Some halt) = refl

  module _ (line : List ℕ) (lines : List (List ℕ)) (k : ℕ) (stage : Stage) (waits : List (Text PastPhase))
      (phases : List PastPhase) where
    abbrev s : Waiting (CommandState Kept) PastPhase
    s = heading (suc k) stage waits

    abbrev next : Result HeadStep HeaderCause → Waiting (CommandState Kept) PastPhase
    next read = record {
      state = after_head (replaying Makes) (suc k) stage read;
      waits = waits_after waits (Plain (printed_head (replaying Makes) (suc k) read)) None;
    }

    abbrev FinishesPast : Option Status → Result HeadStep HeaderCause → Type 0
    FinishesPast h read = (first_halt h (halted goes (On (next read) phases) lines) ≡ None)
        × Closed (state_after goes (On (next read) phases) lines)

    abbrev FinishesBy : Bool → Type 0
    FinishesBy ends =
        (first_halt (halt_at (phased Makes) s line (supply ends phases))
        (halted goes (way_after (phased Makes) s line (supply ends phases)) lines) ≡ None)
        × Closed (state_after goes (way_after (phased Makes) s line (supply ends phases)) lines)

    FinishesPast-head : Finishes Makes outcomes Closed (On s phases) (line ∷ lines)
        → FinishesPast (halts_at {K = Kept} (Heading (suc k) stage) line) (head_line stage line)
    FinishesPast-head finishes =
        subst FinishesBy (never (halts_at {K = Kept} (Heading (suc k) stage) line)) finishes

    abbrev LeadsBy : Bool → Type 0
    LeadsBy ends = leads_on ends phases (λ outcome. ⊥)
        (λ given left. none_after (halts_at {K = Kept} (Heading (suc k) stage) line) left
        (OutcomesLeadThrough (phased Makes) asked ((phased Makes).next s line given) left lines))

    leads-head : OutcomesLeadThrough (phased Makes) asked s phases (line ∷ lines)
        → none_after (halts_at {K = Kept} (Heading (suc k) stage) line) phases
        (OutcomesLeadThrough (phased Makes) asked (next (head_line stage line)) phases lines)
    leads-head leads = subst LeadsBy (never (halts_at {K = Kept} (Heading (suc k) stage) line)) leads

    past-head : ((stage' : Stage) (waits' : List (Text PastPhase))
        → read_header all ≡ header_from (suc (suc k)) stage' lines
        → OutcomesLeadThrough (phased Makes) asked (heading (suc (suc k)) stage' waits') phases lines
        → PhasesLeadFrom (Lead (Finishes Makes outcomes Closed (On (heading (suc (suc k)) stage' waits') phases) lines))
        (header_from (suc (suc k)) stage' lines) all phases)
        → drop (suc k) all ≡ lines → (over : Bool) (read : Result HeadStep HeaderCause)
        → read_header all ≡ on_step (suc k) read (λ stage'. header_from (suc (suc k)) stage' lines)
        → none_after (if over then Some TooLong else refuses read) phases
        (OutcomesLeadThrough (phased Makes) asked (next read) phases lines)
        → PhasesLeadFrom (Lead (FinishesPast (if over then Some TooLong else refuses read) read))
        (on_step (suc k) read (λ stage'. header_from (suc (suc k)) stage' lines)) all phases
    past-head rec rest true read is none =
        stopped _ (on_step (suc k) read (λ stage'. header_from (suc (suc k)) stage' lines)) phases none
        (λ finishes. let no : Some TooLong ≡ None = finishes.0 in absurd cc)
    past-head rec rest false (Err cause) is none = none
    past-head rec rest false (Ok (Goes stage')) is leads = rec stage' _ is leads
    past-head rec rest false (Ok (Ends draft)) is leads =
        let header : Header = header_of draft in
        let valid : IsHeader header = (read_header-writable all header (suc k) is).is_header in
        subst (λ (body : List (List ℕ)). Lead (FinishesPast None (Ok (Ends draft))) header
        (contents_of header (suc (suc k)) body).segments phases) (sym rest)
        (Leaves-lines Makes knows header valid (first_world header) outcomes asked Closed short (at_end header) lines
        (suc (suc k)) nothing_above (first_kept header) _ phases [] [] (IsLed-first header valid)
        (λ j d less. absurd (omega (arith, less))) refl leads)

  led-from : (lines : List (List ℕ)) (k : ℕ) (stage : Stage) (waits : List (Text PastPhase))
      (phases : List PastPhase) → drop k all ≡ lines → read_header all ≡ header_from (suc k) stage lines
      → OutcomesLeadThrough (phased Makes) asked (heading (suc k) stage waits) phases lines
      → PhasesLeadFrom (Lead (Finishes Makes outcomes Closed (On (heading (suc k) stage waits) phases) lines))
      (header_from (suc k) stage lines) all phases
  led-from [] k stage waits phases rest is leads = in_head (suc k) stage waits phases leads
  led-from (line ∷ lines) k stage waits phases rest is leads =
      PhasesLeadFrom-if Makes _ _ (header_from (suc k) stage (line ∷ lines)) all phases
      (FinishesPast-head line lines k stage waits phases)
      (past-head line lines k stage waits phases
      (λ stage' waits' same on. led-from lines (suc k) stage' waits' phases (rest-after k all line lines rest) same on)
      (rest-after k all line lines rest) (nat_lt most_lines (suc k)) (head_line stage line) is
      (leads-head line lines k stage waits phases leads))

  pub led-texts : (phases : List PastPhase)
      → OutcomesLeadThrough (phased Makes) asked (phased Makes).start phases all
      → PhasesLeadFrom (Lead (Finishes Makes outcomes Closed (On (phased Makes).start phases) all))
      (read_header all) all
      phases
  led-texts phases leads = led-from all 0 Opening [] phases refl refl leads

module _ (Makes : Header → World → List Item → TableHistories → Type 0) (knows : Knows Makes) (lines : List (List ℕ))
    (made : List PastPhase) (P : Type 0) where
  -- what is led so are the first phases, or all of them
  first-led : (found : Result (Header × ℕ) Fault) → read_header lines ≡ found
      → PhasesLeadFrom (λ header segments phases. Front Makes header (first_world header) P segments phases)
      found lines made
      → PhasesLeadFrom (PhasesLeadThroughFront Makes) found lines made
  first-led (Err fault) is none = none
  first-led (Ok (header, count)) is front =
      PhasesLeadThroughFront-of Makes knows header (read_header-writable lines header count is).is_header P _ made front

  whole-led : P → (found : Result (Header × ℕ) Fault) → read_header lines ≡ found
      → PhasesLeadFrom (λ header segments phases. Front Makes header (first_world header) P segments phases)
      found lines made
      → PhasesLeadFrom (PhasesLeadThrough Makes) found lines made
  whole-led finishes (Err fault) is none = none
  whole-led finishes (Ok (header, count)) is front =
      PhasesLeadThrough-of Makes knows header (read_header-writable lines header count is).is_header P _ made front
      finishes

pub TextsLeadOn-holds : (Makes : Header → World → List Item → TableHistories → Type 0) → Knows Makes → TextsLeadOn Makes
TextsLeadOn-holds Makes knows = record {
  lines = λ made lines leads. first-led Makes knows lines made _ (read_header lines) refl
      (led-texts Makes knows lines made AllUsed (λ way. ⊥) (λ never. never) (λ n stage waits phases none. none)
      (λ header n above kept waits phases done segments led way none.
      Front-used Makes knows header (first_world header) n above kept waits phases done segments led way none)
      made leads);
  to_end = λ made lines leads. first-led Makes knows lines made _ (read_header lines) refl (closed made lines leads);
  whole = λ made lines leads none shown.
      whole-led Makes knows lines made _ (none, shown) (read_header lines) refl (closed made lines leads);
}
  where
    closed : (made : List PastPhase) (lines : List (List ℕ))
        → OutcomesLeadToEnd (phased Makes) (phased Makes).start made lines
        → PhasesLeadFrom (λ header segments phases. Front Makes header (first_world header)
        (Finishes Makes made (shown_on (phased Makes) (shown_given shown_by_replay)) (On (phased Makes).start made)
        lines) segments phases) (read_header lines) lines made
    closed made lines leads =
        led-texts Makes knows lines made (UsedAtEnd (phased Makes))
        (shown_on (phased Makes) (shown_given shown_by_replay)) (λ never. never)
        (λ n stage waits phases none. none)
        (λ header n above kept waits phases done segments led way used.
        Front-closed Makes knows header (first_world header) n above kept waits phases done segments led way used)
        made leads
