-- Outcomes that lead through the lines of a text are phases of its body.
use Rattle.std.proofs.Common.{◌≡◌, ℕ, zero, suc, nat_lt, Bool, true, false, List, [], ◌∷◌, drop, length, refl, sym, ap}
use Rattle.std.proofs.Common.{subst, Option, Some, None, if◌then◌else◌}
use Rattle.std.specs.Prelude.{Result, Ok, Err}
use Rattle.vms_command.specs.Common.{most_lines}
use Rattle.vms_group_lines.specs.declared.causes.GroupCause.{GroupCause}
use Rattle.vms_group_lines.specs.declared.headers.GroupHeader.{GroupHeader}
use Rattle.vms_group_lines.specs.declared.stages.GroupStage.{GroupStage}
use Rattle.vms_group_lines.specs.declared.stages.HeadStep.{HeadStep}
use Rattle.vms_group_lines.specs.declared.stages.GroupStage.TheVariants.{Opening}
use Rattle.vms_group_lines.specs.declared.stages.HeadStep.TheVariants.{Ends, Goes}
use Rattle.vms_group_lines.specs.Common.{GroupFault, group_head_line, group_header_from, on_group_step}
use Rattle.vms_group_lines.specs.Common.{read_group_header}
use Rattle.vms_group_phase.specs.declared.items.GroupItem.{GroupItem}
use Rattle.vms_group_phase.specs.Common.{first_group_world, has_some, left_group_world}
use Rattle.vms_stream.specs.Common.{shown_on, shown_with, AllUsed, OutcomesLeadThrough, OutcomesLeadToEnd, UsedAtEnd}
use Rattle.vms_stream.specs.Common.{leads_on, none_after, Way, halt_at, supply, way_after, with_outcomes, On, Short}
use Rattle.vms_stream.specs.Common.{Text, Waiting, unless_stopped, waits_after, Plain, Behavior, first_halt, halted}
use Rattle.vms_stream.specs.Common.{state_after}
use Rattle.vms_stream.specs.declared.statuses.Status.{Status}
use Rattle.vms_stream.specs.declared.statuses.Status.TheVariants.{TooLong}
use Rattle.vms_groups.specs.GroupTexts.{GroupsKept, GroupsState, after_head, first_kept, halts_at, printed_head}
use Rattle.vms_groups.specs.GroupTexts.{refuses_head}
use Rattle.vms_groups.specs.Common.{shown_by_groups, phase_lines, IsPhaseFrom, PastGroupPhase}
use Rattle.vms_groups.specs.GroupTexts.GroupsState.{Heading}
use Rattle.vms_groups.specs.Laws.{TextsLeadOn}
use Rattle.vms_groups.specs.MadePhases.{AreAllOfBody, AreFirstOfBody, ArePhasesOf, phase_then}
use Rattle.vms_groups.proofs.LedBodies.{AreKept, Finishes, Front, Front-if, Front-more, Front-stopped, Leaves-lines, at}
use Rattle.vms_groups.proofs.LedBodies.{open-none, open-some, phased}

-- what stands after an element
rest-after : (k : ℕ) (all : List (List ℕ)) (line : List ℕ) (lines : List (List ℕ)) → drop k all ≡ line ∷ lines
    → drop (suc k) all ≡ lines
rest-after zero [] line lines is = absurd cc
rest-after zero (first ∷ all) line lines is = cc
rest-after (suc k) [] line lines is = absurd cc
rest-after (suc k) (first ∷ all) line lines is = rest-after k all line lines is

-- first phases of a body, which are all where the command finishes
abbrev Lead : Type 0 → List (List GroupItem) → GroupHeader → List PastGroupPhase → Type 0
Lead P lines header made = Front header.tree (first_group_world header.tree) P lines made

Lead-if : (P Q : Type 0) (found : Result (GroupHeader × ℕ) GroupFault) (lines : List (List ℕ))
    (made : List PastGroupPhase) → (Q → P) → ArePhasesOf (Lead P) found lines made
    → ArePhasesOf (Lead Q) found lines made
Lead-if P Q (Err fault) lines made so none = none
Lead-if P Q (Ok (header, count)) lines made so front =
    Front-if header.tree (first_group_world header.tree) P Q
    (phase_lines header (suc count) [] [] (drop count lines)) made so front

-- no outcomes are left after the last line, or those of a phase that ends there
module _ (kept_laws : AreKept) (header : GroupHeader) (n : ℕ) (kept : GroupsKept) (waits : List (Text PastGroupPhase))
    (phases : List PastGroupPhase) where
  Front-used : phases ≡ [] → Front header.tree kept.world ⊥ (phase_then kept.items []) phases
  Front-used none =
      Front-stopped header.tree kept.world ⊥ (phase_then kept.items []) phases none (λ never. absurd never)

  abbrev IsClosed : List PastGroupPhase → Type 0
  IsClosed left = shown_on phased shown_by_groups (On (at n header kept waits) left)

  abbrev ClosedBy : Bool → List PastGroupPhase → Type 0
  ClosedBy now_open left = shown_with {S = Waiting GroupsState PastGroupPhase} {O = PastGroupPhase} shown_by_groups
      (at n header kept waits) (supply now_open left)

  Front-closed : UsedAtEnd phased (at n header kept waits) phases
      → Front header.tree kept.world (IsClosed phases) (phase_then kept.items []) phases
  Front-closed leads = by (has_some kept.items) refl phases leads
    where
      by : (now_open : Bool) → now_open ≡ has_some kept.items → (left : List PastGroupPhase)
          → leads_on now_open left (IsPhaseFrom header.tree kept.world kept.items) (λ given rest. rest ≡ [])
          → Front header.tree kept.world (ClosedBy now_open left) (phase_then kept.items []) left
      by false same left none =
          Front-stopped header.tree kept.world (ClosedBy false left) (phase_then kept.items []) left none
          (λ closed. ap (λ (ls : List (List GroupItem)). length ls) (open-none kept.items [] same))
      by true same [] none =
          Front-stopped header.tree kept.world (ClosedBy true []) (phase_then kept.items []) [] refl
          (λ closed. absurd closed)
      by true same (phase ∷ left) (from, none) =
          subst (λ (ls : List (List GroupItem)). Front header.tree kept.world (ClosedBy true (phase ∷ left)) ls
          (phase ∷ left)) (sym (open-some kept.items [] same))
          (Front-more kept_laws header.tree kept.world (ClosedBy true (phase ∷ left)) kept.items [] phase left from
          (Front-stopped header.tree (left_group_world header.tree kept.world phase.items phase.events)
          (ClosedBy true (phase ∷ left)) [] left none (λ closed. refl)))

-- from the header on
module _ (kept_laws : AreKept) (all : List (List ℕ)) (outcomes : List PastGroupPhase)
    (asked : Waiting GroupsState PastGroupPhase → List PastGroupPhase → Type 0)
    (Closed : Way (Waiting GroupsState PastGroupPhase) PastGroupPhase → Type 0) (short : Closed Short → ⊥)
    (in_head : (n : ℕ) (stage : GroupStage) (waits : List (Text PastGroupPhase)) (phases : List PastGroupPhase)
    → asked (record { state = Heading n stage; waits = waits }) phases → phases ≡ [])
    (at_end : (header : GroupHeader) (n : ℕ) (kept : GroupsKept) (waits : List (Text PastGroupPhase))
    (phases : List PastGroupPhase) → asked (at n header kept waits) phases
    → Front header.tree kept.world (Closed (On (at n header kept waits) phases)) (phase_then kept.items []) phases)
  where
    abbrev heading : ℕ → GroupStage → List (Text PastGroupPhase) → Waiting GroupsState PastGroupPhase
    heading n stage waits = record { state = Heading n stage; waits = waits }

    abbrev goes : Behavior (Way (Waiting GroupsState PastGroupPhase) PastGroupPhase)
    goes = with_outcomes phased outcomes

    stopped : (P : Type 0) (found : Result (GroupHeader × ℕ) GroupFault) (phases : List PastGroupPhase) → phases ≡ []
        → (P → ⊥) → ArePhasesOf (Lead P) found all phases
    stopped P (Err fault) phases none never = none
    stopped P (Ok (header, count)) phases none never =
        Front-stopped header.tree (first_group_world header.tree) P
        (phase_lines header (suc count) [] [] (drop count all)) phases none (λ it. absurd (never it))

    -- no phase ends in the header
    never : (h : Option Status) → unless_stopped h false ≡ false
    never None = refl
    never (Some halt) = refl

    module _ (line : List ℕ) (lines : List (List ℕ)) (k : ℕ) (stage : GroupStage) (waits : List (Text PastGroupPhase))
        (phases : List PastGroupPhase) where
      abbrev s : Waiting GroupsState PastGroupPhase
      s = heading (suc k) stage waits

      abbrev next : Result HeadStep GroupCause → Waiting GroupsState PastGroupPhase
      next read = record {
        state = after_head (suc k) stage read;
        waits = waits_after waits (Plain (printed_head (suc k) read)) None;
      }

      abbrev FinishesPast : Option Status → Result HeadStep GroupCause → Type 0
      FinishesPast h read = (first_halt h (halted goes (On (next read) phases) lines) ≡ None)
          × Closed (state_after goes (On (next read) phases) lines)

      abbrev FinishesBy : Bool → Type 0
      FinishesBy ends =
          (first_halt (halt_at phased s line (supply ends phases))
          (halted goes (way_after phased s line (supply ends phases)) lines) ≡ None)
          × Closed (state_after goes (way_after phased s line (supply ends phases)) lines)

      FinishesPast-head : Finishes outcomes Closed (On s phases) (line ∷ lines)
          → FinishesPast (halts_at (Heading (suc k) stage) line) (group_head_line stage line)
      FinishesPast-head finishes = subst FinishesBy (never (halts_at (Heading (suc k) stage) line)) finishes

      abbrev LeadsBy : Bool → Type 0
      LeadsBy ends = leads_on ends phases (λ outcome. ⊥)
          (λ given left. none_after (halts_at (Heading (suc k) stage) line) left
          (OutcomesLeadThrough phased asked (phased.next s line given) left lines))

      leads-head : OutcomesLeadThrough phased asked s phases (line ∷ lines)
          → none_after (halts_at (Heading (suc k) stage) line) phases
          (OutcomesLeadThrough phased asked (next (group_head_line stage line)) phases lines)
      leads-head leads = subst LeadsBy (never (halts_at (Heading (suc k) stage) line)) leads

      past-head : ((stage' : GroupStage) (waits' : List (Text PastGroupPhase))
          → OutcomesLeadThrough phased asked (heading (suc (suc k)) stage' waits') phases lines
          → ArePhasesOf (Lead (Finishes outcomes Closed (On (heading (suc (suc k)) stage' waits') phases) lines))
          (group_header_from (suc (suc k)) stage' lines) all phases)
          → drop (suc k) all ≡ lines → (over : Bool) (read : Result HeadStep GroupCause)
          → none_after (if over then Some TooLong else refuses_head read) phases
          (OutcomesLeadThrough phased asked (next read) phases lines)
          → ArePhasesOf (Lead (FinishesPast (if over then Some TooLong else refuses_head read) read))
          (on_group_step (suc k) read (λ stage'. group_header_from (suc (suc k)) stage' lines)) all phases
      past-head rec rest true read none =
          stopped (FinishesPast (Some TooLong) read)
          (on_group_step (suc k) read (λ stage'. group_header_from (suc (suc k)) stage' lines)) phases none
          (λ finishes. let no : Some TooLong ≡ None = finishes.0 in absurd cc)
      past-head rec rest false (Err cause) none = none
      past-head rec rest false (Ok (Goes stage')) leads = rec stage' _ leads
      past-head rec rest false (Ok (Ends header)) leads =
          subst (λ (body : List (List ℕ)). Lead (FinishesPast None (Ok (Ends header)))
          (phase_lines header (suc (suc k)) [] [] body) header phases) (sym rest)
          (Leaves-lines kept_laws header outcomes asked Closed short (at_end header) lines
          (suc (suc k)) (first_kept header) _ phases leads)

    led-from : (lines : List (List ℕ)) (k : ℕ) (stage : GroupStage) (waits : List (Text PastGroupPhase))
        (phases : List PastGroupPhase) → drop k all ≡ lines
        → OutcomesLeadThrough phased asked (heading (suc k) stage waits) phases lines
        → ArePhasesOf (Lead (Finishes outcomes Closed (On (heading (suc k) stage waits) phases) lines))
        (group_header_from (suc k) stage lines) all phases
    led-from [] k stage waits phases rest leads = in_head (suc k) stage waits phases leads
    led-from (line ∷ lines) k stage waits phases rest leads =
        Lead-if (FinishesPast line lines k stage waits phases (halts_at (Heading (suc k) stage) line)
        (group_head_line stage line))
        (Finishes outcomes Closed (On (heading (suc k) stage waits) phases) (line ∷ lines))
        (group_header_from (suc k) stage (line ∷ lines)) all phases
        (FinishesPast-head line lines k stage waits phases)
        (past-head line lines k stage waits phases
        (λ stage' waits' on. led-from lines (suc k) stage' waits' phases (rest-after k all line lines rest) on)
        (rest-after k all line lines rest) (nat_lt most_lines (suc k)) (group_head_line stage line)
        (leads-head line lines k stage waits phases leads))

    pub led-texts : (phases : List PastGroupPhase) → OutcomesLeadThrough phased asked phased.start phases all
        → ArePhasesOf (Lead (Finishes outcomes Closed (On phased.start phases) all)) (read_group_header all) all phases
    led-texts phases leads = led-from all 0 Opening [] phases refl leads

-- what is led so are the first phases, or all of them
first-led : (P : Type 0) (found : Result (GroupHeader × ℕ) GroupFault) (lines : List (List ℕ))
    (made : List PastGroupPhase) → ArePhasesOf (Lead P) found lines made
    → ArePhasesOf AreFirstOfBody found lines made
first-led P (Err fault) lines made none = none
first-led P (Ok (header, count)) lines made front = front.leads

whole-led : (P : Type 0) → P → (found : Result (GroupHeader × ℕ) GroupFault) (lines : List (List ℕ))
    (made : List PastGroupPhase) → ArePhasesOf (Lead P) found lines made
    → ArePhasesOf AreAllOfBody found lines made
whole-led P finishes (Err fault) lines made none = none
whole-led P finishes (Ok (header, count)) lines made front = (front.leads, front.all finishes)

pub TextsLeadOn-holds : AreKept → TextsLeadOn
TextsLeadOn-holds kept_laws = record {
  lines = λ made lines leads. first-led _ (read_group_header lines) lines made
      (led-texts kept_laws lines made AllUsed (λ way. ⊥) (λ never. never) (λ n stage waits phases none. none)
      (λ header n kept waits phases none. Front-used kept_laws header n kept waits phases none) made leads);
  to_end = λ made lines leads. first-led (Finishes made (shown_on phased shown_by_groups) (On phased.start made) lines)
      (read_group_header lines) lines made (closed made lines leads);
  whole = λ made lines leads none shown.
      whole-led (Finishes made (shown_on phased shown_by_groups) (On phased.start made) lines) (none, shown)
      (read_group_header lines) lines made (closed made lines leads);
}
  where
    closed : (made : List PastGroupPhase) (lines : List (List ℕ)) → OutcomesLeadToEnd phased phased.start made lines
        → ArePhasesOf (Lead (Finishes made (shown_on phased shown_by_groups) (On phased.start made) lines))
        (read_group_header lines) lines made
    closed made lines leads =
        led-texts kept_laws lines made (UsedAtEnd phased) (shown_on phased shown_by_groups) (λ never. never)
        (λ n stage waits phases none. none)
        (λ header n kept waits phases used. Front-closed kept_laws header n kept waits phases used) made leads
