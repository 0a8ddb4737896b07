-- Outcomes that lead through the lines of a body are its phases.
use Rattle.std.proofs.Common.{◌≡◌, ℕ, suc, Bool, true, false, List, [], ◌∷◌, length, refl, sym, ap, subst, Option, Some}
use Rattle.std.proofs.Common.{None, Ok, Err}
use Rattle.std.specs.Prelude.{Result}
use Rattle.vms_history.specs.Common.{Extends}
use Rattle.vms_group_core.specs.declared.trees.Tree.{Tree}
use Rattle.vms_group_core.specs.Common.{History, KeepsLaws}
use Rattle.vms_group_core.specs.declared.steps.GroupFacts.{GroupFacts}
use Rattle.vms_group_lines.specs.declared.causes.GroupCause.{GroupCause}
use Rattle.vms_group_lines.specs.declared.headers.GroupHeader.{GroupHeader}
use Rattle.vms_group_lines.specs.declared.lines.GroupLine.{GroupLine}
use Rattle.vms_group_lines.specs.declared.lines.GroupLine.TheVariants.{Blank, Lane, Sync, Report}
use Rattle.vms_group_lines.specs.Common.{judged_group, with_group_line}
use Rattle.vms_group_phase.specs.declared.items.GroupItem.{GroupItem}
use Rattle.vms_group_phase.specs.declared.worlds.GroupWorld.{GroupWorld}
use Rattle.vms_group_phase.specs.Common.{IsGroupPhase, group_facts, has_some, left_group_world}
use Rattle.vms_stream.specs.Common.{OutcomesLeadThrough, leads_on, none_after, PhasedBehavior, OutcomeSupply, Way}
use Rattle.vms_stream.specs.Common.{halt_at, supply, way_after, with_outcomes, Gives, Lacks, On, Short, Text, Waiting}
use Rattle.vms_stream.specs.Common.{unless_stopped, waiting, waits_after, Behavior, first_halt, halted, state_after}
use Rattle.vms_stream.specs.declared.statuses.Status.{Status}
use Rattle.vms_groups.specs.GroupTexts.{GroupsKept, GroupsState, ends_judged, halts_at, judged_text, next_kept}
use Rattle.vms_groups.specs.GroupTexts.{with_line, with_phase}
use Rattle.vms_groups.specs.Common.{groups_texts, IsLawfulPhase, PhasesLeadFrom, phase_lines, IsPhaseFrom}
use Rattle.vms_groups.specs.Common.{PastGroupPhase}
use Rattle.vms_groups.specs.GroupTexts.GroupsState.{Body}
use Rattle.vms_groups.specs.MadePhases.{phase_then, phases_with}

-- at every moment of a phase all laws hold
abbrev pub AreKept : Type 0
AreKept = (tree : Tree) (w : GroupWorld) (items : List GroupItem) (h moment : History) → IsGroupPhase tree w items h
    → Extends h moment → KeepsLaws (group_facts tree w) moment

pub IsLawfulPhase-from : AreKept → (tree : Tree) (w : GroupWorld) (items : List GroupItem) (phase : PastGroupPhase)
    → IsPhaseFrom tree w items phase → IsLawfulPhase tree w items phase
IsLawfulPhase-from kept tree w items phase from = record {
  from = from;
  laws = λ moment extends. subst (λ (facts : GroupFacts). KeepsLaws facts moment) (sym from.told)
      (kept tree w items phase.events moment from.is extends);
}

-- these are the first phases of those with these lines. Where the command finishes, they are all
pub record Front (tree : Tree) (w : GroupWorld) (Finishes : Type 0) (lines : List (List GroupItem))
    (made : List PastGroupPhase) : Type 0 where
  pub leads : PhasesLeadFrom tree w lines made
  pub all : Finishes → length made ≡ length lines

pub Front-if : (tree : Tree) (w : GroupWorld) (Finishes Ends : Type 0) (lines : List (List GroupItem))
    (made : List PastGroupPhase) → (Ends → Finishes) → Front tree w Finishes lines made → Front tree w Ends lines made
Front-if tree w Finishes Ends lines made so front = record { leads = front.leads; all = λ ends. front.all (so ends) }

-- no phase is made any more
pub Front-stopped : (tree : Tree) (w : GroupWorld) (Finishes : Type 0) (lines : List (List GroupItem))
    (made : List PastGroupPhase) → made ≡ [] → (Finishes → length {A = List GroupItem} lines ≡ 0)
    → Front tree w Finishes lines made
Front-stopped tree w Finishes lines made none all =
    subst (λ (ps : List PastGroupPhase). Front tree w Finishes lines ps) (sym none)
    (record { leads = tt; all = λ finishes. sym (all finishes) })

-- one phase more
pub Front-more : AreKept → (tree : Tree) (w : GroupWorld) (Finishes : Type 0) (items : List GroupItem)
    (lines : List (List GroupItem)) (phase : PastGroupPhase) (made : List PastGroupPhase)
    → IsPhaseFrom tree w items phase
    → Front tree (left_group_world tree w phase.items phase.events) Finishes lines made
    → Front tree w Finishes (items ∷ lines) (phase ∷ made)
Front-more kept tree w Finishes items lines phase made from later = record {
  leads = (IsLawfulPhase-from kept tree w items phase from, later.leads);
  all = λ finishes. ap suc (later.all finishes);
}

abbrev pub phased : PhasedBehavior (Waiting GroupsState PastGroupPhase) PastGroupPhase
phased = waiting groups_texts

abbrev pub at : ℕ → GroupHeader → GroupsKept → List (Text PastGroupPhase) → Waiting GroupsState PastGroupPhase
at n header kept waits = record { state = Body n header kept; waits = waits }

-- a way goes through lines that don't stop the command, and ends as asked
abbrev pub Finishes : List PastGroupPhase → (Way (Waiting GroupsState PastGroupPhase) PastGroupPhase → Type 0)
    → Way (Waiting GroupsState PastGroupPhase) PastGroupPhase → List (List ℕ) → Type 0
Finishes outcomes Ends way lines = (halted (with_outcomes phased outcomes) way lines ≡ None)
    × Ends (state_after (with_outcomes phased outcomes) way lines)

pub open-some : (items : List GroupItem) (later : List (List GroupItem)) → true ≡ has_some items
    → phase_then items later ≡ items ∷ later
open-some [] later same = absurd cc
open-some (item ∷ items) later same = refl

pub open-none : (items : List GroupItem) (later : List (List GroupItem)) → false ≡ has_some items
    → phase_then items later ≡ later
open-none [] later same = refl
open-none (item ∷ items) later same = absurd cc

-- how outcomes end that lead through lines
module _ (kept_laws : AreKept) (header : GroupHeader) (outcomes : List PastGroupPhase)
    (asked : Waiting GroupsState PastGroupPhase → List PastGroupPhase → Type 0)
    (Ends : Way (Waiting GroupsState PastGroupPhase) PastGroupPhase → Type 0) (short : Ends Short → ⊥)
    (at_end : (n : ℕ) (kept : GroupsKept) (waits : List (Text PastGroupPhase)) (phases : List PastGroupPhase)
    → asked (at n header kept waits) phases
    → Front header.tree kept.world (Ends (On (at n header kept waits) phases)) (phase_then kept.items []) phases) where
  abbrev goes : Behavior (Way (Waiting GroupsState PastGroupPhase) PastGroupPhase)
  goes = with_outcomes phased outcomes

  short-stays : (lines : List (List ℕ)) → state_after goes Short lines ≡ Short
  short-stays [] = refl
  short-stays (line ∷ lines) = short-stays lines

  no-short : (lines : List (List ℕ)) → Ends (state_after goes Short lines) → ⊥
  no-short lines ends = short (subst Ends (short-stays lines) ends)

  -- what is to be shown of lines, of which the first stands before line n
  abbrev Leaves : List (List ℕ) → Type 0
  Leaves texts = (n : ℕ) (kept : GroupsKept) (waits : List (Text PastGroupPhase)) (phases : List PastGroupPhase)
      → OutcomesLeadThrough phased asked (at n header kept waits) phases texts
      → Front header.tree kept.world (Finishes outcomes Ends (On (at n header kept waits) phases) texts)
      (phase_lines header n kept.lines kept.items texts) phases

  module _ (texts : List (List ℕ)) (rec : Leaves texts) (n : ℕ) (kept : GroupsKept)
      (waits : List (Text PastGroupPhase)) where
    -- the state after the line, by what was judged of it, and the way and the halt by what the line gets
    abbrev after : Result GroupLine GroupCause → Option PastGroupPhase → Waiting GroupsState PastGroupPhase
    after j given =
        at (suc n) header (next_kept header n j given kept) (waits_after waits (judged_text header n j kept) given)

    abbrev onward : Result GroupLine GroupCause → OutcomeSupply PastGroupPhase →
        Way (Waiting GroupsState PastGroupPhase) PastGroupPhase
    onward j (Gives given left) = On (after j given) left
    onward j Lacks = Short

    abbrev halt_by : Option Status → OutcomeSupply PastGroupPhase → Option Status
    halt_by h (Gives given left) = h
    halt_by h Lacks = None

    abbrev FinishesPast : Option Status → Result GroupLine GroupCause → OutcomeSupply PastGroupPhase → Type 0
    FinishesPast h j got = (first_halt (halt_by h got) (halted goes (onward j got) texts) ≡ None)
        × Ends (state_after goes (onward j got) texts)

    same-way : (text : List ℕ) (got : OutcomeSupply PastGroupPhase)
        → way_after phased (at n header kept waits) text got ≡ onward (judged_group header kept.lines text) got
    same-way text (Gives given left) = refl
    same-way text Lacks = refl

    same-halt : (text : List ℕ) (got : OutcomeSupply PastGroupPhase)
        → halt_at phased (at n header kept waits) text got ≡ halt_by (halts_at (Body n header kept) text) got
    same-halt text (Gives given left) = refl
    same-halt text Lacks = refl

    pub FinishesPast-line : (text : List ℕ) (phases : List PastGroupPhase)
        → Finishes outcomes Ends (On (at n header kept waits) phases) (text ∷ texts)
        → FinishesPast (halts_at (Body n header kept) text) (judged_group header kept.lines text)
        (supply (unless_stopped (halts_at (Body n header kept) text)
        (ends_judged (has_some kept.items) (judged_group header kept.lines text))) phases)
    FinishesPast-line text phases (none, ends) =
        let h : Option Status = halts_at (Body n header kept) text in
        let j : Result GroupLine GroupCause = judged_group header kept.lines text in
        let got : OutcomeSupply PastGroupPhase =
        supply (unless_stopped h (ends_judged (has_some kept.items) j)) phases in (
          subst (λ (x : Way (Waiting GroupsState PastGroupPhase) PastGroupPhase).
              first_halt (halt_by h got) (halted goes x texts) ≡ None) (same-way text got)
              (subst (λ (x : Option Status). first_halt x
              (halted goes (way_after phased (at n header kept waits) text got) texts) ≡ None)
              (same-halt text got) none),
          subst (λ (x : Way (Waiting GroupsState PastGroupPhase) PastGroupPhase). Ends (state_after goes x texts))
              (same-way text got) ends,
        )

    -- the lines of the phases from this line on
    abbrev lines_from : Result GroupLine GroupCause → List (List GroupItem)
    lines_from j = phases_with n j kept.items
        (λ more. phase_lines header (suc n) (with_group_line j kept.lines) more texts)

    abbrev later : GroupLine → List (List GroupItem)
    later line = phase_lines header (suc n) (line ∷ kept.lines) [] texts

    -- past a boundary line
    module _ (line : GroupLine) (ended : (given : Option PastGroupPhase)
        → next_kept header n (Ok line) given kept ≡ with_line line (with_phase header.tree given kept)) where
      abbrev then_kept : Option PastGroupPhase → GroupsKept
      then_kept given = with_line line (with_phase header.tree given kept)

      abbrev then_at : Option PastGroupPhase → Waiting GroupsState PastGroupPhase
      then_at given =
          at (suc n) header (then_kept given) (waits_after waits (judged_text header n (Ok line) kept) given)

      same-at : (given : Option PastGroupPhase) → after (Ok line) given ≡ then_at given
      same-at given = ap (λ (k : GroupsKept).
          at (suc n) header k (waits_after waits (judged_text header n (Ok line) kept) given)) (ended given)

      abbrev FinishesThen : OutcomeSupply PastGroupPhase → Type 0
      FinishesThen got = FinishesPast None (Ok line) got

      next-front : (given : Option PastGroupPhase) (left : List PastGroupPhase)
          → OutcomesLeadThrough phased asked (after (Ok line) given) left texts
          → Front header.tree (then_kept given).world (FinishesThen (Gives given left)) (later line) left
      next-front given left leads =
          Front-if header.tree (then_kept given).world
          (Finishes outcomes Ends (On (then_at given) left) texts) (FinishesThen (Gives given left)) (later line) left
          (λ finishes. subst (λ (x : Waiting GroupsState PastGroupPhase).
          Finishes outcomes Ends (On x left) texts) (same-at given) finishes)
          (rec (suc n) (then_kept given) (waits_after waits (judged_text header n (Ok line) kept) given) left
          (subst (λ (x : Waiting GroupsState PastGroupPhase). OutcomesLeadThrough phased asked x left texts)
          (same-at given) leads))

      past-boundary : (phases : List PastGroupPhase) (now_open : Bool) → now_open ≡ has_some kept.items
          → leads_on now_open phases (IsPhaseFrom header.tree kept.world kept.items)
          (λ given left. OutcomesLeadThrough phased asked (after (Ok line) given) left texts)
          → Front header.tree kept.world (FinishesThen (supply now_open phases))
          (phase_then kept.items (later line)) phases
      past-boundary phases false same leads =
          subst (λ (ls : List (List GroupItem)). Front header.tree kept.world (FinishesThen (Gives None phases)) ls
          phases) (sym (open-none kept.items (later line) same)) (next-front None phases leads)
      past-boundary [] true same leads =
          Front-stopped header.tree kept.world (FinishesThen Lacks) (phase_then kept.items (later line)) [] refl
          (λ finishes. absurd (no-short texts finishes.1))
      past-boundary (phase ∷ phases) true same leads =
          subst (λ (ls : List (List GroupItem)). Front header.tree kept.world (FinishesThen (Gives (Some phase) phases))
          ls (phase ∷ phases)) (sym (open-some kept.items (later line) same))
          (Front-more kept_laws header.tree kept.world (FinishesThen (Gives (Some phase) phases)) kept.items
          (later line) phase phases leads.0 (next-front (Some phase) phases leads.1))

    -- past any line
    past-line : (phases : List PastGroupPhase) (now_open : Bool) → now_open ≡ has_some kept.items → (h : Option Status)
        (j : Result GroupLine GroupCause)
        → leads_on (unless_stopped h (ends_judged now_open j)) phases (IsPhaseFrom header.tree kept.world kept.items)
        (λ given left. none_after h left (OutcomesLeadThrough phased asked (after j given) left texts))
        → Front header.tree kept.world (FinishesPast h j (supply (unless_stopped h (ends_judged now_open j)) phases))
        (lines_from j) phases
    past-line phases now_open same (Some halt) j leads =
        Front-stopped header.tree kept.world (FinishesPast (Some halt) j (Gives None phases)) (lines_from j) phases
        leads (λ finishes. let none : Some halt ≡ None = finishes.0 in absurd cc)
    past-line phases now_open same None (Ok Blank) leads =
        rec (suc n) kept (waits_after waits (judged_text header n (Ok Blank) kept) None) phases leads
    past-line phases now_open same None (Err cause) leads =
        rec (suc n) (next_kept header n (Err cause) None kept)
        (waits_after waits (judged_text header n (Err cause) kept) None) phases leads
    past-line phases now_open same None (Ok (Lane cpu call)) leads =
        rec (suc n) (next_kept header n (Ok (Lane cpu call)) None kept)
        (waits_after waits (judged_text header n (Ok (Lane cpu call)) kept) None) phases leads
    past-line phases now_open same None (Ok Sync) leads =
        past-boundary Sync (λ given. refl) phases now_open same leads
    past-line phases now_open same None (Ok Report) leads =
        past-boundary Report (λ given. refl) phases now_open same leads

  pub Leaves-lines : (texts : List (List ℕ)) → Leaves texts
  Leaves-lines [] n kept waits phases leads =
      Front-if header.tree kept.world (Ends (On (at n header kept waits) phases))
      (Finishes outcomes Ends (On (at n header kept waits) phases) []) (phase_then kept.items []) phases
      (λ finishes. finishes.1) (at_end n kept waits phases leads)
  Leaves-lines (text ∷ texts) n kept waits phases leads =
      Front-if header.tree kept.world
      (FinishesPast texts (Leaves-lines texts) n kept waits (halts_at (Body n header kept) text)
      (judged_group header kept.lines text) (supply (unless_stopped (halts_at (Body n header kept) text)
      (ends_judged (has_some kept.items) (judged_group header kept.lines text))) phases))
      (Finishes outcomes Ends (On (at n header kept waits) phases) (text ∷ texts))
      (phase_lines header n kept.lines kept.items (text ∷ texts)) phases
      (FinishesPast-line texts (Leaves-lines texts) n kept waits text phases)
      (past-line texts (Leaves-lines texts) n kept waits phases (has_some kept.items) refl
      (halts_at (Body n header kept) text) (judged_group header kept.lines text) leads)
