-- For other crates too: CPUs are in the states that the lines say, after a phase and while it is open.
use Rattle.std.proofs.Common.{◌≡◌, ℕ, Bool, true, false, List, length, map, inl, inr, ◌⊎◌, refl, sym, ap, ◌∙◌, arith}
use Rattle.std.specs.Prelude.{All}
use Rattle.std.specs.List.{Contains}
use Rattle.vms_world.specs.Common.{Header, CpuId, CpuState, Absent, ZoneSize, is_online, IsCpu, cpu_at, cpu_in, HasWon}
use Rattle.vms_world.specs.Common.{IsLineOf, Start, start_at_end, line_of, Act, Item, Lane, Control, PageSteps}
use Rattle.vms_world.specs.Common.{HasLanes, MakesLines, acts_of, is_among, lanes_of, TableHistories, left_by}
use Rattle.vms_world.specs.Common.{page_facts}
use Rattle.vms_base.specs.declared.kinds.CpuState.TheVariants.{Online as IsOnline, Dead as IsDead}
use Rattle.vms_core.specs.Pages.{History, IsLegal, state_after}
use Rattle.vms_core.specs.Steps.{role}
use Rattle.vms_core.proofs.Common.{laws-kept}
use Rattle.vms_text.specs.declared.acts.Act.TheVariants.{Dead}
use Rattle.vms_world.specs.declared.worlds.World.{World}
use Rattle.vms_file_order.specs.Common.{HasStates, StandOnce, MakeInAnyOrder, IsOpenPhase, TableStates, page_passes}
use Rattle.vms_file_order.proofs.AbsentCpus.{GoesAbsent, absent-by_line, cpu_in-absent, cpu_in-either}
use Rattle.vms_file_order.proofs.AbsentCpus.{line-makes_absent}
use Rattle.vms_file_order.proofs.BuriedCpus.{control-among}
use Rattle.vms_file_order.proofs.BuryingLines.{state-buried, state-by_lines}
use Rattle.vms_file_order.proofs.FollowedLines.{HasLanes-followed, MakesActs-followed, acts_of-followed}

pub is_online-state : (x : CpuState) → is_online x ≡ true → x ≡ IsOnline
is_online-state IsOnline is = refl
is_online-state IsDead is = absurd cc
is_online-state Absent is = absurd cc

module _ (pressure normal : ZoneSize → ℕ → ℕ → Type 0) (header : Header) (w : World) (start : Start)
    (before : HasStates header start w) (items : List Item)
    (known : All (λ item. IsLineOf header (line_of item)) items) where
  -- in a legal history in which the passes of these lanes make these lines
  module _ (lanes : List Lane) (h : History) (legal : IsLegal (page_facts header w) h) (has : HasLanes role lanes h)
      (lines : MakesLines (PageSteps header w.pages pressure normal) lanes items h)
      (among : (a : Act) → Contains (acts_of Control items) a → is_among Control lanes ≡ true) where
    cpu_in-lines : (c : CpuId) → IsCpu header.layout c.number
        → cpu_in (page_facts header w) c.number h ≡ (start_at_end start (map line_of items)).state c.number
    cpu_in-lines c c_in = by (state-by_lines header c start items known)
        (cpu_in-either (page_facts header w) c.number h)
      where
        gone : GoesAbsent c.number h → Contains (acts_of Control items) (Dead c)
            → cpu_in (page_facts header w) c.number h ≡ (start_at_end start (map line_of items)).state c.number
        gone goes buries = cpu_in-absent (page_facts header w) c.number h goes
            ∙ sym (state-buried header c start items known buries)

        by : ((start_at_end start (map line_of items)).state c.number ≡ start.state c.number)
            ⊎ Contains (acts_of Control items) (Dead c)
            → (cpu_in (page_facts header w) c.number h ≡ cpu_at w.pages c.number) ⊎ GoesAbsent c.number h
            → cpu_in (page_facts header w) c.number h ≡ (start_at_end start (map line_of items)).state c.number
        by (inl same) (inl stays) = stays ∙ before c.number c_in ∙ sym same
        by (inl same) (inr goes) =
            gone goes (absent-by_line pressure normal header w lanes items h legal has lines c goes)
        by (inr buries) either = gone (line-makes_absent pressure normal header w lanes items h legal has lines
            (among (Dead c) buries) c buries) buries

    pub cpu_at-lines : (c : ℕ) → IsCpu header.layout c
        → cpu_at (state_after (page_facts header w) h) c ≡ (start_at_end start (map line_of items)).state c
    cpu_at-lines c c_in = (laws-kept (page_facts header w) h legal).told_cpus c c_in
        ∙ cpu_in-lines (record { number = c }) c_in

  pub HasStates-made : (hs : TableHistories) → MakeInAnyOrder header pressure normal w items hs
      → HasStates header (start_at_end start (map line_of items)) (left_by header w items hs)
  HasStates-made hs phase = cpu_at-lines (lanes_of header.layout items) hs.pages phase.complete.pages.legal
      phase.page_lanes phase.page_lines (control-among header items)

  module _ (lanes : List Lane) (once : StandOnce lanes) (hs : TableHistories) (now : TableStates)
      (opened : IsOpenPhase header pressure normal w lanes items hs now) where
    control-opened : (a : Act) → Contains (acts_of Control items) a → is_among Control lanes ≡ true
    control-opened a (k, within, is) = by (is_among Control lanes) refl
      where
        by : (b : Bool) → is_among Control lanes ≡ b → is_among Control lanes ≡ true
        by true among = among
        by false apart =
            let empty : length (acts_of Control items) ≡ 0 = ap length
            (acts_of-followed page_passes (PageSteps header w.pages pressure normal) HasWon lanes items hs.pages
            opened.page_lines Control apart) in
            absurd (omega (arith, within, empty))

    pub cpu_at-opened : (c : ℕ) → IsCpu header.layout c
        → cpu_at now.pages c ≡ (start_at_end start (map line_of items)).state c
    cpu_at-opened c c_in = ap (λ s. cpu_at s c) (sym opened.pages.state)
        ∙ cpu_at-lines lanes hs.pages opened.pages.legal
        (HasLanes-followed page_passes (PageSteps header w.pages pressure normal) HasWon lanes once items hs.pages
        opened.page_lines)
        (MakesActs-followed page_passes (PageSteps header w.pages pressure normal) HasWon lanes once items hs.pages
        opened.page_lines) control-opened c c_in
