-- For other crates too: a phase moves the total of each percpu counter by what its lines add, by their answers.
use Rattle.std.proofs.Common.{◌≡◌, ◌≢◌, ℕ, suc, ℤ, pos, ◌+ℤ◌, List, [], ◌∷◌, length, map, None, refl, sym, ap, subst}
use Rattle.std.proofs.Common.{◌∙◌, arith}
use Rattle.std.specs.List.Sorted.{IsStrictlyIncreasing}
use Rattle.std.proofs.lemmas.Int.{ints}
use Rattle.vms_world.specs.Common.{Header, after, own, Works, PcpuFacts, PcpuStep, AddL, AddC, percpu, numbers_after}
use Rattle.vms_world.specs.Common.{IsIdle, as_is, own_added, pcpu_added, IsPcpu, count_at, amount_of, amounts, locals}
use Rattle.vms_world.specs.Common.{Act, Item, Lane, Cpu, Control, PcpuSteps, HasLanes, MakesActs, MakesLines, acts_of}
use Rattle.vms_world.specs.Common.{lane_at, lanes_of, act as one_act, TableHistories, pcpu_facts}
use Rattle.vms_history.proofs.Common.{sum_below-same}
use Rattle.vms_pcpu_core.specs.declared.pcpu_calls.PcpuCall.TheVariants.{FoldDead}
use Rattle.vms_pcpu_core.specs.Endings.{IsComplete}
use Rattle.vms_pcpu_core.specs.Histories.{History, IsLegal}
use Rattle.vms_pcpu_core.specs.Own.{carried}
use Rattle.vms_pcpu_core.specs.Steps.{role}
use Rattle.vms_pcpu_core.proofs.Common.{totals-hold, AddsByCaller-holds, adds-call, amounts-after, idle-after}
use Rattle.vms_text.specs.declared.acts.Act.TheVariants.{Dead}
use Rattle.vms_world.specs.declared.worlds.World.{World}
use Rattle.vms_world.specs.Lanes.MakesActs.{none as no_act}
use Rattle.vms_file_order.specs.Common.{pass_of, pcpu_makes}
use Rattle.vms_file_order.proofs.Common.{StandOnce-lanes, pass_of-lane_at}
use Rattle.vms_answers.specs.Common.{NumberedAnswer, answers_of, steps_of}
use Rattle.vms_total_laws.specs.Common.{AreLinesOf, amount_added, adds_by, answer_at}
use Rattle.vms_total_laws.proofs.AddedLines.{added-by_pass, worth-lines, worth_at, worth_by, worth_of_lane}
use Rattle.vms_total_laws.proofs.PassSums.{all-passes}

module _ (header : Header) (w : World) (j : ℕ) where
  abbrev facts : PcpuFacts
  facts = pcpu_facts header w

  -- a step that begins or ends a pass adds nothing
  quiet-none : (carrying : ℤ) (step : PcpuStep) → role step ≢ Works → amount_of j carrying step ≡ pos 0
  quiet-none carrying (AddL i a) quiet = absurd (quiet refl)
  quiet-none carrying (AddC i a) quiet = absurd (quiet refl)
  quiet-none carrying _ quiet = refl

  -- nor does an act of the control lane
  control-act : (a : Act) (steps : List PcpuStep) → PcpuSteps facts Control a steps → (p : ℕ) (g : History)
      → IsIdle g → IsIdle (after p steps g) × (own_added as_is j (after p steps g) ≡ own_added as_is j g +ℤ pos 0)
  control-act (Dead c) steps (answer, makes) p g idle =
      let none = pcpu_added (FoldDead c) answer in
      let adds = adds-call facts None (FoldDead c) steps answer makes in
      (idle-after none p steps adds g idle, amounts-after none p steps adds g idle j)
  control-act _ steps makes p g idle = (
    subst (λ ks. IsIdle (after p ks g)) (sym makes) idle,
    omega (arith, ints, ap (λ ks. own_added as_is j (after p ks g)) makes),
  )

  control-made : (p : ℕ) (acts : List Act) (h : History) → MakesActs (pcpu_makes facts Control p) p acts h
      → IsIdle (own h p) × (own_added as_is j (own h p) ≡ pos 0)
  control-made p acts h (no_act h' nothing) = (
    subst IsIdle (sym nothing) (record { no_lock = λ i. refl; nothing_carried = λ i. refl }),
    ap (own_added as_is j) nothing,
  )
  control-made p acts h (one_act before next h' more steps made making own_is) =
      let was = control-made p before h' made in
      let now = control-act next steps making p (own h' p) was.0 in (
        subst IsIdle (sym own_is) now.0,
        omega (arith, ints, ap (own_added as_is j) own_is, now.1, was.1),
      )

  -- what lines add is worth as it is
  adds-worth : (answers : List NumberedAnswer) (items : List Item)
      → worth_by header w j (λ lane. as_is) answers items ≡ adds_by j answers items
  adds-worth answers [] = refl
  adds-worth answers (item ∷ items) =
      ap (λ z. amount_added j item.act (answer_at item.number answers) +ℤ z) (adds-worth answers items)

  -- the amounts of a legal history of these lines are what they add by their answers
  pub amounts-lines : (items : List Item) → AreLinesOf header items
      → IsStrictlyIncreasing (map (λ item. item.number) items) → (hs : TableHistories)
      → IsLegal facts hs.counters → HasLanes role (lanes_of header.layout items) hs.counters
      → MakesLines (pcpu_makes facts) (lanes_of header.layout items) items hs.counters
      → amounts j hs.counters ≡ adds_by j (answers_of header w items hs) items
  amounts-lines items known ascend hs legal lanes_are lines =
      let h = hs.counters in
      let lanes = lanes_of header.layout items in
      let once = StandOnce-lanes header.layout items in
      all-passes percpu facts (own_added as_is j) (λ e g. amount_of j (carried j g) e.step) refl (λ e g. refl)
      (λ e g quiet. quiet-none (carried j g) e.step quiet) h legal (amounts j h) (AddsByCaller-holds facts h legal j)
      lanes once lanes_are
      ∙ sum_below-same (λ n. own_added as_is j (own h (suc n)))
      (worth_at header w j (λ lane. as_is) lanes items (steps_of lanes hs)) (length lanes)
      (λ n below. by lanes n (lane_at lanes n) (lines n below) (pass_of-lane_at lanes n once below).number)
      ∙ sym (worth-lines header w j (λ lane. as_is) (λ lane. refl) items known ascend hs)
      ∙ adds-worth (answers_of header w items hs) items
    where
      by : (ls : List Lane) (n : ℕ) (lane : Lane)
          → MakesActs (pcpu_makes facts lane (suc n)) (suc n) (acts_of lane items) hs.counters
          → pass_of ls lane ≡ suc n
          → own_added as_is j (own hs.counters (suc n))
          ≡ worth_of_lane header w j (λ lane. as_is) lane (acts_of lane items) (steps_of ls hs lane)
      by ls n (Cpu c) made number = added-by_pass header w j as_is refl amounts-after ls n c items hs made number
      by ls n Control made number = (control-made (suc n) (acts_of Control items) hs.counters made).1

  pub counters-add_lines : (items : List Item) → AreLinesOf header items
      → IsStrictlyIncreasing (map (λ item. item.number) items) → (hs : TableHistories)
      → IsComplete facts hs.counters → HasLanes role (lanes_of header.layout items) hs.counters
      → MakesLines (pcpu_makes facts) (lanes_of header.layout items) items hs.counters → IsPcpu facts j
      → count_at (numbers_after facts hs.counters) j +ℤ locals header.layout (numbers_after facts hs.counters) j
      ≡ (count_at w.counters j +ℤ locals header.layout w.counters j)
      +ℤ adds_by j (answers_of header w items hs) items
  counters-add_lines items known ascend hs complete lanes lines j_in = omega (
    arith,
    ints,
    (totals-hold facts hs.counters j complete j_in).numbers,
    amounts-lines items known ascend hs complete.legal lanes lines,
  )
