-- For other crates too: what each CPU spends on events in a phase is the volume of its lines.
use Rattle.std.proofs.Common.{◌≡◌, ℕ, false, nat_eq, pos, ◌+ℤ◌, List, [], map, Option, Some, None, refl, sym, ap, ◌∙◌}
use Rattle.std.proofs.Common.{arith, if◌then◌else◌}
use Rattle.std.proofs.lemmas.Int.{ints}
use Rattle.vms_world.specs.Common.{CpuId, after, total, owner_in, is_owner, EventFacts, EventStep, AddE, events}
use Rattle.vms_world.specs.Common.{counted, line_of, spent_on_event, volume, Act, Item, Lane, Cpu, EventSteps, HasLanes}
use Rattle.vms_world.specs.Common.{MakesLines, acts_of, is_among}
use Rattle.vms_history.proofs.Common.{if-either}
use Rattle.vms_event_core.specs.Events.{History, IsLegal}
use Rattle.vms_event_core.specs.Steps.{role}
use Rattle.vms_event_core.specs.Totals.{spent, spent_by}
use Rattle.vms_world.proofs.Common.{act-counts, spent_on_event-call}
use Rattle.vms_file_order.specs.Common.{StandOnce, event_makes}
use Rattle.vms_file_order.proofs.ActSums.{pos-if_both, total-acts, volume-acts}
use Rattle.vms_file_order.proofs.OnePass.{spends-lines}

spent_by-owner : (who : Option CpuId) (c k : ℕ) (step : EventStep)
    → pos (spent_by who c k step) ≡ (if is_owner who c then counted k step else pos 0)
spent_by-owner (Some d) c k (AddE l n) = pos-if_both (nat_eq d.number c) (nat_eq l.number k) n
spent_by-owner (Some d) c k _ = sym (if-either (nat_eq d.number c) (pos 0))
spent_by-owner None c k _ = refl

module _ (facts : EventFacts) (c : CpuId) (k : ℕ) where
  act-size : (p : ℕ) (a : Act) (h : History) (steps : List EventStep) → EventSteps facts (Cpu c) a steps
      → (g : History) → total (counted k) (after p steps g) ≡ pos (spent_on_event k a) +ℤ total (counted k) g
  act-size p a h steps makes g = act-counts facts k p (Cpu c) a steps makes g
      ∙ ap (λ n. pos n +ℤ total (counted k) g) (sym (spent_on_event-call c k a))

  pub events-spend_lines : (ls : List Lane) → StandOnce ls → (items : List Item)
      → (is_among (Cpu c) ls ≡ false → acts_of (Cpu c) items ≡ []) → (h : History) → IsLegal facts h
      → HasLanes role ls h → MakesLines (event_makes facts) ls items h
      → spent h c.number k ≡ volume (spent_on_event k) c.number (map line_of items)
  events-spend_lines ls once items no_other h legal lanes lines =
      let spends = spends-lines events facts c (λ g. pos (spent g c.number k)) (total (counted k))
      (λ e g. counted k e.step) refl refl
      (λ e g. omega (arith, ints, spent_by-owner (owner_in role g e.caller) c.number k e.step))
      (λ e g. refl) h legal ls once items no_other lanes (event_makes facts) lines in
      let made = total-acts (event_makes facts (Cpu c) spends.pass) spends.pass (total (counted k)) refl
      (spent_on_event k) (act-size spends.pass) (acts_of (Cpu c) items) h spends.made in
      omega (arith, ints, spends.spends, made, volume-acts (spent_on_event k) c items)
