-- For other crates too: what each CPU spends on page counters in a phase is the volume of its lines.
use Rattle.std.proofs.Common.{◌≡◌, ℕ, false, List, [], nat_eq, pos, ◌+ℤ◌, map, unsigned_abs, Option, Some, None, refl}
use Rattle.std.proofs.Common.{sym, ap, ◌∙◌, arith, if◌then◌else◌}
use Rattle.std.proofs.lemmas.Int.{ints}
use Rattle.vms_world.specs.Common.{Header, CpuId, ZoneSize, IsLayout, after, total, owner_in, State, Step, Put, pages}
use Rattle.vms_world.specs.Common.{is_owner, change_size, facts_of, line_of, spent_on_counter, volume, Act, Item, Lane}
use Rattle.vms_world.specs.Common.{Cpu, PageSteps, HasLanes, MakesLines, acts_of, is_among}
use Rattle.vms_history.proofs.Common.{if-either}
use Rattle.vms_core.specs.Pages.{History, IsLegal}
use Rattle.vms_core.specs.Steps.{role}
use Rattle.vms_core.specs.Totals.{spent, spent_by}
use Rattle.vms_world.proofs.PageActs.{act-spends, spent_on_counter-call}
use Rattle.vms_file_order.specs.Common.{StandOnce}
use Rattle.vms_file_order.proofs.ActSums.{pos-if_both, total-acts, volume-acts}
use Rattle.vms_file_order.proofs.OnePass.{spends-lines}

-- a step spends of the CPU of its pass what it changes, and of no other
spent_by-owner : (who : Option CpuId) (c k : ℕ) (step : Step)
    → pos (spent_by who c k step) ≡ (if is_owner who c then change_size k step else pos 0)
spent_by-owner (Some d) c k (Put l w t delta how) =
    pos-if_both (nat_eq d.number c) (nat_eq l.number k) (unsigned_abs delta)
spent_by-owner (Some d) c k _ = sym (if-either (nat_eq d.number c) (pos 0))
spent_by-owner None c k _ = refl

-- what the acts of a CPU's lane change
module _ (header : Header) (is_layout : IsLayout header.layout) (base : State)
    (pressure normal : ZoneSize → ℕ → ℕ → Type 0) (c : CpuId) (k : ℕ) where
  act-size : (p : ℕ) (a : Act) (h : History) (steps : List Step)
      → PageSteps header base pressure normal (Cpu c) p a h steps → (g : History)
      → total (change_size k) (after p steps g) ≡ pos (spent_on_counter k a) +ℤ total (change_size k) g
  act-size p a h steps makes g =
      act-spends header base pressure normal is_layout k (Cpu c) p a h steps makes g
      ∙ ap (λ n. pos n +ℤ total (change_size k) g) (sym (spent_on_counter-call c k a))

  pub pages-spend_lines : (ls : List Lane) → StandOnce ls → (items : List Item)
      → (is_among (Cpu c) ls ≡ false → acts_of (Cpu c) items ≡ []) → (h : History)
      → IsLegal (facts_of header base) h → HasLanes role ls h
      → MakesLines (PageSteps header base pressure normal) ls items h
      → spent h c.number k ≡ volume (spent_on_counter k) c.number (map line_of items)
  pages-spend_lines ls once items no_other h legal lanes lines =
      let spends = spends-lines pages (facts_of header base) c (λ g. pos (spent g c.number k)) (total (change_size k))
      (λ e g. change_size k e.step) refl refl
      (λ e g. omega (arith, ints, spent_by-owner (owner_in role g e.caller) c.number k e.step))
      (λ e g. refl) h legal ls once items no_other lanes (PageSteps header base pressure normal) lines in
      let made = total-acts (PageSteps header base pressure normal (Cpu c) spends.pass) spends.pass
      (total (change_size k)) refl (spent_on_counter k) (act-size spends.pass) (acts_of (Cpu c) items) h spends.made in
      omega (arith, ints, spends.spends, made, volume-acts (spent_on_counter k) c items)
