-- A call on percpu counters of a line of a CPU's lane: what leaves room for it, and how the line goes on by it.
use Rattle.std.proofs.Common.{◌≡◌, ℕ, ◌+◌, ◌<◌, ◌^◌, [], length, map, inl, Option, Some, arith, sym, subst}
use Rattle.vms_world.specs.Common.{Header, CpuId, ZoneSize, PcpuAnswer, PcpuCall, Add, LimitedAdd, Compare, Read}
use Rattle.vms_world.specs.Common.{PcpuFacts, IsOwnersCall, LeavesVolume, NamesKnown, line_of, spent_on_pcpu, volume}
use Rattle.vms_world.specs.Common.{Act, Pressure, Normal, Kswapd, Item, Cpu, pcpu_call}
use Rattle.vms_pcpu_core.specs.declared.pcpu_calls.PcpuCall.TheVariants.{Sum, Sync, FoldDead}
use Rattle.vms_pcpu_core.specs.PcpuCalls.{IsWithin}
use Rattle.vms_answers.specs.declared.answers.Answer.{Answer}
use Rattle.vms_answers.specs.Common.{pcpu_told}
use Rattle.vms_file_order.proofs.Common.{fits-call}
use Rattle.vms_plain_lines.specs.Common.{GoesOnIf, PlainStates, SparesPeaks}
use Rattle.vms_plain_pcpu.specs.Common.{HasEachLocal, HasLocals, HasLocalsForCall, HasRoomFor, HasRoomForCall}
use Rattle.vms_text.specs.declared.acts.Act.TheVariants.{Dead}
use Rattle.vms_world.proofs.Common.{IsKnownCall, known-call}
use Rattle.vms_replay_phase.specs.Common.{MakesLine, MayMakeLine}
use Rattle.vms_replay_phase.proofs.MadeLines.{one-lane}

-- such an act sets no thresholds
spares-call : (c : CpuId) (call : PcpuCall) (a : Act) → pcpu_call (Cpu c) a ≡ Some call → SparesPeaks a
spares-call c call (Pressure n) is = absurd cc
spares-call c call (Normal n) is = absurd cc
spares-call c call (Dead d) is = absurd cc
spares-call c call (Kswapd n order most) is = absurd cc
spares-call c call _ is = tt

-- what plain tables ask of a call
pub record LeaveRoomFor (now : PlainStates) (c : CpuId) (call : PcpuCall) : Type 0 where
  pub room : HasRoomForCall now.counters call
  pub locals : HasLocalsForCall now.counters now.opening c call

module _ (header : Header) (c : CpuId) (a : Act) (call : PcpuCall) (is : pcpu_call (Cpu c) a ≡ Some call)
    (now : PlainStates) where
  pub room-for : MayMakeLine header (Cpu c) a now → LeaveRoomFor now c call
  room-for may = record {
    room = by call known.known known.within known.owners (fits-call [] c a call is may.may.1);
    locals = locals_by call;
  }
    where
      each : HasEachLocal now.counters now.opening
      each = record {
        cpus = may.room.locals (length now.opening) (omega (arith, may.room.opening));
        few = omega (arith, may.room.opening, may.room.few);
      }

      own : HasLocals now.counters (c.number + 1)
      own = may.room.locals (c.number + 1) (omega (arith, may.line.0))

      locals_by : (call : PcpuCall) → HasLocalsForCall now.counters now.opening c call
      locals_by (Add j amount) = own
      locals_by (LimitedAdd j limit amount) = (each, may.room.present c (one-lane c))
      locals_by (Compare j rhs) = each
      locals_by (Sum j) = each
      locals_by (Sync j) = own
      locals_by _ = tt

      facts : PcpuFacts
      facts = record { layout = header.layout; cpus = now.opening; base = now.counters }

      known : IsKnownCall facts call
      known = known-call header facts may.room.one_batch_each c a may.line.1 call is

      counter : (j : ℕ) → j < length now.counters.batch → HasRoomFor now.counters j
      counter j within = may.room.counters j (subst (λ n. j < n) may.room.one_batch_each within)

      by : (call : PcpuCall) → NamesKnown facts call → IsWithin (2 ^ 60) call → IsOwnersCall call
          → LeavesVolume (λ j. volume (spent_on_pcpu j) c.number []) call → HasRoomForCall now.counters call
      by (Add j amount) names within owners leaves = (counter j.number names, omega (arith, leaves))
      by (LimitedAdd j limit amount) names within owners leaves =
          (counter j.number names, omega (arith, leaves), omega (arith, within))
      by (Compare j rhs) names within owners leaves = (counter j.number names, omega (arith, within))
      by (Sum j) names within owners leaves = counter j.number names
      by (Read j) names within owners leaves = counter j.number names
      by (Sync j) names within owners leaves = counter j.number names
      by (FoldDead dead) names within owners leaves = absurd owners

  -- the line is made by the call
  pub MakesLine-call : (pressure normal : ZoneSize → ℕ → ℕ → Type 0) (next : PlainStates) (told : PcpuAnswer)
      → ((item : Item) → item.lane ≡ Cpu c → pcpu_call (Cpu c) item.act ≡ Some call
      → GoesOnIf header pressure normal item
      (λ items. LeavesVolume (λ j. volume (spent_on_pcpu j) c.number (map line_of items)) call) now next
      (pcpu_told told)) → (answer : Option Answer) → answer ≡ pcpu_told told
      → MakesLine header pressure normal (Cpu c) a now next answer
  MakesLine-call pressure normal next told goes_on answer same =
      subst (λ (x : Option Answer). MakesLine header pressure normal (Cpu c) a now next x) (sym same)
      (record {
        goes_on = λ item lane act w lanes items hs stands among may. goes_on item lane
            (subst (λ (b : Act). pcpu_call (Cpu c) b ≡ Some call) (sym act) is) w lanes items hs stands among
            (fits-call (map line_of items) c a call is may.1);
        sets = inl (spares-call c call a is);
      })
