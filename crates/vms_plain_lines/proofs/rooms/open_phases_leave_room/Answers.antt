-- The laws of the three tables, at the states that stand.
use Rattle.std.proofs.Common.{◌≡◌, ℕ, ◌^◌, ◌<◌, List, length, ap, sym, subst, ◌∙◌, arith}
use Rattle.std.proofs.lemmas.List.{length-map}
use Rattle.vms_world.specs.Common.{CpuId, CpuState, HasOnline, is_present, online_from, state_at, State, cpu_at}
use Rattle.vms_world.specs.Common.{EventState, online_cpus, sum_over, word_at, PcpuState, percpu, LockedState, Cpu}
use Rattle.vms_world.specs.Common.{event_facts, page_facts, page_volume, pcpu_facts}
use Rattle.vms_history.proofs.Common.{owner_may_own}
use Rattle.vms_core.proofs.Common.{owned-online}
use Rattle.vms_file_order.specs.Common.{pass_of, page_passes, pcpu_passes}
use Rattle.vms_file_order.proofs.Common.{HasPass-opening}
use Rattle.vms_plain_events.specs.Common.{HasWords}
use Rattle.vms_plain_pcpu.specs.Common.{HasLocals, HasRoomFor}
use Rattle.vms_plain_lines.specs.Common.{in_tables}
use Rattle.vms_plain_lines.proofs.ControlLines.{counters_of-world}
use Rattle.vms_plain_lines.proofs.ControlPass.{HasOnline-open}
use Rattle.vms_plain_lines.proofs.CounterLines.{batches}
use Rattle.vms_plain_lines.proofs.FoldedCpus.{dead-opening}
use Rattle.vms_plain_lines.proofs.PageRoom.{IsSmallState-open}
use Rattle.vms_plain_lines.proofs.rooms.open_phases_leave_room.Goals as goal

pub returns : goal.returns
returns g c header w lanes items hs now of stands within =
    let facts = event_facts header w in
    let counters = pcpu_facts header w in
    let opened = stands.opened in
    let online : online_from 0 now.opening ≡ online_cpus facts =
    ap (λ (cs : List CpuState). online_from 0 cs) stands.opening in
    let numbers = ap (λ (s : LockedState). s.numbers) opened.counters.state in
    record {
      pages = IsSmallState-open c.settled_ends_may_begin.ensures.base (page_facts header w) lanes hs.pages now.pages
          opened.pages (page_volume header w) of.pages_within within.pages;
      owners = λ cpu among.
          let pass = HasPass-opening page_passes lanes hs.pages (Cpu cpu) opened.pages.main among in
          let owned = owned-online (page_facts header w) hs.pages opened.pages.legal (pass_of lanes (Cpu cpu)) cpu
          pass.owner in (
            owned.0,
            ap (λ (s : State). cpu_at s cpu.number) (sym opened.pages.state) ∙ owned.1,
          );
      events = λ n within_cpus. subst (λ (s : EventState). HasWords s n) opened.events.state
          (c.histories_leave_room.ensures.cpus facts hs.events n opened.events.legal within_cpus);
      words = λ k l k_in l_in. subst (λ (s : EventState). word_at s k l < 2 ^ 62) opened.events.state
          (c.histories_leave_room.ensures.words facts hs.events k l opened.events.legal k_in l_in);
      sums = λ k k_in. subst (λ (cs : List CpuId). sum_over now.events k cs < 2 ^ 62) (sym online)
          (subst (λ (s : EventState). sum_over s k (online_cpus facts) < 2 ^ 62) opened.events.state
          (c.histories_leave_room.ensures.sums facts hs.events k opened.events.legal k_in));
      counters = λ j j_in. subst (λ (s : PcpuState). HasRoomFor s j) numbers
          (c.histories_leave_room-2.ensures.room counters hs.counters j opened.counters.legal
          (subst (λ (bs : List ℕ). j < length bs) (sym of.batches)
          (omega (arith, j_in, length-map header.counters (λ decl. decl.batch)))));
      one_batch_each = ap (λ (bs : List ℕ). length bs)
          (batches (g.P.Rule.answers c.args.rules.now.pressure) (g.N.Rule.answers c.args.rules.now.normal) header w
          lanes items hs now stands)
          ∙ counters_of-world header w of;
      locals = λ n within_cpus. subst (λ (s : PcpuState). HasLocals s n) numbers
          (c.histories_leave_room-2.ensures.cpus counters hs.counters n opened.counters.legal within_cpus);
      opening = ap (λ (cs : List CpuState). length cs) stands.opening ∙ of.event_base.one_state_each;
      few = of.event_base.layout.cpus_most;
      some_online = HasOnline-open (g.P.Rule.answers c.args.rules.now.pressure)
          (g.N.Rule.answers c.args.rules.now.normal) header w lanes items hs (in_tables now) opened;
      was_online = subst (HasOnline header.layout) (sym stands.opening) of.event_base.some_online;
      was_dead = λ cpu dead. ap (λ (cs : List CpuState). state_at cs cpu) stands.opening
          ∙ dead-opening (page_facts header w) hs.pages cpu opened.pages.legal
          (ap (λ (s : State). cpu_at s cpu) opened.pages.state ∙ dead);
      present = λ cpu among.
          let pass = HasPass-opening pcpu_passes lanes hs.counters (Cpu cpu) opened.counters.main among in
          let own = owner_may_own percpu counters hs.counters (pass_of lanes (Cpu cpu)) cpu opened.counters.legal
          pass.owner in
          ap (λ (cs : List CpuState). is_present (state_at cs cpu.number)) stands.opening ∙ ap is_present own.1;
    }
