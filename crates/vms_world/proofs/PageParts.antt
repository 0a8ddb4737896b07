-- A world with other page counters, in which no further CPU is absent, belongs to its header if they may.
use Rattle.std.proofs.Common.{◌≡◌, ℕ}
use Rattle.vms_calls.specs.Common.{Header, Absent, IsCpu, State, IsBase, cpu_at, IsWithinVolumes, facts_of}
use Rattle.vms_world.specs.declared.worlds.World.{World}
use Rattle.vms_world.specs.Common.{IsWorldOf, page_volume}

module _ (header : Header) (w : World) (of : IsWorldOf header w) (s : State) (base : IsBase (facts_of header s))
    (absent : (c : ℕ) → IsCpu header.layout c → cpu_at s c ≡ Absent → cpu_at w.pages c ≡ Absent)
    (within : IsWithinVolumes header.layout (page_volume header w) s) where
  pub IsWorldOf-pages : IsWorldOf header (record w { pages = s })
  IsWorldOf-pages = record {
    page_base = base;
    event_base = record {
      layout = of.event_base.layout;
      one_state_each = base.opening.shaped.cpu;
      shaped = of.event_base.shaped;
      some_online = base.opening.some_online;
      absent = λ c k c_in gone k_in. of.event_base.absent c k c_in (absent c c_in gone) k_in;
      sums = of.event_base.sums;
    };
    pcpu_base = record {
      layout = of.pcpu_base.layout;
      lengths = record {
        one_state_each = base.opening.shaped.cpu;
        one_count_each = of.pcpu_base.lengths.one_count_each;
        one_local_each = of.pcpu_base.lengths.one_local_each;
      };
      some_online = base.opening.some_online;
      counters = λ j j_in.
          let was = of.pcpu_base.counters j j_in in
          record { batch_least = was.batch_least; batch_most = was.batch_most; count = was.count };
      locals = λ c c_in j j_in.
          let was = of.pcpu_base.locals c c_in j j_in in
          record { within = was.within; absent = λ gone. was.absent (absent c c_in gone) };
    };
    batches = of.batches;
    page_volumes = of.page_volumes;
    event_volumes = of.event_volumes;
    pcpu_volumes = of.pcpu_volumes;
    pages_within = within;
    events_within = of.events_within;
    pcpu_within = of.pcpu_within;
  }
