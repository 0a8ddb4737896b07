-- For other crates too: the volumes after a line, which are more by what the line changes.
use Rattle.std.proofs.Common.{◌≡◌, ℕ, zero, ◌+◌, ◌*◌, ◌<◌, nat_eq, Bool, true, false, if◌then◌else◌, List, length}
use Rattle.std.proofs.Common.{get_or, refl, sym, ap, ◌∙◌, arith, inl, inr, unsigned_abs, length-set, get_or-set_same}
use Rattle.std.proofs.Common.{get_or-set_other}
use Rattle.std.proofs.lemmas.Bool.{cases_eq}
use Rattle.std.proofs.lemmas.Bool.Decides.{nat_tests}
use Rattle.vms_world.specs.Common.{Header, CpuId, IsCounter, IsCpu, cell, counter_count, IsEvent, event_count, IsActOf}
use Rattle.vms_world.specs.Common.{IsLineOf, by_cpu, spent_on_counter, spent_on_event, spent_on_pcpu, Act, Ev, Cnt, Lim}
use Rattle.vms_world.specs.Common.{Lane, Cpu, Control, volume_in}
use Rattle.vms_base.proofs.Common.{cell-injective, cell-lt}
use Rattle.vms_text.specs.declared.acts.Act.TheVariants.{Mod, Inc, Dec}
use Rattle.vms_text.specs.declared.acts.Line.TheVariants.{Lane as LaneLine}
use Rattle.vms_world.specs.declared.worlds.Volumes.{Volumes}
use Rattle.vms_replay_phase.specs.Common.{volumes_raised, spent_by_act, spent_by_line}

-- a size that counts where both numbers are the same
abbrev size_at : (c d k j size : ℕ) → ℕ
size_at c d k j size = if nat_eq c d then (if nat_eq k j then size else 0) else 0

size-here : (c d k j size : ℕ) → c ≡ d → k ≡ j → size_at c d k j size ≡ size
size-here c d k j size one other = grind (arith, nat_tests)

size-apart : (c d k j size : ℕ) → (c ≡ d → ⊥) → size_at c d k j size ≡ 0
size-apart c d k j size apart = grind (arith, nat_tests)

size-other : (c d k j size : ℕ) → (k ≡ j → ⊥) → size_at c d k j size ≡ 0
size-other c d k j size other = by (nat_eq c d)
  where
    unlike : (if nat_eq k j then size else 0) ≡ 0
    unlike = grind (arith, nat_tests)

    by : (b : Bool) → (if b then (if nat_eq k j then size else 0) else 0) ≡ 0
    by true = unlike
    by false = refl

if-same : (b : Bool) (n : ℕ) → (if b then n else n) ≡ n
if-same true n = refl
if-same false n = refl

if-zero : (b : Bool) → (if b then zero else zero) ≡ zero
if-zero b = if-same b zero

module _ (volumes : List ℕ) (cpus width c k size : ℕ) (each : length volumes ≡ cpus * width) (c_in : c < cpus)
    (k_in : k < width) where
  -- a volume after one was raised
  pub volume_in-raised : (d j : ℕ) → j < width
      → volume_in (volumes_raised width c k size volumes) width d j ≡ volume_in volumes width d j + size_at c d k j size
  volume_in-raised d j j_in = elim (cases_eq c d) [
    | inl same ↦ elim (cases_eq k j) [
      | inl is ↦
          let place : cell width d j ≡ cell width c k =
          ap (λ n. cell width n j) (sym same) ∙ ap (cell width c) (sym is) in
          let here = cell-lt width cpus c k c_in k_in in
          let read : volume_in (volumes_raised width c k size volumes) width d j ≡ volume_in volumes width c k + size =
          ap (λ n. get_or (volumes_raised width c k size volumes) n 0) place
          ∙ get_or-set_same volumes (cell width c k) (volume_in volumes width c k + size) 0 (omega (
            arith,
            here,
            each,
          )) in
          let old : volume_in volumes width d j ≡ volume_in volumes width c k = ap (λ n. get_or volumes n 0) place in
          omega (arith, read, old, size-here c d k j size same is)
      | inr other ↦ omega (
        arith,
        size-other c d k j size other,
        get_or-set_other volumes (cell width c k) (cell width d j) (volume_in volumes width c k + size) 0
            (λ e. other (sym (cell-injective width d j c k j_in k_in e).1)),
      )
    ]
    | inr apart ↦ omega (
      arith,
      size-apart c d k j size apart,
      get_or-set_other volumes (cell width c k) (cell width d j) (volume_in volumes width c k + size) 0
          (λ e. apart (sym (cell-injective width d j c k j_in k_in e).0)),
    )
  ]

  pub length-raised : length (volumes_raised width c k size volumes) ≡ cpus * width
  length-raised = length-set volumes (cell width c k) (volume_in volumes width c k + size) ∙ each

-- volumes of a header: one for each CPU and each thing
pub record HaveAll (header : Header) (v : Volumes) : Type 0 where
  pub pages : length v.pages ≡ header.layout.cpus * counter_count header.layout
  pub events : length v.events ≡ header.layout.cpus * event_count
  pub counters : length v.counters ≡ header.layout.cpus * length header.counters

-- the volumes after a line are more by what it spends
pub record SpendsLine (header : Header) (lane : Lane) (act : Act) (v next : Volumes) : Type 0 where
  pub all : HaveAll header next
  pub pages : (d j : ℕ) → IsCounter header.layout j → volume_in next.pages (counter_count header.layout) d j
      ≡ volume_in v.pages (counter_count header.layout) d j + by_cpu d (spent_on_counter j) (LaneLine lane act)
  pub events : (d j : ℕ) → IsEvent j → volume_in next.events event_count d j
      ≡ volume_in v.events event_count d j + by_cpu d (spent_on_event j) (LaneLine lane act)
  pub counters : (d j : ℕ) → j < length header.counters → volume_in next.counters (length header.counters) d j
      ≡ volume_in v.counters (length header.counters) d j + by_cpu d (spent_on_pcpu j) (LaneLine lane act)

module _ (header : Header) where
  -- acts that add to the volumes of one table, and acts that add to none
  module _ (v : Volumes) (have : HaveAll header v) (cpu : CpuId) (cpu_in : IsCpu header.layout cpu.number) where
    abbrev Spends : Act → Volumes → Type 0
    Spends act next = SpendsLine header (Cpu cpu) act v next

    spends-page : (act : Act) (k size : ℕ) → IsCounter header.layout k
        → ((d j : ℕ) → by_cpu d (spent_on_counter j) (LaneLine (Cpu cpu) act) ≡ size_at cpu.number d k j size)
        → ((d j : ℕ) → by_cpu d (spent_on_event j) (LaneLine (Cpu cpu) act) ≡ 0)
        → ((d j : ℕ) → by_cpu d (spent_on_pcpu j) (LaneLine (Cpu cpu) act) ≡ 0)
        → Spends act (record v { pages = volumes_raised (counter_count header.layout) cpu.number k size v.pages })
    spends-page act k size k_in here no_events no_counters = record {
      all = record {
        pages = length-raised v.pages header.layout.cpus (counter_count header.layout) cpu.number k size have.pages
            cpu_in k_in;
        events = have.events;
        counters = have.counters;
      };
      pages = λ d j j_in. omega (
        arith,
        volume_in-raised v.pages header.layout.cpus (counter_count header.layout) cpu.number k size have.pages cpu_in
            k_in d j j_in,
        here d j,
      );
      events = λ d j j_in. omega (arith, no_events d j);
      counters = λ d j j_in. omega (arith, no_counters d j);
    }

    spends-event : (act : Act) (k size : ℕ) → IsEvent k
        → ((d j : ℕ) → by_cpu d (spent_on_counter j) (LaneLine (Cpu cpu) act) ≡ 0)
        → ((d j : ℕ) → by_cpu d (spent_on_event j) (LaneLine (Cpu cpu) act) ≡ size_at cpu.number d k j size)
        → ((d j : ℕ) → by_cpu d (spent_on_pcpu j) (LaneLine (Cpu cpu) act) ≡ 0)
        → Spends act (record v { events = volumes_raised event_count cpu.number k size v.events })
    spends-event act k size k_in no_pages here no_counters = record {
      all = record {
        pages = have.pages;
        events = length-raised v.events header.layout.cpus event_count cpu.number k size have.events cpu_in k_in;
        counters = have.counters;
      };
      pages = λ d j j_in. omega (arith, no_pages d j);
      events = λ d j j_in. omega (
        arith,
        volume_in-raised v.events header.layout.cpus event_count cpu.number k size have.events cpu_in k_in d j j_in,
        here d j,
      );
      counters = λ d j j_in. omega (arith, no_counters d j);
    }

    spends-counter : (act : Act) (k size : ℕ) → k < length header.counters
        → ((d j : ℕ) → by_cpu d (spent_on_counter j) (LaneLine (Cpu cpu) act) ≡ 0)
        → ((d j : ℕ) → by_cpu d (spent_on_event j) (LaneLine (Cpu cpu) act) ≡ 0)
        → ((d j : ℕ) → by_cpu d (spent_on_pcpu j) (LaneLine (Cpu cpu) act) ≡ size_at cpu.number d k j size)
        → Spends act (record v { counters = volumes_raised (length header.counters) cpu.number k size v.counters })
    spends-counter act k size k_in no_pages no_events here = record {
      all = record {
        pages = have.pages;
        events = have.events;
        counters = length-raised v.counters header.layout.cpus (length header.counters) cpu.number k size have.counters
            cpu_in k_in;
      };
      pages = λ d j j_in. omega (arith, no_pages d j);
      events = λ d j j_in. omega (arith, no_events d j);
      counters = λ d j j_in. omega (
        arith,
        volume_in-raised v.counters header.layout.cpus (length header.counters) cpu.number k size have.counters cpu_in
            k_in d j j_in,
        here d j,
      );
    }

    spends-nothing : (act : Act)
        → ((d j : ℕ) → by_cpu d (spent_on_counter j) (LaneLine (Cpu cpu) act) ≡ 0)
        → ((d j : ℕ) → by_cpu d (spent_on_event j) (LaneLine (Cpu cpu) act) ≡ 0)
        → ((d j : ℕ) → by_cpu d (spent_on_pcpu j) (LaneLine (Cpu cpu) act) ≡ 0)
        → Spends act v
    spends-nothing act no_pages no_events no_counters = record {
      all = have;
      pages = λ d j j_in. omega (arith, no_pages d j);
      events = λ d j j_in. omega (arith, no_events d j);
      counters = λ d j j_in. omega (arith, no_counters d j);
    }

    spends-act : (act : Act) → IsActOf header (Cpu cpu) act
        → Spends act (spent_by_act header cpu.number act v)
    spends-act (Mod k pages) is = spends-page (Mod k pages) k.number (unsigned_abs pages) is.1.0 (λ d j. refl)
        (λ d j. if-zero (nat_eq cpu.number d)) (λ d j. if-zero (nat_eq cpu.number d))
    spends-act (Inc k) is = spends-page (Inc k) k.number 1 is.1.0 (λ d j. refl)
        (λ d j. if-zero (nat_eq cpu.number d)) (λ d j. if-zero (nat_eq cpu.number d))
    spends-act (Dec k) is = spends-page (Dec k) k.number 1 is.1.0 (λ d j. refl)
        (λ d j. if-zero (nat_eq cpu.number d)) (λ d j. if-zero (nat_eq cpu.number d))
    spends-act (Ev k n) is = spends-event (Ev k n) k.number n is.1 (λ d j. if-zero (nat_eq cpu.number d))
        (λ d j. refl) (λ d j. if-zero (nat_eq cpu.number d))
    spends-act (Cnt j amount) is = spends-counter (Cnt j amount) j.number (unsigned_abs amount) is.1
        (λ d i. if-zero (nat_eq cpu.number d)) (λ d i. if-zero (nat_eq cpu.number d)) (λ d i. refl)
    spends-act (Lim j limit amount) is = spends-counter (Lim j limit amount) j.number (unsigned_abs amount) is.1
        (λ d i. if-zero (nat_eq cpu.number d)) (λ d i. if-zero (nat_eq cpu.number d)) (λ d i. refl)
    spends-act act is = spends-nothing act (λ d j. if-zero (nat_eq cpu.number d))
        (λ d j. if-zero (nat_eq cpu.number d)) (λ d j. if-zero (nat_eq cpu.number d))

  pub spends-line : (v : Volumes) → HaveAll header v → (lane : Lane) (act : Act) → IsLineOf header (LaneLine lane act)
      → SpendsLine header lane act v (spent_by_line header lane act v)
  spends-line v have (Cpu cpu) act is = spends-act v have cpu is.0 act is.1
  spends-line v have Control act is = record {
    all = have;
    pages = λ d j j_in. omega arith;
    events = λ d j j_in. omega arith;
    counters = λ d j j_in. omega arith;
  }
