-- For other crates too: a world in which a CPU has gone offline belongs to its header.
use Rattle.std.proofs.Common.{◌≡◌, ◌≢◌, ℕ, ◌<◌, Bool, true, false, nat_eq, [], if◌then◌else◌, refl, sym, subst, ap, ◌∙◌}
use Rattle.std.proofs.Common.{eqb-true, ne_eqb, length-set}
use Rattle.vms_calls.specs.Common.{Header, Online, Dead, Absent, Covers, IsCpu, IsZone, size_at, State, IsBase, cpu_at}
use Rattle.vms_calls.specs.Common.{mark_at, with_cpu, if_present, opening_peak, peak_sum, facts_of}
use Rattle.vms_history.proofs.Common.{get_or-set, count_below-same}
use Rattle.vms_world.specs.declared.worlds.World.{World}
use Rattle.vms_world.specs.Common.{taken_down, IsWorldOf}
use Rattle.vms_world.proofs.PageParts.{IsWorldOf-pages}

module _ (header : Header) (w : World) (c : ℕ) (of : IsWorldOf header w) (c_in : IsCpu header.layout c)
    (online : cpu_at w.pages c ≡ Online) where
  abbrev s : State
  s = w.pages

  abbrev next : State
  next = with_cpu s c Dead

  cpu-read : (d : ℕ) → cpu_at next d ≡ (if nat_eq c d then Dead else cpu_at s d)
  cpu-read d = get_or-set s.cpu c d Dead Absent (subst (λ (n : ℕ). c < n) (sym of.page_base.opening.shaped.cpu) c_in)

  -- who is absent was absent, and who is online was online
  absent-before : (d : ℕ) → cpu_at next d ≡ Absent → cpu_at s d ≡ Absent
  absent-before d gone = by (nat_eq c d) (sym (cpu-read d) ∙ gone)
    where
      by : (b : Bool) → (if b then Dead else cpu_at s d) ≡ Absent → cpu_at s d ≡ Absent
      by true is = absurd cc
      by false is = is

  online-before : (d : ℕ) → cpu_at next d ≡ Online → cpu_at s d ≡ Online
  online-before d runs = by (nat_eq c d) (sym (cpu-read d) ∙ runs)
    where
      by : (b : Bool) → (if b then Dead else cpu_at s d) ≡ Online → cpu_at s d ≡ Online
      by true is = absurd cc
      by false is = is

  -- a dead CPU hides what it hid
  present-same : (d n : ℕ) → if_present (cpu_at next d) n ≡ if_present (cpu_at s d) n
  present-same d n = ap (λ x. if_present x n) (cpu-read d) ∙ by (nat_eq c d) refl
    where
      by : (b : Bool) → nat_eq c d ≡ b → if_present (if b then Dead else cpu_at s d) n ≡ if_present (cpu_at s d) n
      by true same =
          let here : cpu_at s d ≡ Online = ap (cpu_at s) (sym (eqb-true c d same)) ∙ online in
          ap (λ x. if_present x n) (sym here)
      by false other = refl

  covered : (g : ℕ) → IsZone header.layout g
      → Covers (size_at header.sizes g) (mark_at next g) (peak_sum (facts_of header next) g [])
  covered g g_in = subst (Covers (size_at header.sizes g) (mark_at s g))
      (sym (count_below-same (λ d. if_present (cpu_at next d) (opening_peak header.layout next d g))
      (λ d. if_present (cpu_at s d) (opening_peak header.layout s d g)) header.layout.cpus
      (λ d d_in. rw (length-set s.cpu c Dead) (present-same d (opening_peak header.layout s d g)))))
      (of.page_base.covered g g_in)

  module _ (d : ℕ) (other : d ≢ c) (d_in : IsCpu header.layout d) (runs : cpu_at s d ≡ Online) where
    stays : cpu_at next d ≡ Online
    stays =
        let differ : nat_eq c d ≡ false = ne_eqb c d (λ e. other (sym e)) in
        cpu-read d ∙ ap (λ (b : Bool). if b then Dead else cpu_at s d) differ ∙ runs

    base : IsBase (facts_of header next)
    base =
        let was = of.page_base.opening in
        record {
          layout = of.page_base.layout;
          one_size_each = of.page_base.one_size_each;
          sizes = of.page_base.sizes;
          opening = record {
            shaped = record {
              place = was.shaped.place;
              system = was.shaped.system;
              diff = was.shaped.diff;
              threshold = was.shaped.threshold;
              mark = was.shaped.mark;
              cpu = length-set s.cpu c Dead ∙ was.shaped.cpu;
              acknowledged = was.shaped.acknowledged;
              threshold_sets = was.shaped.threshold_sets;
              mark_sets = was.shaped.mark_sets;
            };
            some_online = (d, d_in, stays);
            values = was.values;
            systems = was.systems;
            diffs = was.diffs;
            absent = λ e k e_in gone k_in. was.absent e k e_in (absent-before e gone) k_in;
            thresholds = λ e g e_in g_in. rw (length-set s.cpu c Dead) (was.thresholds e g e_in g_in);
            online = λ e g e_in is g_in. rw (length-set s.cpu c Dead) (was.online e g e_in (online-before e is) g_in);
            marks = was.marks;
            unacknowledged = was.unacknowledged;
            unset_thresholds = λ e g e_in g_in. rw (length-set s.cpu c Dead) (was.unset_thresholds e g e_in g_in);
            unset_marks = was.unset_marks;
          };
          covered = covered;
        }

    pub IsWorldOf-taken_down : IsWorldOf header (taken_down c w)
    IsWorldOf-taken_down = IsWorldOf-pages header w of next base (λ e e_in. absent-before e)
        (record { totals = of.pages_within.totals; systems = of.pages_within.systems })
