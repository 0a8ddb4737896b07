-- For other crates too: a world in which a CPU has come online belongs to its header.
use Rattle.std.proofs.Common.{◌≡◌, ℕ, ◌<◌, ◌≤◌, Bool, true, false, nat_eq, List, length, if◌then◌else◌, sym, subst, ◌∙◌}
use Rattle.std.proofs.Common.{length-set, get_or-set_same}
use Rattle.vms_calls.specs.Common.{Header, Online, Absent, ZoneSize, IsCpu, GivesThresholds, State, cpu_at, with_cpu}
use Rattle.vms_history.proofs.Common.{get_or-set}
use Rattle.vms_world.specs.declared.worlds.World.{World}
use Rattle.vms_world.specs.Common.{brought_up, AreAnswers, MayRefresh, count_online, refreshed, IsWorldOf}
use Rattle.vms_world.proofs.Answers.{AreThresholds-answers, count_online-least, count_online-most}
use Rattle.vms_world.proofs.PageParts.{IsWorldOf-pages}
use Rattle.vms_world.proofs.PlaceThresholds.{AreThresholds}
use Rattle.vms_world.proofs.RefreshedStates.{IsBase-refreshed}

module _ (header : Header) (w : World) (c : ℕ) (of : IsWorldOf header w) (c_in : IsCpu header.layout c) where
  abbrev s : State
  s = w.pages

  abbrev up : State
  up = with_cpu s c Online

  within : c < length s.cpu
  within = subst (λ (n : ℕ). c < n) (sym of.page_base.opening.shaped.cpu) c_in

  cpu-read : (d : ℕ) → cpu_at up d ≡ (if nat_eq c d then Online else cpu_at s d)
  cpu-read d = get_or-set s.cpu c d Online Absent within

  absent-before : (d : ℕ) → cpu_at up d ≡ Absent → cpu_at s d ≡ Absent
  absent-before d gone = by (nat_eq c d) (sym (cpu-read d) ∙ gone)
    where
      by : (b : Bool) → (if b then Online else cpu_at s d) ≡ Absent → cpu_at s d ≡ Absent
      by true is = absurd cc
      by false is = is

  pub MayRefresh-up : MayRefresh header.layout up
  MayRefresh-up =
      let was = of.page_base.opening in
      record {
        shaped = record {
          place = was.shaped.place;
          system = was.shaped.system;
          diff = was.shaped.diff;
          threshold = was.shaped.threshold;
          mark = was.shaped.mark;
          cpu = length-set s.cpu c Online ∙ was.shaped.cpu;
          acknowledged = was.shaped.acknowledged;
          threshold_sets = was.shaped.threshold_sets;
          mark_sets = was.shaped.mark_sets;
        };
        some_online = (c, c_in, get_or-set_same s.cpu c Online Absent within);
        values = was.values;
        systems = was.systems;
        diffs = was.diffs;
        absent = λ e k e_in gone k_in. was.absent e k e_in (absent-before e gone) k_in;
        thresholds = λ e g e_in g_in. rw (length-set s.cpu c Online) (was.thresholds e g e_in g_in);
        unacknowledged = was.unacknowledged;
        unset_thresholds = λ e g e_in g_in. rw (length-set s.cpu c Online) (was.unset_thresholds e g e_in g_in);
        unset_marks = was.unset_marks;
      }

  pub online-least : 1 ≤ count_online up.cpu
  online-least = count_online-least header.layout up.cpu MayRefresh-up.shaped.cpu MayRefresh-up.some_online

  pub online-most : count_online up.cpu ≤ 128
  online-most = count_online-most header.layout up.cpu of.page_base.layout MayRefresh-up.shaped.cpu

  module _ (answers : ZoneSize → ℕ → ℕ → Type 0) (gives : GivesThresholds answers) (zones : List ℕ)
      (are : AreAnswers header answers (count_online up.cpu) zones) where
    thresholds : AreThresholds header.layout zones
    thresholds = AreThresholds-answers header of.page_base.one_size_each of.page_base.sizes answers gives
        (count_online up.cpu) online-least online-most zones are

    pub IsWorldOf-brought_up : IsWorldOf header (brought_up header zones c w)
    IsWorldOf-brought_up = IsWorldOf-pages header w of (refreshed header zones up)
        (IsBase-refreshed header of.page_base.layout of.page_base.one_size_each of.page_base.sizes zones thresholds up
        MayRefresh-up)
        (λ e e_in. absent-before e)
        (record { totals = of.pages_within.totals; systems = of.pages_within.systems })
