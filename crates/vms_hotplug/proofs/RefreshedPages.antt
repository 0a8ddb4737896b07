-- The thresholds that are set are those of the definition, and marks may be set under them.
use Rattle.std.proofs.Common.{◌≡◌, ℕ, ◌≤◌, All, List, length, get_or, if◌then◌else◌, refl, sym, ap, subst, ◌∙◌}
use Rattle.vms_world.specs.Common.{Header, is_online, state_at, Shape, IsLayout, cell, place_count, IsValidSize, State}
use Rattle.vms_world.specs.Common.{listed_by_cpu, MayRefresh, count_online, place_threshold, refreshed, with_marks}
use Rattle.vms_world.specs.Common.{with_thresholds}
use Rattle.vms_core.proofs.Common.{places_of-shaped}
use Rattle.vms_world.proofs.Common.{count_online-least, count_online-most, AreThresholds, shaped-refreshed}
use Rattle.vms_world.proofs.Common.{threshold_most}
use Rattle.vms_hotplug.specs.Common.{MayMark}

-- the thresholds by CPU and place where online CPUs got those of these zones
abbrev pub rows_of : Shape → State → List ℕ → List ℕ
rows_of shape s zones = listed_by_cpu (λ c g. if is_online (state_at s.cpu c)
    then place_threshold shape zones g
    else get_or s.threshold (cell (place_count shape) c g) 0) shape.cpus (place_count shape)

module _ (header : Header) (layout : IsLayout header.layout) (s : State) (unrated : MayRefresh header.layout s)
    (zones : List ℕ) where
  abbrev shape : Shape
  shape = header.layout

  -- the thresholds with rows of this width
  abbrev set_in_rows : ℕ → List ℕ
  set_in_rows width = listed_by_cpu (λ c g. if is_online (state_at s.cpu c)
      then place_threshold shape zones g
      else get_or s.threshold (cell width c g) 0) shape.cpus (place_count shape)

  pub rated-is : (thresholds : List ℕ) → thresholds ≡ rows_of shape s zones
      → record s { threshold = thresholds } ≡ with_thresholds shape zones s
  rated-is thresholds set =
      ap (λ (ts : List ℕ). record s { threshold = ts })
      (set ∙ ap set_in_rows (sym (places_of-shaped shape s layout unrated.shaped)))

  pub least_online : 1 ≤ count_online s.cpu
  least_online = count_online-least shape s.cpu unrated.shaped.cpu unrated.some_online

  pub most_online : count_online s.cpu ≤ 128
  most_online = count_online-most shape s.cpu layout unrated.shaped.cpu

  module _ (one_size_each : length header.sizes ≡ length header.layout.zones) (sizes : All IsValidSize header.sizes)
      (one_each : length zones ≡ length header.layout.zones) (are : AreThresholds header.layout zones) where
    pub MayMark-rated : MayMark header (count_online s.cpu) zones (with_thresholds shape zones s)
    MayMark-rated = record {
      peaks = record {
        shaped = record {
          place = unrated.shaped.place;
          system = unrated.shaped.system;
          diff = unrated.shaped.diff;
          threshold = (shaped-refreshed header layout one_size_each sizes zones are s unrated).threshold;
          mark = unrated.shaped.mark;
          cpu = unrated.shaped.cpu;
          acknowledged = unrated.shaped.acknowledged;
          threshold_sets = unrated.shaped.threshold_sets;
          mark_sets = unrated.shaped.mark_sets;
        };
        diffs = unrated.diffs;
        thresholds = threshold_most header layout one_size_each sizes zones are s unrated;
      };
      one_size_each = one_size_each;
      sizes = sizes;
      one_each = one_each;
      most = are.most;
      online = refl;
      least_online = least_online;
      most_online = most_online;
    }

    pub MayMark-set : (online : ℕ) (told thresholds : List ℕ) → online ≡ count_online s.cpu → told ≡ zones
        → thresholds ≡ rows_of shape s zones → MayMark header online told (record s { threshold = thresholds })
    MayMark-set online told thresholds counted same set =
        let here = subst (MayMark header (count_online s.cpu) zones) (sym (rated-is thresholds set)) MayMark-rated in
        rw (counted, same) here

  pub refreshed-is : (next : State) (told thresholds : List ℕ) → told ≡ zones
      → thresholds ≡ rows_of shape s zones
      → next ≡ with_marks header told (record s { threshold = thresholds }) → next ≡ refreshed header zones s
  refreshed-is next told thresholds same set is =
      is
      ∙ ap (λ (zs : List ℕ). with_marks header zs (record s { threshold = thresholds })) same
      ∙ ap (with_marks header zones) (rated-is thresholds set)
