-- One zone more gets its mark.
use Rattle.std.proofs.Common.{◌≡◌, ◌≢◌, ℕ, ◌+◌, ◌<◌, List, length, get_or, sym, ap, subst, ◌∙◌, arith, ⊎_elim}
use Rattle.std.proofs.Common.{length-set, get_or-set_same, get_or-set_other}
use Rattle.std.proofs.Math.ListN.{set}
use Rattle.std.proofs.lemmas.Bool.{cases_eq}
use Rattle.vms_world.specs.Common.{Header, State, with_marks, zone_mark}
use Rattle.vms_world.proofs.Common.{is_listed}
use Rattle.vms_hotplug.specs.Common.{MayMark}

module _ (header : Header) (zones : List ℕ) (s : State) where
  -- the zones below n have their marks, and all else stays
  pub record MarksBelow (n : ℕ) (now : State) : Type 0 where
    pub rest : now ≡ record s { mark = now.mark }
    pub long : length now.mark ≡ length s.mark
    pub done : (g : ℕ) → g < n → get_or now.mark g 0 ≡ zone_mark header zones s g

  -- other marks are no hindrance to marks
  pub MayMark-marked : (count n : ℕ) (now : State) → MayMark header count zones s → MarksBelow n now
      → MayMark header count zones now
  MayMark-marked count n now may so_far = subst (MayMark header count zones) (sym so_far.rest) (record {
    peaks = record {
      shaped = record {
        place = may.peaks.shaped.place;
        system = may.peaks.shaped.system;
        diff = may.peaks.shaped.diff;
        threshold = may.peaks.shaped.threshold;
        mark = so_far.long ∙ may.peaks.shaped.mark;
        cpu = may.peaks.shaped.cpu;
        acknowledged = may.peaks.shaped.acknowledged;
        threshold_sets = may.peaks.shaped.threshold_sets;
        mark_sets = may.peaks.shaped.mark_sets;
      };
      diffs = may.peaks.diffs;
      thresholds = may.peaks.thresholds;
    };
    one_size_each = may.one_size_each;
    sizes = may.sizes;
    one_each = may.one_each;
    most = may.most;
    online = may.online;
    least_online = may.least_online;
    most_online = may.most_online;
  })

  module _ (n : ℕ) (now : State) (so_far : MarksBelow n now) (m : ℕ) (is : m ≡ zone_mark header zones now n)
      (n_in : n < length s.mark) where
    mark-is : m ≡ zone_mark header zones s n
    mark-is = is ∙ ap (λ (x : State). zone_mark header zones x n) so_far.rest

    within : n < length now.mark
    within = subst (λ (i : ℕ). n < i) (sym so_far.long) n_in

    done-more : (g : ℕ) → g < n + 1 → get_or (set now.mark n m) g 0 ≡ zone_mark header zones s g
    done-more g below = ⊎_elim
        (λ (same : g ≡ n). subst (λ (i : ℕ). get_or (set now.mark n m) i 0 ≡ zone_mark header zones s i) (sym same)
        (get_or-set_same now.mark n m 0 within ∙ mark-is))
        (λ (other : g ≢ n). get_or-set_other now.mark n g m 0 other ∙ so_far.done g (omega arith))
        (cases_eq g n)

    pub MarksBelow-more : MarksBelow (n + 1) (record now { mark = set now.mark n m })
    MarksBelow-more = record {
      rest = ap (λ (x : State). record x { mark = set now.mark n m }) so_far.rest;
      long = length-set now.mark n m ∙ so_far.long;
      done = done-more;
    }

  pub with_marks-done : (now : State) → MarksBelow (length header.layout.zones) now
      → length s.mark ≡ length header.layout.zones → now ≡ with_marks header zones s
  with_marks-done now so_far one_each = so_far.rest ∙ ap (λ (marks : List ℕ). record s { mark = marks })
      (is_listed (zone_mark header zones s) (length header.layout.zones) now.mark 0 (so_far.long ∙ one_each)
      so_far.done)
