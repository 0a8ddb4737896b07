use Rattle.std.proofs.Common.{◌≡◌, ℕ, ◌<◌, ◌≤◌, length, get_or, if◌then◌else◌}
use Rattle.vms_world.specs.Common.{is_online, state_at, cell, place_count, place_threshold}
use Rattle.vms_hotplug.proofs.settings.set_thresholds.Given as goal

-- the places so far have got their thresholds
abbrev pub invariant-loop-place : goal.invariant-loop-place
invariant-loop-place l = record {
  same_length : length l.thresholds ≡ length l.initial.thresholds;
  done : (c g : ℕ) → c < l.layout.cpus → g < l.place → get_or l.thresholds (cell (place_count l.layout) c g) 0
      ≡ (if is_online (state_at l.states c)
      then place_threshold l.layout l.zones g
      else get_or l.initial.thresholds (cell (place_count l.layout) c g) 0);
  later : (c g : ℕ) → c < l.layout.cpus → l.place ≤ g → g < place_count l.layout →
      get_or l.thresholds (cell (place_count l.layout) c g) 0
      ≡ get_or l.initial.thresholds (cell (place_count l.layout) c g) 0;
}
