-- A CPU more gets the threshold, if it is online.
use Rattle.std.proofs.Common.{◌≡◌, ℕ, ◌+◌, ◌<◌, length, sym, ap, subst, ◌∙◌, arith}
use Rattle.vms_calls.specs.Common.{is_online, state_at, IsLayout, State, HasShape, threshold_sets_at, most_sets}
use Rattle.vms_core.proofs.Common.{places_of-shaped}
use Rattle.vms_plain_control.specs.Common.{with_place_thresholds}
use Rattle.vms_plain_control.proofs.OnlineLeft.{online_left, online_left-online, online_left-other}
use Rattle.vms_plain_control.proofs.ThresholdWrites.{HasShape-with_threshold, threshold_sets_at-later}
use Rattle.vms_plain_control.proofs.online.set_thresholds.Goals as goal
use Rattle.vms_plain_control.proofs.online.set_thresholds.Goals.{then-is_online, else-is_online}

pub set_threshold-requires-clause-place : goal.set_threshold-requires-clause-place
set_threshold-requires-clause-place c =
    rw (places_of-shaped c.args.layout.now c.loop-number.pages c.cpus-number-end.ensures.is_layout
    c.loop-number.invariant.shaped) c.requires.place

pub loop-number-preserved : goal.loop-number-preserved
loop-number-preserved c =
    let shape = c.args.layout.now in
    let layout : IsLayout shape = c.cpus-number-end.ensures.is_layout in
    let first = c.args.pages.now in
    let now = c.loop-number.pages in
    let n = c.loop-number.number in
    let g = c.args.place.number in
    let t = c.args.threshold in
    let so_far = c.loop-number.invariant in
    let told : is_online (state_at first.cpu n) ≡ c.is_online.result =
    ap (λ xs. is_online (state_at xs n)) (sym so_far.cpus) ∙ ap is_online (sym c.load_state.ensures)
    ∙ sym c.is_online.ensures in
    let n_in : n < shape.cpus = omega (arith, c.loop-number-test.true, c.cpus-number-end.ensures.value) in
    let within : n < length first.cpu = omega (arith, n_in, c.requires.shaped.cpu) in
    elim c.if-is_online.branch [
      | then-is_online w ↦
          let is = w.pages-is ∙ w.set_threshold.ensures in
          record {
            shaped = subst (HasShape shape) (sym is) (HasShape-with_threshold shape layout now so_far.shaped n g t);
            cpus = ap (λ (x : State). x.cpu) is ∙ so_far.cpus;
            sets = λ d past d_in. subst (λ (x : State). threshold_sets_at x d g < most_sets) (sym is)
                (subst (λ (m : ℕ). m < most_sets)
                (sym (threshold_sets_at-later shape layout now so_far.shaped n g t n_in c.requires.place d g
                c.requires.place past))
                (so_far.sets d (omega (arith, past)) d_in));
            rest = ap (with_place_thresholds g t (online_left first.cpu (n + 1))) is
                ∙ sym (ap (λ cs. with_place_thresholds g t cs now)
                (online_left-online first.cpu n within (told ∙ w.if-is_online.true)))
                ∙ so_far.rest;
          }
      | else-is_online w ↦
          record {
            shaped = subst (HasShape shape) (sym w.pages-is) so_far.shaped;
            cpus = ap (λ (x : State). x.cpu) w.pages-is ∙ so_far.cpus;
            sets = λ d past d_in. subst (λ (x : State). threshold_sets_at x d g < most_sets) (sym w.pages-is)
                (so_far.sets d (omega (arith, past)) d_in);
            rest = ap (with_place_thresholds g t (online_left first.cpu (n + 1))) w.pages-is
                ∙ sym (ap (λ cs. with_place_thresholds g t cs now)
                (online_left-other first.cpu n within (told ∙ w.if-is_online.false)))
                ∙ so_far.rest;
          }
    ]
