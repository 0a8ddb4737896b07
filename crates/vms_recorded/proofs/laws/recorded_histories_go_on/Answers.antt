-- The first page counters, each phase and each boundary line.
use Rattle.std.proofs.Common.{refl}
use Rattle.vms_phase_lines.proofs.KernelThresholds.{normal-gives}
use Rattle.vms_recorded.proofs.RecordedWays.{history_lines-more, leads-boundary, leads-phase, phase-written}
use Rattle.vms_recorded.proofs.laws.recorded_histories_go_on.Goals as goal

pub returns : goal.returns
returns c =
    let orders = c.file_order_makes_lines.ensures in
    let starts = c.written_phases_keep_starts.ensures in
    record {
      first = λ header zones valid are. record {
        zones = zones;
        answers = are;
        leads = refl;
        begun = starts.first header zones valid normal-gives are;
      };
      phase = λ header segments hs start s items h recorded fits is. record {
        zones = recorded.zones;
        answers = recorded.answers;
        leads = leads-phase header segments hs _ s items h recorded.leads is;
        begun = starts.phase header start s items h recorded.begun fits (phase-written header
            (λ base all g in_order. orders.lanes (header, base) header.layout all g in_order.order)
            (λ base all g in_order. orders.lines (header, base) header.layout all g in_order.order) s items h is);
      };
      boundary = λ header segments hs start s next number b recorded known allowed crosses. record {
        zones = recorded.zones;
        answers = recorded.answers;
        leads = leads-boundary header segments hs _ s next number b recorded.leads
            (starts.may header start s b recorded.begun known allowed) crosses;
        begun = starts.boundary header start s next b normal-gives recorded.begun known allowed crosses;
      };
      recorded = λ header segments hs start s recorded. record {
        zones = recorded.zones;
        answers = recorded.answers;
        last = s;
        leads = recorded.leads;
      };
      lines = history_lines-more;
    }
