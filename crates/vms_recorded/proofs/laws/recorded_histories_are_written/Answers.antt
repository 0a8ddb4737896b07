-- Phase by phase, through the boundary lines.
use Rattle.vms_recorded.proofs.RecordedWays.{leads-written}
use Rattle.vms_recorded.proofs.laws.recorded_histories_are_written.Goals as goal

pub returns : goal.returns
returns c header segments hs is =
    let orders = c.file_order_makes_lines.ensures in
    record {
      zones = is.zones;
      answers = is.answers;
      last = is.last;
      leads = leads-written header
          (λ base all g in_order. orders.lanes (header, base) header.layout all g in_order.order)
          (λ base all g in_order. orders.lines (header, base) header.layout all g in_order.order) segments hs _ is.last
          is.leads;
    }
