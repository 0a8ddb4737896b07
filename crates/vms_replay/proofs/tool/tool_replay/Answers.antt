-- The phases that were made are those of the file order.
use Rattle.vms_replay.proofs.tool.tool_replay.Goals as goal

pub returns : goal.returns
returns g c =
    let replayed = c.replay_trace.ensures in
    record {
      taken = replayed.answers.taken;
      written = replayed.answers.written;
      consumes = replayed.answers.consumes;
      appends = replayed.answers.appends;
      answer = record { made = replayed.made; says = replayed.answers.answer };
      reads = replayed.answers.reads;
      writes = replayed.answers.writes;
    }
