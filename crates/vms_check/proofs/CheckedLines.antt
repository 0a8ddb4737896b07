-- A check makes no phase, and its texts are plain.
use Rattle.std.proofs.Common.{refl}
use Rattle.vms_check.specs.Common.{checking}
use Rattle.vms_command.proofs.Common.{IsPlain}

pub IsPlain-checking : IsPlain checking
IsPlain-checking = record {
  no_phase = λ header above kept. refl;
  plain_text = λ header n above said kept asks. asks;
}
