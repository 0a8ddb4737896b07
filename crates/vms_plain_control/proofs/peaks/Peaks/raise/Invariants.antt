use Rattle.std.proofs.Common.{◌≡◌}
use Rattle.vms_plain_control.specs.Common.{HasAllPeaks, online_in, peaks_raised}
use Rattle.vms_plain_control.proofs.OnlineLeft.{online_left}
use Rattle.vms_plain_control.proofs.peaks.Peaks.raise.Given as goal

-- with the CPUs that are left it comes to what is wanted
abbrev pub invariant-loop-number : goal.invariant-loop-number
invariant-loop-number l = record {
  full : HasAllPeaks l.layout l.self;
  rest : peaks_raised l.layout l.zone.number l.threshold (online_left l.pages.cpu l.number) l.self
      ≡ peaks_raised l.layout l.zone.number l.threshold (online_in l.pages) l.initial.self;
}
