use Rattle.std.proofs.Common.{◌≡◌}
use Rattle.vms_plain_control.specs.Common.{HasAllPeaks, peaks_lowered, online_in}
use Rattle.vms_plain_control.proofs.OnlineLeft.{online_left}
use Rattle.vms_plain_control.proofs.peaks.Peaks.lower.Given as goal

-- with the CPUs that are left it comes to what is wanted
abbrev pub invariant-loop-number : goal.invariant-loop-number
invariant-loop-number l = record {
  full : HasAllPeaks l.layout l.self;
  rest : peaks_lowered l.layout l.pages l.zone.number (online_left l.pages.cpu l.number) l.self
      ≡ peaks_lowered l.layout l.pages l.zone.number (online_in l.pages) l.initial.self;
}
