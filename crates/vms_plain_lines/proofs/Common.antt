-- For other crates too: the lemmas that they cite, passed on from one place. Declares nothing.
pub use Rattle.vms_plain_lines.proofs.SetLines.{SetByLines-call, SetByLines-line, SetByLines-opening}
pub use Rattle.vms_plain_lines.proofs.SetLines.{SetByLines-turn_room}
pub use Rattle.vms_plain_lines.proofs.StandingLines.{StandsInPhase-line, StandsInPhase-opening}
