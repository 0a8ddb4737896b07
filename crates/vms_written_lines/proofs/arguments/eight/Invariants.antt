-- The numbers that are read stand before those that are still to be read.
use Rattle.std.proofs.Common.{◌≡◌, ◌-◌, length}
use Rattle.vms_written_lines.specs.Arguments.{eight, entries}
use Rattle.vms_written_lines.proofs.EightRead.{after}
use Rattle.vms_written_lines.proofs.arguments.eight.Given as goal

abbrev pub invariant-loop-i : goal.invariant-loop-i
invariant-loop-i l = record {
  words : eight l.initial.words.words ≡ after l.list l.i (entries (8 - l.i) l.words.words);
  clean : l.words.clean ≡ l.initial.words.clean;
  each : length l.list ≡ 8;
}
