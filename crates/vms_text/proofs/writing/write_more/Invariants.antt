use Rattle.std.proofs.Common.{◌≡◌, ◌++◌, map, take}
use Rattle.vms_text.specs.Common.{spaced, text_of}
use Rattle.vms_text.proofs.writing.write_more.Given as goal

abbrev pub invariant-loop-word : goal.invariant-loop-word
invariant-loop-word l = l.out.items ≡ l.initial.out.items ++ spaced (map text_of (take l.word-index l.words))
