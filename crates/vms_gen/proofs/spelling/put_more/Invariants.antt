use Rattle.std.proofs.Common.{◌≡◌, ◌++◌, map, take}
use Rattle.vms_text.specs.Common.{spaced, text_of}
use Rattle.vms_gen.proofs.spelling.put_more.Given as goal

abbrev pub invariant-loop-word : goal.invariant-loop-word
invariant-loop-word l = l.text.items ≡ l.initial.text.items ++ spaced (map text_of (take l.word-index l.words))
