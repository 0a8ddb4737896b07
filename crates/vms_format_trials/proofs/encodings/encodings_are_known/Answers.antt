-- Each number is computed from its definition.
use Rattle.std.proofs.Common.{refl}
use Rattle.std.specs.Fmt.{digits}
use Rattle.vms_base.specs.Groups.{bytes_of_word, word_of_bytes}
use Rattle.vms_base.specs.Numbers as numbers
use Rattle.vms_format_trials.proofs.encodings.encodings_are_known.Goals as goal

pub returns : goal.returns
unfolding numbers.highest_bit digits word_of_bytes bytes_of_word
returns c = record {
  zero = refl;
  negative = refl;
  least = refl;
  bits = refl;
  packed = refl;
  unpacked = refl;
}
