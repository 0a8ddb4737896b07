use Rattle.std.proofs.Common.{◌≡◌, ℕ, ℤ, List, refl, map}
use Rattle.std.specs.Int.{w8, w64, cast_signed, to_le_bytes}
use Rattle.vms_base.specs.Groups.{bytes_of_word}
use Rattle.vms_base.proofs.Words.{word_of_bytes-bytes_of_word}
use Rattle.vms_base.proofs.packing.unpack.Goals as goal

entries : (word : ℕ) (bytes : List ℕ) (values : List ℤ) → values ≡ map (cast_signed w8) bytes
    → bytes ≡ to_le_bytes w64 word → values ≡ bytes_of_word word
unfolding bytes_of_word
entries word bytes values are from = rw (are, from) refl

pub returns-clause-value : goal.returns-clause-value
returns-clause-value c = entries c.args.w c.to_le_bytes.result c.values_of.result c.values_of.ensures.value
    c.to_le_bytes.ensures

pub returns-clause-word : goal.returns-clause-word
returns-clause-word c =
    let are = entries c.args.w c.to_le_bytes.result c.values_of.result c.values_of.ensures.value
    c.to_le_bytes.ensures in
    rw are (word_of_bytes-bytes_of_word c.args.w c.ranges.w.fits)
