use Rattle.std.proofs.Common.{◌≡◌, ◌∙◌, refl, sym, ap, rules, length}
use Rattle.std.specs.Int.{w8, cast_unsigned}
use Rattle.std.proofs.lemmas.List.{length-map}
use Rattle.vms_base.specs.Groups.{word_of_bytes}
use Rattle.vms_base.proofs.Words.{bytes_of_word-word_of_bytes}
use Rattle.vms_base.proofs.packing.pack.Goals as goal
use Rattle.vms_base.proofs.packing.pack.Goals.{After-from_le_bytes}

value : (c : After-from_le_bytes) → c.from_le_bytes.result ≡ word_of_bytes c.args.d.now.values
unfolding word_of_bytes
value c = rw (c.from_le_bytes.ensures, c.bytes_of.ensures) refl

pub returns-clause-value : goal.returns-clause-value
returns-clause-value c = value c

pub returns-clause-read : goal.returns-clause-read
returns-clause-read c =
    let bytes : length c.bytes_of.result ≡ 8 = search rules in
    let eight : length c.args.d.now.values ≡ 8 =
    sym (length-map c.args.d.now.values (cast_unsigned w8)) ∙ ap length (sym c.bytes_of.ensures) ∙ bytes in
    rw (value c) (bytes_of_word-word_of_bytes c.args.d.now.values eight c.args.d.now.bytes)
