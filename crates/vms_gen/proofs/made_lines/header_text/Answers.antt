use Rattle.std.proofs.Common.{ℕ, [], ◌∷◌, arith, ap, decimal, length, length-append}
use Rattle.vms_gen.proofs.Rooms.{decimal-room}
use Rattle.vms_gen.proofs.made_lines.header_text.Goals as goal

pub put_line-requires : goal.put_line-requires
put_line-requires c =
    omega (
      arith,
      ap length c.new-text.ensures,
      ap length c.put_bytes.ensures,
      decimal-room c.from.result (omega (arith, c.from.ensures)),
      length-append (decimal c.from.result) (10 ∷ []),
      length-append {A = ℕ},
    )

pub put_bytes-requires-2 : goal.put_bytes-requires-2
put_bytes-requires-2 c =
    omega (
      arith,
      ap length c.new-text.ensures,
      ap length c.put_bytes.ensures,
      ap length c.put_line.ensures,
      decimal-room c.from.result (omega (arith, c.from.ensures)),
      length-append (decimal c.from.result) (10 ∷ []),
      length-append {A = ℕ},
    )

pub put_bytes-requires-3 : goal.put_bytes-requires-3
put_bytes-requires-3 c =
    omega (
      arith,
      ap length c.new-text.ensures,
      ap length c.put_bytes.ensures,
      ap length c.put_line.ensures,
      ap length c.put_bytes-2.ensures,
      decimal-room c.from.result (omega (arith, c.from.ensures)),
      length-append (decimal c.from.result) (10 ∷ []),
      length-append {A = ℕ},
    )
