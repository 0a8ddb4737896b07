use Rattle.std.proofs.Common.{◌<◌, arith, ap, lit<, length-append, map, take, length}
use Rattle.arrayvec.specs.ArrayVec.{array_vec_len}
use Rattle.vms_text.specs.Common.{spaced, text_of}
use Rattle.vms_gen.proofs.Rooms.{no_word, spaced-room}
use Rattle.vms_gen.proofs.spelling.put_more.Goals as goal

pub push-requires : goal.push-requires
push-requires c =
    let words = c.args.words.now in let i = c.loop-word.word-index in
    let long = ap length c.loop-word.invariant in
    let room : array_vec_len c.loop-word.text < 208 = omega (
      arith,
      long,
      spaced-room words i no_word c.loop-word-test.true,
      length-append c.args.text.now.items (spaced (map text_of (take i words))),
    ) in (lit< tt, room)

pub put_word-requires : goal.put_word-requires
put_word-requires c =
    let words = c.args.words.now in let i = c.loop-word.word-index in
    omega (
      arith,
      ap length c.loop-word.invariant,
      spaced-room words i no_word c.loop-word-test.true,
      length-append c.args.text.now.items (spaced (map text_of (take i words))),
      c.push.ensures.len,
    )
