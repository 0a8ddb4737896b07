use Rattle.std.proofs.Common.{◌≡◌, ◌+◌, ◌++◌, length, take, drop, sym, ap, ◌∙◌, arith, rules, length-drop}
use Rattle.std.proofs.Math.Seq.{take-add}
use Rattle.std.proofs.lemmas.List.{with_items_is, places, length-take-le}
use Rattle.vms_io.proofs.buffers.ReadBuffer.read_more.Goals as goal

pub returns-clause-ok : goal.returns-clause-ok
returns-clause-ok g c =
    let held = c.self.inside.held in
    let n = c.in_ok-taken.taken in
    let room = c.read_into.new.room in
    let shown : take held room ≡ c.args.self.now =
    c.read_into.ensures.front ∙ ap (take held) c.as_mut_slice.ensures.value ∙ c.make_room.ensures.kept
    ∙ c.self.view_is in
    let long : length c.args.self.now ≡ held = ap length (sym shown)
    ∙ length-take-le held room (omega (arith, c.in_ok-taken.ensures.fits)) in
    record {
      taken = take n (drop held room);
      count = length-take-le n (drop held room) (omega (arith, length-drop held room, c.in_ok-taken.ensures.fits));
      grows = ap (take (held + n)) (with_items_is c.make_room.new.room room (search (rules, places)))
          ∙ take-add held n room ∙ ap (λ l. l ++ take n (drop held room)) shown;
      consumes = c.in_ok-taken.ensures.bytes.0;
      ends = λ none. c.in_ok-taken.ensures.bytes.1 none
          (omega (
            arith,
            length-drop held room,
            c.read_into.auto.room,
            c.as_mut_slice.ensures.len,
            c.in_ok-make_room.ensures.ok,
          ));
      bounded = omega (arith, c.in_ok-taken.ensures.bounded);
    }
