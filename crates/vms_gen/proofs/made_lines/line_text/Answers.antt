use Rattle.std.proofs.Common.{◌/◌, ◌%◌, ◌^◌, ◌∷◌, ◌++◌, arith, codes, decimal, length-append}
use Rattle.std.proofs.lemmas.Bool.{ne_eqb}
use Rattle.vms_text.specs.Common.{text_of}
use Rattle.vms_gen.specs.Common.{line_at}
use Rattle.vms_gen.proofs.LineKinds.{cnt-words, dec-words, ev-words, inc-words, node-words, put-alone}
use Rattle.vms_gen.proofs.Rooms.{amount-of_129, amount-of_65, decimal-room, line-room}
use Rattle.vms_gen.proofs.made_lines.line_text.Goals as goal

pub put_line-requires : goal.put_line-requires
put_line-requires c =
    line-room c.lane.result c.new-text.result.items (codes " dec 0 node nr_dirty") c.new-text.ensures
    (omega (arith, c.lane.ensures)) (omega arith)

pub put_line-requires-in-11 : goal.put_line-requires-in-11
put_line-requires-in-11 c =
    let n = c.args.state / 2 ^ 33 / 1024 % 4 in
    line-room c.lane.result c.new-text.result.items (codes " ev pgfault " ++ decimal n) c.new-text.ensures
    (omega (arith, c.lane.ensures)) (omega (arith, decimal-room n (omega arith)))

pub put_line-requires-in-12 : goal.put_line-requires-in-12
put_line-requires-in-12 c =
    line-room c.lane.result c.new-text.result.items (codes " cnt files " ++ text_of c.amount.result)
    c.new-text.ensures (omega (arith, c.lane.ensures))
    (omega (arith, amount-of_129 (text_of c.amount.result) _ c.amount.ensures))

pub put_line-requires-in-13 : goal.put_line-requires-in-13
put_line-requires-in-13 c =
    let n = c.args.state / 2 ^ 33 / 1024 % c.from.result in
    line-room c.lane.result c.new-text.result.items (codes " fold " ++ decimal n) c.new-text.ensures
    (omega (arith, c.lane.ensures)) (omega (arith, decimal-room n (omega (arith, c.from.ensures, c.requires.least))))

pub put_line-requires-in-0-to-7 : goal.put_line-requires-in-0-to-7
put_line-requires-in-0-to-7 c =
    let item = text_of c.zone_item.result in let amount = text_of c.amount-in-0-to-7.result in
    line-room c.lane.result c.new-text.result.items (codes " mod 0 Normal " ++ (item ++ 32 ∷ amount))
    c.new-text.ensures (omega (arith, c.lane.ensures))
    (omega (
      arith,
      length-append item (32 ∷ amount),
      c.zone_item.ensures.short,
      amount-of_65 amount _ c.amount-in-0-to-7.ensures,
    ))

pub put_line-requires-in-8 : goal.put_line-requires-in-8
put_line-requires-in-8 c =
    line-room c.lane.result c.new-text.result.items (codes " inc 0 Normal nr_free_pages") c.new-text.ensures
    (omega (arith, c.lane.ensures)) (omega arith)

pub put_line-requires-in_default-2 : goal.put_line-requires-in_default-2
put_line-requires-in_default-2 c =
    line-room c.lane.result c.new-text.result.items
    (codes " mod 0 node nr_file_pages " ++ text_of c.amount-in_default-2.result) c.new-text.ensures
    (omega (arith, c.lane.ensures))
    (omega (arith, amount-of_65 (text_of c.amount-in_default-2.result) _ c.amount-in_default-2.ensures))

pub returns-in-10 : goal.returns-in-10
returns-in-10 c =
    put-alone _ _ _ (line_at c.args.cpus c.args.state) c.put_line.ensures c.new-text.ensures
    (dec-words c.args.cpus _ _ (c.args.state / 2 ^ 33 / 1024) c.lane.result c.lane.ensures c.in-10.is)

pub returns-in-11 : goal.returns-in-11
returns-in-11 c =
    put-alone _ _ _ (line_at c.args.cpus c.args.state) c.put_line-in-11.ensures c.new-text.ensures
    (ev-words c.args.cpus _ _ (c.args.state / 2 ^ 33 / 1024) c.lane.result c.lane.ensures c.in-11.is)

pub returns-in-12 : goal.returns-in-12
returns-in-12 c =
    put-alone _ _ _ (line_at c.args.cpus c.args.state) c.put_line-in-12.ensures c.new-text.ensures
    (cnt-words c.args.cpus _ _ (c.args.state / 2 ^ 33 / 1024) c.lane.result c.lane.ensures _ c.in-12.is
    c.amount.ensures)

pub returns-in-8 : goal.returns-in-8
returns-in-8 c =
    put-alone _ _ _ (line_at c.args.cpus c.args.state) c.put_line-in-8.ensures c.new-text.ensures
    (inc-words c.args.cpus (c.args.state / 2 ^ 33 % 16) _ (c.args.state / 2 ^ 33 / 1024) c.lane.result
    c.lane.ensures (omega arith) (omega arith))

pub returns-in_default-2 : goal.returns-in_default-2
returns-in_default-2 c =
    put-alone _ _ _ (line_at c.args.cpus c.args.state) c.put_line-in_default-2.ensures c.new-text.ensures
    (node-words c.args.cpus (c.args.state / 2 ^ 33 % 16) _ (c.args.state / 2 ^ 33 / 1024) c.lane.result
    c.lane.ensures _ (omega arith) (ne_eqb _ _ c.if-rest-eq0-2.false) c.amount-in_default-2.ensures)
