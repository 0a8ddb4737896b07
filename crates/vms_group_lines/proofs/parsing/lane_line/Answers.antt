-- Other numbers of words are of no lane's line.
use Rattle.std.proofs.Common.{arith, map, sym}
use Rattle.std.proofs.lemmas.List.{length-map}
use Rattle.std.specs.Str.Parse.{digits_value}
use Rattle.vms_group_lines.proofs.BodyLines.{lane_line-long, lane_line-one}
use Rattle.vms_group_lines.proofs.parsing.lane_line.Goals as goal

pub returns-in_default : goal.returns-in_default
returns-in_default c =
    sym (lane_line-one c.args.header.now (digits_value 10 c.args.digits.now) (map (λ word. word.now) c.args.words.now)
    (omega (arith, c.in_default.len_below, length-map c.args.words.now (λ word. word.now))))

pub returns-in_default-2 : goal.returns-in_default-2
returns-in_default-2 c =
    sym (lane_line-long c.args.header.now (digits_value 10 c.args.digits.now) (map (λ word. word.now) c.args.words.now)
    (omega (arith, c.in_default.len_at_least, length-map c.args.words.now (λ word. word.now))))
