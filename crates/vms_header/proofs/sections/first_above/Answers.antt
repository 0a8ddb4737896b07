-- Where no zone has a higher rank, the index is the number of zones.
use Rattle.std.proofs.Common.{◌∙◌, sym, arith, nat_lt, not}
use Rattle.std.proofs.lemmas.List.Sums.{prefix_len-le-length}
use Rattle.vms_base.specs.Common.{rank_of}
use Rattle.vms_text.proofs.Common.{position_or_len-none, position_or_len-some}
use Rattle.vms_header.proofs.sections.first_above.Goals as goal

pub returns-in-Some : goal.returns-in-Some
returns-in-Some c =
    let is = position_or_len-some (λ other. nat_lt c.args.rank (rank_of other.name)) c.args.zones.now c.in-Some.index
    (sym c.above.ensures ∙ c.in-Some.is) in
    sym is.0

pub returns-in-None : goal.returns-in-None
returns-in-None c =
    let zones = c.args.zones.now in
    omega (
      arith,
      position_or_len-none (λ other. nat_lt c.args.rank (rank_of other.name)) zones (sym c.above.ensures
          ∙ c.in-None.is),
      prefix_len-le-length (λ other. not (nat_lt c.args.rank (rank_of other.name))) zones,
    )
