-- The zone goes in front of the first zone of a higher rank, and there is room for it.
use Rattle.std.proofs.Common.{◌≡◌, ◌≤◌, ◌<◌, ◌∙◌, false, sym, arith, ℕ, eqb, lit<, nat_eq, nat_le, length, not, nat_lt}
use Rattle.std.proofs.Common.{refl}
use Rattle.std.proofs.lemmas.Bool.Decides.{nat_tests}
use Rattle.std.proofs.lemmas.List.Sums.{prefix_len-le-length}
use Rattle.std.specs.List.{list_any}
use Rattle.vms_base.specs.Common.{rank_of}
use Rattle.vms_header.proofs.RowsByValues.{with_zone-insert}
use Rattle.vms_header.proofs.sections.with_new_zone.Goals as goal

below : (n : ℕ) → n ≤ 16 → eqb n 16 ≡ false → n < 16
below n most not = grind (arith, nat_tests)

not_full : (n : ℕ) → n < 16 → nat_le 16 n ≡ false
not_full n below = grind (arith, nat_tests)

pub insert-requires : goal.insert-requires
insert-requires c =
    let zones = c.args.draft.zones.items in
    let rank = rank_of c.args.zone.name in
    let room = below (length zones) c.is_full.ensures.fits (sym c.is_full.ensures.value ∙ c.if-is_full.false) in
    let at = c.first_above-index.ensures ∙ rw (c.rank-rank.ensures, c.as_slice-2.ensures.value) refl in
    let within = prefix_len-le-length (λ other. not (nat_lt rank (rank_of other.name))) zones in
    (lit< tt, (rw at within, room))

pub returns : goal.returns
returns c =
    let zones = c.args.draft.zones.items in
    let rank = rank_of c.args.zone.name in
    let room = below (length zones) c.is_full.ensures.fits (sym c.is_full.ensures.value ∙ c.if-is_full.false) in
    let other : list_any (λ other. nat_eq (rank_of other.name) rank) zones ≡ false =
    rw (← c.rank-rank.ensures, ← c.as_slice.ensures.value) (sym c.has_rank.ensures ∙ c.if-has_rank.false) in
    let at = c.first_above-index.ensures ∙ rw (c.rank-rank.ensures, c.as_slice-2.ensures.value) refl in
    let inserted = with_zone-insert c.args.zone zones c.first_above-index.result at ∙ sym c.insert.ensures.items in
    rw (other, not_full (length zones) room, inserted) refl
