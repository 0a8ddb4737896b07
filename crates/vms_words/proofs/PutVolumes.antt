-- Volumes hold what a CPU has spent, after a put that grew one of them.
use Rattle.std.proofs.Common.{◌≡◌, ℕ, ◌+◌, ◌<◌, ◌≤◌, ◌&&◌, Bool, true, false, List, [], ◌∷◌, get_or, ℤ, unsigned_abs}
use Rattle.std.proofs.Common.{refl, sym, ap, ◌∙◌, subst, arith, length-set, if◌then◌else◌, nat_eq, eqb-true, eq-eqb}
use Rattle.std.proofs.Math.ListN.{set}
use Rattle.vms_calls.specs.Common.{Diffs, CounterId, CpuId, Mode, IsCounter, most_volume, Facts, Step, Put, pages}
use Rattle.vms_calls.specs.Common.{spent, spent_by}
use Rattle.vms_history.proofs.Common.{get_or-set}
use Rattle.vms_seats.specs.Common.{Pass, MadeOne}
use Rattle.vms_seats.proofs.Common.{calls-live}
use Rattle.vms_core.proofs.Common.{OwnerKnows-holds}
use Rattle.vms_words.specs.Common.{HoldsSpending, IsOwningPass}

module _ (new old : Pass Facts Step) (cpu : CpuId) (volume : List ℕ) (k : CounterId) (w : Diffs) (t : ℕ) (delta : ℤ)
    (how : Mode) (owning : IsOwningPass old cpu volume) (made : MadeOne pages new old (Put k w t delta how))
    (counter : IsCounter old.facts.layout k.number)
    (affordable : get_or volume k.number 0 + unsigned_abs delta ≤ most_volume) where
  abbrev grown : List ℕ
  grown = set volume k.number (get_or volume k.number 0 + unsigned_abs delta)

  spent-put : (l : ℕ) → spent new.seen cpu.number l
      ≡ (if nat_eq k.number l then unsigned_abs delta else 0) + spent old.seen cpu.number l
  spent-put l =
      let before = made.at.before in
      let knows = OwnerKnows-holds old.facts before old.seen old.number cpu made.at.others
      (owning.live.owner ∙ owning.owns) in
      let mine : nat_eq cpu.number cpu.number ≡ true = eq-eqb cpu.number cpu.number refl in
      ap (λ h. spent h cpu.number l) made.at.newest
      ∙ ap (λ who. spent_by who cpu.number l (Put k w t delta how) + spent before cpu.number l) knows.owner
      ∙ ap (λ (b : Bool). (if b && nat_eq k.number l then unsigned_abs delta else 0) + spent before cpu.number l) mine
      ∙ ap (λ n. (if nat_eq k.number l then unsigned_abs delta else 0) + n) (knows.volumes l)

  grown-at : (l : ℕ) → get_or grown l 0
      ≡ (if nat_eq k.number l then get_or volume k.number 0 + unsigned_abs delta else get_or volume l 0)
  grown-at l =
      get_or-set volume k.number l (get_or volume k.number 0 + unsigned_abs delta) 0
      (subst (λ n. k.number < n) (sym owning.holds.one_each) counter)

  within : (l : ℕ) → IsCounter old.facts.layout l → spent new.seen cpu.number l ≤ get_or grown l 0
  within l known = rw (spent-put l, grown-at l) (by (nat_eq k.number l) refl)
    where
      by : (same : Bool) → nat_eq k.number l ≡ same
          → (if same then unsigned_abs delta else 0) + spent old.seen cpu.number l
          ≤ (if same then get_or volume k.number 0 + unsigned_abs delta else get_or volume l 0)
      by true same =
          let it : k.number ≡ l = eqb-true k.number l same in
          let held : spent old.seen cpu.number l ≤ get_or volume k.number 0 =
          rw it (owning.holds.spent_within l known) in
          omega (arith, held)
      by false differ = omega (arith, owning.holds.spent_within l known)

  below : (l : ℕ) → IsCounter old.facts.layout l → get_or grown l 0 ≤ most_volume
  below l known = rw (grown-at l) (by (nat_eq k.number l))
    where
      by : (same : Bool)
          → (if same then get_or volume k.number 0 + unsigned_abs delta else get_or volume l 0) ≤ most_volume
      by true = affordable
      by false = owning.holds.most l known

  pub owning-put : IsOwningPass new cpu grown
  owning-put = record {
    live = calls-live pages new old (Put k w t delta how ∷ []) owning.live made.all;
    owns = made.all.cpu ∙ owning.owns;
    holds = subst (λ (facts : Facts). HoldsSpending facts.layout new.seen cpu.number grown) (sym made.all.facts)
        (record {
          one_each = length-set volume k.number (get_or volume k.number 0 + unsigned_abs delta)
              ∙ owning.holds.one_each;
          spent_within = within;
          most = below;
        });
  }
