-- For other crates too: how near a value is that a pass loaded.
use Rattle.std.proofs.Common.{◌≡◌, ℕ, ℤ, [], to_z, of_z, w64, ◌∙◌, ap, subst}
use Rattle.vms_calls.specs.Common.{CounterId, Facts, ItemId, LoadG, LoadS, Step, at_least_zero, pages}
use Rattle.vms_core.specs.Pages.{IsLegal}
use Rattle.vms_look.proofs.PassSteps.{system-told, value-told}
use Rattle.vms_near.specs.Loads.{LoadsNearly, SystemLoadsNearly}
use Rattle.vms_near.specs.Near.{TellsNearly}
use Rattle.vms_near.specs.SystemNear.{SystemTellsNearly}
use Rattle.vms_near.proofs.BySystem.{system_values-tell_nearly}
use Rattle.vms_near.proofs.ByValue.{values-tell_nearly}
use Rattle.vms_seats.specs.Common.{Pass, MadeOne}

pub value-near : (new old : Pass Facts Step) (k : CounterId) (value : ℤ) (told : ℕ)
    → MadeOne pages new old (LoadG k value) → told ≡ at_least_zero (to_z w64 (of_z w64 value))
    → LoadsNearly old.facts new.seen old.seen old.number k told
value-near new old k value told one is =
    let legal = subst (IsLegal old.facts) one.at.newest one.at.legal in
    record {
      value = value;
      moment = one.at.before;
      loaded = record { begins = one.at.others.extends; until = ([], one.at.newest) };
      is = is ∙ ap at_least_zero (value-told new old k value one);
      nearly = subst (TellsNearly old.facts one.at.before k.number) legal.2.1
          (values-tell_nearly old.facts one.at.before legal.0 k.number legal.2.0);
    }

pub system-near : (new old : Pass Facts Step) (i : ItemId) (value : ℤ) (told : ℕ)
    → MadeOne pages new old (LoadS i value) → told ≡ at_least_zero (to_z w64 (of_z w64 value))
    → SystemLoadsNearly old.facts new.seen old.seen old.number i told
system-near new old i value told one is =
    let legal = subst (IsLegal old.facts) one.at.newest one.at.legal in
    record {
      value = value;
      moment = one.at.before;
      loaded = record { begins = one.at.others.extends; until = ([], one.at.newest) };
      is = is ∙ ap at_least_zero (system-told new old i value one);
      nearly = subst (SystemTellsNearly old.facts one.at.before i.number) legal.2.1
          (system_values-tell_nearly old.facts one.at.before legal.0 i.number legal.2.0);
    }
