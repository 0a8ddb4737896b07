-- A replay before the first line of a body.
use Rattle.std.proofs.Common.{◌≡◌, ℕ, ◌<◌, ◌≤◌, List, [], refl, sym, ap, subst, arith, Some}
use Rattle.std.proofs.lemmas.List.Elements.{All-nil}
use Rattle.vms_world.specs.Common.{Header, IsHeader, first_start, Item}
use Rattle.vms_command.specs.Common.{nothing_above}
use Rattle.vms_script.proofs.Common.{Fits-none}
use Rattle.vms_replay.specs.declared.bodies.Replay.{Replay}
use Rattle.vms_replay.specs.declared.waits.Wait.{Wait}
use Rattle.vms_replay.specs.Common.{first_kept, StandsBefore, TellsWaits, asked_numbers}
use Rattle.vms_replay.proofs.KernelThresholds.{IsStartOf-started}
use Rattle.vms_replay.proofs.PlainTotals.{HasPlainTotals-first}
use Rattle.vms_replay.proofs.TextWaits.{TellsWaits-none}

pub StandsBefore-first : {E : Type 0} (header : Header) → IsHeader header → (replay : Replay E)
    → replay.world ≡ Some (first_kept header).world → replay.items.items ≡ [] → replay.waits.items ≡ []
    → (n : ℕ) → 1 ≤ n
    → StandsBefore replay header n nothing_above (first_kept header) []
StandsBefore-first header valid replay in_world no_items no_waits n some = record {
  runs = record {
    in_world = in_world;
    keeps = no_items;
    tells = subst (λ (ws : List Wait). TellsWaits header ws []) (sym no_waits) (TellsWaits-none header);
    asks = ap asked_numbers no_waits;
    only_open = λ none. no_waits;
    begins = IsStartOf-started header valid;
    totals = HasPlainTotals-first header valid;
    fits = Fits-none header first_start;
    lines = refl;
    below = All-nil (λ (i : Item). i.number < n);
    fewer = omega (arith, some);
  };
}
