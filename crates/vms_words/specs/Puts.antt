-- What a put asks of its pass, and what it has made: the put, or a miss.
use Rattle.std.specs.Prelude.{◌≡◌, ◌≢◌, ℕ, ◌+◌, ◌≤◌, ℤ, Some, slice_index_or, slice_set, unsigned_abs}
use Rattle.vms_calls.specs.Common.{Diffs, CounterId, CpuId, Mode, IsCounter, group_of, place_of, most_volume, own, Put}
use Rattle.vms_calls.specs.Common.{Miss, TellsGroup, entry, eight_zeros, carried_by, found, loaded, CarriesNothing}
use Rattle.vms_calls.specs.Common.{pages, state_after}
use Rattle.vms_seats.specs.Common.{MadeOne}
use Rattle.vms_words.specs.declared.puts.PutDone.{PutDone}
use Rattle.vms_words.specs.declared.puts.PutDone.TheVariants.{Done, Missed}
use Rattle.vms_words.specs.PagePasses.{OwningPass}

-- the pass found this list last in the counter's group and loaded this threshold of its place, it carries nothing, and
-- its CPU may still change the counter by so much
pub record MayPut (old : OwningPass) (k : CounterId) (w : Diffs) (t : ℕ) (delta : ℤ) : Type 0 where
  pub cpu : CpuId
  pub owns : old.pass.cpu ≡ Some cpu
  pub counter : IsCounter old.pass.facts.layout k.number
  pub as_found : found cpu (group_of k.number) (own old.pass.seen old.pass.number) ≡ Some w.values
  pub number : ℕ
  pub as_loaded : loaded (place_of old.pass.facts.layout k.number) (own old.pass.seen old.pass.number)
      ≡ Some (record { t = t; number = number })
  pub nothing_carried : CarriesNothing old.pass.facts.layout (own old.pass.seen old.pass.number)
  pub affordable : slice_index_or old.volume k.number 0 + unsigned_abs delta ≤ most_volume

-- the pass made the put, which carries this amount, and its CPU's volume of the counter grew by the size of the change
pub record HasPut (new old : OwningPass) (k : CounterId) (w : Diffs) (t : ℕ) (delta : ℤ) (how : Mode)
    (amount : ℤ) : Type 0 where
  pub made : MadeOne pages new.pass old.pass (Put k w t delta how)
  pub carries : amount ≡ carried_by how t (entry w.values k.number) delta
  pub grown : new.volume
      ≡ slice_set old.volume k.number (slice_index_or old.volume k.number 0 + unsigned_abs delta)

-- the pass made a miss. All eight differentials were 0 and are, and the list that it had found is another
pub record HasMissed (new old : OwningPass) (k : CounterId) (w : Diffs) : Type 0 where
  pub made : MadeOne pages new.pass old.pass (Miss (record { number = group_of k.number }) w)
  pub volume : new.volume ≡ old.volume
  pub zeros : (cpu : CpuId) → old.pass.cpu ≡ Some cpu →
      TellsGroup (state_after old.pass.facts new.pass.seen) cpu.number (group_of k.number) eight_zeros
  pub other : w.values ≢ eight_zeros

-- which of both it was
abbrev pub PutsOrMisses : OwningPass → OwningPass → CounterId → Diffs → ℕ → ℤ → Mode → PutDone → Type 0
PutsOrMisses new old k w t delta how (Done amount) = HasPut new old k w t delta how amount
PutsOrMisses new old k w t delta how Missed = HasMissed new old k w
