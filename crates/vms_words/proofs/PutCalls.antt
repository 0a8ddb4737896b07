-- What a pass may put, and what it has made by then, from what it is asked.
use Rattle.std.proofs.Common.{◌≡◌, ◌≢◌, ℕ, ◌+◌, ◌%◌, ◌<◌, ◌≤◌, ◌^◌, ◌==◌, Bool, true, false, List, length, get_or}
use Rattle.std.proofs.Common.{Option, Some, None, ℤ, pos, negsuc, unsigned_abs, to_z, of_z, w64, refl, sym, ap, ◌∙◌}
use Rattle.std.proofs.Common.{subst, arith, if◌then◌else◌, eq-eqb}
use Rattle.std.proofs.Math.ListN.{set}
use Rattle.std.proofs.lemmas.Bool.{ne_eqb}
use Rattle.std.proofs.lemmas.Int.{ints, to_z-of_z}
use Rattle.std.proofs.lemmas.Option.{same_Some}
use mir.Val.{SFits}
use Rattle.vms_calls.specs.Common.{Diffs, CounterId, CpuId, GroupId, Mode, IsByte, group_of, place_of, most_threshold}
use Rattle.vms_calls.specs.Common.{most_volume, own, owner_in, State, Facts, Step, Put, Miss, TellsGroup, entry}
use Rattle.vms_calls.specs.Common.{eight_zeros, differential_after, carried_by, Misses, MayExchange, found, pages}
use Rattle.vms_calls.specs.Common.{History, state_after, role, effect}
use Rattle.vms_base.specs.Groups.{word_of_bytes}
use Rattle.vms_base.proofs.Common.{place_of-lt}
use Rattle.vms_history.specs.Legal.{IsLegal}
use Rattle.vms_history.proofs.Common.{base_can_begin}
use Rattle.vms_seats.specs.Common.{Pass, IsLive, MayStep, MadeOne}
use Rattle.vms_core.proofs.Common.{laws-kept, owner_in-goes_on}
use Rattle.vms_words.specs.declared.spots.Spot.TheVariants.{Group}
use Rattle.vms_words.specs.Common.{IsOwningPass, MayPut, place_in, told}
use Rattle.vms_words.specs.Shown.{shown}
use Rattle.vms_words.specs.Spots.{blocks_of}
use Rattle.vms_words.proofs.Numbers.{fits-64, byte-passed}
use Rattle.vms_words.proofs.PutSteps.{group-put}

byte-within : (z : ℤ) → unsigned_abs z ≤ most_threshold → IsByte z
byte-within (pos n) small = (omega (arith, ints), omega (arith, ints))
byte-within (negsuc n) small = (omega (arith, ints), omega (arith, ints))

byte-size : (z : ℤ) → IsByte z → unsigned_abs z ≤ 128
byte-size (pos n) byte = omega (arith, ints)
byte-size (negsuc n) byte = omega (arith, ints)

-- a differential is a byte, also when it was passed on
pub passed-byte : (z : ℤ) (t : ℕ) → unsigned_abs z ≤ t → t ≤ most_threshold → IsByte (to_z w64 (of_z w64 z))
passed-byte z t within most =
    subst IsByte (sym (to_z-of_z w64 z (fits-64 z (omega (arith, within, most)))))
    (byte-within z (omega (arith, within, most)))

-- what a change makes of an entry and an amount that were passed on, and passes on itself
module _ (k : ℕ) (w : Diffs) (t : ℕ) (delta : ℤ) (fits : SFits w64 delta) (how : Mode) (read : ℤ)
    (read_is : read ≡ entry w.values k) where
  abbrev passed_entry : ℤ
  passed_entry = to_z w64 (of_z w64 read)

  abbrev passed_delta : ℤ
  passed_delta = to_z w64 (of_z w64 delta)

  entry_is : passed_entry ≡ entry w.values k
  entry_is = ap (λ (z : ℤ). to_z w64 (of_z w64 z)) read_is ∙ byte-passed w.values w.bytes (k % 8)

  delta_is : passed_delta ≡ delta
  delta_is = to_z-of_z w64 delta fits

  pub passed-differential : (d : ℤ) → unsigned_abs d ≤ t → t ≤ most_threshold
      → d ≡ differential_after how t passed_entry passed_delta
      → to_z w64 (of_z w64 d) ≡ differential_after how t (entry w.values k) delta
  passed-differential d within most is =
      to_z-of_z w64 d (fits-64 d (omega (arith, within, most))) ∙ is
      ∙ ap (λ (z : ℤ). differential_after how t z passed_delta) entry_is
      ∙ ap (λ (z : ℤ). differential_after how t (entry w.values k) z) delta_is

  pub passed-carried : (amount : ℤ) → unsigned_abs amount ≤ unsigned_abs passed_entry + unsigned_abs passed_delta + t
      → t ≤ most_threshold → unsigned_abs delta ≤ most_volume → amount ≡ carried_by how t passed_entry passed_delta
      → to_z w64 (of_z w64 amount) ≡ carried_by how t (entry w.values k) delta
  passed-carried amount bound most affordable is =
      let small : unsigned_abs amount < 2 ^ 62 = omega (
        arith,
        bound,
        most,
        affordable,
        ap unsigned_abs entry_is,
        byte-size (entry w.values k) (w.bytes (k % 8)),
        ap unsigned_abs delta_is,
      ) in
      to_z-of_z w64 amount (fits-64 amount small) ∙ is
      ∙ ap (λ (z : ℤ). carried_by how t z passed_delta) entry_is
      ∙ ap (λ (z : ℤ). carried_by how t (entry w.values k) z) delta_is

module _ (pass : Pass Facts Step) (cpu : CpuId) (volume : List ℕ) (k : CounterId) (w : Diffs) (t : ℕ) (delta : ℤ)
    (owning : IsOwningPass pass cpu volume) (puts : MayPut (record { pass = pass; volume = volume }) k w t delta) where
  same_cpu : puts.cpu ≡ cpu
  same_cpu = same_Some puts.cpu cpu (sym puts.owns ∙ owning.owns)

  pub may-exchange : MayExchange pass.facts pass.seen pass.number cpu k w t delta
  may-exchange = record {
    legal = owning.live.legal;
    owner = record { lives = owning.live.lives; owner = owning.live.owner ∙ owning.owns };
    counter = puts.counter;
    as_found = subst
        (λ (c : CpuId). found c (group_of k.number) (own pass.seen pass.number) ≡ Some w.values) same_cpu puts.as_found;
    number = puts.number;
    as_loaded = puts.as_loaded;
    nothing_carried = puts.nothing_carried;
    affordable = omega (arith, owning.holds.spent_within k.number puts.counter, puts.affordable);
  }

  -- the threshold was loaded, and so is one
  pub threshold-most : t ≤ most_threshold
  threshold-most =
      let laws = laws-kept pass.facts pass.seen owning.live.legal in
      let c_in = (laws.owners pass.number cpu (owning.live.owner ∙ owning.owns)).0 in
      let place_in = place_of-lt pass.facts.layout
      (base_can_begin pages pass.facts pass.seen owning.live.legal).layout k.number puts.counter in
      let loaded = laws.loaded_by_peaks pass.number cpu (place_of pass.facts.layout k.number)
      (record { t = t; number = puts.number })
      (record { lives = owning.live.lives; owner = owning.live.owner ∙ owning.owns }) place_in puts.as_loaded in
      omega (arith, loaded, laws.peaks cpu.number (place_of pass.facts.layout k.number) c_in place_in)

  -- the put may be made of the words of both lists
  pub put-may : (how : Mode) (group : GroupId) (old new : ℕ) (d passed : ℤ) → length w.values ≡ 8
      → group.number ≡ group_of k.number → old ≡ word_of_bytes w.values
      → new ≡ word_of_bytes (set w.values (k.number % 8) d)
      → d ≡ differential_after how t (entry w.values k.number) delta → passed ≡ delta
      → MayStep pages shown pass (place_in (blocks_of pass.facts.layout) (Group cpu group))
      (λ n. if n == old then new else n) (told (Put k w t passed how))
  put-may how group old new d passed eight at old_is new_is d_is passed_is =
      subst (λ (z : ℤ). MayStep pages shown pass (place_in (blocks_of pass.facts.layout) (Group cpu group))
      (λ n. if n == old then new else n) (told (Put k w t z how)))
      (sym passed_is)
      (subst (λ (j : ℕ). MayStep pages shown pass
      (place_in (blocks_of pass.facts.layout) (Group cpu (record { number = j })))
      (λ n. if n == old then new else n) (told (Put k w t delta how)))
      (sym at)
      (subst (λ (o : ℕ). MayStep pages shown pass
      (place_in (blocks_of pass.facts.layout) (Group cpu (record { number = group_of k.number })))
      (λ n. if n == o then new else n) (told (Put k w t delta how)))
      (sym old_is)
      (subst (λ (o : ℕ). MayStep pages shown pass
      (place_in (blocks_of pass.facts.layout) (Group cpu (record { number = group_of k.number })))
      (λ n. if n == word_of_bytes w.values then o else n) (told (Put k w t delta how)))
      (sym (new_is ∙ ap (λ (z : ℤ). word_of_bytes (set w.values (k.number % 8) z)) d_is))
      (group-put pass cpu k w t delta how eight may-exchange))))

-- what the exchange made, by the word that it found
module _ (new old : Pass Facts Step) (k : CounterId) (listed w : Diffs) (t : ℕ) (passed delta : ℤ) (how : Mode)
    (stood word : ℕ) (listed_is : listed ≡ w) (word_is : word ≡ word_of_bytes w.values) (passed_is : passed ≡ delta)
    (made : MadeOne pages new old (told (Put k listed t passed how) stood)) where
  abbrev miss : Step
  miss = Miss (record { number = group_of k.number }) w

  made_of : MadeOne pages new old (told (Put k w t passed how) stood)
  made_of = subst (λ (v : Diffs). MadeOne pages new old (told (Put k v t passed how) stood)) listed_is made

  chosen : (b : Bool) → (stood == word_of_bytes w.values) ≡ b
      → MadeOne pages new old (if b then Put k w t passed how else miss)
  chosen b is = subst (λ (a : Bool). MadeOne pages new old (if a then Put k w t passed how else miss)) is made_of

  pub made-put : stood ≡ word → MadeOne pages new old (Put k w t delta how)
  made-put same =
      subst (λ (z : ℤ). MadeOne pages new old (Put k w t z how)) passed_is
      (chosen true (eq-eqb stood (word_of_bytes w.values) (same ∙ word_is)))

  pub made-miss : stood ≢ word → MadeOne pages new old miss
  made-miss differs =
      chosen false (ne_eqb stood (word_of_bytes w.values) (λ same. differs (same ∙ sym word_is)))

-- the volume that grew, from what was read of it
pub grown-is : (volume grown : List ℕ) (k had size : ℕ) (passed delta : ℤ) → get_or volume k 0 ≡ had
    → size ≡ unsigned_abs passed → passed ≡ delta → grown ≡ set volume k (had + size)
    → grown ≡ set volume k (get_or volume k 0 + unsigned_abs delta)
grown-is volume grown k had size passed delta at size_is passed_is is =
    let sum : had + size ≡ get_or volume k 0 + unsigned_abs delta =
    omega (arith, at, size_is, ap unsigned_abs passed_is) in
    is ∙ ap (set volume k) sum

-- after a miss all eight are 0
module _ (new old : Pass Facts Step) (live : IsLive pages old) (j : GroupId) (w : Diffs)
    (made : MadeOne pages new old (Miss j w)) where
  abbrev before : History
  before = made.at.before

  misses : Misses old.facts before (state_after old.facts before) old.number j w
  misses = (subst (IsLegal pages old.facts) made.at.newest made.at.legal).2

  left : (who : Option CpuId) (s : State) → effect old.facts who (Miss j w) s ≡ s
  left None s = refl
  left (Some c) s = refl

  state-same : state_after old.facts new.seen ≡ state_after old.facts before
  state-same =
      ap (state_after old.facts) made.at.newest
      ∙ left (owner_in role before old.number) (state_after old.facts before)

  pub missed-zeros : (cpu : CpuId) → old.cpu ≡ Some cpu
      → TellsGroup (state_after old.facts new.seen) cpu.number j.number eight_zeros
  missed-zeros cpu owns =
      let same : misses.cpu ≡ cpu = same_Some misses.cpu cpu (sym misses.owns.owner
      ∙ owner_in-goes_on old.facts before old.seen old.number made.at.others ∙ live.owner ∙ owns) in
      subst (λ (s : State). TellsGroup s cpu.number j.number eight_zeros) (sym state-same)
      (subst (λ (c : CpuId). TellsGroup (state_after old.facts before) c.number j.number eight_zeros) same misses.zeros)

  pub missed-other : w.values ≢ eight_zeros
  missed-other = misses.other
