-- An addition may be made of all that a pass carries.
use Rattle.std.proofs.Common.{◌≡◌, ◌≢◌, ℕ, ◌+◌, ◌*◌, ◌%◌, ◌<◌, ◌^◌, Option, Some, None, get_or, length-set, map, ℤ, pos}
use Rattle.std.proofs.Common.{negsuc, ◌+ℤ◌, unsigned_abs, refl, sym, ap, ◌∙◌, arith, subst, get_or-set_same}
use Rattle.std.proofs.Common.{get_or-set_other, SFits, w64, to_z, of_z}
use Rattle.std.specs.List.{range_with_len}
use Rattle.std.proofs.lemmas.Int.{ints, to_z-of_z}
use Rattle.vms_calls.specs.Common.{CounterId, CpuId, ItemId, word_of, cell, own, GoesOnWithout, owner_in, Shape, Works}
use Rattle.vms_calls.specs.Common.{State, Facts, Step, AddG, AddS, size_limit, HasShape, value_at, system_at}
use Rattle.vms_calls.specs.Common.{with_value, with_system, AddsToPlace, AddsToSystem, Meets, carried, carried_of_item}
use Rattle.vms_calls.specs.Common.{pages, History, state_after, role, effect}
use Rattle.vms_base.specs.Groups.{word_of_bytes}
use Rattle.vms_seats.specs.Common.{Pass, Shared, IsFrom, MayStep}
use Rattle.vms_core.proofs.Common.{laws-kept}
use Rattle.vms_words.specs.declared.spots.Blocks.{Blocks}
use Rattle.vms_words.specs.declared.spots.Spot.{Spot}
use Rattle.vms_words.specs.declared.spots.Spot.TheVariants.{Value, System, Group, Threshold, Mark, Cpu, Acknowledgement}
use Rattle.vms_words.specs.Common.{AreMadeFor, spot_word, IsSpot, place_in}
use Rattle.vms_words.specs.Shown.{shown}
use Rattle.vms_words.specs.Spots.{blocks_of}
use Rattle.vms_words.proofs.InTables.{may-at}
use Rattle.vms_words.proofs.Numbers.{fits-64}
use Rattle.vms_words.proofs.LoadSteps.{acts}
use Rattle.vms_words.proofs.ShownWords.{shown-at, shown-set}

-- the word of a sum is the sum of the words
pub word-sum : (x y : ℤ) → unsigned_abs x < 2 ^ 62 → unsigned_abs y < 2 ^ 62
    → (word_of x + word_of y) % 2 ^ 64 ≡ word_of (x +ℤ y)
word-sum (pos n) (pos m) low high = omega (arith, ints)
word-sum (pos n) (negsuc m) low high = omega (arith, ints)
word-sum (negsuc n) (pos m) low high = omega (arith, ints)
word-sum (negsuc n) (negsuc m) low high = omega (arith, ints)

-- a step that adds an amount to a signed number may be made at the number's word
abbrev pub MayAdd : Pass Facts Step → Spot → ℤ → Step → Type 0
MayAdd pass spot amount step = MayStep pages shown pass (place_in (blocks_of pass.facts.layout) spot)
    (λ n. (n + word_of (to_z w64 (of_z w64 amount))) % 2 ^ 64) (λ n. step)

-- it may, where the step puts the sum there and leaves all other words, and others leave that it may be made
module _ (pass : Pass Facts Step) (spot : Spot) (known : IsSpot pass.facts.layout spot) (amount : ℤ) (step : Step)
    (works : role step ≡ Works) (value : State → ℤ) (put : State → ℤ → State)
    (adds : (who : Option CpuId) (s : State) → effect pass.facts who step s ≡ put s (value s +ℤ amount))
    (reads : (s : State) → spot_word s spot ≡ word_of (value s))
    (writes : (s : State) (v : ℤ) → HasShape pass.facts.layout s → spot_word (put s v) spot ≡ word_of v)
    (leaves : (s : State) (v : ℤ) (other : Spot) → other ≢ spot → spot_word (put s v) other ≡ spot_word s other)
    (meets : (h : History) → GoesOnWithout pages pass.facts h pass.seen pass.number
    → Meets pass.facts h (state_after pass.facts h) pass.number step)
    (small : (h : History) → GoesOnWithout pages pass.facts h pass.seen pass.number
    → (unsigned_abs (value (state_after pass.facts h)) < size_limit) × (unsigned_abs amount < size_limit)) where
  add-may : MayAdd pass spot amount step
  add-may h found goes fits stands =
      let s = state_after pass.facts h in
      let few = small h goes in
      let found_is : found ≡ word_of (value s) = sym stands ∙ shown-at pass.facts s spot known ∙ reads s in
      record {
        legal = (goes.legal, acts pass.facts h pass.seen pass.number goes step works, meets h goes);
        shows = ap (shown pass.facts) (adds (owner_in role h pass.number) s)
            ∙ shown-set pass.facts s (put s (value s +ℤ amount)) spot known
            ((found + word_of (to_z w64 (of_z w64 amount))) % 2 ^ 64)
            (writes s (value s +ℤ amount) (laws-kept pass.facts h goes.legal).shape
            ∙ sym (word-sum (value s) amount few.0 few.1)
            ∙ ap (λ n. (n + word_of amount) % 2 ^ 64) (sym found_is)
            ∙ ap (λ a. (found + word_of a) % 2 ^ 64) (sym (to_z-of_z w64 amount (fits-64 amount few.1))))
            (λ other known differs. leaves s (value s +ℤ amount) other differs);
      }

-- a global value that was written leaves all other words
value-others : (s : State) (k : CounterId) (v : ℤ) (other : Spot) → other ≢ Value k
    → spot_word (with_value s k.number v) other ≡ spot_word s other
value-others s k v (Value l) differs =
    ap word_of (get_or-set_other s.place k.number l.number v (pos 0)
    (λ same. differs (λ i. Value (record { number = same i }))))
value-others s k v (System i) differs = refl
value-others s k v (Group c j) differs =
    ap (λ width. word_of_bytes (map (λ n. get_or s.diff (cell width c.number (8 * j.number + n)) (pos 0))
    (range_with_len 0 8)))
    (length-set s.place k.number v)
value-others s k v (Threshold c g) differs = refl
value-others s k v (Mark g) differs = refl
value-others s k v (Cpu c) differs = refl
value-others s k v (Acknowledgement c g) differs = refl

pub value-add : (pass : Pass Facts Step) (k : CounterId) (amount : ℤ)
    → AddsToPlace pass.facts pass.seen pass.number k amount → MayAdd pass (Value k) amount (AddG k amount)
value-add pass k amount adds =
    add-may pass (Value k) adds.counter amount (AddG k amount) refl (λ s. value_at s k.number)
    (λ s v. with_value s k.number v) added (λ s. refl)
    (λ s v shape. ap word_of (get_or-set_same s.place k.number v (pos 0) (omega (arith, shape.place, adds.counter))))
    (λ s v other differs. value-others s k v other differs) still
    (λ h goes. let small = (laws-kept pass.facts h goes.legal).small in (
      small.values k.number adds.counter,
      subst (λ a. unsigned_abs a < size_limit) (still h goes).carries (small.carried pass.number k.number adds.counter),
    ))
  where
    added : (who : Option CpuId) (s : State)
        → effect pass.facts who (AddG k amount) s ≡ with_value s k.number (value_at s k.number +ℤ amount)
    added None s = refl
    added (Some c) s = refl

    still : (h : History) → GoesOnWithout pages pass.facts h pass.seen pass.number
        → AddsToPlace pass.facts h pass.number k amount
    still h goes = record {
      counter = adds.counter;
      carries = ap (carried k.number) goes.own_same ∙ adds.carries;
      some = adds.some;
    }

-- a system-wide value that was written does so too
system-others : (s : State) (k : ItemId) (v : ℤ) (other : Spot) → other ≢ System k
    → spot_word (with_system s k.number v) other ≡ spot_word s other
system-others s k v (Value l) differs = refl
system-others s k v (System i) differs =
    ap word_of (get_or-set_other s.system k.number i.number v (pos 0)
    (λ same. differs (λ at. System (record { number = same at }))))
system-others s k v (Group c j) differs = refl
system-others s k v (Threshold c g) differs = refl
system-others s k v (Mark g) differs = refl
system-others s k v (Cpu c) differs = refl
system-others s k v (Acknowledgement c g) differs = refl

pub system-add : (pass : Pass Facts Step) (k : ItemId) (amount : ℤ)
    → AddsToSystem pass.facts pass.seen pass.number k amount → MayAdd pass (System k) amount (AddS k amount)
system-add pass k amount adds =
    add-may pass (System k) adds.item amount (AddS k amount) refl (λ s. system_at s k.number)
    (λ s v. with_system s k.number v) added (λ s. refl)
    (λ s v shape. ap word_of (get_or-set_same s.system k.number v (pos 0) (omega (arith, shape.system, adds.item))))
    (λ s v other differs. system-others s k v other differs)
    (λ h goes. record { item = adds.item; carries = carries h goes; some = adds.some })
    (λ h goes. let small = (laws-kept pass.facts h goes.legal).small in (
      small.systems k.number adds.item,
      subst (λ a. unsigned_abs a < size_limit) (carries h goes)
          (small.carried_of_items pass.number k.number adds.item),
    ))
  where
    added : (who : Option CpuId) (s : State)
        → effect pass.facts who (AddS k amount) s ≡ with_system s k.number (system_at s k.number +ℤ amount)
    added None s = refl
    added (Some c) s = refl

    carries : (h : History) → GoesOnWithout pages pass.facts h pass.seen pass.number
        → carried_of_item pass.facts.layout k.number (own h pass.number) ≡ amount
    carries h goes = ap (carried_of_item pass.facts.layout k.number) goes.own_same ∙ adds.carries

-- it may be made at the place of the word among the words of a table, by the bits of the amount
module _ (layout : Shape) (blocks : Blocks) (words table : Shared Facts) (pass : Pass Facts Step)
    (are : AreMadeFor layout blocks words) (is : words ≡ table) (of : IsFrom pass table) where
  pub add-at : (spot : Spot) (place : ℕ) → place ≡ place_in blocks spot → (amount : ℤ) → SFits w64 amount
      → (step : ℤ → Step) (encoded : ℕ) → encoded ≡ word_of (to_z w64 (of_z w64 amount))
      → MayAdd pass spot amount (step amount)
      → MayStep pages shown pass place (λ n. (n + encoded) % 2 ^ 64) (λ n. step (to_z w64 (of_z w64 amount)))
  add-at spot place at amount fits step encoded coded may =
      subst (λ a. MayStep pages shown pass place (λ n. (n + encoded) % 2 ^ 64) (λ n. step a))
      (sym (to_z-of_z w64 amount fits))
      (may-at layout blocks words table pass are is of spot place at (λ n. (n + encoded) % 2 ^ 64) (λ n. step amount)
      (subst (λ word. MayStep pages shown pass (place_in (blocks_of pass.facts.layout) spot)
      (λ n. (n + word) % 2 ^ 64) (λ n. step amount)) (sym coded) may))
