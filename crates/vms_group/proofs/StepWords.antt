-- Each step that a pass may make changes one word as its effect says.
use Rattle.std.proofs.Common.{◌≡◌, ◌≢◌, ℕ, ◌+◌, ◌%◌, ◌≤◌, ◌^◌, [], Some, Contains, ℤ, pos, negsuc, ◌+ℤ◌, unsigned_abs}
use Rattle.std.proofs.Common.{set, sym, ap, ◌∙◌, subst, arith}
use Rattle.std.proofs.lemmas.Int.{ints, to_z-of_z}
use Rattle.std.proofs.lemmas.List.{set-get_or}
use Rattle.std.proofs.lemmas.List.Elements.{All-contains}
use Rattle.std.specs.Int.{w64}
use mir.Val.{SFits}
use Rattle.vms_history.specs.Common.{CpuId, word_of, signed_of_word, GoesOnWithout, own, owner_in, most_volume}
use Rattle.vms_group_core.specs.declared.steps.GroupFacts.{GroupFacts}
use Rattle.vms_group_core.specs.declared.steps.GroupStep.{GroupStep}
use Rattle.vms_group_core.specs.declared.steps.GroupStep.TheVariants.{AddP, TakeP, TakeU, AddV, AddU, LoadV}
use Rattle.vms_group_core.specs.declared.states.GroupState.{GroupState}
use Rattle.vms_group_core.specs.Common.{groups, History, state_after, KeepsLaws, IsSmall, IsGroup, IsTreeCpu, value_at}
use Rattle.vms_group_core.specs.Common.{up_at, pending_at, role, effect, carried, carried_up, spent}
use Rattle.vms_group_core.proofs.Common.{beginnings-kept, owner_known}
use Rattle.vms_group.specs.SharedWords.{shown}
use Rattle.vms_group.specs.Common.{told, up_place, pending_place}
use Rattle.vms_group.proofs.KnownPasses.{given, owner-same, spent-same}
use Rattle.vms_group.proofs.ShownWords.{shown-value, shown-up, shown-pending, shown-with_value, shown-with_up}
use Rattle.vms_group.proofs.ShownWords.{shown-with_pending}
use Rattle.vms_seats.specs.Common.{Pass, MayStep}

pub fits-64 : (z : ℤ) → IsSmall z → SFits w64 z
fits-64 (pos n) small = record { sfits = omega (arith, ints) }
fits-64 (negsuc n) small = record { sfits = omega (arith, ints) }

-- a small number is told by its word
pub number-told : (z : ℤ) → IsSmall z → signed_of_word (word_of z) ≡ z
number-told z small = to_z-of_z w64 z (fits-64 z small)

-- the word of a sum is the sum of the words
word-sum : (x y : ℤ) → IsSmall x → IsSmall y → (word_of x + word_of y) % 2 ^ 64 ≡ word_of (x +ℤ y)
word-sum (pos n) (pos m) low high = omega (arith, ints)
word-sum (pos n) (negsuc m) low high = omega (arith, ints)
word-sum (negsuc n) (pos m) low high = omega (arith, ints)
word-sum (negsuc n) (negsuc m) low high = omega (arith, ints)

-- a word that becomes the sum with an amount
word-added : (found : ℕ) (x y : ℤ) → found ≡ word_of x → IsSmall x → IsSmall y
    → word_of (x +ℤ y) ≡ (found + word_of y) % 2 ^ 64
word-added found x y is low high = sym (word-sum x y low high) ∙ ap (λ n. (n + word_of y) % 2 ^ 64) (sym is)

-- a number that is told by its word
word-told : (found : ℕ) (x : ℤ) → found ≡ word_of x → IsSmall x → x ≡ signed_of_word found
word-told found x is small = sym (number-told x small) ∙ ap signed_of_word (sym is)

module _ (pass : Pass GroupFacts GroupStep) (g : ℕ) (g_in : IsGroup pass.facts.tree g) where
  abbrev facts : GroupFacts
  facts = pass.facts

  abbrev p : ℕ
  p = pass.number

  abbrev goes_on : History → Type 0
  goes_on h = GoesOnWithout groups facts h pass.seen p

  laws : (h : History) → goes_on h → KeepsLaws facts h
  laws h goes = beginnings-kept facts [] h goes.legal

  works : (h : History) → goes_on h → p ≢ 0
  works h goes main = let some = (given pass h goes).0 in omega arith

  pub value-load : MayStep groups shown pass g (λ n. n) (told (LoadV g (pos 0)))
  value-load h found goes fits stands =
      let s : GroupState = state_after facts h in
      let kept = laws h goes in
      let is : found ≡ word_of (value_at s g) = sym stands ∙ shown-value facts s kept.shape g g_in in
      record {
        legal = (
          goes.legal,
          (works h goes, goes.lives),
          record { group = g_in; value = word-told found (value_at s g) is (kept.bounds.value g g_in) },
        );
        shows = sym (ap (set (shown facts s) g) (sym stands) ∙ set-get_or (shown facts s) g 0);
      }

  pub pending-take : (c : CpuId) → IsTreeCpu facts.tree c.number
      → MayStep groups shown pass (pending_place facts.tree c.number g) (λ n. 0) (told (TakeP c g (pos 0)))
  pending-take c c_in h found goes fits stands =
      let s : GroupState = state_after facts h in
      let kept = laws h goes in
      let is : found ≡ word_of (pending_at facts.tree s c.number g) =
      sym stands ∙ shown-pending facts s kept.shape c.number g c_in g_in in
      record {
        legal = (
          goes.legal,
          (works h goes, goes.lives),
          record {
            cpu = c_in;
            group = g_in;
            value = word-told found (pending_at facts.tree s c.number g) is (kept.bounds.pending c.number g c_in g_in);
          },
        );
        shows = shown-with_pending facts s kept.shape c.number g c_in g_in (pos 0);
      }

  pub up-take : MayStep groups shown pass (up_place facts.tree g) (λ n. 0) (told (TakeU g (pos 0)))
  up-take h found goes fits stands =
      let s : GroupState = state_after facts h in
      let kept = laws h goes in
      let is : found ≡ word_of (up_at s g) = sym stands ∙ shown-up facts s kept.shape g g_in in
      record {
        legal = (
          goes.legal,
          (works h goes, goes.lives),
          record { group = g_in; value = word-told found (up_at s g) is (kept.bounds.up g g_in) },
        );
        shows = shown-with_up facts s kept.shape g g_in (pos 0);
      }

  pub value-add : (a : ℤ) → carried g (own pass.seen p) ≡ a → a ≢ pos 0
      → MayStep groups shown pass g (λ n. (n + word_of a) % 2 ^ 64) (told (AddV g a))
  value-add a carries some h found goes fits stands =
      let s : GroupState = state_after facts h in
      let kept = laws h goes in
      let is : found ≡ word_of (value_at s g) = sym stands ∙ shown-value facts s kept.shape g g_in in
      let carries_now : carried g (own h p) ≡ a = ap (carried g) goes.own_same ∙ carries in
      let small : IsSmall a = subst IsSmall carries_now (kept.bounds.carried p g g_in) in
      record {
        legal = (
          goes.legal,
          (works h goes, goes.lives),
          record { group = g_in; carries = carries_now; some = some },
        );
        shows = shown-with_value facts s kept.shape g g_in (value_at s g +ℤ a)
            ∙ ap (set (shown facts s) g) (word-added found (value_at s g) a is (kept.bounds.value g g_in) small);
      }

  pub up-add : (a : ℤ) → Contains (carried_up facts.tree g (own pass.seen p)) a → a ≢ pos 0
      → MayStep groups shown pass (up_place facts.tree g) (λ n. (n + word_of a) % 2 ^ 64) (told (AddU g a))
  up-add a carries some h found goes fits stands =
      let s : GroupState = state_after facts h in
      let kept = laws h goes in
      let is : found ≡ word_of (up_at s g) = sym stands ∙ shown-up facts s kept.shape g g_in in
      let carries_now : Contains (carried_up facts.tree g (own h p)) a =
      subst (λ es. Contains (carried_up facts.tree g es) a) (sym goes.own_same) carries in
      let small : IsSmall a =
      All-contains IsSmall (carried_up facts.tree g (own h p)) a (kept.bounds.carried_up p g g_in) carries_now in
      record {
        legal = (
          goes.legal,
          (works h goes, goes.lives),
          record { group = g_in; carries = carries_now; some = some },
        );
        shows = shown-with_up facts s kept.shape g g_in (up_at s g +ℤ a)
            ∙ ap (set (shown facts s) (up_place facts.tree g))
            (word-added found (up_at s g) a is (kept.bounds.up g g_in) small);
      }

  pub pending-add : (c : CpuId) (a : ℤ) → owner_in role pass.seen p ≡ Some c
      → spent pass.seen c.number g + unsigned_abs a ≤ most_volume
      → MayStep groups shown pass (pending_place facts.tree c.number g) (λ n. (n + word_of a) % 2 ^ 64)
      (told (AddP g a))
  pending-add c a owns room h found goes fits stands =
      let s : GroupState = state_after facts h in
      let kept = laws h goes in
      let owns_now : owner_in role h p ≡ Some c = owner-same pass h goes ∙ owns in
      let c_in = owner_known facts h p goes.legal c owns_now in
      let is : found ≡ word_of (pending_at facts.tree s c.number g) =
      sym stands ∙ shown-pending facts s kept.shape c.number g c_in g_in in
      let same = spent-same pass h goes c owns g in
      let small : IsSmall a = omega (arith, room) in
      record {
        legal = (
          goes.legal,
          (works h goes, goes.lives),
          record { cpu = c; owns = owns_now; group = g_in; affordable = omega (arith, same, room) },
        );
        shows = ap (λ who. shown facts (effect facts who (AddP g a) s)) owns_now
            ∙ shown-with_pending facts s kept.shape c.number g c_in g_in (pending_at facts.tree s c.number g +ℤ a)
            ∙ ap (set (shown facts s) (pending_place facts.tree c.number g))
            (word-added found (pending_at facts.tree s c.number g) a is (kept.bounds.pending c.number g c_in g_in)
            small);
      }
