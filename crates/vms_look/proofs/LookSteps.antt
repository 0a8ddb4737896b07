-- For other crates too: what the looks at CPUs made of a snapshot stand so far.
use Rattle.std.proofs.Common.{◌≡◌, ℕ, suc, ◌+◌, ◌*◌, ◌%◌, ◌^◌, ◌<◌, ◌≤◌, true, false, true≢false, ℤ, pos, ◌+ℤ◌, List}
use Rattle.std.proofs.Common.{[], ◌∷◌, ◌++◌, length, FitsSigned, w64, refl, sym, ap, ◌∙◌, subst, arith, unsigned_abs}
use Rattle.std.proofs.Common.{append_assoc, append-nil, length-append}
use Rattle.std.proofs.lemmas.Int.{ints}
use Rattle.vms_calls.specs.Common.{Diffs, CounterId, CpuId, GroupId, CpuState, Online, Dead, Absent, is_online, Shape}
use Rattle.vms_calls.specs.Common.{IsCounter, group_of, in_turn, IsSnapshot, Look, at_least_zero, hidden, look_steps}
use Rattle.vms_calls.specs.Common.{online, other, Facts, Step, LoadD, LoadG, LoadO, entry, pages, Extends}
use Rattle.vms_core.specs.Pages.{IsLegal}
use Rattle.vms_core.proofs.Common.{laws-kept}
use Rattle.vms_look.specs.Common.{HasLooked, SumsTruly, found_at}
use Rattle.vms_near.proofs.Snapshots.{sums-nearly, sums-within}
use Rattle.vms_seats.specs.Common.{Pass, Shared, IsFrom, Made, MadeOne}
use Rattle.vms_seats.proofs.Common.{calls-both}

online-true : (x : CpuState) → is_online x ≡ true → x ≡ Online
online-true Online on = refl
online-true Dead on = absurd cc
online-true Absent on = absurd cc

pub entry-small : (w : Diffs) (k : ℕ) → unsigned_abs (entry w.values k) ≤ 128
entry-small w k = let byte = w.bytes (k % 8) in omega (arith, ints, byte.0, byte.1)

-- a look at a CPU, by the state that was loaded
module _ (mid old : Pass Facts Step) (c : CpuId) (x : CpuState) (one : MadeOne pages mid old (LoadO c x))
    (k : CounterId) where
  pub looked-online : is_online x ≡ true → (new : Pass Facts Step) (j : GroupId) (w : Diffs)
      → j.number ≡ group_of k.number → MadeOne pages new mid (LoadD c j w) → (found : ℤ)
      → found ≡ entry w.values k.number → HasLooked new old k c found
  looked-online on new j w is loaded found tells = record {
    look = online w;
    tells = tells;
    made = subst (Made pages new old)
        (ap (λ (y : CpuState). LoadO c y ∷ LoadD c j w ∷ []) (online-true x on)
        ∙ ap (λ (n : ℕ). LoadO c Online ∷ LoadD c (record { number = n }) w ∷ []) is)
        (calls-both pages new mid old (LoadO c x ∷ []) (LoadD c j w ∷ []) loaded.all one.all);
  }

  pub looked-other : is_online x ≡ false → HasLooked mid old k c (pos 0)
  looked-other off = record {
    look = other x (λ same. true≢false (ap is_online (sym same) ∙ off));
    tells = refl;
    made = one.all;
  }

-- one look more
in_turn-more : (steps : ℕ → Look → List Step) (n : ℕ) (looks : List Look) (look : Look)
    → in_turn steps n (looks ++ look ∷ []) ≡ in_turn steps n looks ++ steps (n + length looks) look
in_turn-more steps n [] look =
    append-nil (steps n look) ∙ ap (λ (m : ℕ). steps m look) (let same : n ≡ n + 0 = omega arith in same)
in_turn-more steps n (x ∷ looks) look =
    let same : suc n + length looks ≡ n + suc (length looks) = omega arith in
    ap (λ (rest : List Step). steps n x ++ rest)
    (in_turn-more steps (suc n) looks look
    ∙ ap (λ (m : ℕ). in_turn steps (suc n) looks ++ steps m look) same)
    ∙ sym (append_assoc (steps n x) (in_turn steps (suc n) looks) (steps (n + suc (length looks)) look))

hidden-more : (k : ℕ) (looks : List Look) (look : Look)
    → hidden k (looks ++ look ∷ []) ≡ hidden k looks +ℤ found_at k look
hidden-more k [] (online w) = omega (arith, ints)
hidden-more k [] (other x differs) = refl
hidden-more k (online w ∷ looks) look = omega (arith, ints, hidden-more k looks look)
hidden-more k (other x differs ∷ looks) look = hidden-more k looks look

-- the value is loaded, the CPUs below n are looked at, and what they had is added
pub record SoFar (k : CounterId) (now old : Pass Facts Step) (n : ℕ) (sum : ℤ) : Type 0 where
  pub value : ℤ
  pub looks : List Look
  pub one_each : length looks ≡ n
  pub made : Made pages now old (LoadG k value ∷ in_turn (look_steps (group_of k.number)) 0 looks)
  pub adds : sum ≡ value +ℤ hidden k.number looks
  pub small : unsigned_abs sum < 2 ^ 62 + 128 * n

pub so_far-none : (facts : Facts) (k : CounterId) → IsCounter facts.layout k.number → (now old : Pass Facts Step)
    → old.facts ≡ facts → (value : ℤ) → MadeOne pages now old (LoadG k value) → SoFar k now old 0 value
so_far-none facts k k_in now old same value one =
    let legal = subst (IsLegal old.facts) one.at.newest one.at.legal in
    let small = (laws-kept old.facts one.at.before legal.0).small.values k.number
    (subst (λ (f : Facts). IsCounter f.layout k.number) (sym same) k_in) in
    let is = ap unsigned_abs legal.2.1 in
    record {
      value = value;
      looks = [];
      one_each = refl;
      made = one.all;
      adds = omega (arith, ints);
      small = omega (arith, small, is);
    }

module _ (k : CounterId) (now old : Pass Facts Step) (n : ℕ) (sum : ℤ) (so_far : SoFar k now old n sum) where
  pub so_far-of : (words : Shared Facts) → IsFrom old words → IsFrom now words
  so_far-of words is = record {
    table = so_far.made.table ∙ is.table;
    facts = so_far.made.facts ∙ is.facts;
  }

  pub so_far-fits : n ≤ 128 → FitsSigned w64 sum
  so_far-fits few = let small = so_far.small in omega (arith, ints, small)

  pub so_far-next : (new : Pass Facts Step) (found : ℤ) → unsigned_abs found ≤ 128
      → HasLooked new now k (record { number = n }) found → SoFar k new old (n + 1) (sum +ℤ found)
  so_far-next new found bound looked =
      let steps = look_steps (group_of k.number) in
      let before = LoadG k so_far.value ∷ in_turn steps 0 so_far.looks in
      let count = so_far.one_each in
      let at_end : n ≡ 0 + length so_far.looks = omega (arith, count) in
      let small = so_far.small in
      let adds = so_far.adds in
      let tells = looked.tells in
      let more = hidden-more k.number so_far.looks looked.look in
      let turn : in_turn steps 0 so_far.looks ++ steps n looked.look
      ≡ in_turn steps 0 (so_far.looks ++ looked.look ∷ []) =
      ap (λ (m : ℕ). in_turn steps 0 so_far.looks ++ steps m looked.look) at_end
      ∙ sym (in_turn-more steps 0 so_far.looks looked.look) in
      record {
        value = so_far.value;
        looks = so_far.looks ++ looked.look ∷ [];
        one_each = omega (arith, count, length-append so_far.looks (looked.look ∷ []));
        made = subst (Made pages new old) (ap (λ (ks : List Step). LoadG k so_far.value ∷ ks) turn)
            (calls-both pages new now old before (steps n looked.look) looked.made so_far.made);
        adds = omega (arith, ints, adds, tells, more);
        small = omega (arith, ints, small, bound);
      }

  pub so_far-all : (shape : Shape) → n ≡ shape.cpus → (answer : ℕ) → answer ≡ at_least_zero sum
      → (steps : List Step) × IsSnapshot shape k steps answer × Made pages now old steps
  so_far-all shape all answer is = (
    LoadG k so_far.value ∷ in_turn (look_steps (group_of k.number)) 0 so_far.looks,
    record {
      value = so_far.value;
      looks = so_far.looks;
      one_each = so_far.one_each ∙ all;
      in_order = refl;
      answers = is ∙ ap at_least_zero so_far.adds;
    },
    so_far.made,
  )

  -- what is true of it
  pub so_far-truly : n ≡ old.facts.layout.cpus → (answer : ℕ) → answer ≡ at_least_zero sum → SumsTruly now old k answer
  so_far-truly all answer is =
      let snapshot = so_far-all old.facts.layout all answer is in
      let made = snapshot.2.made in
      sums-nearly old.facts now.seen old.seen old.number k snapshot.0 answer snapshot.1
      (record { legal = made.legal; extends = made.extends; made = made.made })

-- a snapshot in the course of a call
pub sums-whole_call : (new last first old : Pass Facts Step) (k : CounterId) (answer : ℕ) → first.facts ≡ old.facts
    → first.number ≡ old.number → Extends first.seen old.seen → Extends new.seen last.seen
    → SumsTruly last first k answer → SumsTruly new old k answer
sums-whole_call new last first old k answer facts number since until sums =
    let at_first : SumsTruly last (record first { facts = old.facts; number = old.number }) k answer =
    subst (λ (p : ℕ). SumsTruly last (record first { facts = old.facts; number = p }) k answer) number
    (subst (λ (f : Facts). SumsTruly last (record first { facts = f }) k answer) facts sums) in
    sums-within old.facts new.seen last.seen first.seen old.seen old.number k answer until since at_first
