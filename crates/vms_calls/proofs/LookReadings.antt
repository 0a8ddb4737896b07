-- The steps of the calls that look at values tell their answers.
use Rattle.std.proofs.Common.{◌≡◌, ◌≢◌, ℕ, suc, Bool, true, false, not, nat_lt, ℤ, pos, ◌+ℤ◌, List, [], ◌∷◌, ◌++◌}
use Rattle.std.proofs.Common.{length, refl, sym, ap, ◌∙◌, arith}
use Rattle.std.proofs.lemmas.Int.{ints}
use Rattle.vms_history.specs.Common.{CpuState, Online, Dead, Absent, Header, PlaceId, WaterMark, group_of, is_online}
use Rattle.vms_history.specs.Common.{limit_of}
use Rattle.vms_core.specs.declared.steps.Step.{Step}
use Rattle.vms_core.specs.Common.{entry}
use Rattle.vms_calls.specs.Common.{in_turn, Look, Frees, look_steps, hidden, at_least_zero, is_doubtful, free_pages}
use Rattle.vms_calls.specs.Common.{online, other, TellsPlaceValue, TellsSystemValue, TellsSnapshot, TellsTest}
use Rattle.vms_calls.specs.Common.{read_looks, read_further, verdict_of}
use Rattle.vms_calls.specs.declared.answers.Verdict.{Verdict}

pub place_value-told : TellsPlaceValue
place_value-told k steps answer call rest = rw (call.in_order, call.answers) refl

pub system_value-told : TellsSystemValue
system_value-told i steps answer call rest = rw (call.in_order, call.answers) refl

offline : (x : CpuState) → x ≢ Online → is_online x ≡ false
offline Online differs = absurd (differs refl)
offline Dead differs = refl
offline Absent differs = refl

-- a look at a CPU that is not online tells nothing, whatever step follows it
other-told : (k n c : ℕ) (x : CpuState) (differs : x ≢ Online) (sum : ℤ) (rest : List Step)
    → read_looks k (suc n) sum (look_steps 0 c (other x differs) ++ rest) ≡ read_looks k n sum rest
other-told k n c x differs sum [] = refl
other-told k n c x differs sum (next ∷ rest) = rw (offline x differs) refl

looks-told : (k j c : ℕ) (looks : List Look) (sum : ℤ) (rest : List Step)
    → read_looks k (length looks) sum (in_turn (look_steps j) c looks ++ rest) ≡ (sum +ℤ hidden k looks, rest)
looks-told k j c [] sum rest =
    let none : sum ≡ sum +ℤ pos 0 = omega (arith, ints) in ap (λ z. (z, rest)) none
looks-told k j c (online w ∷ looks) sum rest =
    let regrouped : (sum +ℤ entry w.values k) +ℤ hidden k looks ≡ sum +ℤ (entry w.values k +ℤ hidden k looks) =
    omega (arith, ints) in
    looks-told k j (suc c) looks (sum +ℤ entry w.values k) rest ∙ ap (λ z. (z, rest)) regrouped
looks-told k j c (other x differs ∷ looks) sum rest =
    other-told k (length looks) c x differs sum (in_turn (look_steps j) (suc c) looks ++ rest)
    ∙ looks-told k j (suc c) looks sum rest

pub snapshot-told : TellsSnapshot
snapshot-told shape k steps answer call rest = rw (
  call.in_order,
  ← call.one_each,
  looks-told k.number (group_of k.number) 0 call.looks call.value rest,
  call.answers,
)
    refl

module _ (header : Header) (g : PlaceId) (mark : WaterMark) (most : ℕ) where
  further-told : (doubt : Bool) (value : ℤ) (further : List Step) (answer : Verdict)
      → Frees header.layout (free_pages header.layout g) doubt value further answer.free
      → answer.fast ≡ not doubt → answer.yes ≡ nat_lt (limit_of header g.number mark most) answer.free
      → (rest : List Step) → read_further header g mark most doubt value (further ++ rest) ≡ (answer, rest)
  further-told true value further answer frees fast enough rest =
      let verdict : Bool → Bool → Verdict × List Step =
      λ y f. (record { yes = y; free = answer.free; fast = f }, rest) in
      ap (verdict_of header g mark most false)
      (snapshot-told header.layout (free_pages header.layout g) further answer.free frees rest)
      ∙ ap (λ y. verdict y false) (sym enough) ∙ ap (λ f. verdict answer.yes f) (sym fast)
  further-told false value further answer frees fast enough rest =
      let verdict : Bool → Bool → Verdict × List Step =
      λ y f. (record { yes = y; free = answer.free; fast = f }, rest) in
      ap (λ (more : List Step). verdict_of header g mark most true (at_least_zero value, more ++ rest)) frees.0
      ∙ ap (λ (n : ℕ). verdict_of header g mark most true (n, rest)) (sym frees.1)
      ∙ ap (λ y. verdict y true) (sym enough) ∙ ap (λ f. verdict answer.yes f) (sym fast)

pub test-told : TellsTest
test-told header g mark most steps answer call rest =
    rw call.in_order (further-told header g mark most (is_doubtful call.first call.value call.second) call.value
    call.further answer call.frees call.fast call.yes rest)
