-- How large the words become: the numbers of a legal history are small, and sets are no more than events.
use Rattle.std.proofs.Common.{ℕ, ℤ, suc, ◌+◌, ◌<◌, ◌≤◌, ◌&&◌, Bool, true, false, [], ◌∷◌, length, ◌+ℤ◌, ap, sym}
use Rattle.std.proofs.Common.{unsigned_abs, refl, subst, arith, if◌then◌else◌, nat_eq, eq-eqb}
use Rattle.std.specs.Prelude.{◌^◌}
use Rattle.vms_history.specs.Common.{CounterId, ItemId, IsCpu, IsPlace, IsZone}
use Rattle.vms_core.specs.declared.states.State.{State}
use Rattle.vms_core.specs.declared.steps.Facts.{Facts}
use Rattle.vms_core.specs.declared.steps.Step.{Step}
use Rattle.vms_core.specs.declared.steps.Step.TheVariants.{AddG, AddS, SetM, SetT}
use Rattle.vms_core.specs.Common.{History, IsLegal, mark_sets_after, mark_sets_at, pages, sets, sets_after, state_after}
use Rattle.vms_core.specs.Common.{system_at, threshold_sets_at, value_at}
use Rattle.vms_core.proofs.Common.{numbers-change}
use Rattle.vms_registers.specs.Slots.{MayWork}
use Rattle.vms_page_words.specs.declared.words.PageWords.{PageWords}
use Rattle.vms_page_words.specs.Words.{KeepsWords, state_of}
use Rattle.vms_page_words.proofs.Slots.{laws-next, legal-next}
use Rattle.vms_page_words.proofs.WordsKept.{sets-told}

grown-if : (b : Bool) (n : ℕ) → (if b then suc n else n) ≤ n + 1
grown-if true n = omega arith
grown-if false n = omega arith

sets_after-most : (c g : ℕ) (step : Step) (n : ℕ) → sets_after c g step n ≤ n + 1
sets_after-most c g (SetT d f t) n = grown-if (nat_eq d.number c && nat_eq f.number g) n
sets_after-most c g _ n = omega arith

-- a threshold is set at most once by each event
sets-most : (c g : ℕ) (h : History) → sets c g h ≤ length h
sets-most c g [] = omega arith
sets-most c g (e ∷ h) = omega (arith, sets_after-most c g e.step (sets c g h), sets-most c g h)

mark_sets_after-most : (g : ℕ) (step : Step) (n : ℕ) → mark_sets_after g step n ≤ n + 1
mark_sets_after-most g (SetM f m) n = grown-if (nat_eq f.number g) n
mark_sets_after-most g _ n = omega arith

-- and so is a mark
mark_sets-most : (facts : Facts) (h : History) → IsLegal facts h → (g : ℕ) → IsZone facts.layout g
    → mark_sets_at (state_after facts h) g ≤ length h
mark_sets-most facts [] legal g g_in = omega (arith, legal.opening.unset_marks g g_in)
mark_sets-most facts (e ∷ h) legal g g_in =
    omega (
      arith,
      (numbers-change facts e h legal).mark_sets g,
      mark_sets_after-most g e.step (mark_sets_at (state_after facts h) g),
      mark_sets-most facts h legal.0 g g_in,
    )

module _ (facts : Facts) (h : History) (held : ℕ → ℕ) (slot p : ℕ) (step : Step)
    (may : MayWork pages facts facts.layout.cpus h held slot p step) (r : PageWords)
    (keeps : KeepsWords facts h r) where
  pub threshold_sets-room : (c g : ℕ) → IsCpu facts.layout c → IsPlace facts.layout g
      → threshold_sets_at (state_of r) c g + 1 < 2 ^ 64
  threshold_sets-room c g c_in g_in =
      omega (
        arith,
        sets-told facts h held slot p may.stands r keeps c g c_in g_in,
        sets-most c g h,
        may.short,
      )

  pub mark_sets-room : (g : ℕ) → IsZone facts.layout g → mark_sets_at (state_of r) g + 1 < 2 ^ 64
  mark_sets-room g g_in =
      omega (
        arith,
        ap (λ (s : State). mark_sets_at s g) keeps,
        mark_sets-most facts h may.stands.legal g g_in,
        may.short,
      )

module _ (facts : Facts) (h : History) (held : ℕ → ℕ) (slot p : ℕ) (r : PageWords) (keeps : KeepsWords facts h r) where
  -- the value that stands after an addition is small
  pub value-room : (k : CounterId) (a : ℤ) → MayWork pages facts facts.layout.cpus h held slot p (AddG k a)
      → unsigned_abs (value_at (state_of r) k.number +ℤ a) < 2 ^ 62
  value-room k a may =
      let legal = legal-next facts h held slot p (AddG k a) may in
      let next = (numbers-change facts (record { caller = p; step = AddG k a }) h legal).values k.number in
      let small = (laws-next facts h held slot p (AddG k a) may).small.values k.number may.meets.counter in
      subst (λ v. unsigned_abs (v +ℤ a) < 2 ^ 62) (sym (ap (λ (s : State). value_at s k.number) keeps))
      (rw (next, eq-eqb k.number k.number refl) at small)

  pub system-room : (i : ItemId) (a : ℤ) → MayWork pages facts facts.layout.cpus h held slot p (AddS i a)
      → unsigned_abs (system_at (state_of r) i.number +ℤ a) < 2 ^ 62
  system-room i a may =
      let legal = legal-next facts h held slot p (AddS i a) may in
      let next = (numbers-change facts (record { caller = p; step = AddS i a }) h legal).systems i.number in
      let small = (laws-next facts h held slot p (AddS i a) may).small.systems i.number may.meets.item in
      subst (λ v. unsigned_abs (v +ℤ a) < 2 ^ 62) (sym (ap (λ (s : State). system_at s i.number) keeps))
      (rw (next, eq-eqb i.number i.number refl) at small)
