-- A limited addition without the lock.
use Rattle.std.proofs.Common.{◌≡◌, ℕ, ◌≤◌, Bool, true, [], ◌∷◌, ◌++◌, Some, ℤ, pos, ◌+ℤ◌, ◌-ℤ◌, ◌≤ℤ◌, unsigned_abs}
use Rattle.std.proofs.Common.{refl, sym, ap, subst, ◌∙◌, append_assoc, if◌then◌else◌, nat_eq, eq-eqb, arith}
use Rattle.std.proofs.lemmas.Int.{ints}
use Rattle.vms_history.specs.Common.{CpuId, PcpuId, Extends, own, lives_in, owner_in}
use Rattle.vms_history.specs.declared.events.Event.{Event}
use Rattle.vms_history.proofs.Common.{Extends-both, own-mine, owner_may_own}
use Rattle.vms_pcpu_core.specs.declared.steps.PcpuFacts.{PcpuFacts}
use Rattle.vms_pcpu_core.specs.declared.steps.PcpuStep.{PcpuStep}
use Rattle.vms_pcpu_core.specs.declared.steps.PcpuStep.TheVariants.{AddL, LoadL, LoadC}
use Rattle.vms_pcpu_core.specs.Common.{batch_at, local_at, IsPcpu, room, unknown, percpu, History, IsLegal}
use Rattle.vms_pcpu_core.specs.Common.{numbers_after, rise, fall, carried_by_others, KeepsLimit, event, holds_lock}
use Rattle.vms_pcpu_core.specs.Common.{carried, role, amount_of, locals, true_total, AreLoads}
use Rattle.vms_pcpu_core.proofs.SumMoments.{legal-earlier}
use Rattle.vms_pcpu_core.proofs.LimitTotals.{room-up, room-down}
use Rattle.vms_pcpu_core.proofs.OtherChanges.{rise-least, fall-least, by_self, by_self-others, by_self-step}
use Rattle.vms_pcpu_core.proofs.OtherChanges.{by_others-grows, carried_by_others-least, carried_by_others-locked}
use Rattle.vms_pcpu_core.proofs.OtherChanges.{carried_by_all-others, true_total-between}
use Rattle.vms_pcpu_core.proofs.StepsInRow.{RunsBetween, own-others_on}
use Rattle.vms_pcpu_core.proofs.Totals.{totals-kept}
use Rattle.vms_pcpu_core.proofs.KnowledgeKept.{local-stays}
use Rattle.vms_pcpu_core.proofs.LimitAnswers.{SaysYes}
use Rattle.vms_pcpu_core.proofs.LocalRoom.{locals-moved, owner-then}

module _ (facts : PcpuFacts) (earlier later : History) (p : ℕ) (cpu : CpuId) (j : PcpuId) (limit amount : ℤ)
    (legal : IsLegal facts later)
    (owner : owner_in role later p ≡ Some cpu) (nothing_carried : carried j.number (own earlier p) ≡ pos 0) where
  -- without the lock: what the count and the local parts were when the count was loaded
  unlocked-near : (l v : ℤ) (begun others : History) → own others p ≡ [] → own begun p ≡ own earlier p
      → Extends later (event p (LoadC j v) ∷ (others ++ event p (LoadL j cpu l) ∷ begun))
      → unsigned_abs (l +ℤ amount) ≤ batch_at facts.base j.number
      → (hidden : ℤ) × (unsigned_abs (hidden +ℤ amount) ≤ unknown facts j.number)
      × (true_total facts (others ++ event p (LoadL j cpu l) ∷ begun) j.number ≡ (v +ℤ hidden)
      +ℤ (carried_by_others rise p j.number (others ++ event p (LoadL j cpu l) ∷ begun)
      -ℤ carried_by_others fall p j.number (others ++ event p (LoadL j cpu l) ∷ begun)))
  unlocked-near l v begun others none same_own more fits =
      let e : Event PcpuStep = event p (LoadL j cpu l) in
      let read : Event PcpuStep = event p (LoadC j v) in
      let loaded : History = others ++ (e ∷ begun) in
      let read_legal : IsLegal facts (read ∷ loaded) = legal-earlier facts later (read ∷ loaded) legal more in
      let first_legal : IsLegal facts (e ∷ begun) =
      legal-earlier facts loaded (e ∷ begun) read_legal.0 (others, refl) in
      let to_first : Extends later (e ∷ begun) =
      Extends-both later (read ∷ loaded) (e ∷ begun) more (read ∷ others, refl) in
      let owned_then : owner_in role begun p ≡ Some cpu =
      owner-then facts later begun p (LoadL j cpu l) cpu legal to_first owner in
      let j_in : IsPcpu facts j.number = read_legal.2.counter in
      let might = owner_may_own percpu facts begun p cpu first_legal.0 owned_then in
      let own_load : own (others ++ e ∷ []) p ≡ e ∷ [] = own-others_on others (e ∷ []) p none ∙ own-mine e [] p refl in
      let regroup : (others ++ e ∷ []) ++ begun ≡ loaded = append_assoc others (e ∷ []) begun in
      let stays =
      local-stays facts (others ++ e ∷ []) begun p cpu j.number
      (record {
        legal = subst (IsLegal facts) (sym regroup) read_legal.0;
        loads = subst AreLoads (sym own_load) (tt, tt);
      })
      (subst (λ es. lives_in role es p ≡ true) (sym regroup) read_legal.1.1) owned_then j_in in
      let local : local_at (numbers_after facts loaded) cpu.number j.number ≡ l =
      ap (λ es. local_at (numbers_after facts es) cpu.number j.number) (sym regroup) ∙ stays ∙ first_legal.2.value in
      let within : unsigned_abs (local_at (numbers_after facts loaded) cpu.number j.number +ℤ amount) ≤ batch_at
      facts.base j.number =
      rw local fits in
      let size = locals-moved facts loaded cpu.number j.number amount read_legal.0 j_in might.0 might.1 within in
      let mine : own loaded p ≡ e ∷ own earlier p =
      own-others_on others (e ∷ begun) p none ∙ own-mine e begun p refl ∙ ap (λ es. e ∷ es) same_own in
      let carries : carried j.number (own loaded p) ≡ pos 0 = ap (carried j.number) mine ∙ nothing_carried in
      let all = carried_by_all-others p j.number loaded carries in
      let kept = totals-kept facts loaded read_legal.0 j.number j_in in (
        locals facts.layout (numbers_after facts loaded) j.number,
        omega (arith, ints, size),
        omega
            (arith, ints, kept, all, read_legal.2.value),
      )

  pub unlocked-keeps : (l v : ℤ) (end : History) → unsigned_abs (l +ℤ amount) ≤ batch_at facts.base j.number
      → pos (unknown facts j.number) ≤ℤ room limit amount v
      → RunsBetween p (LoadL j cpu l ∷ LoadC j v ∷ AddL j amount ∷ []) earlier end
      → Extends later end → SaysYes facts earlier later p j limit amount end
  unlocked-keeps l v end fits enough run more =
      let begun : History = run.0 ++ earlier in
      let first : History = event p (LoadL j cpu l) ∷ begun in
      let loaded : History = run.2.0 ++ first in
      let read : History = event p (LoadC j v) ∷ loaded in
      let unchanged : History = run.2.2.0 ++ read in
      let changed : History = event p (AddL j amount) ∷ unchanged in
      let to_changed : Extends later changed = subst (Extends later) run.2.2.2 more in
      let to_read : Extends later read =
      Extends-both later changed read to_changed (event p (AddL j amount) ∷ run.2.2.0, refl) in
      let to_first : Extends later first =
      Extends-both later read first to_read (event p (LoadC j v) ∷ run.2.0, refl) in
      let read_legal : IsLegal facts read = legal-earlier facts later read legal to_read in
      let j_in : IsPcpu facts j.number = read_legal.2.counter in
      let same_own : own begun p ≡ own earlier p = own-others_on run.0 earlier p run.1 in
      let near = unlocked-near l v begun run.2.0 run.2.1 same_own to_read fits in
      let size : unsigned_abs (near.0 +ℤ amount) ≤ unknown facts j.number = near.1 in
      let here : nat_eq j.number j.number ≡ true = eq-eqb j.number j.number refl in
      let amount_is : amount_of j.number (carried j.number (own unchanged p)) (AddL j amount) ≡ amount =
      ap (λ (b : Bool). if b then amount else pos 0) here in
      let last_step = by_self-step p j.number (AddL j amount) unchanged in
      let no_steps = by_self-others p j.number run.2.2.0 read run.2.2.1 in
      let read_step = by_self-step p j.number (LoadC j v) loaded in
      let moved = true_total-between facts p j.number loaded changed in
      let loaded_on : Extends loaded begun =
      Extends-both loaded first begun (run.2.0, refl) (event p (LoadL j cpu l) ∷ [], refl) in
      let rises = by_others-grows rise rise-least p j.number loaded begun loaded_on in
      let falls = by_others-grows fall fall-least p j.number loaded begun loaded_on in
      let to_loaded : Extends changed loaded =
      Extends-both changed read loaded (event p (AddL j amount) ∷ run.2.2.0, refl) (event p (LoadC j v) ∷ [], refl) in
      let more_rises = by_others-grows rise rise-least p j.number changed loaded to_loaded in
      let more_falls = by_others-grows fall fall-least p j.number changed loaded to_loaded in
      let carried_up = carried_by_others-least rise rise-least p j.number loaded in
      let carried_down = carried_by_others-least fall fall-least p j.number loaded in
      let same_lock : holds_lock j.number (own unchanged p) ≡ holds_lock j.number (own loaded p) =
      ap (holds_lock j.number)
      (own-others_on run.2.2.0 read p run.2.2.1 ∙ own-mine (event p (LoadC j v)) loaded p refl) in
      let second_others = by_self-others p j.number run.2.0 first run.2.1 in
      let first_step = by_self-step p j.number (LoadL j cpu l) begun in
      let first_others = by_self-others p j.number run.0 earlier run.1 in
      let keeps : KeepsLimit facts earlier later p j limit amount = record {
        first = LoadL j cpu l;
        begun = begun;
        begins = record { since = (run.0, refl {a = begun}); kept = to_first };
        nothing_before = same_own;
        count = v;
        loaded = loaded;
        loads = record { since = loaded_on; kept = to_read };
        change = AddL j amount;
        unchanged = unchanged;
        changes =
            record {
              since = Extends-both unchanged read loaded (run.2.2.0, refl) (event p (LoadC j v) ∷ [], refl);
              kept = to_changed;
            };
        its_amount = amount_is;
        changed = changed;
        after_change = refl {a = changed};
        rises_locked =
            λ held.
            carried_by_others-locked rise rise-least p j.number facts loaded read_legal.0 j_in refl (sym same_lock
            ∙ held);
        falls_locked =
            λ held.
            carried_by_others-locked fall fall-least p j.number facts loaded read_legal.0 j_in refl (sym same_lock
            ∙ held);
        most =
            λ up.
            let at = room-up limit amount v up in
            omega (arith, ints, near.2);
        least =
            λ down.
            let at = room-down limit amount v down in
            omega (arith, ints, near.2);
      } in
      let begun_on : Extends changed begun = Extends-both changed loaded begun to_loaded loaded_on in
      record {
        keeps = keeps;
        changed_kept = to_changed;
        changed_on = Extends-both changed begun earlier begun_on (run.0, refl);
        own_change = omega (arith, ints);
        own_end = ap (by_self p j.number) run.2.2.2;
      }
