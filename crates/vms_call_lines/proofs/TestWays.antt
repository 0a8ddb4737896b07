-- The ways through the plan of a test of a watermark.
use Rattle.std.proofs.Common.{◌≡◌, ℕ, ℤ, Bool, true, false, List, ◌++◌, nat_lt, sym, ap, subst, ◌∙◌}
use Rattle.std.specs.Prelude.{Option}
use Rattle.vms_calls.specs.Common.{CounterId, CpuId, Header, LoadG, LoadM, MarkRead, PlaceId, State, Step, WaterMark}
use Rattle.vms_calls.specs.Common.{at_least_zero, free_pages, is_doubtful, limit_of, mark_at, mark_sets_at, value_at}
use Rattle.vms_calls.specs.LookReadings.{mark_told, value_told}
use Rattle.vms_calls.specs.declared.answers.Verdict.{Verdict}
use Rattle.vms_plans.specs.declared.due_steps.DueStep.TheVariants.{LoadsMark, LoadsValue}
use Rattle.vms_plans.specs.Common.{Plan, ends, frees_plan, snapshot_plan, test_plan, tested, waits}
use Rattle.vms_written_lines.specs.Spelling.{event_line}
use Rattle.vms_written_lines.specs.WideSteps.{widened}
use Rattle.vms_call_lines.specs.Lines.{WritesWay}
use Rattle.vms_call_lines.proofs.OneSteps.{one-mark, one-value}
use Rattle.vms_call_lines.proofs.Writing.{begins-step, writes-and_then, writes-ends, writes-then}

module _ (who : Option CpuId) (s : State) (p : ℕ) (header : Header) (g : PlaceId) (mark : WaterMark) (most : ℕ) where
  told-free : (limit free : ℕ) (fast : Bool) → limit ≡ limit_of header g.number mark most
      → tested header g mark most fast free
      ≡ (let v : Verdict = record { yes = nat_lt limit free; free = free; fast = fast } in v)
  told-free limit free fast is =
      ap (λ (n : ℕ). let v : Verdict = record { yes = nat_lt n free; free = free; fast = fast } in v) (sym is)

  pub writes-fast : (limit free : ℕ) (value : ℤ) (out : List ℕ) → limit ≡ limit_of header g.number mark most
      → free ≡ at_least_zero value
      → WritesWay who (frees_plan header g mark most false value) s p out out
      (record { yes = nat_lt limit free; free = free; fast = true }) s
  writes-fast limit free value out limit_is free_is =
      subst (λ (v : Verdict). WritesWay who (frees_plan header g mark most false value) s p out out v s)
      (ap (tested header g mark most true) (sym free_is) ∙ told-free limit free true limit_is)
      (writes-ends who p (tested header g mark most true (at_least_zero value)) s out)

  pub writes-slow : (limit free : ℕ) (value : ℤ) (k : CounterId) (out out' : List ℕ)
      → limit ≡ limit_of header g.number mark most → k ≡ free_pages header.layout g
      → WritesWay who (snapshot_plan header.layout k) s p out out' free s
      → WritesWay who (frees_plan header g mark most true value) s p out out'
      (record { yes = nat_lt limit free; free = free; fast = false }) s
  writes-slow limit free value k out out' limit_is same snapshot =
      subst (λ (v : Verdict). WritesWay who (frees_plan header g mark most true value) s p out out' v s)
      (told-free limit free false limit_is)
      (writes-and_then who p (snapshot_plan header.layout (free_pages header.layout g))
      (λ (pages : ℕ). ends (tested header g mark most false pages)) s s s out out' out' free
      (tested header g mark most false free)
      (subst (λ (x : CounterId). WritesWay who (snapshot_plan header.layout x) s p out out' free s) same snapshot)
      (writes-ends who p (tested header g mark most false free) s out'))

  pub writes-test : (first second : MarkRead) (k : CounterId) (value value' : ℤ) (doubt : Bool) (answer : Verdict)
      (out one two three out' : List ℕ) → k ≡ free_pages header.layout g
      → first.mark ≡ mark_at s g.number → first.number ≡ mark_sets_at s g.number
      → one ≡ out ++ event_line p (widened (LoadM g first.mark first.number))
      → value ≡ value_at s k.number → two ≡ one ++ event_line p (widened (LoadG k value))
      → second.mark ≡ mark_at s g.number → second.number ≡ mark_sets_at s g.number
      → three ≡ two ++ event_line p (widened (LoadM g second.mark second.number))
      → value' ≡ value → doubt ≡ is_doubtful first value' second
      → WritesWay who (frees_plan header g mark most doubt value') s p three out' answer s
      → WritesWay who (test_plan header g mark most) s p out out' answer s
  writes-test first second k value value' doubt answer out one two three out' same m1 a1 l1 v l2 m2 a2 l3 kept doubt_is
      rest =
      let free = free_pages header.layout g in
      let after_second : Step → Plan Verdict = λ last. frees_plan header g mark most
      (is_doubtful first value (mark_told last)) value in
      let after_value : Step → Plan Verdict = λ load. waits (LoadsMark g) (λ (last : Step). frees_plan header g mark most
      (is_doubtful first (value_told load) (mark_told last)) (value_told load)) in
      let after_first : Step → Plan Verdict = λ begun. waits (LoadsValue free) (λ (load : Step). waits (LoadsMark g)
      (λ (last : Step). frees_plan header g mark most
      (is_doubtful (mark_told begun) (value_told load) (mark_told last)) (value_told load))) in
      let ended : WritesWay who (frees_plan header g mark most (is_doubtful first value second) value) s p three out' answer
      s = subst (λ (z : ℤ). WritesWay who (frees_plan header g mark most (is_doubtful first z second) z) s p three out'
      answer s) kept (subst (λ (b : Bool). WritesWay who (frees_plan header g mark most b value') s p three out' answer s)
      doubt_is rest) in
      writes-then who p (test_plan header g mark most) (after_first (LoadM g first.mark first.number)) s s s out one out'
      answer
      (begins-step who p (LoadsMark g) after_first s (LoadM g first.mark first.number) out one
      (one-mark who s g first.mark first.number m1 a1) l1)
      (writes-then who p (after_first (LoadM g first.mark first.number)) (after_value (LoadG free value)) s s s one two out'
      answer
      (begins-step who p (LoadsValue free) after_value s (LoadG free value) one two
      (one-value who s free value (v ∙ ap (λ (x : CounterId). value_at s x.number) same))
      (l2 ∙ ap (λ (x : CounterId). one ++ event_line p (widened (LoadG x value))) same))
      (writes-then who p (after_value (LoadG free value)) (after_second (LoadM g second.mark second.number)) s s s two three
      out' answer
      (begins-step who p (LoadsMark g) after_second s (LoadM g second.mark second.number) two three
      (one-mark who s g second.mark second.number m2 a2) l3) ended))
