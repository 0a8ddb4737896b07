-- The way through the plan of a change.
use Rattle.std.proofs.Common.{◌≡◌, ◌≢◌, ℕ, zero, suc, ℤ, pos, negsuc, List, [], ◌∷◌, ◌++◌, refl, sym, ap, subst, ◌∙◌}
use Rattle.std.proofs.Common.{append_assoc, append-nil}
use Rattle.std.specs.Prelude.{Option, Some}
use Rattle.vms_calls.specs.Common.{AddG, AddS, CounterId, CpuId, Diffs, GroupId, ItemId, LoadD, LoadT, Mode, PlaceId}
use Rattle.vms_calls.specs.Common.{Put, Shape, State, Step, TellsGroup, carried_by, entry, group_of, item_of, place_of}
use Rattle.vms_calls.specs.Common.{threshold_at, threshold_sets_at}
use Rattle.vms_plans.specs.declared.due_steps.DueStep.TheVariants.{Exchanges, LoadsGroup, LoadsThreshold}
use Rattle.vms_plans.specs.Common.{Plan, carrying, change_plan, ends, exchanged_plan, found_plan, loaded_plan}
use Rattle.vms_plans.specs.Common.{makes_all}
use Rattle.vms_plain_pages.specs.Common.{effect_by}
use Rattle.vms_written_lines.specs.Spelling.{event_line}
use Rattle.vms_written_lines.specs.WideSteps.{widened}
use Rattle.vms_rating_lines.specs.Lines.{step_lines}
use Rattle.vms_call_lines.specs.Lines.{WritesWay}
use Rattle.vms_call_lines.specs.Ways.{led}
use Rattle.vms_call_lines.proofs.OneSteps.{one-exchange, one-group, one-threshold}
use Rattle.vms_call_lines.proofs.Writing.{begins-step, writes-all, writes-then}

-- nothing is carried of 0, and else it goes to both global values
pub lines-nothing : (p : ℕ) (shape : Shape) (k : CounterId) (z : ℤ) (out : List ℕ) → z ≡ pos 0
    → out ≡ out ++ step_lines p (carrying shape k z)
lines-nothing p shape k z out none =
    subst (λ (x : ℤ). out ≡ out ++ step_lines p (carrying shape k x)) (sym none) (sym (append-nil out))

carrying-some : (shape : Shape) (k : CounterId) (z : ℤ) → z ≢ pos 0
    → carrying shape k z ≡ AddG k z ∷ AddS (record { number = item_of shape k.number }) z ∷ []
carrying-some shape k (pos zero) some = absurd (some refl)
carrying-some shape k (pos (suc n)) some = refl
carrying-some shape k (negsuc n) some = refl

pub lines-moved : (p : ℕ) (shape : Shape) (k : CounterId) (i : ItemId) (z a b : ℤ) (out between out' : List ℕ)
    → z ≢ pos 0 → i.number ≡ item_of shape k.number → a ≡ z → b ≡ z
    → between ≡ out ++ event_line p (widened (AddG k a)) → out' ≡ between ++ event_line p (widened (AddS i b))
    → out' ≡ out ++ step_lines p (carrying shape k z)
lines-moved p shape k i z a b out between out' some same a_is b_is begun added =
    let item : ItemId = record { number = item_of shape k.number } in
    let first = begun ∙ ap (λ (x : ℤ). out ++ event_line p (widened (AddG k x))) a_is in
    let second = added ∙ ap (λ (x : ℤ). between ++ event_line p (widened (AddS i x))) b_is in
    second ∙ ap (λ (n : ℕ). let x : ItemId = record { number = n } in between ++ event_line p (widened (AddS x z))) same
    ∙ ap (λ ys. ys ++ event_line p (widened (AddS item z))) first
    ∙ append_assoc out (event_line p (widened (AddG k z))) (event_line p (widened (AddS item z)))
    ∙ ap (λ ys. out ++ (event_line p (widened (AddG k z)) ++ ys)) (sym (append-nil (event_line p (widened (AddS item z)))))
    ∙ ap (λ xs. out ++ step_lines p xs) (sym (carrying-some shape k z some))

module _ (shape : Shape) (cpu : CpuId) (k : CounterId) (delta : ℤ) (how : Mode) (s : State) (p : ℕ) where
  abbrev own_place : PlaceId
  own_place = record { number = place_of shape k.number }

  abbrev own_group : GroupId
  own_group = record { number = group_of k.number }

  abbrev who : Option CpuId
  who = Some cpu

  pub writes-change : (g : PlaceId) (j : GroupId) (t a : ℕ) (w : Diffs) (put_by asked moved moved' : ℤ)
      (out one two three out' : List ℕ)
      → g.number ≡ place_of shape k.number → t ≡ threshold_at s cpu.number g.number
      → a ≡ threshold_sets_at s cpu.number g.number → one ≡ out ++ event_line p (widened (LoadT g t a))
      → j.number ≡ group_of k.number → TellsGroup s cpu.number j.number w.values
      → two ≡ one ++ event_line p (widened (LoadD cpu j w))
      → put_by ≡ delta → three ≡ two ++ event_line p (widened (Put k w t put_by how))
      → asked ≡ delta → moved ≡ carried_by how t (entry w.values k.number) asked → moved' ≡ moved
      → out' ≡ three ++ step_lines p (carrying shape k moved')
      → (next : State) × WritesWay who (change_plan shape cpu k delta how) s p out out' (tt {0}) next
  writes-change g j t a w put_by asked moved moved' out one two three out' place_is t_is a_is l1 group_is told l2 put_is
      exchanged asked_is carried_is kept l4 =
      let l3 = exchanged ∙ ap (λ (z : ℤ). two ++ event_line p (widened (Put k w t z how))) put_is in
      let moved_is = carried_is ∙ ap (carried_by how t (entry w.values k.number)) asked_is in
      let carried = carried_by how t (entry w.values k.number) delta in
      let xs : List Step = carrying shape k carried in
      let put : Step = Put k w t delta how in
      let here = effect_by who put s in
      let group_told = subst (λ (n : ℕ). TellsGroup s cpu.number n w.values) group_is told in
      let after_threshold : Plan (Unit {0}) = loaded_plan shape cpu k delta how (LoadT own_place t a) in
      let after_group : Plan (Unit {0}) = found_plan shape cpu k delta how t (LoadD cpu own_group w) in
      let after_put : Plan (Unit {0}) = makes_all xs (ends (tt {0})) in (
        led who xs here,
        writes-then who p (change_plan shape cpu k delta how) after_threshold s s (led who xs here) out one out' (tt {0})
            (begins-step who p (LoadsThreshold own_place) (loaded_plan shape cpu k delta how) s (LoadT own_place t a) out one
            (one-threshold cpu s own_place t a (t_is ∙ ap (threshold_at s cpu.number) place_is)
            (a_is ∙ ap (threshold_sets_at s cpu.number) place_is))
            (l1 ∙ ap (λ (n : ℕ). let x : PlaceId = record { number = n } in out ++ event_line p (widened (LoadT x t a)))
            place_is))
            (writes-then who p after_threshold after_group s s (led who xs here) one two out' (tt {0})
            (begins-step who p (LoadsGroup cpu own_group) (found_plan shape cpu k delta how t) s (LoadD cpu own_group w) one
            two (one-group who s cpu own_group w group_told)
            (l2 ∙ ap (λ (n : ℕ). let x : GroupId = record { number = n } in one ++ event_line p (widened (LoadD cpu x w)))
            group_is))
            (writes-then who p after_group after_put s here (led who xs here) two three out' (tt {0})
            (begins-step who p (Exchanges k w t delta how) (exchanged_plan shape cpu k delta how t) s put two three
            (one-exchange cpu s k w t delta how group_told) l3)
            (writes-all who p xs (tt {0}) here three out'
            (l4 ∙ ap (λ (z : ℤ). three ++ step_lines p (carrying shape k z)) (kept ∙ moved_is))))),
      )
