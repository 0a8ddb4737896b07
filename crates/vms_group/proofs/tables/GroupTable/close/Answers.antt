-- The goals were that the words are there, and that what is read are the numbers of the last state.
use Rattle.std.proofs.Common.{◌≡◌, ℕ, ◌+◌, ◌<◌, ◌≤◌, length, get_or, slice_index, ℤ, pos, refl, ap, sym, ◌∙◌, subst}
use Rattle.std.proofs.Common.{List, arith}
use Rattle.vms_history.specs.Common.{cell, signed_of_word}
use Rattle.vms_group_core.specs.declared.steps.GroupFacts.{GroupFacts}
use Rattle.vms_group_core.specs.declared.steps.GroupStep.{GroupStep}
use Rattle.vms_group_core.specs.Common.{History, IsGroup, IsLegal, IsTreeCpu, group_count, state_after}
use Rattle.vms_group.specs.SharedWords.{shown}
use Rattle.vms_group.specs.Common.{pending_place, row_width, word_count}
use Rattle.vms_group.proofs.ClosedWords.{values-within, ups-within, cpus-within, state-read, AreFilled, IsFilled}
use Rattle.vms_group.proofs.tables.GroupTable.close.Goals as goal
use Rattle.vms_seats.specs.Common.{Phase, Shared}

-- the closed history by the facts that the table keeps
closed : (facts given : GroupFacts) (h : History) (phase : Phase GroupFacts GroupStep)
    → phase ≡ record { facts = given; events = h } → given ≡ facts → phase ≡ record { facts = facts; events = h }
closed facts given h phase is same =
    is ∙ ap (λ (f : GroupFacts). record { facts = f; events = h }) same

-- what a list was filled with
filled : (facts : GroupFacts) (h : History) (phase : Phase GroupFacts GroupStep) (row : List ℤ)
    (start from count len : ℕ) → phase ≡ record { facts = facts; events = h } → start ≡ from → count ≡ len
    → ((k : ℕ) → k < count → get_or row (0 + k) (pos 0)
    ≡ signed_of_word (slice_index (shown phase.facts (state_after phase.facts phase.events)) (start + k)))
    → IsFilled facts (state_after facts h) from len row
filled facts h phase row start from count len is same all each k within =
    ap (λ at. get_or row at (pos 0)) (omega arith) ∙ each k (omega (arith, within, all))
    ∙ ap (λ (p : Phase GroupFacts GroupStep).
    signed_of_word (slice_index (shown p.facts (state_after p.facts p.events)) (start + k))) is
    ∙ ap (λ at. signed_of_word (slice_index (shown facts (state_after facts h)) (at + k))) same

-- what a list was filled with by CPU and group
cpus-filled : (facts : GroupFacts) (h : History) (phase : Phase GroupFacts GroupStep) (row : List ℤ)
    → phase ≡ record { facts = facts; events = h }
    → ((c g : ℕ) → IsTreeCpu facts.tree c → IsGroup facts.tree g
    → get_or row (cell (group_count facts.tree) c g) (pos 0) ≡ signed_of_word
    (slice_index (shown phase.facts (state_after phase.facts phase.events)) (pending_place facts.tree c g)))
    → AreFilled facts (state_after facts h) row
cpus-filled facts h phase row is each c g c_in g_in =
    each c g c_in g_in
    ∙ ap (λ (p : Phase GroupFacts GroupStep).
    signed_of_word (slice_index (shown p.facts (state_after p.facts p.events)) (pending_place facts.tree c g))) is

-- so many words are there
there : (facts : GroupFacts) (h : History) (phase : Phase GroupFacts GroupStep) (some most : ℕ)
    → phase ≡ record { facts = facts; events = h } → some ≡ most → most ≤ length (shown facts (state_after facts h))
    → some ≤ length (shown phase.facts (state_after phase.facts phase.events))
there facts h phase some most is same within =
    subst (λ (p : Phase GroupFacts GroupStep). some ≤ length (shown p.facts (state_after p.facts p.events)))
    (sym is) (subst (λ n. n ≤ length (shown facts (state_after facts h))) (sym same) within)

pub fill-requires-clause-within : goal.fill-requires-clause-within
fill-requires-clause-within c =
    let facts = c.self.inside.facts in
    let h = c.args.main.seen in
    let same = c.self.invariant.same in
    let legal = subst (λ f. IsLegal f h) same c.close-closing.ensures.complete.legal in
    there facts h c.close-closing.result (0 + c.len-groups.result) (0 + group_count facts.tree)
    (closed facts c.self.inside.words.facts h c.close-closing.result c.close-closing.ensures.history same)
    (ap (λ n. 0 + n) c.len-groups.ensures.len) (values-within facts h legal)

pub fill-requires-2-clause-within : goal.fill-requires-2-clause-within
fill-requires-2-clause-within c =
    let facts = c.self.inside.facts in
    let h = c.args.main.seen in
    let same = c.self.invariant.same in
    let legal = subst (λ f. IsLegal f h) same c.close-closing.ensures.complete.legal in
    there facts h c.close-closing.result (c.row_width.result + c.len-groups.result)
    (row_width facts.tree + group_count facts.tree)
    (closed facts c.self.inside.words.facts h c.close-closing.result c.close-closing.ensures.history same)
    (ap (λ n. n + c.len-groups.result) c.row_width.ensures
    ∙ ap (λ n. row_width facts.tree + n) c.len-groups.ensures.len) (ups-within facts h legal)

pub fill_cpus-requires-clause-within : goal.fill_cpus-requires-clause-within
fill_cpus-requires-clause-within c =
    let facts = c.self.inside.facts in
    let h = c.args.main.seen in
    let same = c.self.invariant.same in
    let legal = subst (λ f. IsLegal f h) same c.close-closing.ensures.complete.legal in
    there facts h c.close-closing.result (word_count facts.tree) (word_count facts.tree)
    (closed facts c.self.inside.words.facts h c.close-closing.result c.close-closing.ensures.history same) refl
    (cpus-within facts h legal)

pub returns-clause-state : goal.returns-clause-state
returns-clause-state c =
    let facts = c.self.inside.facts in
    let h = c.args.main.seen in
    let same = c.self.invariant.same in
    let legal = subst (λ f. IsLegal f h) same c.close-closing.ensures.complete.legal in
    let is = closed facts c.self.inside.words.facts h c.close-closing.result c.close-closing.ensures.history same in
    let phase = c.close-closing.result in
    let groups = c.len-groups.result in
    let value = c.fill.new.row in
    let up = c.fill-2.new.row in
    let pending = c.fill_cpus.new.pending in
    state-read facts h legal value up pending c.fill.ensures.len c.fill-2.ensures.len c.fill_cpus.ensures.len
    (filled facts h phase value 0 0 groups (group_count facts.tree) is refl c.len-groups.ensures.len
    c.fill.ensures.each)
    (filled facts h phase up c.row_width.result (row_width facts.tree) groups (group_count facts.tree) is
    c.row_width.ensures c.len-groups.ensures.len c.fill-2.ensures.each)
    (cpus-filled facts h phase pending is c.fill_cpus.ensures.each)
    ∙ ap (λ f. state_after f h) (sym same ∙ ap (λ (s : Shared GroupFacts). s.facts) c.self.view_is)
