-- The reader keeps the bases in the order of their lines, and the definition newest first.
use Rattle.std.proofs.Common.{ℕ, ◌≡◌, ◌∙◌, ◌∷◌, [], Bool, true, false, List, refl, ap, sym, nat_eq, reverse}
use Rattle.std.proofs.lemmas.List.{reverse-append}
use Rattle.std.proofs.lemmas.List.Sorted.{IsPermutation-reverse, list_any-IsPermutation}
use Rattle.std.specs.List.{list_any}
use Rattle.vms_header.specs.Common.{Base}
use Rattle.vms_header.proofs.sections.with_base.Goals as goal

abbrev of_counter : ℕ → Base → Bool
of_counter counter base = nat_eq base.counter counter

found : (bases seen : List Base) (counter : ℕ) (r b : Bool) → seen ≡ bases → r ≡ list_any (of_counter counter) seen
    → r ≡ b → list_any (of_counter counter) (reverse bases) ≡ b
found bases seen counter r b same is told =
    sym (list_any-IsPermutation (of_counter counter) bases (reverse bases) (IsPermutation-reverse bases))
    ∙ ap (list_any (of_counter counter)) (sym same) ∙ sym is ∙ told

pub returns-then-has_base : goal.returns-then-has_base
returns-then-has_base c =
    let has = found c.args.draft.bases.items c.as_slice.result.now c.args.base.counter c.has_base.result true
    c.as_slice.ensures.value c.has_base.ensures c.if-has_base.true in
    rw has refl

pub returns : goal.returns
returns c =
    let has = found c.args.draft.bases.items c.as_slice.result.now c.args.base.counter c.has_base.result false
    c.as_slice.ensures.value c.has_base.ensures c.if-has_base.false in
    let pushed = c.in_ok-push_base.ensures in
    rw (has, pushed, reverse-append c.args.draft.bases.items (c.args.base ∷ [])) refl
