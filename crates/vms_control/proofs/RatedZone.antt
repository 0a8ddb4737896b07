-- A zone is rated: its mark may be set, and then its thresholds.
use Rattle.std.proofs.Common.{◌≡◌, ◌≢◌, ℕ, ◌≤◌, Bool, if◌then◌else◌, List, [], ◌∷◌, ◌++◌, length, refl, sym, ap, ◌∙◌}
use Rattle.std.proofs.Common.{subst, append_assoc}
use Rattle.std.proofs.lemmas.Bool.{ne_eqb}
use Rattle.std.proofs.lemmas.List.Elements.{All-weaker}
use Rattle.vms_calls.specs.Common.{CpuId, Online, ZoneSize, cover_mark_of, linux_mark_of, IsCpu, IsZone, size_at}
use Rattle.vms_calls.specs.Common.{most_threshold, AreOnline, ControlsIn, MayMake, Choice, Rates, mark_for, mark_steps}
use Rattle.vms_calls.specs.Common.{rating_steps, threshold_steps, Facts, Step, SetM, cpu_at, mark_at, IsControl}
use Rattle.vms_calls.specs.Common.{SetsMark, pages, History, state_after, peak_sum, after}
use Rattle.vms_calls.proofs.Common.{GivesBoth, rating-may, call-whole}
use Rattle.vms_core.specs.Pages.{IsLegal}
use Rattle.vms_core.proofs.Common.{online-stays}
use Rattle.vms_control.specs.Common.{FoundOnline}
use Rattle.vms_control.proofs.PassCalls.{has-made}
use Rattle.vms_history.proofs.Common.{made-both, made-none}
use Rattle.vms_seats.specs.Common.{Pass, Shared, IsFrom, IsLive, Made}
use Rattle.vms_seats.proofs.Common.{calls-both}

-- two thresholds of the range
abbrev pub InRange : Choice
InRange size online t usual =
    ((1 ≤ t) × (t ≤ most_threshold)) × ((1 ≤ usual) × (usual ≤ most_threshold))

in_range-gives : GivesBoth InRange
in_range-gives size online t usual valid some few chosen = chosen

-- the mark that is computed is the one that covers
pub mark-is : (facts : Facts) (p : ℕ) (online : List CpuId) (h : History) (g usual t : ℕ) (size : ZoneSize)
    (linux hidden mark : ℕ) → size ≡ size_at facts.sizes g → linux ≡ linux_mark_of size (length online) usual
    → hidden ≡ peak_sum facts g (after p (threshold_steps g t online) h) → mark ≡ cover_mark_of size linux hidden
    → mark ≡ mark_for facts p online h g usual t
mark-is facts p online h g usual t size linux hidden mark size_is linux_is hidden_is is = is
    ∙ ap (λ (n : ℕ). cover_mark_of size n hidden) linux_is
    ∙ ap (λ (n : ℕ). cover_mark_of size (linux_mark_of size (length online) usual) n) hidden_is
    ∙ ap (λ (z : ZoneSize). cover_mark_of z (linux_mark_of z (length online) usual)
    (peak_sum facts g (after p (threshold_steps g t online) h))) size_is

module _ (words : Shared Facts) (old : Pass Facts Step) (of : IsFrom old words) (live : IsLive pages old)
    (control : IsControl old.seen old.number) (online : List CpuId) (found : FoundOnline words.facts online)
    (g t usual m : ℕ) (zone : IsZone words.facts.layout g) (stands : mark_at (state_after words.facts old.seen) g ≡ m)
    (least : 1 ≤ t) (most : t ≤ most_threshold) (least_usual : 1 ≤ usual) (most_usual : usual ≤ most_threshold) where
  abbrev facts : Facts
  facts = words.facts

  abbrev p : ℕ
  p = old.number

  legal : IsLegal facts old.seen
  legal = subst (λ (f : Facts). IsLegal f old.seen) of.facts live.legal

  controls : ControlsIn facts old.seen p
  controls = record { living = record { legal = legal; lives = live.lives }; control = control }

  online_now : AreOnline facts.layout (state_after facts old.seen) online
  online_now = All-weaker (λ (c : CpuId). IsCpu facts.layout c.number × (cpu_at facts.base c.number ≡ Online))
      (λ (c : CpuId). IsCpu facts.layout c.number × (cpu_at (state_after facts old.seen) c.number ≡ Online))
      (λ c known. (known.0, online-stays facts old.seen c.number legal known.1)) online found.each

  -- all steps may be made
  may : MayMake facts p old.seen (rating_steps facts p online old.seen g m usual t)
  may = call-whole facts p old.seen (λ steps. Rates facts p online InRange g t m old.seen steps)
      (rating-may InRange in_range-gives facts old.seen p online g t m
      controls online_now found.few zone stands)
      (rating_steps facts p online old.seen g m usual t)
      (record { usual = usual; chosen = ((least, most), (least_usual, most_usual)); in_order = refl })

  module _ (mark : ℕ) (is : mark ≡ mark_for facts p online old.seen g usual t) where
    rating-is : rating_steps facts p online old.seen g m usual t ≡ mark_steps g m mark ++ threshold_steps g t online
    rating-is = ap (λ (n : ℕ). mark_steps g m n ++ threshold_steps g t online) (sym is)

    pub may-mark : mark ≢ m → SetsMark facts old.seen p (record { number = g }) mark
    may-mark other = (may old.seen [] (SetM (record { number = g }) mark) (threshold_steps g t online)
        (rating-is ∙ ap (λ (b : Bool). (if b then [] else SetM (record { number = g }) mark ∷ [])
        ++ threshold_steps g t online) (ne_eqb mark m other))
        (made-none pages facts old.seen p legal live.lives) tt).2

    module _ (mid : Pass Facts Step) (marked : Made pages mid old (mark_steps g m mark)) where
      pub may-thresholds : MayMake facts mid.number mid.seen (threshold_steps g t online)
      may-thresholds = subst (λ (q : ℕ). MayMake facts q mid.seen (threshold_steps g t online)) (sym marked.number)
          (λ later done step rest parts has tells.
          may later (mark_steps g m mark ++ done) step rest
          (rating-is ∙ ap (λ (ks : List Step). mark_steps g m mark ++ ks) parts
          ∙ sym (append_assoc (mark_steps g m mark) done (step ∷ rest)))
          (made-both pages facts later mid.seen old.seen p (mark_steps g m mark) done has
          (has-made words mid old (mark_steps g m mark) of marked)) tells)

      pub rated : (new : Pass Facts Step) → Made pages new mid (threshold_steps g t online)
          → Made pages new old (rating_steps facts p online old.seen g m usual t)
      rated new set = subst (Made pages new old) (sym rating-is)
          (calls-both pages new mid old (mark_steps g m mark) (threshold_steps g t online) set marked)
