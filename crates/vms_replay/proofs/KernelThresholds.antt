-- The kernel's normal rule gives thresholds, and what stands at a boundary by it.
use Rattle.std.proofs.Common.{◌≡◌, ℕ, zero, suc, ◌+◌, ◌*◌, ◌/◌, ◌^◌, ◌≤◌, nat_le, Bool, true, false, List, length, refl}
use Rattle.std.proofs.Common.{sym, ap, subst, ◌∙◌, arith, if◌then◌else◌}
use Rattle.std.specs.Prelude.{min, Result, Ok, Err, IfOk, slice_index_or}
use Rattle.std.proofs.lemmas.Bool.Decides.{nat_tests}
use Rattle.std.proofs.lemmas.List.{ext_get_or, get_or-map, length-map}
use Rattle.std.proofs.Math.Nat.{mul-le-mul_right}
use Rattle.vms_world.specs.Common.{Memory, Header, CpuId, ZoneSize, IsHeader, bits_of, IsCpu, IsZone, size_at}
use Rattle.vms_world.specs.Common.{GivesThresholds, most_threshold, normal_threshold_of, with_cpu, IsLineOf}
use Rattle.vms_world.specs.Common.{allowed_from, Start, first_start, start_past, Offline, Flush, Report, Crosses}
use Rattle.vms_world.specs.Common.{brought_up, started, AreAnswers, count_online, IsWorldOf}
use Rattle.vms_base.specs.declared.kinds.CpuState.TheVariants.{Online as IsOnline}
use Rattle.vms_base.specs.Numbers.{highest_bit}
use Rattle.vms_file_order.specs.Common.{IsStartOf}
use Rattle.vms_file_order.proofs.Common.{IsStartOf-crossed, IsStartOf-first}
use Rattle.vms_text.specs.declared.acts.Boundary.{Boundary as BoundaryOf}
use Rattle.vms_text.specs.declared.acts.Boundary.TheVariants.{Sync, Online}
use Rattle.vms_text.specs.declared.acts.Line.TheVariants.{Boundary}
use Rattle.vms_world.specs.declared.worlds.World.{World}
use Rattle.vms_world.proofs.Common.{online-least, online-most}
use Rattle.vms_replay.specs.Common.{GoesBy, normal_rule, normal_zones, crossed}

-- a number above 0 has a bit
bits-least : (k x : ℕ) → 1 ≤ x → 1 ≤ highest_bit (suc k) x
unfolding highest_bit
bits-least zero x some = by (nat_le (2 ^ 0) x) refl
  where
    by : (b : Bool) → nat_le (2 ^ 0) x ≡ b → 1 ≤ (if b then 1 else 0)
    by true is = omega arith
    by false is = grind (arith, nat_tests)
bits-least (suc k) x some = by (nat_le (2 ^ suc k) x) (bits-least k x some)
  where
    by : (b : Bool) → 1 ≤ highest_bit (suc k) x → 1 ≤ (if b then suc (suc k) else highest_bit (suc k) x)
    by true rest = omega arith
    by false rest = rest

threshold-least : (b c : ℕ) → 1 ≤ b → 1 ≤ 2 * b * (1 + c)
threshold-least b c some =
    let twice : 1 ≤ 2 * b = omega (arith, some) in
    let more : 1 * (1 + c) ≤ 2 * b * (1 + c) = mul-le-mul_right (1 + c) twice in
    omega (arith, more)

min-least : (a : ℕ) → 1 ≤ a → (1 ≤ min most_threshold a) × (min most_threshold a ≤ most_threshold)
min-least a some = (grind arith, grind arith)

pub normal-gives : GivesThresholds normal_rule
normal-gives size online t valid least most answered =
    let formula : t ≡ normal_threshold_of size online = answered valid least most in
    let within = min-least (2 * bits_of online * (1 + bits_of (size.managed / 2 ^ 15)))
    (threshold-least (bits_of online) (bits_of (size.managed / 2 ^ 15)) (bits-least 63 online least)) in
    (subst (λ n. 1 ≤ n) (sym formula) within.0, subst (λ n. n ≤ most_threshold) (sym formula) within.1)

module _ (header : Header) (valid : IsHeader header) (online : ℕ) where
  at-zone : (g : ℕ) → IsZone header.layout g
      → slice_index_or (normal_zones header online) g 0 ≡ normal_threshold_of (size_at header.sizes g) online
  at-zone g g_in = get_or-map (λ size. normal_threshold_of size online) header.sizes g
      (record { managed = 0; min = 0; low = 0; high = 0 }) 0 (omega (arith, g_in, valid.sizes_length))

  one-each : length (normal_zones header online) ≡ length header.layout.zones
  one-each = length-map header.sizes (λ size. normal_threshold_of size online) ∙ valid.sizes_length

  -- they are what the rule answers
  pub AreAnswers-normal : AreAnswers header normal_rule online (normal_zones header online)
  AreAnswers-normal = record { one_each = one-each; each = λ g g_in is_valid least most. at-zone g g_in }

  -- and what every rule answers that goes by the formula
  pub normal-answers : (answers : ZoneSize → ℕ → ℕ → Type 0) → GoesBy normal_threshold_of answers → 1 ≤ online
      → online ≤ 128 → (zones : List ℕ) → AreAnswers header answers online zones → zones ≡ normal_zones header online
  normal-answers answers exact least most zones are =
      ext_get_or 0 zones (normal_zones header online) (are.one_each ∙ sym one-each)
      (λ g within.
      let g_in : IsZone header.layout g = omega (arith, within, are.one_each) in
      exact (size_at header.sizes g) online (slice_index_or zones g 0)
      (valid.sizes_valid g (record { managed = 0; min = 0; low = 0; high = 0 }) (omega (
        arith,
        g_in,
        valid.sizes_length,
      )))
      least most (are.each g g_in)
      ∙ sym (at-zone g g_in))

-- what a boundary line makes of a world is what it may by the rule
pub Crosses-crossed : (header : Header) → IsHeader header → (b : BoundaryOf) (w : World)
    → Crosses header normal_rule b w (crossed header b w)
Crosses-crossed header valid Sync w = refl
Crosses-crossed header valid (Offline c) w = refl
Crosses-crossed header valid (Online c) w =
    let online : ℕ = count_online (with_cpu w.pages c.number IsOnline).cpu in
    (normal_zones header online, AreAnswers-normal header valid online, refl)
Crosses-crossed header valid Flush w = refl
Crosses-crossed header valid (Report kind) w = refl

-- so a start follows the world
pub IsStartOf-past : (header : Header) → IsHeader header → (start : Start) (w : World) → IsStartOf header start w
    → (b : BoundaryOf) → IsLineOf header (Boundary b)
    → allowed_from header start (Boundary b) ≡ Ok (Boundary b)
    → IsStartOf header (start_past (Boundary b) start) (crossed header b w)
IsStartOf-past header valid start w is b known allowed =
    IsStartOf-crossed header start normal_rule normal-gives w (crossed header b w) is b known allowed
    (Crosses-crossed header valid b w)

pub IsStartOf-started : (header : Header) → IsHeader header
    → IsStartOf header first_start (started header (normal_zones header header.layout.cpus))
IsStartOf-started header valid =
    IsStartOf-first header valid normal_rule normal-gives (normal_zones header header.layout.cpus)
    (AreAnswers-normal header valid header.layout.cpus)

-- a run that began, and a CPU that came online, under a rule that goes by the formula
module _ (header : Header) (valid : IsHeader header) (answers : ZoneSize → ℕ → ℕ → Type 0)
    (exact : GoesBy normal_threshold_of answers) where
  pub started-normal : (result : Result World Memory)
      → IfOk result (λ w. (zones : List ℕ) × AreAnswers header answers header.layout.cpus zones
      × (w ≡ started header zones))
      → IfOk result (λ w. w ≡ started header (normal_zones header header.layout.cpus))
  started-normal (Ok w) (zones, are, same) =
      same ∙ ap (started header) (normal-answers header valid header.layout.cpus answers exact
      valid.is_layout.cpus_least valid.is_layout.cpus_most zones are)
  started-normal (Err error) told = tt

  pub brought-normal : (w : World) (c : CpuId) → IsWorldOf header w → IsCpu header.layout c.number → (next : World)
      → (zones : List ℕ) × AreAnswers header answers (count_online (with_cpu w.pages c.number IsOnline).cpu) zones
      × (next ≡ brought_up header zones c.number w)
      → next ≡ crossed header (Online c) w
  brought-normal w c of c_in next (zones, are, same) =
      same ∙ ap (λ (ts : List ℕ). brought_up header ts c.number w)
      (normal-answers header valid (count_online (with_cpu w.pages c.number IsOnline).cpu) answers exact
      (online-least header w c.number of c_in) (online-most header w c.number of c_in) zones are)
