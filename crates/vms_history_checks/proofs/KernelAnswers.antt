-- What the kernel's formula answers for zones is what a rule answers that goes by it.
use Rattle.std.proofs.Common.{◌≡◌, ℕ, ◌≤◌, List, get_or, sym, ◌∙◌, arith}
use Rattle.std.specs.Prelude.{◌↔◌}
use Rattle.std.proofs.lemmas.List.{ext_get_or}
use Rattle.std.proofs.lemmas.List.Elements.{All-get_or}
use Rattle.vms_world.specs.Common.{AreAnswers, Header, IsHeader, IsValidSize, IsZone, ZoneSize, normal_threshold_of}
use Rattle.vms_world.specs.Common.{size_at}
use Rattle.vms_own_acts.specs.Common.{IsExactly}

abbrev pub kernel_rule : ZoneSize → ℕ → ℕ → Type 0
kernel_rule = IsExactly normal_threshold_of

abbrev pub IsExact : (ZoneSize → ℕ → ℕ → Type 0) → Type 0
IsExact normal = (size : ZoneSize) (online t : ℕ) → IsValidSize size → 1 ≤ online → online ≤ 128
    → normal size online t ↔ (t ≡ normal_threshold_of size online)

abbrev pub no_size : ZoneSize
no_size = record { managed = 0; min = 0; low = 0; high = 0 }

module _ (header : Header) (valid : IsHeader header) (online : ℕ) (least : 1 ≤ online) (most : online ≤ 128)
    (zones : List ℕ) where
  valid-size : (g : ℕ) → IsZone header.layout g → IsValidSize (size_at header.sizes g)
  valid-size g g_in =
      All-get_or IsValidSize header.sizes g no_size (omega (arith, g_in, valid.sizes_length)) valid.sizes_valid

  module _ (normal : ZoneSize → ℕ → ℕ → Type 0) (exact : IsExact normal) where
    pub AreAnswers-exact : AreAnswers header kernel_rule online zones → AreAnswers header normal online zones
    AreAnswers-exact are = record {
      one_each = are.one_each;
      each = λ g g_in. (exact (size_at header.sizes g) online (get_or zones g 0) (valid-size g g_in) least most).1
          (are.each g g_in);
    }

    -- a rule that goes by it has one answer
    pub AreAnswers-one : (others : List ℕ) → AreAnswers header normal online zones
        → AreAnswers header normal online others → zones ≡ others
    AreAnswers-one others are other_are =
        ext_get_or 0 zones others (are.one_each ∙ sym other_are.one_each) (λ g within.
        let g_in : IsZone header.layout g = omega (arith, within, are.one_each) in
        let size = size_at header.sizes g in
        (exact size online (get_or zones g 0) (valid-size g g_in) least most).0 (are.each g g_in)
        ∙ sym ((exact size online (get_or others g 0) (valid-size g g_in) least most).0 (other_are.each g g_in)))
