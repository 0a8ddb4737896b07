-- Rules of thresholds that are functions, and those that go by a formula.
use Rattle.std.specs.Prelude.{◌≡◌, ℕ, refl}
use Rattle.std.proofs.Common.{sym, ◌∙◌}
use Rattle.vms_world.specs.Common.{ZoneSize}

-- for each size of a zone and each number of online CPUs a rule answers one threshold and no other
pub record IsFunction (answers : ZoneSize → ℕ → ℕ → Type 0) : Type 0 where
  pub some : (size : ZoneSize) (online : ℕ) → (t : ℕ) × answers size online t
  pub one : (size : ZoneSize) (online t other : ℕ) → answers size online t → answers size online other → t ≡ other

-- what a formula gives is answered, and nothing else
abbrev pub IsExactly : (ZoneSize → ℕ → ℕ) → ZoneSize → ℕ → ℕ → Type 0
IsExactly formula size online t = t ≡ formula size online

pub formula-is_function : (formula : ZoneSize → ℕ → ℕ) → IsFunction (IsExactly formula)
formula-is_function formula = record {
  some = λ size online. (formula size online, refl);
  one = λ size online t other is other_is. is ∙ sym other_is;
}
