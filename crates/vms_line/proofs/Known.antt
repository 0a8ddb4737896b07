-- What is true of each field and of each act that a line gives.
use Rattle.std.proofs.Common.{ℕ, ◌≡◌, ◌≤◌, ◌%◌, ◌==◌, Bool, true, false, cond, ℤ, pos, ◌*ℤ◌, unsigned_abs, int_div}
use Rattle.std.proofs.Common.{int_rem, neg_ℤ, negsuc, suc, w64, List, Option, Some, None, Ok, Err, ok_or, subst, ap}
use Rattle.std.proofs.Common.{arith}
use Rattle.std.proofs.lemmas.Bool.Decides.{nat_tests}
use Rattle.std.proofs.lemmas.Int.{ints, quot-rem, quot_fits}
use Rattle.std.specs.Int.RustNames.{FitsSigned}
use Rattle.vms_base.specs.declared.headers.Header.{Header}
use Rattle.vms_base.specs.declared.ids.CounterId.{CounterId}
use Rattle.vms_text.specs.Common.{number_within, signed_of, is_in_bytes}
use Rattle.vms_text.proofs.Common.{number_within-le, signed_of-fits}
use Rattle.vms_line.specs.declared.causes.LineCause.TheVariants.{BadNumber, NotPages}
use Rattle.vms_line.specs.Common.{amount_field, in_pages, number_up_to}

-- what was found is `Some` where it counts
pub ok_or-some : {A E : Type 0} (found : Option A) (cause : E) (value : A) → ok_or found cause ≡ Ok value
    → found ≡ Some value
ok_or-some None cause value is = absurd cc
ok_or-some (Some x) cause value is = let same : x ≡ value = cc in ap Some same

pub number_up_to-le : (most : ℕ) (word : List ℕ) (n : ℕ) → number_up_to most word ≡ Ok n → n ≤ most
number_up_to-le most word n is = number_within-le 0 most word n (ok_or-some (number_within 0 most word) BadNumber n is)

pub amount_field-fits : (word : List ℕ) (z : ℤ) → amount_field word ≡ Ok z → FitsSigned w64 z
amount_field-fits word z is = signed_of-fits word z (ok_or-some (signed_of word) BadNumber z is)

rem-none : (amount : ℤ) → (unsigned_abs amount % 4096 == 0) ≡ true → int_rem amount (pos 4096) ≡ pos 0
rem-none (pos n) whole = let none : n % 4096 ≡ 0 = grind (arith, nat_tests) in ap pos none
rem-none (negsuc n) whole = let none : suc n % 4096 ≡ 0 = grind (arith, nat_tests) in ap (λ m. neg_ℤ (pos m)) none

-- a number of whole pages is spelled in bytes as it was read
pub pages-bytes : (amount : ℤ) → (unsigned_abs amount % 4096 == 0) ≡ true
    → int_div amount (pos 4096) *ℤ pos 4096 ≡ amount
pages-bytes amount whole =
    let rest : int_rem amount (pos 4096) ≡ pos 0 = rem-none amount whole in
    omega (arith, ints, quot-rem amount (pos 4096), rest)

pub pages-fit : (amount : ℤ) → FitsSigned w64 amount → FitsSigned w64 (int_div amount (pos 4096))
pages-fit amount fits = quot_fits w64 amount (pos 4096) fits (omega (arith, ints))

pub in_pages-fits : (header : Header) (counter : CounterId) (amount pages : ℤ) → FitsSigned w64 amount
    → in_pages header counter amount ≡ Ok pages → FitsSigned w64 pages
in_pages-fits header counter amount pages fits is =
    by (is_in_bytes header counter.number) (unsigned_abs amount % 4096 == 0) is
  where
    by : (bytes whole : Bool)
        → cond bytes (cond whole (Ok (int_div amount (pos 4096))) (Err NotPages)) (Ok amount) ≡ Ok pages
        → FitsSigned w64 pages
    by true true same =
        let one : int_div amount (pos 4096) ≡ pages = cc in subst (FitsSigned w64) one (pages-fit amount fits)
    by true false same = absurd cc
    by false whole same = let one : amount ≡ pages = cc in subst (FitsSigned w64) one fits
