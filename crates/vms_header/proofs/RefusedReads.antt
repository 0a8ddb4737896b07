-- An answer that is refused, where memory may run out, refuses what comes after it.
use Rattle.std.proofs.Common.{◌≡◌, Result, Err, ap, sym, ◌∙◌}
use Rattle.vms_header.specs.declared.causes.HeaderCause.{HeaderCause}
use Rattle.vms_header.specs.declared.causes.ReadError.{ReadError}
use Rattle.vms_header.specs.declared.causes.ReadError.TheVariants.{Refused, Memory}
use Rattle.vms_header.specs.Common.{IsSameRead}
use Rattle.vms_text.specs.Common.{and_then}

-- what the first step refuses, both refuse
pub IsSameRead-refused : {A B C D : Type 0} (view : A → B) (other : C → D) (answer : Result B HeaderCause) (next : B
    → Result D HeaderCause) (error : ReadError) → IsSameRead view answer (Err error)
    → IsSameRead other (and_then answer next) (Err error)
IsSameRead-refused view other answer next (Refused cause) refused = ap (λ answer. and_then answer next) refused
IsSameRead-refused view other answer next Memory refused = tt

-- an answer that needs no memory is one for which memory may run out
pub IsSameRead-told : {A B : Type 0} (view : A → B) (answer : Result B HeaderCause) (cause : HeaderCause)
    (error : ReadError)
    → answer ≡ Err cause → error ≡ Refused cause → IsSameRead view answer (Err error)
IsSameRead-told view answer cause (Refused other) told is = let same : other ≡ cause = cc in told ∙ ap Err (sym same)
IsSameRead-told view answer cause Memory told is = absurd cc
