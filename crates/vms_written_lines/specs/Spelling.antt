-- The one spelling of the lines of a written history.
use Rattle.std.specs.Prelude.{ℕ, ℤ, pos, List, [], ◌∷◌, codes, decimal, Option, Some, None, slice_index_or}
use Rattle.std.specs.Fmt.{signed_decimal}
use Rattle.vms_history.specs.Common.{CpuId, CpuState, Absent, Dead, Online, Mode, Dec, Inc, Mod}
use Rattle.vms_text.specs.Common.{sentence}
use Rattle.vms_written_lines.specs.declared.wide_steps.WideStep.{WideStep}
use Rattle.vms_written_lines.specs.declared.wide_steps.WideStep.TheVariants.{LoadT, LoadD, Put, Miss, AddG, AddS, Take}
use Rattle.vms_written_lines.specs.declared.wide_steps.WideStep.TheVariants.{LoadG, LoadS, LoadM, LoadO, SetT, SetM}
use Rattle.vms_written_lines.specs.declared.wide_steps.WideStep.TheVariants.{SetO, SetA, LoadA, Split, Join}

abbrev pub mode_word : Mode → List ℕ
mode_word Mod = codes "0"
mode_word Inc = codes "1"
mode_word Dec = codes "-1"

abbrev pub cpu_state_word : CpuState → List ℕ
cpu_state_word Online = codes "0"
cpu_state_word Dead = codes "1"
cpu_state_word Absent = codes "2"

abbrev pub number_word : Option ℕ → List ℕ
number_word (Some n) = decimal n
number_word None = codes "-"

abbrev pub cpu_word : Option CpuId → List ℕ
cpu_word (Some c) = decimal c.number
cpu_word None = codes "-"

abbrev pub entry_word : List ℤ → ℕ → List ℕ
entry_word w i = signed_decimal (slice_index_or w i (pos 0))

-- the words of eight numbers, and those after them
abbrev pub list_words : List ℤ → List (List ℕ) → List (List ℕ)
list_words w words =
    entry_word w 0 ∷ entry_word w 1 ∷ entry_word w 2 ∷ entry_word w 3 ∷ entry_word w 4 ∷ entry_word w 5
    ∷ entry_word w 6 ∷ entry_word w 7 ∷ words

-- the name of a step and its arguments
abbrev pub step_words : WideStep → List (List ℕ)
step_words (LoadT g t a) = codes "LoadT" ∷ decimal g.number ∷ decimal t ∷ decimal a ∷ []
step_words (LoadD c j w) = codes "LoadD" ∷ decimal c.number ∷ decimal j.number ∷ list_words w []
step_words (Put k w t delta how) =
    codes "Put" ∷ decimal k.number ∷ list_words w (decimal t ∷ signed_decimal delta ∷ mode_word how ∷ [])
step_words (Miss j w) = codes "Miss" ∷ decimal j.number ∷ list_words w []
step_words (AddG k a) = codes "AddG" ∷ decimal k.number ∷ signed_decimal a ∷ []
step_words (AddS s a) = codes "AddS" ∷ decimal s.number ∷ signed_decimal a ∷ []
step_words (Take c j w) = codes "Take" ∷ decimal c.number ∷ decimal j.number ∷ list_words w []
step_words (LoadG k v) = codes "LoadG" ∷ decimal k.number ∷ signed_decimal v ∷ []
step_words (LoadS s v) = codes "LoadS" ∷ decimal s.number ∷ signed_decimal v ∷ []
step_words (LoadM g m a) = codes "LoadM" ∷ decimal g.number ∷ decimal m ∷ decimal a ∷ []
step_words (LoadO c x) = codes "LoadO" ∷ decimal c.number ∷ cpu_state_word x ∷ []
step_words (SetT c g t) = codes "SetT" ∷ decimal c.number ∷ decimal g.number ∷ decimal t ∷ []
step_words (SetM g m) = codes "SetM" ∷ decimal g.number ∷ decimal m ∷ []
step_words (SetO c) = codes "SetO" ∷ decimal c.number ∷ []
step_words (SetA g a) = codes "SetA" ∷ decimal g.number ∷ decimal a ∷ []
step_words (LoadA c g x) = codes "LoadA" ∷ decimal c.number ∷ decimal g.number ∷ number_word x ∷ []
step_words (Split q c) = codes "Split" ∷ decimal q ∷ cpu_word c ∷ []
step_words (Join q) = codes "Join" ∷ decimal q ∷ []

-- the line of an event, with the byte that ends it
abbrev pub event_line : ℕ → WideStep → List ℕ
event_line caller step = sentence (decimal caller ∷ step_words step)

-- the line that begins a phase
abbrev pub phase_line : List ℕ
phase_line = sentence (codes "phase" ∷ [])

-- the line that a history begins after
abbrev pub history_line : List ℕ
history_line = sentence (codes "history" ∷ codes "1" ∷ [])
