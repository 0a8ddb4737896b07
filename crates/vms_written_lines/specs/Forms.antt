-- The forms of an event's line: the name of each step and its arguments.
use Rattle.std.specs.Prelude.{ℕ, ℤ, List, [], ◌∷◌, codes, bytes_eq, find, Option, Some, option_and_then}
use Rattle.vms_history.specs.Common.{CounterId, CpuId, GroupId, ItemId, PlaceId, CpuState, Mode, Shape}
use Rattle.vms_text.specs.Common.{signed_of, unsigned_of}
use Rattle.vms_written_lines.specs.declared.step_names.StepName.{StepName}
use Rattle.vms_written_lines.specs.declared.step_names.StepName.TheVariants.{LoadT, LoadD, Put, Miss, AddG, AddS, Take}
use Rattle.vms_written_lines.specs.declared.step_names.StepName.TheVariants.{LoadG, LoadS, LoadM, LoadO, SetT, SetM}
use Rattle.vms_written_lines.specs.declared.step_names.StepName.TheVariants.{SetO, SetA, LoadA, Split, Join}
use Rattle.vms_written_lines.specs.declared.wide_steps.WideStep.{WideStep}
use Rattle.vms_written_lines.specs.declared.wide_steps.WideStep.TheVariants as steps
use Rattle.vms_written_lines.specs.Arguments.{counter_of, cpu_of, cpu_state_of, eight, group_of, if_any, item_of}
use Rattle.vms_written_lines.specs.Arguments.{mode_of, place_of}
use Rattle.vms_written_lines.specs.Words.{first}

-- the arguments of a step in the order of its line, and the step that they make
pub data Arguments : Type 0 where
  Cpu : (CpuId → Arguments) → Arguments
  Place : (PlaceId → Arguments) → Arguments
  Group : (GroupId → Arguments) → Arguments
  Counter : (CounterId → Arguments) → Arguments
  Item : (ItemId → Arguments) → Arguments
  -- an unsigned number, and a signed one
  Number : (ℕ → Arguments) → Arguments
  Amount : (ℤ → Arguments) → Arguments
  -- eight signed numbers
  Eight : (List ℤ → Arguments) → Arguments
  -- `0`, `1` or `-1`
  How : (Mode → Arguments) → Arguments
  -- `0` for online, `1` for dead, `2` for absent
  State : (CpuState → Arguments) → Arguments
  -- the same as above, or `-` for none
  NumberIfAny : (Option ℕ → Arguments) → Arguments
  CpuIfAny : (Option CpuId → Arguments) → Arguments
  Makes : WideStep → Arguments

pub record Form : Type 0 where
  pub word : List ℕ
  pub arguments : Arguments

-- the table of forms
abbrev pub form_of : StepName → Form
form_of LoadT =
    record { word = codes "LoadT"; arguments = Place (λ g. Number (λ t. Number (λ a. Makes (steps.LoadT g t a)))) }
form_of LoadD = record { word = codes "LoadD"; arguments = Cpu (λ c. Group (λ j. Eight (λ w. Makes (steps.LoadD c j w)))) }
form_of Put =
    record {
      word = codes "Put";
      arguments = Counter (λ k. Eight (λ w. Number (λ t. Amount (λ delta. How (λ how.
          Makes (steps.Put k w t delta how))))));
    }
form_of Miss = record { word = codes "Miss"; arguments = Group (λ j. Eight (λ w. Makes (steps.Miss j w))) }
form_of AddG = record { word = codes "AddG"; arguments = Counter (λ k. Amount (λ a. Makes (steps.AddG k a))) }
form_of AddS = record { word = codes "AddS"; arguments = Item (λ s. Amount (λ a. Makes (steps.AddS s a))) }
form_of Take = record { word = codes "Take"; arguments = Cpu (λ c. Group (λ j. Eight (λ w. Makes (steps.Take c j w)))) }
form_of LoadG = record { word = codes "LoadG"; arguments = Counter (λ k. Amount (λ v. Makes (steps.LoadG k v))) }
form_of LoadS = record { word = codes "LoadS"; arguments = Item (λ s. Amount (λ v. Makes (steps.LoadS s v))) }
form_of LoadM =
    record { word = codes "LoadM"; arguments = Place (λ g. Number (λ m. Number (λ a. Makes (steps.LoadM g m a)))) }
form_of LoadO = record { word = codes "LoadO"; arguments = Cpu (λ c. State (λ x. Makes (steps.LoadO c x))) }
form_of SetT = record { word = codes "SetT"; arguments = Cpu (λ c. Place (λ g. Number (λ t. Makes (steps.SetT c g t)))) }
form_of SetM = record { word = codes "SetM"; arguments = Place (λ g. Number (λ m. Makes (steps.SetM g m))) }
form_of SetO = record { word = codes "SetO"; arguments = Cpu (λ c. Makes (steps.SetO c)) }
form_of SetA = record { word = codes "SetA"; arguments = Place (λ g. Number (λ a. Makes (steps.SetA g a))) }
form_of LoadA =
    record { word = codes "LoadA"; arguments = Cpu (λ c. Place (λ g. NumberIfAny (λ x. Makes (steps.LoadA c g x)))) }
form_of Split = record { word = codes "Split"; arguments = Number (λ q. CpuIfAny (λ c. Makes (steps.Split q c))) }
form_of Join = record { word = codes "Join"; arguments = Number (λ q. Makes (steps.Join q)) }

abbrev pub step_names : List StepName
step_names = LoadT ∷ LoadD ∷ Put ∷ Miss ∷ AddG ∷ AddS ∷ Take ∷ LoadG ∷ LoadS ∷ LoadM ∷ LoadO ∷ SetT ∷ SetM ∷ SetO
    ∷ SetA ∷ LoadA ∷ Split ∷ Join ∷ []

-- the step that a word names
abbrev pub step_named : List ℕ → Option StepName
step_named word = find (λ name. bytes_eq word (form_of name).word) step_names

-- the step that arguments make of the first words, and the words after them
abbrev pub read_arguments : Shape → Arguments → List (List ℕ) → Option (WideStep × List (List ℕ))
read_arguments shape (Cpu more) words =
    option_and_then (λ found. read_arguments shape (more found.0) found.1) (first (cpu_of shape) words)
read_arguments shape (Place more) words =
    option_and_then (λ found. read_arguments shape (more found.0) found.1) (first (place_of shape) words)
read_arguments shape (Group more) words =
    option_and_then (λ found. read_arguments shape (more found.0) found.1) (first (group_of shape) words)
read_arguments shape (Counter more) words =
    option_and_then (λ found. read_arguments shape (more found.0) found.1) (first (counter_of shape) words)
read_arguments shape (Item more) words =
    option_and_then (λ found. read_arguments shape (more found.0) found.1) (first (item_of shape) words)
read_arguments shape (Number more) words =
    option_and_then (λ found. read_arguments shape (more found.0) found.1) (first unsigned_of words)
read_arguments shape (Amount more) words =
    option_and_then (λ found. read_arguments shape (more found.0) found.1) (first signed_of words)
read_arguments shape (Eight more) words =
    option_and_then (λ found. read_arguments shape (more found.0) found.1) (eight words)
read_arguments shape (How more) words =
    option_and_then (λ found. read_arguments shape (more found.0) found.1) (first mode_of words)
read_arguments shape (State more) words =
    option_and_then (λ found. read_arguments shape (more found.0) found.1) (first cpu_state_of words)
read_arguments shape (NumberIfAny more) words =
    option_and_then (λ found. read_arguments shape (more found.0) found.1) (first (if_any unsigned_of) words)
read_arguments shape (CpuIfAny more) words =
    option_and_then (λ found. read_arguments shape (more found.0) found.1) (first (if_any (cpu_of shape)) words)
read_arguments shape (Makes step) words = Some (step, words)

-- a step's name and its arguments, and the words after them
abbrev pub read_step : Shape → List (List ℕ) → Option (WideStep × List (List ℕ))
read_step shape words =
    option_and_then (λ name. read_arguments shape (form_of name.0).arguments name.1) (first step_named words)
