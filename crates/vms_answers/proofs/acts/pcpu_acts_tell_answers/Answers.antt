-- The law of every call on percpu counters, and that of steps off which its answer is read.
use Rattle.vms_answers.proofs.ActAnswers.{Tell-alike, Tell-read}
use Rattle.vms_answers.proofs.acts.pcpu_acts_tell_answers.Goals as goal

pub returns : goal.returns
returns c = record { call = Tell-alike; read = Tell-read }
