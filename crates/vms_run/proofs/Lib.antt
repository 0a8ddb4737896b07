mod HandedAnswers
mod KeptPhases
mod KernelPhases
mod MadeAnswers
