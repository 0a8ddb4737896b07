mod LooseWords
mod HandleWords
mod ControlWords
mod CountersWords
mod KernelRules
mod KernelCalls
