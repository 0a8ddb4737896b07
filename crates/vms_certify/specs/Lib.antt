pub mod KernelRules
