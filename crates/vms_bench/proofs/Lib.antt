mod EventBases
mod EventPasses
mod LocalBases
mod LocalPasses
mod PageCalls
mod PageChanges
