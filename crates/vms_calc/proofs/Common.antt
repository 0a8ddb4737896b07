-- For other crates too: the lemmas that they cite, passed on from one place. Declares nothing.
pub use Rattle.vms_calc.proofs.AreaLists.{areas_from-later, index_of, position-within}
