-- The definitions that other crates cite, passed on from one place. Declares nothing.
pub use Rattle.vms_page_crossings.specs.Crossings.{MayCrossPages}
