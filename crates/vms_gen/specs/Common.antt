-- The definitions that other crates and this one's proofs cite, passed on from one place. Declares nothing.
pub use Rattle.vms_gen.specs.Texts.{amount_word, cpu_lane_word, line_at, lines_after, made_line_words, made_text}
pub use Rattle.vms_gen.specs.Texts.{next_state}
pub use Rattle.vms_gen.specs.Numbers.{InRange, numbers_named}
pub use Rattle.vms_gen.specs.Left.{Ungiven, lines_from, lines_left}
pub use Rattle.vms_gen.specs.contracts.made_source.MadeSource.{the_view}
