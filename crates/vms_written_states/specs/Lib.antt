pub mod PageStarts
