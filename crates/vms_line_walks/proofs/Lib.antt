pub mod ShownPeaks
