pub mod CountedFaults
pub mod EventLines
pub mod OpenPhases
pub mod MadePhases
pub mod RecordedPhases
pub mod FlushedBytes
