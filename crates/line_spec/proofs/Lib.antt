-- the frame check, and frames as bytes
pub mod Checks
pub mod Bytes
pub mod FrameBytes
-- what stands at the front of a stream, and its one cut
pub mod Fronts
pub mod Cuts
-- bodies of commands and responses
pub mod Bodies
pub mod HeardLemmas
-- the parameters
pub mod ParameterLemmas
