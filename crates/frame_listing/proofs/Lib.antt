-- what is listed, piece by piece
pub mod Listed
-- a chunk, frame by frame
pub mod Chunking
-- the stream, chunk by chunk
pub mod Streaming
