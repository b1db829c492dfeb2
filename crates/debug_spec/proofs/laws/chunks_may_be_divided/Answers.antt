use Rattle.debug_spec.proofs.Chunks.{chunks_go_on, parts_make_chunks}
use Rattle.debug_spec.proofs.OneChunk.{one_chunk, chunks_divide}
use Rattle.debug_spec.proofs.laws.chunks_may_be_divided.Goals as goal

pub returns-clause-joined : goal.returns-clause-joined
returns-clause-joined c = chunks_go_on

pub returns-clause-divided : goal.returns-clause-divided
returns-clause-divided c = chunks_divide

pub returns-clause-one : goal.returns-clause-one
returns-clause-one c = one_chunk

pub returns-clause-parts : goal.returns-clause-parts
returns-clause-parts c = parts_make_chunks
