-- facts about every number of a range, by computing
pub mod Computing
-- instructions: rows and fields
pub mod RowLemmas
pub mod FieldLemmas
-- SREG, interrupts, ticks, and the output writes that are kept
pub mod StatusLemmas
pub mod VectorLemmas
pub mod TickLemmas
pub mod RingLemmas
-- what a step keeps, counts and sees
pub mod ShapeLemmas
pub mod StepLemmas
pub mod StepShape
