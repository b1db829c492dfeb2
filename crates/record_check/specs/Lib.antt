-- what is found of bytes that are to be a record
pub mod Answers
-- how a check ends
pub mod Endings
-- what was taken on the way
pub mod Taking
-- no other answer is found
pub mod AnswerLaws
