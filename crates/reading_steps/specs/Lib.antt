-- A reading, step by step.
-- statement and lemmas: a reading, step by step: begun, moved on, and what it hands out after n steps
pub mod ReadingSteps
