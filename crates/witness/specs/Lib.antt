-- A history that exists.
-- statement: an accepted opening and a history of seven calls with their answers, all as literals
pub mod Witness
-- ways through the code: the calls' promises make the history, and the theorem about every history its answers
pub mod SevenCalls
