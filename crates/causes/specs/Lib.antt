-- Why a call is declined.
-- statement: the causes' numbers
pub mod Numbers
-- theorem: a named cause is fixed by its number
pub mod Once
