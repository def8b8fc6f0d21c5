-- What declines a post or a withdrawal whose values are in range.
-- lemmas: what the searches for a number and for a rate tell of the live items
pub mod Sought
-- lemmas: when the plain book that a part stands for declines a call, told by what the code tests: the search's result and the live count
pub mod Declining
-- ways through the code: what declines a call in range, as the code finds it; and where nothing does, the offer can be posted
pub mod PartCauses
