-- Lemmas on the scratch array that several proofs share.
-- lemmas: what library calls over a range of the scratch array say of its entries
pub mod Scans
